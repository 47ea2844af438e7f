-- The action of a name whose octets are the highest.
use Rattle.fs_text.proofs.Words.{◌≡◌, ℕ, ◌+◌, ◌*◌, ◌<◌, ◌≤◌, ◌==◌, List, [], ◌∷◌, Bool, true, false, if◌then◌else◌, Option, Some, None, length}
use Rattle.fs_text.proofs.Words.{get_or, bit_and, refl, sym, ap, subst, ◌∙◌, arith, codes, slice_index, nat_lt, bytes_eq, slice_cmp, nat_cmp}
use Rattle.fs_text.proofs.Words.{ordering_then, and_le_r, same_Some, lt-ltb, nat_tests, big_number, IsOctets, octets_at, octets_cons, octets_nil}
use Rattle.fs_text.proofs.Words.{IsAction, cleared, kind_of, listed, IsAbove, action_name, IsNamed, HasGreatest, name_at}
use Rattle.fs_text.proofs.Found.{IsEight, each, eight, masked, normal_at}
use Rattle.std.{specs.declared.cmp.Ordering.{Ordering, TheVariants.{Less, Equal, Greater}}, proofs.lemmas.{Cmp.{nat_list_cmp_total}, Map.Lookups.{exact_bytes}}}

abbrev NotAbove : List ℕ → List ℕ → Type 0
NotAbove xs ys = slice_cmp nat_cmp xs ys ≡ Greater → ⊥

first_less : (x y : ℕ) (xs ys : List ℕ) → x < y → NotAbove (x ∷ xs) (y ∷ ys)
first_less x y xs ys h e =
    let less : nat_cmp x y ≡ Less = ap (λ (b : Bool). if b then Less else (if x == y then Equal else Greater)) (lt-ltb x y h) in
    let is : Less ≡ Greater = sym (ap (λ (o : Ordering). ordering_then o (slice_cmp nat_cmp xs ys)) less) ∙ e in
    absurd cc

first_same : (x : ℕ) (xs ys : List ℕ) → NotAbove xs ys → NotAbove (x ∷ xs) (x ∷ ys)
first_same x xs ys h e = h (sym (ap (λ (o : Ordering). ordering_then o (slice_cmp nat_cmp xs ys)) same) ∙ e)
  where
    same : nat_cmp x x ≡ Equal
    same = grind (arith, nat_tests)

no_more : (x y : ℕ) (xs ys : List ℕ) → x ≤ y → NotAbove xs ys → NotAbove (x ∷ xs) (y ∷ ys)
no_more x y xs ys low h = by (nat_lt x y) refl
  where
    by : (b : Bool) → nat_lt x y ≡ b → NotAbove (x ∷ xs) (y ∷ ys)
    by true e = first_less x y xs ys (grind (arith, nat_tests, e))
    by false e = subst (λ (k : ℕ). NotAbove (x ∷ xs) (k ∷ ys)) {x = x} {y = y} (grind (arith, nat_tests, e, low)) (first_same x xs ys h)

nothing : NotAbove [] []
nothing e = absurd cc

-- octet for octet not above
abbrev AreLow : List ℕ → List ℕ → Type 0
AreLow [] [] = Unit {0}
AreLow [] (y ∷ ys) = ⊥
AreLow (x ∷ xs) [] = ⊥
AreLow (x ∷ xs) (y ∷ ys) = (x ≤ y) × AreLow xs ys

low : (xs ys : List ℕ) → AreLow xs ys → NotAbove xs ys
low [] [] are = nothing
low [] (y ∷ ys) are = absurd are
low (x ∷ xs) [] are = absurd are
low (x ∷ xs) (y ∷ ys) are = no_more x y xs ys are.0 (low xs ys are.1)

abbrev full : ℕ → ℕ → List ℕ
full first second = first ∷ second ∷ 255 ∷ 255 ∷ 255 ∷ 255 ∷ 255 ∷ 255 ∷ []

abbrev plain : ℕ → ℕ → List ℕ
plain second bits = 0x80 ∷ second ∷ 0 ∷ 0 ∷ 0 ∷ 0 ∷ 0 ∷ bits ∷ []

-- of a type that is not above this one
full_cells : (first second k a b c d e f g i : ℕ) → IsOctets (a ∷ b ∷ c ∷ d ∷ e ∷ f ∷ g ∷ i ∷ []) → big_number 2 (a ∷ b ∷ c ∷ d ∷ e ∷ f ∷ g ∷ i ∷ []) ≡ k
    → k ≤ first * 256 + second → second < 256 → NotAbove (a ∷ b ∷ c ∷ d ∷ e ∷ f ∷ g ∷ i ∷ []) (full first second)
full_cells first second k a b c d e f g i h kind small_kind small = by (nat_lt a first) refl
  where
    cells : List ℕ
    cells = a ∷ b ∷ c ∷ d ∷ e ∷ f ∷ g ∷ i ∷ []

    two : a * 256 + b ≤ first * 256 + second
    two = omega (arith, kind, small_kind)

    at_ : (n : ℕ) → get_or (a ∷ b ∷ c ∷ d ∷ e ∷ f ∷ g ∷ i ∷ []) n 0 < 256
    at_ n = octets_at (a ∷ b ∷ c ∷ d ∷ e ∷ f ∷ g ∷ i ∷ []) h n

    by : (t : Bool) → nat_lt a first ≡ t → NotAbove (a ∷ b ∷ c ∷ d ∷ e ∷ f ∷ g ∷ i ∷ []) (full first second)
    by true t =
        first_less a first (b ∷ c ∷ d ∷ e ∷ f ∷ g ∷ i ∷ []) (second ∷ 255 ∷ 255 ∷ 255 ∷ 255 ∷ 255 ∷ 255 ∷ []) (grind (arith, nat_tests, t))
    by false t =
        let high : first ≤ a = grind (arith, nat_tests, t) in
        let k1 : b < 256 = at_ 1 in
        let k2 : c < 256 = at_ 2 in
        let k3 : d < 256 = at_ 3 in
        let k4 : e < 256 = at_ 4 in
        let k5 : f < 256 = at_ 5 in
        let k6 : g < 256 = at_ 6 in
        let k7 : i < 256 = at_ 7 in
        low (a ∷ b ∷ c ∷ d ∷ e ∷ f ∷ g ∷ i ∷ []) (full first second) (
          omega (arith, two, small),
          (
            omega (arith, two, high),
            (omega (arith, k2), (omega (arith, k3), (omega (arith, k4), (omega (arith, k5), (omega (arith, k6), (omega (arith, k7), tt)))))),
          ),
        )

full_above : (first second k : ℕ) (action : List ℕ) → length action ≡ 8 → IsOctets action → kind_of action ≡ k → k ≤ first * 256 + second
    → second < 256 → NotAbove action (full first second)
full_above first second k action len octets kind small_kind small =
    let e : IsEight action = eight action len in
    subst (λ (l : List ℕ). NotAbove l (full first second)) (sym e.is)
    (full_cells first second k e.a0 e.a1 e.a2 e.a3 e.a4 e.a5 e.a6 e.a7 (subst IsOctets e.is octets) (sym (ap kind_of e.is) ∙ kind) small_kind small)

plain_cells : (second bits k a b c d e f g i : ℕ) → IsOctets (a ∷ b ∷ c ∷ d ∷ e ∷ f ∷ g ∷ i ∷ []) → big_number 2 (a ∷ b ∷ c ∷ d ∷ e ∷ f ∷ g ∷ i ∷ []) ≡ k
    → k ≡ 0x80 * 256 + second → second < 256 → masked bits (a ∷ b ∷ c ∷ d ∷ e ∷ f ∷ g ∷ i ∷ []) ≡ a ∷ b ∷ c ∷ d ∷ e ∷ f ∷ g ∷ i ∷ []
    → NotAbove (a ∷ b ∷ c ∷ d ∷ e ∷ f ∷ g ∷ i ∷ []) (plain second bits)
plain_cells second bits k a b c d e f g i h kind same small clear =
    let z2 : 0 ≡ c = ap (λ (l : List ℕ). slice_index l 2) clear in
    let z3 : 0 ≡ d = ap (λ (l : List ℕ). slice_index l 3) clear in
    let z4 : 0 ≡ e = ap (λ (l : List ℕ). slice_index l 4) clear in
    let z5 : 0 ≡ f = ap (λ (l : List ℕ). slice_index l 5) clear in
    let z6 : 0 ≡ g = ap (λ (l : List ℕ). slice_index l 6) clear in
    let z7 : bit_and i bits ≡ i = ap (λ (l : List ℕ). slice_index l 7) clear in
    let top : bit_and i bits ≤ bits = and_le_r i bits in
    let k0 : a < 256 = octets_at (a ∷ b ∷ c ∷ d ∷ e ∷ f ∷ g ∷ i ∷ []) h 0 in
    let k1 : b < 256 = octets_at (a ∷ b ∷ c ∷ d ∷ e ∷ f ∷ g ∷ i ∷ []) h 1 in
    low (a ∷ b ∷ c ∷ d ∷ e ∷ f ∷ g ∷ i ∷ []) (plain second bits) (
      omega (arith, kind, same, small),
      (
        omega (arith, kind, same, small, k1),
        (omega (arith, z2), (omega (arith, z3), (omega (arith, z4), (omega (arith, z5), (omega (arith, z6), (omega (arith, z7, top), tt)))))),
      ),
    )

plain_above : (second bits k : ℕ) (action : List ℕ) → length action ≡ 8 → IsOctets action → kind_of action ≡ k → k ≡ 0x80 * 256 + second
    → second < 256 → masked bits action ≡ action
    → NotAbove action (plain second bits)
plain_above second bits k action len octets kind same small clear =
    let e : IsEight action = eight action len in
    subst (λ (l : List ℕ). NotAbove l (plain second bits)) (sym e.is)
    (plain_cells second bits k e.a0 e.a1 e.a2 e.a3 e.a4 e.a5 e.a6 e.a7 (subst IsOctets e.is octets) (sym (ap kind_of e.is)
    ∙ kind) same small (subst (λ (l : List ℕ). masked bits l ≡ l) e.is clear))

-- the highest octets of an action of the name
abbrev pub highest_of : List ℕ → List ℕ
highest_of name =
    if bytes_eq name (codes "bytes") then full 0x80 0x06
    else if bytes_eq name (codes "packets") then full 0x80 0x0c
    else if bytes_eq name (codes "control") then plain 0x07 0x03
    else if bytes_eq name (codes "mark") then plain 0x09 0x3f
    else full 0x82 0x08

not_above : (name action : List ℕ) → IsNamed name action → NotAbove action (highest_of name)
not_above name action is =
    each (λ bits. cleared bits action) action listed (kind_of action) At (
      λ k. at k (full_above 0x80 0x06 0x8006 action len is.octets k (omega arith) (omega arith)),
      (
        λ k. at k (full_above 0x80 0x0c 0x800c action len is.octets k (omega arith) (omega arith)),
        (
          λ k. at k (plain_above 0x07 0x03 0x8007 action len is.octets k (omega arith) (omega arith) (same_Some _ _ (normal k))),
          (
            λ k. at k (full_above 0x82 0x08 0x8008 action len is.octets k (omega arith) (omega arith)),
            (
              λ k. at k (full_above 0x82 0x08 0x8108 action len is.octets k (omega arith) (omega arith)),
              (
                λ k. at k (full_above 0x82 0x08 0x8208 action len is.octets k (omega arith) (omega arith)),
                (λ k. at k (plain_above 0x09 0x3f 0x8009 action len is.octets k (omega arith) (omega arith) (same_Some _ _ (normal k))), tt),
              ),
            ),
          ),
        ),
      ),
    ) is.normal.normal refl
  where
    At : ℕ → Type 0
    At k = kind_of action ≡ k → NotAbove action (highest_of name)

    len : length action ≡ 8
    len = is.normal.eight

    at : {k : ℕ} → kind_of action ≡ k → NotAbove action (highest_of (name_at k)) → NotAbove action (highest_of name)
    at kind low = subst (λ (n : List ℕ). NotAbove action (highest_of n)) (sym (sym is.named ∙ ap name_at kind)) low

    normal : {k : ℕ} → kind_of action ≡ k → normal_at action k ≡ Some action
    normal kind = sym (ap (normal_at action) kind) ∙ is.normal.normal

pub octets_eight : (a b c d e f g i : ℕ) → a < 256 → b < 256 → c < 256 → d < 256 → e < 256 → f < 256 → g < 256 → i < 256
    → IsOctets (a ∷ b ∷ c ∷ d ∷ e ∷ f ∷ g ∷ i ∷ [])
octets_eight a b c d e f g i ka kb kc kd ke kf kg ki =
    octets_cons a (b ∷ c ∷ d ∷ e ∷ f ∷ g ∷ i ∷ []) ka (octets_cons b (c ∷ d ∷ e ∷ f ∷ g ∷ i ∷ []) kb (octets_cons c (d ∷ e ∷ f ∷ g ∷ i ∷ []) kc
    (octets_cons d (e ∷ f ∷ g ∷ i ∷ []) kd
    (octets_cons e (f ∷ g ∷ i ∷ []) ke (octets_cons f (g ∷ i ∷ []) kf (octets_cons g (i ∷ []) kg (octets_cons i [] ki octets_nil)))))))

-- the highest octets are an action of the name
full_named : (first second : ℕ) → first < 256 → second < 256 → IsOctets (full first second)
full_named first second a b = octets_eight first second 255 255 255 255 255 255 a b (omega arith) (omega arith) (omega arith) (omega arith)
    (omega arith) (omega arith)

pub is_top : (first second : ℕ) (name : List ℕ) (r : Option (List ℕ)) → r ≡ Some (full first second) → first < 256 → second < 256 → IsAction (full first second)
    → action_name (full first second) ≡ name → highest_of name ≡ full first second → HasGreatest name r
is_top first second name r found a b normal named top = subst (HasGreatest name) (sym found) (record {
  named = record { normal = normal; octets = full_named first second a b; named = named };
  highest = λ action is. subst (NotAbove action) top (not_above name action is);
})

-- what is above a lower one is above a higher one
pub above_too : (last : Option (List ℕ)) (action greatest : List ℕ) → IsAbove last action → NotAbove action greatest → IsAbove last greatest
above_too None action greatest above low = tt
above_too (Some last) action greatest above low = by (slice_cmp nat_cmp action greatest) refl
  where
    by : (o : Ordering) → slice_cmp nat_cmp action greatest ≡ o → slice_cmp nat_cmp last greatest ≡ Less
    by Less e = nat_list_cmp_total.trans last action greatest above e
    by Equal e = subst (λ (l : List ℕ). slice_cmp nat_cmp last l ≡ Less) (exact_bytes action greatest e) above
    by Greater e = absurd (low e)
