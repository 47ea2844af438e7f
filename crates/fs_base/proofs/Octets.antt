-- Octet lists: their parts are octets, and how two splits of one list relate.
use Rattle.fs_base.proofs.Words.{◌≡◌, ℕ, ◌+◌, ◌<◌, ◌≤◌, List, [], ◌∷◌, ◌++◌, length, get_or, take, drop, refl, sym, subst, inl, inr, arith, take_at}
use Rattle.fs_base.proofs.Words.{drop_at, take-append-drop, take-take, get_or_past, cases_lt, AllByRecursion, concat, common_steps, IsOctets}
pub use Rattle.std.proofs.Math.Seq.{take-append-add}
use Rattle.std.proofs.lemmas.List.Elements.{All-from_get_or, All-append, All-take, All-drop}

pub octets_from : (octets : List ℕ) → ((i : ℕ) → get_or octets i 0 < 256) → IsOctets octets
octets_from octets small = All-from_get_or (λ octet. octet < 256) octets 0 (λ i inside. small i)

pub octets_at : (octets : List ℕ) → IsOctets octets → (k : ℕ) → get_or octets k 0 < 256
octets_at octets are k = elim (cases_lt k (length octets)) [ inl inside ↦ are k 0 inside | inr past ↦ rw (get_or_past octets k 0 past) (omega arith) ]

pub octets_nil : IsOctets []
octets_nil = λ k d inside. absurd (omega arith)

pub octets_append : (front rest : List ℕ) → IsOctets front → IsOctets rest → IsOctets (front ++ rest)
octets_append front rest p q = All-append (λ octet. octet < 256) front rest p q

pub octets_take : (n : ℕ) (octets : List ℕ) → IsOctets octets → IsOctets (take n octets)
octets_take n octets p = All-take (λ octet. octet < 256) n octets p

pub octets_drop : (n : ℕ) (octets : List ℕ) → IsOctets octets → IsOctets (drop n octets)
octets_drop n octets p = All-drop (λ octet. octet < 256) n octets p

pub octets_left : (front rest : List ℕ) → IsOctets (front ++ rest) → IsOctets front
octets_left front rest p = subst IsOctets (take_at front rest (length front) refl) (octets_take (length front) (front ++ rest) p)

pub octets_right : (front rest : List ℕ) → IsOctets (front ++ rest) → IsOctets rest
octets_right front rest p = subst IsOctets (drop_at front rest (length front) refl) (octets_drop (length front) (front ++ rest) p)

pub octets_head : (octet : ℕ) (rest : List ℕ) → IsOctets (octet ∷ rest) → octet < 256
octets_head octet rest p = p 0 0 (omega arith)

pub octets_tail : (octet : ℕ) (rest : List ℕ) → IsOctets (octet ∷ rest) → IsOctets rest
octets_tail octet rest p = octets_right (octet ∷ []) rest p

pub octets_cons : (octet : ℕ) (rest : List ℕ) → octet < 256 → IsOctets rest → IsOctets (octet ∷ rest)
octets_cons octet rest small p = octets_append (octet ∷ []) rest (octets_one octet small) p where
  octets_one : (octet : ℕ) → octet < 256 → IsOctets (octet ∷ [])
  octets_one octet small = λ k d inside. let e : k ≡ 0 = omega arith in rw e small

-- fronts of one length of one list are the same, and so is what follows them
pub append_same : {A : Type 0} (a b c d : List A) → length a ≡ length c → a ++ b ≡ c ++ d → (a ≡ c) × (b ≡ d)
append_same [] b [] d e same = (refl, same)
append_same [] b (y ∷ c) d e same = absurd (omega arith)
append_same (x ∷ a) b [] d e same = absurd (omega arith)
append_same (x ∷ a) b (y ∷ c) d e same =
    let heads : x ≡ y = cc in
    let tails : a ++ b ≡ c ++ d = cc in
    let lengths : length a ≡ length c = omega arith in
    let rest = append_same a b c d lengths tails in
    let fronts : a ≡ c = rest.0 in
    ((cc), rest.1)

-- of two fronts of one list the longer goes on where the shorter ends
pub record Overlap {A : Type 0} (a b c d : List A) : Type 0 where
  pub between : List A
  pub front : c ≡ a ++ between
  pub rest : b ≡ between ++ d

pub overlap : {A : Type 0} (a b c d : List A) → a ++ b ≡ c ++ d → length a ≤ length c → Overlap a b c d
overlap [] b c d same small = record { between = c; front = refl; rest = same }
overlap (x ∷ a) b [] d same small = absurd (omega arith)
overlap (x ∷ a) b (y ∷ c) d same small =
    let heads : x ≡ y = cc in
    let tails : a ++ b ≡ c ++ d = cc in
    let shorter : length a ≤ length c = omega arith in
    let found = overlap a b c d tails shorter in
    let front : c ≡ a ++ found.between = found.front in
    record { between = found.between; front = (cc); rest = found.rest }

-- a longer front is a shorter one and what follows it
pub take_longer : (m n : ℕ) (octets : List ℕ) → m ≤ n → take n octets ≡ take m octets ++ drop m (take n octets)
take_longer m n octets le =
    sym (subst (λ (front : List ℕ). front ++ drop m (take n octets) ≡ take n octets) (take-take m n octets le) (take-append-drop m (take n octets)))

pub each_at : (P : List ℕ → Type 0) (done : List (List ℕ)) (x : List ℕ) (xs : List (List ℕ)) → AllByRecursion P (done ++ x ∷ xs) → P x
each_at P [] x xs h = h.0
each_at P (y ∷ ys) x xs h = each_at P ys x xs h.1

pub octets_of_each : (actions : List (List ℕ)) → AllByRecursion IsOctets actions → IsOctets (concat actions)
octets_of_each [] each = octets_nil
octets_of_each (action ∷ actions) each = octets_append action (concat actions) each.0 (octets_of_each actions each.1)

pub take_of_none : (n : ℕ) (octets : List ℕ) → octets ≡ [] → take n octets ≡ []
take_of_none n octets none = grind (arith, common_steps)
