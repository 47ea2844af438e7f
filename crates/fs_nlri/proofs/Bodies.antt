use Rattle.fs_nlri.proofs.Words.{◌≡◌, ℕ, zero, suc, ◌+◌, ◌-◌, ◌<◌, ◌≤◌, inl, inr, List, [], ◌∷◌, ◌++◌, Option, length, take, drop, replicate, refl}
use Rattle.fs_nlri.proofs.Words.{ap, sym, subst, ◌∙◌, arith, length-append, append-nil, length-replicate, take_all, take-append-drop, All-replicate}
use Rattle.fs_nlri.proofs.Words.{V4, IsOctets, Begins, NoFront, IsCut, IsFirstFault, append_same, octets_cons, Kind, text, no_list, same_list, Form}
use Rattle.fs_nlri.proofs.Words.{V4Form, V6Form, ListForm, kept_bits, Body, V4Body, V6Body, ListBody, SpellsV4, SpellsV6, SpellsList, SpellsBody}
use Rattle.fs_nlri.proofs.Words.{IsRange, octets_for, first_bits, IsBody}

-- What stands behind a type: of each form one body at most stands at the front, and what reading finds says what is wrong.

-- two bodies at the front of one list are one
pub record SameBody (a b : List ℕ) (p q : Body) (s t : List ℕ) : Type 0 where
  pub octets : a ≡ b
  pub body : p ≡ q
  pub rest : s ≡ t

opened : (a front s : List ℕ) → a ≡ front → a ++ s ≡ front ++ s
opened a front s split = ap (λ (l : List ℕ). l ++ s) split

same_v4 : (a b s t : List ℕ) (p q : Body) → SpellsV4 a p → SpellsV4 b q → a ++ s ≡ b ++ t → SameBody a b p q s t
same_v4 a b s t p q one other same =
    let joined : one.len ∷ (one.address ++ s) ≡ other.len ∷ (other.address ++ t) =
    sym (opened a (one.len ∷ one.address) s one.split) ∙ same ∙ opened b (other.len ∷ other.address) t other.split in
    let lens : one.len ≡ other.len = cc in
    let tails : one.address ++ s ≡ other.address ++ t = cc in
    let sizes : length one.address ≡ length other.address = one.size ∙ ap octets_for lens ∙ sym other.size in
    let found = append_same one.address s other.address t sizes tails in
    let addresses : one.address ≡ other.address = found.0 in
    let texts : one.len ∷ one.address ≡ other.len ∷ other.address = cc in
    record {
      octets = one.split ∙ texts ∙ sym other.split;
      body =
          one.says
          ∙ ap (λ (len : ℕ). V4Body V4 len (first_bits 32 len one.address)) lens
          ∙ ap (λ (address : List ℕ). V4Body V4 other.len (first_bits 32 other.len address)) addresses
          ∙ sym other.says;
      rest = found.1;
    }

same_v6 : (a b s t : List ℕ) (p q : Body) → SpellsV6 a p → SpellsV6 b q → a ++ s ≡ b ++ t → SameBody a b p q s t
same_v6 a b s t p q one other same =
    let joined : one.len ∷ one.offset ∷ (one.pattern ++ s) ≡ other.len ∷ other.offset ∷ (other.pattern ++ t) =
    sym (opened a (one.len ∷ one.offset ∷ one.pattern) s one.split) ∙ same ∙ opened b (other.len ∷ other.offset ∷ other.pattern) t other.split in
    let lens : one.len ≡ other.len = cc in
    let offsets : one.offset ≡ other.offset = cc in
    let tails : one.pattern ++ s ≡ other.pattern ++ t = cc in
    let counts : one.len - one.offset ≡ other.len - other.offset = ap (λ (len : ℕ). len - one.offset) lens ∙ ap (λ (offset : ℕ). other.len - offset) offsets in
    let sizes : length one.pattern ≡ length other.pattern = one.size ∙ ap octets_for counts ∙ sym other.size in
    let found = append_same one.pattern s other.pattern t sizes tails in
    let patterns : one.pattern ≡ other.pattern = found.0 in
    let texts : one.len ∷ one.offset ∷ one.pattern ≡ other.len ∷ other.offset ∷ other.pattern = cc in
    record {
      octets = one.split ∙ texts ∙ sym other.split;
      body =
          one.says
          ∙ ap (λ (len : ℕ). V6Body len one.offset (first_bits 128 (len - one.offset) one.pattern)) lens
          ∙ ap (λ (offset : ℕ). V6Body other.len offset (first_bits 128 (other.len - offset) one.pattern)) offsets
          ∙ ap (λ (pattern : List ℕ). V6Body other.len other.offset (first_bits 128 (other.len - other.offset) pattern)) patterns
          ∙ sym other.says;
      rest = found.1;
    }

same_lists : (kind : Kind) (widths : List ℕ) (bits : Option ℕ) (a b s t : List ℕ) (p q : Body) → SpellsList kind widths bits a p
    → SpellsList kind widths bits b q → a ++ s ≡ b ++ t → SameBody a b p q s t
same_lists kind widths bits a b s t p q one other same =
    let found = same_list kind widths a b s t one.pairs other.pairs one.spells other.spells same in
    record {
      octets = found.octets;
      body = one.says ∙ ap (λ (pairs : List (ℕ × ℕ)). ListBody (kept_bits bits pairs)) found.pairs ∙ sym other.says;
      rest = found.rest;
    }

pub same_body : (form : Form) (a b s t : List ℕ) (p q : Body) → SpellsBody form a p → SpellsBody form b q → a ++ s ≡ b ++ t → SameBody a b p q s t
same_body V4Form a b s t p q one other same = same_v4 a b s t p q one other same
same_body V6Form a b s t p q one other same = same_v6 a b s t p q one other same
same_body (ListForm kind widths bits) a b s t p q one other same = same_lists kind widths bits a b s t p q one other same

-- A body is never empty, and has at its front what any body promises of the octets behind its length

pub no_empty_body : (form : Form) → IsBody form [] → ⊥
no_empty_body V4Form body = let none : [] ≡ body.spells.len ∷ body.spells.address = body.spells.split in cc
no_empty_body V6Form body = let none : [] ≡ body.spells.len ∷ body.spells.offset ∷ body.spells.pattern = body.spells.split in cc
no_empty_body (ListForm kind widths bits) body =
    let list = body.spells.spells in
    no_list widths list.written [] list.whole (append-nil (text list.written) ∙ list.spelled)

empty_cut : (form : Form) → Begins (IsBody form) [] → NoFront (IsBody form) [] × IsCut (IsBody form) [] 0
empty_cut form begins = (λ n whole. no_empty_body form (subst (IsBody form) (take_all n [] (omega arith)) whole), record { at_end = refl; begins = begins })

abbrev Opens : Form → ℕ → (List ℕ → Type 0) → Type 0
Opens form len Opening = (octets more tail : List ℕ) → IsBody form octets → octets ++ more ≡ len ∷ tail → Opening tail

no_body : (form : Form) (len : ℕ) (tail : List ℕ) (Opening : List ℕ → Type 0) → Opens form len Opening → (Opening tail → ⊥) → NoFront (IsBody form) (len ∷ tail)
no_body form len tail Opening opens none n whole = none (opens (take n (len ∷ tail)) (drop n (len ∷ tail)) tail whole (take-append-drop n (len ∷ tail)))

bad_length : (form : Form) (len : ℕ) (tail : List ℕ) (Opening : List ℕ → Type 0) → Opens form len Opening → ((rest : List ℕ) → Opening rest → ⊥)
    → Begins (IsBody form) []
    → NoFront (IsBody form) (len ∷ tail) × IsFirstFault (IsBody form) (len ∷ tail) 0 × ◌≡◌ {A = ℕ} 0 0
bad_length form len tail Opening opens none begins = (
  no_body form len tail Opening opens (none tail),
  record { inside = omega arith; before = begins; at = λ b. none b.more (opens (len ∷ b.more) [] b.more b.whole (append-nil (len ∷ b.more))) },
  refl,
)

zeros_are_octets : (n : ℕ) → IsOctets (replicate n 0)
zeros_are_octets n = All-replicate (λ octet. octet < 256) n 0 (omega arith)

-- octets that end within the size octets of a body
cut_body : (form : Form) (octets tail : List ℕ) (size place : ℕ) → place ≡ length octets → length tail < size → NoFront (IsBody form) octets
    → ((more : List ℕ) → length (tail ++ more) ≡ size → IsBody form (octets ++ more)) → NoFront (IsBody form) octets × IsCut (IsBody form) octets place
cut_body form octets tail size place here few none whole =
    let count = size - length tail in
    let filled : length (tail ++ replicate count 0) ≡ size = length-append tail (replicate count 0) ∙ omega (arith, length-replicate {A = ℕ} count 0) in (
      none,
      record {
        at_end = here;
        begins =
            record { more = replicate count 0; are_octets = zeros_are_octets count; whole = whole (replicate count 0) filled };
      },
    )

-- IPv4

-- what a length at the front of a prefix's octets promises
record V4Opening (len : ℕ) (tail : List ℕ) : Type 0 where
  short : len ≤ 32
  room : octets_for len ≤ length tail

v4_opening : (len : ℕ) → Opens V4Form len (V4Opening len)
v4_opening len octets more tail body same =
    let spells = body.spells in
    let joined : spells.len ∷ (spells.address ++ more) ≡ len ∷ tail = sym (opened octets (spells.len ∷ spells.address) more spells.split) ∙ same in
    let lens : spells.len ≡ len = cc in
    let tails : spells.address ++ more ≡ tail = cc in
    let counts : octets_for spells.len ≡ octets_for len = ap octets_for lens in
    let whole : length spells.address + length more ≡ length tail = sym (length-append spells.address more) ∙ ap length tails in
    let size : length spells.address ≡ octets_for spells.len = spells.size in
    let short : spells.len ≤ 32 = spells.short in
    record { short = omega arith; room = omega arith }

abbrev IsV4 : List ℕ → Type 0
IsV4 = IsBody V4Form

v4_is : (len : ℕ) (address : List ℕ) → len ≤ 32 → length address ≡ octets_for len → IsV4 (len ∷ address)
v4_is len address short size =
    record {
      body = V4Body V4 len (first_bits 32 len address);
      spells =
          record { len = len; address = address; split = refl; short = short; size = size; says = refl };
    }

v4_begins_empty : Begins IsV4 []
v4_begins_empty = record { more = 0 ∷ []; are_octets = zeros_are_octets 1; whole = v4_is 0 [] (omega arith) refl }

pub v4_empty : NoFront IsV4 [] × IsCut IsV4 [] 0
v4_empty = empty_cut V4Form v4_begins_empty

pub v4_length : (len : ℕ) (tail : List ℕ) → 32 < len → NoFront IsV4 (len ∷ tail) × IsFirstFault IsV4 (len ∷ tail) 0 × ◌≡◌ {A = ℕ} 0 0
v4_length len tail long = bad_length V4Form len tail (V4Opening len) (v4_opening len) (λ rest given. let short : len ≤ 32 = given.short in
    omega arith) v4_begins_empty

pub v4_cut : (len : ℕ) (tail : List ℕ) → len ≤ 32 → length tail < octets_for len → NoFront IsV4 (len ∷ tail) × IsCut IsV4 (len ∷ tail) (1 + length tail)
v4_cut len tail short few =
    cut_body V4Form (len ∷ tail) tail (octets_for len) (1 + length tail) (omega arith) few
    (no_body V4Form len tail (V4Opening len) (v4_opening len) (λ given. let room : octets_for len ≤ length tail = given.room in omega arith))
    (λ more size. v4_is len (tail ++ more) short size)

-- IPv6

record V6Opening (len : ℕ) (tail : List ℕ) : Type 0 where
  short : len ≤ 128
  offset : ℕ
  pattern : List ℕ
  behind : tail ≡ offset ∷ pattern
  range : IsRange len offset
  room : octets_for (len - offset) ≤ length pattern

v6_opening : (len : ℕ) → Opens V6Form len (V6Opening len)
v6_opening len octets more tail body same =
    let spells = body.spells in
    let joined : spells.len ∷ spells.offset ∷ (spells.pattern ++ more) ≡ len ∷ tail =
    sym (opened octets (spells.len ∷ spells.offset ∷ spells.pattern) more spells.split) ∙ same in
    let lens : spells.len ≡ len = cc in
    let tails : spells.offset ∷ (spells.pattern ++ more) ≡ tail = cc in
    let range : IsRange len spells.offset = subst (λ (l : ℕ). IsRange l spells.offset) lens spells.range in
    let size : length spells.pattern ≡ octets_for (len - spells.offset) = spells.size ∙ ap (λ (l : ℕ). octets_for (l - spells.offset)) lens in
    record {
      short = range.0;
      offset = spells.offset;
      pattern = spells.pattern ++ more;
      behind = sym tails;
      range = range;
      room = omega (arith, length-append spells.pattern more, size);
    }

abbrev IsV6 : List ℕ → Type 0
IsV6 = IsBody V6Form

v6_is : (len offset : ℕ) (pattern : List ℕ) → IsRange len offset → length pattern ≡ octets_for (len - offset) → IsV6 (len ∷ offset ∷ pattern)
v6_is len offset pattern range size =
    record {
      body = V6Body len offset (first_bits 128 (len - offset) pattern);
      spells = record { len = len; offset = offset; pattern = pattern; split = refl; range = range; size = size; says = refl };
    }

-- an offset of 0 goes with each length
from_zero : (len : ℕ) → len ≤ 128 → IsRange len 0
from_zero zero short = (short, inr (refl, refl))
from_zero (suc len) short = (short, inl (omega arith))

v6_begins_length : (len : ℕ) → len ≤ 128 → Begins IsV6 (len ∷ [])
v6_begins_length len short =
    let count = octets_for (len - 0) in
    record {
      more = 0 ∷ replicate count 0;
      are_octets = octets_cons 0 (replicate count 0) (omega arith) (zeros_are_octets count);
      whole = v6_is len 0 (replicate count 0) (from_zero len short) (length-replicate {A = ℕ} count 0);
    }

v6_begins_empty : Begins IsV6 []
v6_begins_empty = record { more = 0 ∷ 0 ∷ []; are_octets = zeros_are_octets 2; whole = v6_is 0 0 [] (from_zero 0 (omega arith)) refl }

pub v6_empty : NoFront IsV6 [] × IsCut IsV6 [] 0
v6_empty = empty_cut V6Form v6_begins_empty

pub v6_length : (len : ℕ) (tail : List ℕ) → 128 < len → NoFront IsV6 (len ∷ tail) × IsFirstFault IsV6 (len ∷ tail) 0 × ◌≡◌ {A = ℕ} 0 0
v6_length len tail long = bad_length V6Form len tail (V6Opening len) (v6_opening len) (λ rest given. let short : len ≤ 128 = given.short in
    omega arith) v6_begins_empty

pub v6_one : (len : ℕ) → len ≤ 128 → NoFront IsV6 (len ∷ []) × IsCut IsV6 (len ∷ []) 1
v6_one len short = (
  no_body V6Form len [] (V6Opening len) (v6_opening len) (λ given. let none : [] ≡ given.offset ∷ given.pattern = given.behind in cc),
  record { at_end = refl; begins = v6_begins_length len short },
)

-- the offset of an opening is the one that stands there
at_offset : (len offset : ℕ) (pattern : List ℕ) (given : V6Opening len (offset ∷ pattern)) → IsRange len offset × (octets_for (len - offset) ≤ length pattern)
at_offset len offset pattern given =
    let same : offset ∷ pattern ≡ given.offset ∷ given.pattern = given.behind in
    let offsets : given.offset ≡ offset = cc in
    let patterns : given.pattern ≡ pattern = cc in (
      subst (λ (o : ℕ). IsRange len o) offsets given.range,
      subst (λ (p : List ℕ). octets_for (len - offset) ≤ length p) patterns (subst (λ (o : ℕ). octets_for (len - o) ≤ length given.pattern) offsets given.room),
    )

pub v6_offset : (len offset : ℕ) (tail : List ℕ) → len ≤ 128 → (IsRange len offset → ⊥)
    → NoFront IsV6 (len ∷ offset ∷ tail) × IsFirstFault IsV6 (len ∷ offset ∷ tail) 1 × ◌≡◌ {A = ℕ} 1 1
v6_offset len offset tail short bad = (
  no_body V6Form len (offset ∷ tail) (V6Opening len) (v6_opening len) (λ given. bad (at_offset len offset tail given).0),
  record {
    inside = omega arith;
    before = v6_begins_length len short;
    at = λ begins. bad (at_offset len offset begins.more
        (v6_opening len (len ∷ offset ∷ begins.more) [] (offset ∷ begins.more) begins.whole (append-nil (len ∷ offset ∷ begins.more)))).0;
  },
  refl,
)

pub v6_cut : (len offset : ℕ) (tail : List ℕ) → IsRange len offset → length tail < octets_for (len - offset)
    → NoFront IsV6 (len ∷ offset ∷ tail) × IsCut IsV6 (len ∷ offset ∷ tail) (2 + length tail)
v6_cut len offset tail range few =
    cut_body V6Form (len ∷ offset ∷ tail) tail (octets_for (len - offset)) (2 + length tail) (omega arith) few
    (no_body V6Form len (offset ∷ tail) (V6Opening len) (v6_opening len)
    (λ given. let room : octets_for (len - offset) ≤ length tail = (at_offset len offset tail given).1 in omega arith))
    (λ more size. v6_is len offset (tail ++ more) range size)
