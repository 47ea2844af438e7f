-- Laws of the words of specs/Language: what a cut and a first fault are, whatever the language.
use Rattle.fs_base.proofs.Words.{◌≡◌, ℕ, ◌+◌, ◌<◌, ◌≤◌, List, [], ◌++◌, length, take, drop, sym, subst, ◌⊎◌, inl, inr, arith, length-append}
use Rattle.fs_base.proofs.Words.{append_assoc, take-append-drop, append-nil, cases_lt, IsOctets, Begins, IsCut, IsFirstFault}
use Rattle.fs_base.proofs.Octets.{octets_nil, octets_append, octets_take, octets_drop, take-append-add, take_longer}

-- a text begins itself
pub whole_begins : (Whole : List ℕ → Type 0) (octets : List ℕ) → Whole octets → Begins Whole octets
whole_begins Whole octets whole =
    record { more = []; are_octets = octets_nil; whole = subst Whole (sym (append-nil octets)) whole }

-- a front of what begins a text begins it too
pub begins_front : (Whole : List ℕ → Type 0) (front rest : List ℕ) → IsOctets rest → Begins Whole (front ++ rest) → Begins Whole front
begins_front Whole front rest are begins = record {
  more = rest ++ begins.more;
  are_octets = octets_append rest begins.more are begins.are_octets;
  whole = subst Whole (append_assoc front rest begins.more) begins.whole;
}

pub shorter : (Whole : List ℕ → Type 0) (octets : List ℕ) (m n : ℕ) → IsOctets octets → m ≤ n → Begins Whole (take n octets) → Begins Whole (take m octets)
shorter Whole octets m n are le begins =
    begins_front Whole (take m octets) (drop m (take n octets)) (octets_drop m (take n octets) (octets_take n octets are))
    (subst (Begins Whole) (take_longer m n octets le) begins)

pub begins_take : (Whole : List ℕ → Type 0) (octets : List ℕ) (n : ℕ) → IsOctets octets → Begins Whole octets → Begins Whole (take n octets)
begins_take Whole octets n are begins =
    begins_front Whole (take n octets) (drop n octets) (octets_drop n octets are) (subst (Begins Whole) (sym (take-append-drop n octets)) begins)

-- the first fault is one place
pub one_fault : (Whole : List ℕ → Type 0) (octets : List ℕ) (p q : ℕ) → IsOctets octets → IsFirstFault Whole octets p → IsFirstFault Whole octets q → p ≡ q
one_fault Whole octets p q are one other = elim (cases p q) [
  | inl less ↦ absurd (one.at (shorter Whole octets (p + 1) q are less other.before))
  | inr rest ↦ elim rest [ inl same ↦ same | inr more ↦ absurd (other.at (shorter Whole octets (q + 1) p are more one.before)) ]
]
  where
    cases : (p q : ℕ) → (p + 1 ≤ q) ⊎ ((p ≡ q) ⊎ (q + 1 ≤ p))
    cases p q = elim (cases_lt p q) [
      | inl less ↦ inl (omega arith)
      | inr no_less ↦ elim (cases_lt q p) [
        | inl more ↦ inr (inr (omega arith))
        | inr no_more ↦ inr (inl (omega arith))
      ]
    ]

-- octets with a fault begin no text, so they are none and aren't cut
pub fault_begins : (Whole : List ℕ → Type 0) (octets : List ℕ) (p : ℕ) → IsOctets octets → IsFirstFault Whole octets p → Begins Whole octets → ⊥
fault_begins Whole octets p are fault begins = fault.at (begins_take Whole octets (p + 1) are begins)

pub cut_or_fault : (Whole : List ℕ → Type 0) (octets : List ℕ) (p q : ℕ) → IsOctets octets → IsCut Whole octets p → IsFirstFault Whole octets q → ⊥
cut_or_fault Whole octets p q are cut fault = fault_begins Whole octets q are fault cut.begins

pub fault_whole : (Whole : List ℕ → Type 0) (octets : List ℕ) (p : ℕ) → IsOctets octets → IsFirstFault Whole octets p → Whole octets → ⊥
fault_whole Whole octets p are fault whole = fault_begins Whole octets p are fault (whole_begins Whole octets whole)

-- Behind the front stands what begins a text of M, exactly where the whole begins one of L
pub record Leads (M L : List ℕ → Type 0) (front : List ℕ) : Type 0 where
  pub there : (rest : List ℕ) → Begins M rest → Begins L (front ++ rest)
  pub back : (rest : List ℕ) → Begins L (front ++ rest) → Begins M rest

-- a fault is the same fault behind such a front
pub fault_after : (M L : List ℕ → Type 0) (front rest : List ℕ) (place : ℕ) → Leads M L front → IsFirstFault M rest place
    → IsFirstFault L (front ++ rest) (length front + place)
fault_after M L front rest place leads fault = record {
  inside = let within : place < length rest = fault.inside in omega (arith, length-append front rest);
  before = subst (Begins L) (sym (take-append-add front rest place)) (leads.there (take place rest) fault.before);
  at = λ begins. fault.at (leads.back (take (place + 1) rest) (subst (Begins L) (one_more front rest place) begins));
}
  where
    one_more : (front rest : List ℕ) (place : ℕ) → take (length front + place + 1) (front ++ rest) ≡ front ++ take (place + 1) rest
    one_more front rest place =
        let e : length front + place + 1 ≡ length front + (place + 1) = omega arith in rw e (take-append-add front rest (place + 1))

pub cut_after : (M L : List ℕ → Type 0) (front rest : List ℕ) (place : ℕ) → Leads M L front → IsCut M rest place
    → IsCut L (front ++ rest) (length front + place)
cut_after M L front rest place leads cut = record {
  at_end = let ended : place ≡ length rest = cut.at_end in omega (arith, length-append front rest);
  begins = leads.there rest cut.begins;
}

-- two languages with the same texts have the same fronts, cuts and faults
pub begins_as : (M L : List ℕ → Type 0) (octets : List ℕ) → ((text : List ℕ) → M text → L text) → Begins M octets → Begins L octets
begins_as M L octets same begins =
    record { more = begins.more; are_octets = begins.are_octets; whole = same (octets ++ begins.more) begins.whole }

pub cut_as : (M L : List ℕ → Type 0) (octets : List ℕ) (place : ℕ) → ((text : List ℕ) → M text → L text) → IsCut M octets place → IsCut L octets place
cut_as M L octets place same cut = record { at_end = cut.at_end; begins = begins_as M L octets same cut.begins }

pub fault_as : (M L : List ℕ → Type 0) (octets : List ℕ) (place : ℕ)
    → ((text : List ℕ) → M text → L text) → ((text : List ℕ) → L text → M text) → IsFirstFault M octets place → IsFirstFault L octets place
fault_as M L octets place same back fault = record {
  inside = fault.inside;
  before = begins_as M L (take place octets) same fault.before;
  at = λ begins. fault.at (begins_as L M (take (place + 1) octets) back begins);
}
