-- Octets that are exactly one frame.
use Rattle.fs_conf.proofs.Words.{◌≡◌, ℕ, ◌≤◌, List, [], ◌∷◌, ◌++◌, Option, Some, None, Result, Ok, Err, length, take, drop, refl, ap, sym, ◌∙◌, subst}
use Rattle.fs_conf.proofs.Words.{arith, append-nil, length-drop, option_and_then, take-append-drop, take_all, Family, IsOctets, Reason, Ruled}
use Rattle.fs_conf.proofs.Words.{IsFrame, IsFieldOutcome, IsTheOutcome, rules_of, if_ok, only, rule_of}
use Rattle.fs_nlri.{specs.{Fault.{IsFrameBad}, Laws.{NoFrameGoesOn}}, proofs.OneOutcome.{one_field_outcome}}

abbrev Found : Type 0
Found = Result (List Ruled) (Reason × ℕ)

abbrev single : Found → Option Ruled
single found = option_and_then only (if_ok found)

module _ (law : IsTheOutcome) (family : Family) (octets : List ℕ) (small : IsOctets octets) where
  found_is : (found : Found) → IsFieldOutcome family octets found → rules_of family octets ≡ found
  found_is found h = one_field_outcome family octets (rules_of family octets) found small (law family octets) h

  pub one_frame : (rule : Ruled) (taken : ℕ) → taken ≡ length octets → rule.family ≡ family → IsFrame (take taken octets) rule
      → rule_of family octets ≡ Some rule
  one_frame rule taken all own frame =
      let whole : take taken octets ≡ octets = take_all taken octets (omega (arith, all)) in
      ap single (found_is (Ok (rule ∷ [])) (octets, [], sym (append-nil octets), own, subst (λ (z : List ℕ). IsFrame z rule) whole frame, refl))

  longer : (goes : NoFrameGoesOn) (rule other : Ruled) (taken : ℕ) → taken ≤ length octets → (taken ≡ length octets → ⊥) → rule.family ≡ family
      → other.family ≡ family
      → IsFrame (take taken octets) rule → IsFrame octets other → ⊥
  longer goes rule other taken within more own same frame whole =
      let none : drop taken octets ≡ [] =
      goes rule other (take taken octets) (drop taken octets) (own
      ∙ sym same) frame (subst (λ (z : List ℕ). IsFrame z other) (sym (take-append-drop taken octets)) whole) in
      more (omega (arith, within, ap length none, length-drop taken octets))

  pub goes_on : (goes : NoFrameGoesOn) (rule : Ruled) (taken : ℕ) → taken ≤ length octets → (taken ≡ length octets → ⊥) → rule.family ≡ family
      → IsFrame (take taken octets) rule → rule_of family octets ≡ None
  goes_on goes rule taken within more own frame = by (rules_of family octets) (law family octets)
    where
      by : (found : Found) → IsFieldOutcome family octets found → single found ≡ None
      by (Err bad) h = refl
      by (Ok []) h = refl
      by (Ok (one ∷ other ∷ rest)) h = refl
      by (Ok (one ∷ [])) h =
          let whole : octets ≡ h.0 = h.2 ∙ ap (λ (z : List ℕ). h.0 ++ z) h.5 ∙ append-nil h.0 in
          absurd (longer goes rule one taken within more own h.3 frame (subst (λ (z : List ℕ). IsFrame z one) (sym whole) h.4))

pub bad_frame : IsTheOutcome → (family : Family) (octets : List ℕ) → IsOctets octets → (reason : Reason) (place : ℕ) → IsFrameBad family octets reason place
    → rule_of family octets ≡ None
bad_frame law family [] small reason place bad = ap single (found_is law family [] small (Ok []) refl)
bad_frame law family (octet ∷ octets) small reason place bad =
    let all : List ℕ = octet ∷ octets in
    let never : all ≡ [] → ⊥ = λ h. absurd cc in
    ap single (found_is law family all small (Err (reason, place))
    (record { front = []; rules = []; rest = all; frames = refl; split = refl; some = never; bad = bad }))
