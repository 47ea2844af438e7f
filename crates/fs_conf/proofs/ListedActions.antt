-- Actions as communities: the octets of actions are read as these, and what is read are actions.
use Rattle.fs_conf.proofs.Words.{◌≡◌, ℕ, zero, suc, ◌*◌, ◌/◌, ◌<◌, ◌≤◌, Bool, true, false, cond, ◌&&◌, List, [], ◌∷◌, length, drop, bit_and, Option}
use Rattle.fs_conf.proofs.Words.{Some, None, refl, sym, ap, ◌∙◌, subst, arith, filter_map, is_some, AllByRecursion, concat, list_all, length-take-le}
use Rattle.fs_conf.proofs.Words.{octets_drop, octets_take, IsOctets, communities_joined, each_length, read_back, whole_joined, AreActions, are_listed}
use Rattle.fs_conf.proofs.Words.{listed_actions}
use Rattle.fs_conf.proofs.Sought.{all_filter}
use Rattle.std.{specs.{Simd.{first_chunks}, Int.Bits.{and_self}}, proofs.lemmas.{Bool.{lt-ltb}, List.{length-drop}, Nat.{and_assoc, and_le_l}}}
use Rattle.fs_actions.proofs.{Insertion.{each_with}, Listed.{are_listed as are_the_listed}}
use Rattle.fs_actions.specs.Actions.{actions_of, are_communities, communities, with_action, with_actions}
use Rattle.fs_actions.specs.Community.{IsAction, cleared, kind_of, listed, normal_form}
use Rattle.fs_text.proofs.{Found.{IsEight, each, eight, masked, normal_at}, Greatest.{octets_eight}, Led.{no_actions}}

-- what is written is read back

each_listed : (xs : List (List ℕ)) → AllByRecursion IsAction xs → list_all (λ community. is_some (normal_form community)) xs ≡ true
each_listed [] h = refl
each_listed (x ∷ xs) h = rw (h.0.normal, each_listed xs h.1) refl

some_octets : (octets : List ℕ) (found : List (List ℕ)) → 0 < length octets → are_communities octets ≡ true → are_listed octets ≡ true
    → actions_of octets ≡ found
    → listed_actions octets ≡ Some found
some_octets [] found some whole listed is = absurd (omega arith)
some_octets (octet ∷ octets) found some whole listed is = rw (whole, listed, is) refl

pub listed_back : (actions : List (List ℕ)) → AreActions actions → listed_actions (concat actions) ≡ Some actions
listed_back [] are = refl
listed_back (action ∷ actions) are =
    let all : List (List ℕ) = action ∷ actions in
    let count : length (concat all) ≡ 8 * length all = each_length all are.rising.each in
    some_octets (concat all) all (omega (arith, count)) (whole_joined all are.rising ∙ lt-ltb 0 (length all) (omega arith))
    (ap (list_all (λ community. is_some (normal_form community))) (communities_joined all are.rising.each) ∙ each_listed all are.rising.each)
    (read_back all are.rising)

-- what is read are actions

pub record IsAnAction (action : List ℕ) : Type 0 where
  pub normal : IsAction action
  pub octets : IsOctets action

masked_kind : (bits : ℕ) (community : List ℕ) → length community ≡ 8 → kind_of (masked bits community) ≡ kind_of community
masked_kind bits community len =
    let e : IsEight community = eight community len in
    subst (λ (l : List ℕ). kind_of (masked bits l) ≡ kind_of l) (sym e.is) refl

masked_again : (bits : ℕ) (community : List ℕ) → length community ≡ 8 → masked bits (masked bits community) ≡ masked bits community
masked_again bits community len =
    let e : IsEight community = eight community len in
    let once : bit_and (bit_and e.a7 bits) bits ≡ bit_and e.a7 bits = and_assoc bits e.a7 bits ∙ ap (bit_and e.a7) (and_self bits) in
    subst (λ (l : List ℕ). masked bits (masked bits l) ≡ masked bits l) (sym e.is)
    (ap (λ (octet : ℕ). e.a0 ∷ e.a1 ∷ 0 ∷ 0 ∷ 0 ∷ 0 ∷ 0 ∷ octet ∷ []) once)

masked_octets : (bits : ℕ) (community : List ℕ) → length community ≡ 8 → IsOctets community → IsOctets (masked bits community)
masked_octets bits community len small =
    let e : IsEight community = eight community len in
    let cells : IsOctets (e.a0 ∷ e.a1 ∷ e.a2 ∷ e.a3 ∷ e.a4 ∷ e.a5 ∷ e.a6 ∷ e.a7 ∷ []) = subst IsOctets e.is small in
    let first : e.a0 < 256 = cells 0 0 (omega arith) in
    let second : e.a1 < 256 = cells 1 0 (omega arith) in
    let last : e.a7 < 256 = cells 7 0 (omega arith) in
    let within : bit_and e.a7 bits ≤ e.a7 = and_le_l e.a7 bits in
    subst (λ (l : List ℕ). IsOctets (masked bits l)) (sym e.is)
    (octets_eight e.a0 e.a1 0 0 0 0 0 (bit_and e.a7 bits) first second (omega arith) (omega arith) (omega arith) (omega arith) (omega arith)
    (omega (arith, within, last)))

masked_eight : (bits : ℕ) (community : List ℕ) → length community ≡ 8 → length (masked bits community) ≡ 8
masked_eight bits community len =
    let e : IsEight community = eight community len in
    subst (λ (l : List ℕ). length (masked bits l) ≡ 8) (sym e.is) refl

some_list : {x y : List ℕ} → Some x ≡ Some y → x ≡ y
some_list e = cc

module _ (community action : List ℕ) (len : length community ≡ 8) (small : IsOctets community) (is : normal_form community ≡ Some action) where
  -- a type of which each bit counts
  every : (kind : ℕ) → normal_at community kind ≡ Some community → kind_of community ≡ kind → IsAnAction action
  every kind whole same =
      let own : normal_form community ≡ Some community = ap (normal_at community) same ∙ whole in
      subst IsAnAction (some_list (sym own ∙ is)) (record { normal = record { eight = len; normal = own }; octets = small })

  -- a type of which bits of the last octet count
  last : (bits kind : ℕ) → ((l : List ℕ) → normal_at l kind ≡ Some (masked bits l)) → kind_of community ≡ kind → IsAnAction action
  last bits kind clears same =
      let own : normal_form community ≡ Some (masked bits community) = ap (normal_at community) same ∙ clears community in
      let again : normal_form (masked bits community) ≡ Some (masked bits community) =
      ap (normal_at (masked bits community)) (masked_kind bits community len ∙ same) ∙ clears (masked bits community)
      ∙ ap (λ (l : List ℕ). let made : Option (List ℕ) = Some l in made) (masked_again bits community len) in
      subst IsAnAction (some_list (sym own ∙ is)) (record {
        normal = record { eight = masked_eight bits community len; normal = again };
        octets = masked_octets bits community len small;
      })

  normal_is : IsAnAction action
  normal_is =
      each (λ bits. cleared bits community) action listed (kind_of community) (λ kind. kind_of community ≡ kind → IsAnAction action) (
        every 0x8006 refl,
        (
          every 0x800c refl,
          (last 0x03 0x8007 (λ l. refl), (every 0x8008 refl, (every 0x8108 refl, (every 0x8208 refl, (last 0x3f 0x8009 (λ l. refl), tt))))),
        ),
      ) is refl

abbrev AreEight : List ℕ → Type 0
AreEight community = (length community ≡ 8) × IsOctets community

chunks_are : (n : ℕ) (octets : List ℕ) → 8 * n ≤ length octets → IsOctets octets → AllByRecursion AreEight (first_chunks 8 n octets)
chunks_are zero octets within small = tt
chunks_are (suc n) octets within small = (
  (length-take-le 8 octets (omega (arith, within)), octets_take 8 octets small),
  chunks_are n (drop 8 octets) (omega (arith, within, length-drop 8 octets)) (octets_drop 8 octets small),
)

all_with : (new actions : List (List ℕ)) → AllByRecursion IsAnAction new → AllByRecursion IsAnAction actions
    → AllByRecursion IsAnAction (with_actions new actions)
all_with [] actions p q = q
all_with (action ∷ new) actions p q = all_with new (with_action action actions) p.1 (each_with IsAnAction action actions p.0 q)

all_normal : (actions : List (List ℕ)) → AllByRecursion IsAnAction actions → AllByRecursion IsAction actions
all_normal [] p = tt
all_normal (action ∷ actions) p = (p.0.normal, all_normal actions p.1)

all_octets : (actions : List (List ℕ)) → AllByRecursion IsAnAction actions → AllByRecursion IsOctets actions
all_octets [] p = tt
all_octets (action ∷ actions) p = (p.0.octets, all_octets actions p.1)

field_actions : (octets : List ℕ) → IsOctets octets → AreActions (actions_of octets)
field_actions octets small =
    let each : AllByRecursion IsAnAction (actions_of octets) =
    all_with (filter_map normal_form (communities octets)) []
    (all_filter AreEight IsAnAction normal_form (communities octets) (λ community action are is. normal_is community action are.0 are.1 is)
    (chunks_are (length octets / 8) octets (omega arith) small)) tt in
    record {
      rising = record { each = all_normal (actions_of octets) each; rising = (are_the_listed octets).rising };
      octets = all_octets (actions_of octets) each;
    }

chosen_is : (test : Bool) (found actions : List (List ℕ)) → cond test (Some found) None ≡ Some actions → found ≡ actions
chosen_is true found actions e = cc
chosen_is false found actions e = absurd cc

pub listed_are : (octets : List ℕ) (actions : List (List ℕ)) → IsOctets octets → listed_actions octets ≡ Some actions → AreActions actions
listed_are [] actions small is = let none : [] ≡ actions = cc in subst AreActions none no_actions
listed_are (octet ∷ octets) actions small is =
    subst AreActions (chosen_is (are_communities (octet ∷ octets) && are_listed (octet ∷ octets)) (actions_of (octet ∷ octets)) actions is)
    (field_actions (octet ∷ octets) small)
