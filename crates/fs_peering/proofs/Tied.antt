-- The octets up to the message that establishes a session, and the session of all octets.
use Rattle.fs_peering.proofs.Words.{Closed, Last, Machine, Message, MessageFault, Phase, Update, closed, first_message, rest_closes}
use Rattle.fs_peering.proofs.Words.{session_by, size_of, step_at, step_by, still, transition_by, wrong_at, ◌≡◌, ◌<◌, ◌≤◌, ℕ, zero, suc, List, []}
use Rattle.fs_peering.proofs.Words.{◌++◌, length, take, Bool, true, false, if◌then◌else◌, Option, Some, None, Result, Ok, Err, refl, ap, sym, ◌∙◌}
use Rattle.fs_peering.proofs.Words.{subst, arith, append_assoc, append-nil, take-append-drop, is_first, message_shrinks, last_update, machine_stops}
use Rattle.fs_peering.proofs.Words.{machine_takes, session_rest, step_found, opened_by, OpensAs, OpeningIsSession}
use Rattle.fs_peering.proofs.OpenSteps.{going, opened_first, opened_rest}

abbrev Made : Type 0
Made = Result (Phase × Option Update) Closed

module _ (machine : Machine) (octets : List ℕ) where
  abbrev Tied : Phase → Type 0
  Tied now = OpensAs machine now octets (opened_by machine now octets)

  abbrev Later : Type 0
  Later = (next : Phase) (behind : List ℕ) → length behind < length octets → OpensAs machine next behind (opened_by machine next behind)

  -- no message is left
  module _ (now : Phase) (none : first_message octets ≡ None) where
    rests : (wrong : Option MessageFault) → wrong_at octets ≡ wrong → OpensAs machine now octets (rest_closes now wrong, [])
    rests None e = (
      octets,
      (
        sym (append-nil octets),
        ap (λ (s : List Update × Last). s.1) (session_rest machine now octets none) ∙ ap (rest_closes now) e
            ∙ sym (ap (λ (s : List Update × Last). s.1) (session_rest machine now [] refl)),
      ),
    )
    rests (Some fault) e = ap (λ (s : List Update × Last). s.1) (session_rest machine now octets none) ∙ ap (rest_closes now) e

    no_more : Tied now
    no_more = subst (OpensAs machine now octets) (sym (opened_rest _ _ _ none)) (rests _ refl)

  -- the first message
  module _ (now : Phase) (found : Message × List ℕ) (first : first_message octets ≡ Some found) where
    step_is : (made : Made) → transition_by machine now found.0 ≡ made → step_by machine now octets ≡ step_at made found.1
    step_is made t = step_found machine now octets found made first t

    opened_is : (made : Made) → transition_by machine now found.0 ≡ made
        → opened_by machine now octets ≡ going made found.1 (λ next. opened_by machine next found.1)
    opened_is made t = opened_first _ _ _ _ first ∙ ap (λ (m : Made). going m found.1 (λ next. opened_by machine next found.1)) t

    abbrev front : List ℕ
    front = take (size_of octets) octets

    behind_is : octets ≡ front ++ found.1
    behind_is = sym (ap (λ (z : List ℕ). front ++ z) (is_first octets found first).behind ∙ take-append-drop (size_of octets) octets)

    module _ (next : Phase × Option Update) (t : transition_by machine now found.0 ≡ Ok next) where
      goes_on : (session_by machine now octets).1 ≡ (session_by machine next.0 found.1).1
      goes_on =
          ap (λ (z : List ℕ). (session_by machine now z).1) (sym (append-nil octets))
          ∙ ap (λ (s : List Update × Last). s.1) (machine_takes machine now next.0 next.1 octets found.1 [] (step_is _ t))
          ∙ last_update next.1 (session_by machine next.0 (found.1 ++ []))
          ∙ ap (λ (z : List ℕ). (session_by machine next.0 z).1) (append-nil found.1)

      lifted : (came : Last × List ℕ) → OpensAs machine next.0 found.1 came → OpensAs machine now octets came
      lifted (closed why, behind) l = goes_on ∙ l
      lifted (still phase, behind) l =
          (front ++ l.0, (behind_is ∙ ap (λ (z : List ℕ). front ++ z) l.1.0 ∙ sym (append_assoc front l.0 behind), goes_on ∙ l.1.1))

      chosen_so : (b : Bool) → OpensAs machine next.0 found.1 (opened_by machine next.0 found.1)
          → OpensAs machine now octets (if b then (still next.0, found.1) else opened_by machine next.0 found.1)
      chosen_so true l = (front, (behind_is, goes_on))
      chosen_so false l = lifted _ l

    one : Later → (made : Made) → transition_by machine now found.0 ≡ made → Tied now
    one later (Err why) t =
        subst (OpensAs machine now octets) (sym (opened_is _ t))
        (ap (λ (z : List ℕ). (session_by machine now z).1) (sym (append-nil octets))
        ∙ ap (λ (s : List Update × Last). s.1) (machine_stops machine now why octets [] (step_is _ t)))
    one later (Ok next) t =
        subst (OpensAs machine now octets) (sym (opened_is _ t))
        (chosen_so _ t _ (later next.0 found.1 (message_shrinks octets found first)))

  tied : Later → (now : Phase) → Tied now
  tied later now = by (first_message octets) refl
    where
      by : (o : Option (Message × List ℕ)) → first_message octets ≡ o → Tied now
      by None f = no_more _ f
      by (Some found) f = one _ _ f later _ refl

tied_within : (n : ℕ) (machine : Machine) (octets : List ℕ) → length octets ≤ n → (now : Phase) → OpensAs machine now octets (opened_by machine now octets)
tied_within zero machine octets few now = tied machine octets (λ next behind less. absurd (omega (arith, less, few))) _
tied_within (suc n) machine octets few now = tied machine octets (λ next behind less. tied_within n machine behind (omega (arith, less, few)) next) now

pub opening_is_session : OpeningIsSession
opening_is_session machine now octets = tied_within _ _ _ (same (length octets)) _
  where
    same : (n : ℕ) → n ≤ n
    same n = omega arith
