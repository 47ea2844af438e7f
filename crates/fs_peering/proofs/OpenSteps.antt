-- One step and all octets up to the message that establishes.
use Rattle.std.proofs.Common.{option_map}
use Rattle.fs_peering.proofs.Words.{Closed, Last, Machine, Message, MessageFault, Phase, Shrinks, Update, closed, first_message, is_established}
use Rattle.fs_peering.proofs.Words.{rest_closes, step_by, still, stops, takes, transition_by, waits, wrong_at, ◌≡◌, ◌<◌, ℕ, List, [], ◌∷◌}
use Rattle.fs_peering.proofs.Words.{◌++◌, length, if◌then◌else◌, Option, Some, None, Ok, Err, refl, ap, sym, ◌∙◌, subst, inl, inr, message_shrinks}
use Rattle.fs_peering.proofs.Words.{message_stable, fault_stays, Shows, told, wrong_first, Transition, front_message, opened_by, opens}
use Rattle.fs_base.proofs.Parts.{parts_end, parts_step}

abbrev pub Opened : Type 0
Opened = Last × List ℕ

abbrev pub chosen : Phase → List ℕ → (Phase → Opened) → Opened
chosen next behind rest = if is_established next.state then (still next, behind) else rest next

abbrev pub going : Transition → List ℕ → (Phase → Opened) → Opened
going (Ok next) behind rest = chosen next.0 behind rest
going (Err why) behind rest = (closed why, [])

pub opens_step : (machine : Machine) (now : Phase) (found : Message × List ℕ) (later : List (Message × List ℕ)) (wrong : Option MessageFault)
    → opens machine now (found ∷ later) wrong ≡ going (transition_by machine now found.0) found.1 (λ next. opens machine next later wrong)
unfolding opens
opens_step machine now found later wrong = at (transition_by machine now found.0)
  where
    at : (made : Transition)
        → elim made [ Err why ↦ (closed why, []) | Ok next ↦ if is_established next.0.state then (still next.0, found.1) else opens machine next.0 later wrong ]
        ≡ going made found.1 (λ next. opens machine next later wrong)
    at (Ok next) = refl
    at (Err why) = refl

pub opens_none : (machine : Machine) (now : Phase) (wrong : Option MessageFault) → opens machine now [] wrong ≡ (rest_closes now wrong, [])
unfolding opens
opens_none machine now wrong = refl

front_some : (octets : List ℕ) (found : Message × List ℕ) → first_message octets ≡ Some found → front_message octets ≡ Some (found, found.1)
front_some octets found h = ap (option_map (λ (f : Message × List ℕ). (f, f.1))) h

front_none : (octets : List ℕ) → first_message octets ≡ None → front_message octets ≡ None
front_none octets h = ap (option_map (λ (f : Message × List ℕ). (f, f.1))) h

front_shrinks : Shrinks front_message
front_shrinks octets found h = by (first_message octets) refl h
  where
    by : (o : Option (Message × List ℕ)) → first_message octets ≡ o → option_map (λ (f : Message × List ℕ). (f, f.1)) o ≡ Some found
        → length found.1 < length octets
    by None f e = absurd cc
    by (Some first) f e =
        let same : first.1 ≡ found.1 = ap (λ (o : Option ((Message × List ℕ) × List ℕ)). elim o [ None ↦ first.1 | Some x ↦ x.1 ]) e in
        subst (λ (z : List ℕ). length z < length octets) same (message_shrinks octets first f)

pub opened_first : (machine : Machine) (now : Phase) (octets : List ℕ) (found : Message × List ℕ) → first_message octets ≡ Some found
    → opened_by machine now octets ≡ going (transition_by machine now found.0) found.1 (λ next. opened_by machine next found.1)
opened_first machine now octets found h =
    ap (λ (parts : List (Message × List ℕ) × List ℕ). opens machine now parts.0 (wrong_at parts.1))
    (parts_step front_message front_shrinks octets (found, found.1) (front_some octets _ h))
    ∙ opens_step _ _ _ _ _

pub opened_rest : (machine : Machine) (now : Phase) (octets : List ℕ) → first_message octets ≡ None
    → opened_by machine now octets ≡ (rest_closes now (wrong_at octets), [])
opened_rest machine now octets h =
    ap (λ (parts : List (Message × List ℕ) × List ℕ). opens machine now parts.0 (wrong_at parts.1)) (parts_end front_message octets (front_none octets h))
    ∙ opens_none _ _ _

-- a message is taken at the front, whatever follows
pub opened_takes : (machine : Machine) (now next : Phase) (update : Option Update) (octets behind more : List ℕ)
    → step_by machine now octets ≡ takes next update behind
    → opened_by machine now (octets ++ more) ≡ (if is_established next.state then (still next, behind ++ more) else opened_by machine next (behind ++ more))
opened_takes machine now next update octets behind more h =
    let shows : Shows machine now octets (takes next update behind) = subst (Shows machine now octets) h (told machine now octets) in
    opened_first _ _ _ _ (message_stable octets more (shows.0, behind) shows.1)
    ∙ ap (λ (t : Transition). going t (behind ++ more) (λ n. opened_by machine n (behind ++ more))) shows.2

-- the octets close the session, whatever follows
pub opened_stops : (machine : Machine) (now : Phase) (why : Closed) (octets more : List ℕ) → step_by machine now octets ≡ stops why
    → opened_by machine now (octets ++ more) ≡ (closed why, [])
opened_stops machine now why octets more h = elim (subst (Shows machine now octets) h (told machine now octets)) [
  | inl w ↦
      let stays = fault_stays octets more w.0 w.1 in
      opened_rest _ _ _ (wrong_first (octets ++ more) w.0 stays)
      ∙ ap (λ (o : Option MessageFault). (rest_closes now o, [])) stays
      ∙ ap (λ (c : Closed). (closed c, [])) (sym w.2)
  | inr f ↦
      opened_first _ _ _ _ (message_stable octets more f.0 f.1)
      ∙ ap (λ (t : Transition). going t (f.0.1 ++ more) (λ n. opened_by machine n (f.0.1 ++ more))) f.2
]

-- the octets wait for more
pub opened_waits : (machine : Machine) (now : Phase) (octets : List ℕ) → step_by machine now octets ≡ waits → opened_by machine now octets ≡ (still now, [])
opened_waits machine now octets h =
    let shows : Shows machine now octets waits = subst (Shows machine now octets) h (told machine now octets) in
    opened_rest _ _ _ shows.0 ∙ ap (λ (o : Option MessageFault). (rest_closes now o, [])) shows.1
