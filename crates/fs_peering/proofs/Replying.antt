-- What an open receiving end has said: nothing, or the answer to the OPEN and then KEEPALIVEs.
use Rattle.fs_peering.proofs.Words.{Closed, Config, Established, Handed, Machine, Message, MessageFault, Peer, Phase, Point, State, Times, Update}
use Rattle.fs_peering.proofs.Words.{WaitKeep, WaitOpen, message_text, receiver, reply_to, runs, runs_by, shuts}
use Rattle.fs_peering.proofs.Words.{taken_in, transition_by, ◌≡◌, ◌⊎◌, inl, inr, ℕ, zero, suc, ◌+◌, arith, List, [], ◌∷◌, ◌++◌, true}
use Rattle.fs_peering.proofs.Words.{false, Option, Some, None, Result, Ok, Err, refl, ap, sym, ◌∙◌, subst, append_assoc, append-nil, none-some, ran}
use Rattle.fs_peering.proofs.Words.{runs_none, runs_step, Pieces, course_of, after, hears, course}
use Rattle.fs_peering.proofs.{Courses.{keepalives, Steps, by_pieces, lived, course_more}, Phases.{GoesTo, awaits_open, goes_on}}
use Rattle.fs_speaker.specs.declared.State.TheVariants.{Closed as IsClosed}

abbrev Made : Type 0
Made = Result (Phase × Option Update) Closed

-- so many, and then more
pub keepalives_more : (n m : ℕ) → keepalives n ++ keepalives m ≡ keepalives (m + n)
keepalives_more n zero = let none : 0 + n ≡ n = omega arith in append-nil (keepalives n) ∙ ap keepalives (sym none)
keepalives_more n (suc m) =
    let one : suc m + n ≡ suc (m + n) = omega arith in
    sym (append_assoc (keepalives n) (keepalives m) (message_text 4 []))
    ∙ ap (λ (z : List ℕ). z ++ message_text 4 []) (keepalives_more n m) ∙ ap keepalives (sym one)

-- the last of them is as good as the first
pub keepalives_front : (n : ℕ) → keepalives (suc n) ≡ message_text 4 [] ++ keepalives n
keepalives_front zero = sym (append-nil (message_text 4 []))
keepalives_front (suc n) =
    ap (λ (z : List ℕ). z ++ message_text 4 []) (keepalives_front n) ∙ append_assoc (message_text 4 []) (keepalives n) (message_text 4 [])

module _ (config : Config) (whose : Peer) where
  abbrev machine : Machine
  machine = receiver config whose

  past_none : (state : State) → awaits_open state ≡ false → reply_to config state ≡ []
  past_none WaitOpen e = absurd cc
  past_none WaitKeep e = refl
  past_none Established e = refl
  past_none IsClosed e = refl

  -- an end that stays open answers the first message that it takes, if it takes one
  abbrev Answered : Phase → Handed → Type 0
  Answered now made =
      made.point.closed ≡ None
      → ((made.text ≡ []) × (made.point.phase ≡ now)) ⊎ ((made.text ≡ reply_to config now.state) × (awaits_open made.point.phase.state ≡ false))

  shut_answered : (now at : Phase) (times : Times) (why : Closed) → Answered now (shuts machine at times why)
  shut_answered now at times why e = absurd (none-some why (sym e))

  runs_answered : (messages : List Message) (now : Phase) (times : Times) (waiting : List ℕ) (wrong : Option MessageFault)
      → Answered now (runs machine now times messages waiting wrong)
  runs_answered [] now times waiting None = subst (Answered now) (sym (runs_none machine now times waiting None)) (λ e. inl (refl, refl))
  runs_answered [] now times waiting (Some fault) =
      subst (Answered now) (sym (runs_none machine now times waiting (Some fault))) (shut_answered _ _ times _)
  runs_answered (message ∷ messages) now times waiting wrong =
      subst (Answered now) (sym (runs_step machine now times message messages waiting wrong))
      (by (λ next. runs_answered _ _ _ _ _) (transition_by machine now message) (goes_on machine now message))
    where
      by : ((next : Phase) → Answered next (runs machine next (taken_in now.state times) messages waiting wrong)) → (made : Made) → GoesTo now made
          → Answered now (ran machine now times made (λ next. runs machine next (taken_in now.state times) messages waiting wrong))
      by rest (Ok next) k e = at (rest next.0 e)
        where
          later : Handed
          later = runs machine next.0 (taken_in now.state times) messages waiting wrong

          silent : later.text ≡ [] → reply_to config now.state ++ later.text ≡ reply_to config now.state
          silent t = ap (λ (z : List ℕ). reply_to config now.state ++ z) t ∙ append-nil (reply_to config now.state)

          at : ((later.text ≡ []) × (later.point.phase ≡ next.0))
              ⊎ ((later.text ≡ reply_to config next.0.state) × (awaits_open later.point.phase.state ≡ false))
              → ((reply_to config now.state ++ later.text ≡ []) × (later.point.phase ≡ now))
              ⊎ ((reply_to config now.state ++ later.text ≡ reply_to config now.state) × (awaits_open later.point.phase.state ≡ false))
          at (inl w) = inr (silent w.0, ap (λ (p : Phase). awaits_open p.state) w.1 ∙ k.0)
          at (inr m) = inr (silent (m.0 ∙ past_none next.0.state k.0), m.1)
      by rest (Err why) k e = shut_answered _ _ times _ e

  answered : (now : Phase) (times : Times) (octets : List ℕ) → Answered now (runs_by machine now times octets)
  answered now times octets = runs_answered _ _ _ _ _

  -- it waits for the OPEN and has said nothing
  record Silent (made : Handed) : Type 0 where
    text_is : made.text ≡ []
    state_is : made.point.phase.state ≡ WaitOpen
    hold_is : made.point.phase.hold ≡ 0

  -- or it has answered it
  record Replied (made : Handed) : Type 0 where
    count : ℕ
    text_is : made.text ≡ reply_to config WaitOpen ++ keepalives count
    past : awaits_open made.point.phase.state ≡ false

  abbrev Says : Handed → Type 0
  Says made = made.point.closed ≡ None → Silent made ⊎ Replied made

  module _ (now : Handed) (event : ℕ × List ℕ) (s : Steps machine event now.point) where
    abbrev later : Handed
    later = runs_by machine now.point.phase s.times (now.point.waiting ++ event.1)

    abbrev both : Handed
    both = after now (hears machine event now.point)

    said : (front back : List ℕ) → now.text ≡ front → keepalives s.kept ++ later.text ≡ back → both.text ≡ front ++ back
    said front back e f = ap (λ (z : List ℕ). z ++ (hears machine event now.point).text) e ∙ ap (λ (z : List ℕ). front ++ z) (s.text_is ∙ f)

    from_silent : Silent now
        → ((later.text ≡ []) × (later.point.phase ≡ now.point.phase))
        ⊎ ((later.text ≡ reply_to config now.point.phase.state) × (awaits_open later.point.phase.state ≡ false))
        → Silent both ⊎ Replied both
    from_silent n (inl w) = inl (record {
      text_is = said _ _ n.text_is (ap (λ (k : ℕ). keepalives k ++ later.text) (s.untimed n.hold_is) ∙ w.0);
      state_is = ap (λ (p : Point). p.phase.state) s.point_is ∙ ap (λ (p : Phase). p.state) w.1 ∙ n.state_is;
      hold_is = ap (λ (p : Point). p.phase.hold) s.point_is ∙ ap (λ (p : Phase). p.hold) w.1 ∙ n.hold_is;
    })
    from_silent n (inr m) = inr (record {
      count = 0;
      text_is =
          said _ _ n.text_is
          (ap (λ (k : ℕ). keepalives k ++ later.text) (s.untimed n.hold_is) ∙ m.0 ∙ ap (reply_to config) n.state_is)
          ∙ sym (append-nil (reply_to config WaitOpen));
      past = ap (λ (p : Point). awaits_open p.phase.state) s.point_is ∙ m.1;
    })

    from_replied : Replied now
        → ((later.text ≡ []) × (later.point.phase ≡ now.point.phase))
        ⊎ ((later.text ≡ reply_to config now.point.phase.state) × (awaits_open later.point.phase.state ≡ false))
        → Replied both
    from_replied r a = by a
      where
        more : later.text ≡ [] → awaits_open later.point.phase.state ≡ false → Replied both
        more t e = record {
          count = s.kept + r.count;
          text_is =
              said _ _ r.text_is (ap (λ (z : List ℕ). keepalives s.kept ++ z) t ∙ append-nil (keepalives s.kept))
              ∙ append_assoc (reply_to config WaitOpen) (keepalives r.count) (keepalives s.kept)
              ∙ ap (λ (z : List ℕ). reply_to config WaitOpen ++ z) (keepalives_more _ s.kept);
          past = ap (λ (p : Point). awaits_open p.phase.state) s.point_is ∙ e;
        }

        by : ((later.text ≡ []) × (later.point.phase ≡ now.point.phase))
            ⊎ ((later.text ≡ reply_to config now.point.phase.state) × (awaits_open later.point.phase.state ≡ false))
            → Replied both
        by (inl w) = more w.0 (ap (λ (p : Phase). awaits_open p.state) w.1 ∙ r.past)
        by (inr m) = more (m.0 ∙ past_none _ r.past) m.1

    says_both : (Silent now ⊎ Replied now) → both.point.closed ≡ None → Silent both ⊎ Replied both
    says_both a e = by a
      where
        alive : later.point.closed ≡ None
        alive = sym (ap (λ (p : Point). p.closed) s.point_is) ∙ e

        by : (Silent now ⊎ Replied now) → Silent both ⊎ Replied both
        by (inl n) = from_silent n (answered _ _ _ alive)
        by (inr r) = inr (from_replied r (answered _ _ _ alive))

  abbrev SaysAll : Pieces → Type 0
  SaysAll heard = Says (course machine heard)

  says_more : (heard : Pieces) (event : ℕ × List ℕ) → SaysAll heard → SaysAll (heard ++ event ∷ [])
  says_more heard event a =
      subst Says (sym (course_more machine heard event)) (λ e.
      let before = lived _ event _ e in says_both _ _ before.1 (a before.0) e)

  none_begun : (octet : ℕ) (octets : List ℕ) → [] ≡ octet ∷ octets → ⊥
  none_begun octet octets e = cc

  -- an open receiving end that has said nothing waits for the OPEN
  pub waits_silent : (heard : Pieces) → (course_of config whose heard).point.closed ≡ None → (course_of config whose heard).text ≡ []
      → awaits_open (course_of config whose heard).point.phase.state ≡ true
  waits_silent heard alive none = by (by_pieces _ says_more (λ e. inl (record { text_is = refl; state_is = refl; hold_is = refl })) heard alive)
    where
      by : Silent (course machine heard) ⊎ Replied (course machine heard) → awaits_open (course_of config whose heard).point.phase.state ≡ true
      by (inl n) = ap awaits_open n.state_is
      by (inr r) = absurd (none_begun _ _ (sym none ∙ r.text_is))

  -- An open receiving end has said nothing, or our OPEN and KEEPALIVEs.
  pub replies : (heard : Pieces) → (course_of config whose heard).point.closed ≡ None
      → ((course_of config whose heard).text ≡ []) ⊎ ((n : ℕ) × ((course_of config whose heard).text ≡ reply_to config WaitOpen ++ keepalives n))
  replies heard alive = by (by_pieces _ says_more (λ e. inl (record { text_is = refl; state_is = refl; hold_is = refl })) heard alive)
    where
      by : Silent (course machine heard) ⊎ Replied (course machine heard)
          → ((course_of config whose heard).text ≡ []) ⊎ ((n : ℕ) × ((course_of config whose heard).text ≡ reply_to config WaitOpen ++ keepalives n))
      by (inl n) = inl n.text_is
      by (inr r) = inr (r.count, r.text_is)
