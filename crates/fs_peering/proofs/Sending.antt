-- An announcing end that hears a piece at a moment.
use Rattle.fs_peering.proofs.Words.{Announcing, Closed, Config, Established, Expires, Fault, Handed, IsAt, Lined, Machine, Peer, Phase, Point}
use Rattle.fs_peering.proofs.Words.{SaysText, Sending, Sent, StandsAt, StartsWith, State, WaitKeep, WaitOpen, at_moment, first_text, hand}
use Rattle.fs_peering.proofs.Words.{has_started, is_established, machine_in, message_text, needs_of, next_text, notice_text, one_sent, open_sent}
use Rattle.fs_peering.proofs.Words.{runs_by, text_sent, tick_at, ticked, with_line, ◌≡◌, ◌⊎◌, inl, inr, ℕ, suc, zero, ◌+◌, List, [], ◌∷◌, ◌++◌, drop}
use Rattle.fs_peering.proofs.Words.{arith, take, Bool, true, false, if◌then◌else◌, Option, Some, None, refl, ap, sym, ◌∙◌, subst, append_assoc}
use Rattle.fs_peering.proofs.Words.{append-nil, flat_map-append, none-some, none_there, message_stable, closed_hand, HasHeard, SaysTo, before_all}
use Rattle.fs_peering.proofs.Words.{is_settled, opening_of, stops_at, Hears, Pieces, Says, Stance, octets_in, Began, CountsTo, SaysOn, SaysUpTo}
use Rattle.fs_peering.proofs.Words.{Speaks, TookOpen, part_text, rule_in, rules_in, text_in, without_rules, woven, course, begins_with}
use Rattle.fs_peering.proofs.{Ahead.{next_of}, Counting.{counts_piece, counts_same, counts_text}}
use Rattle.fs_peering.proofs.Hearing.{HeardSo, begins_early, hears_early, next_early, says_same}
use Rattle.fs_peering.proofs.Answering.{Opens, opens_by}
use Rattle.fs_peering.proofs.Phases.{Goes, awaits_open, quiet_by, unawaited, Quiet as IsQuiet}
use Rattle.fs_peering.proofs.Courses.{Steps, but_last, course_more, keepalives, octets_more, steps, woke_is}
use Rattle.fs_peering.specs.Teller.{is_over}
use Rattle.std.proofs.lemmas.Bool.{true≢false as never}
use Rattle.fs_speaker.specs.declared.State.TheVariants.{Closed as IsClosed}

-- the parts that are said behind others
woven_more : (text : Sent → List ℕ) (parts more : List (Option Sent)) → woven text (parts ++ more) ≡ woven text parts ++ woven text more
woven_more text parts more = flat_map-append (part_text text) parts more

rules_more : (parts more : List (Option Sent)) → rules_in (parts ++ more) ≡ rules_in parts ++ rules_in more
rules_more parts more = flat_map-append rule_in parts more

-- what an end has said past its OPEN
abbrev pub Past : Announcing → Bool → Pieces → List (Option Sent) → Type 0
Past end four heard parts =
    ((more : List (Option Sent)) × (parts ≡ None ∷ more)) × ((four ≡ end.line.phase.four) × TookOpen end.config four (octets_in heard))

pub past_of : (state : State) (end : Announcing) (four : Bool) (heard : Pieces) (parts : List (Option Sent)) → awaits_open state ≡ false
    → Began state end four heard parts → Past end four heard parts
past_of WaitOpen end four heard parts e b = absurd (never e)
past_of WaitKeep end four heard parts e b = b
past_of Established end four heard parts e b = b
past_of IsClosed end four heard parts e b = b

of_past : (state : State) (end : Announcing) (four : Bool) (heard : Pieces) (parts : List (Option Sent)) → awaits_open state ≡ false
    → Past end four heard parts → Began state end four heard parts
of_past WaitOpen end four heard parts e b = absurd (never e)
of_past WaitKeep end four heard parts e b = b
of_past Established end four heard parts e b = b
of_past IsClosed end four heard parts e b = b

took_more : (config : Config) (four : Bool) (octets piece : List ℕ) → TookOpen config four octets → TookOpen config four (octets ++ piece)
took_more config four octets piece t = record {
  message = t.message;
  behind = t.behind ++ piece;
  first = message_stable octets piece (t.message, t.behind) t.first;
  kind_is = t.kind_is;
  found = t.found;
  read = t.read;
  four_is = t.four_is;
}

-- so many KEEPALIVEs among what is said
abbrev keeps_of : ℕ → List (Option Sent)
keeps_of zero = []
keeps_of (suc n) = keeps_of n ++ None ∷ []

keeps_text : (text : Sent → List ℕ) (n : ℕ) → woven text (keeps_of n) ≡ keepalives n
keeps_text text zero = refl
keeps_text text (suc n) =
    woven_more text (keeps_of n) (None ∷ []) ∙ ap (λ (z : List ℕ). z ++ (message_text 4 [] ++ [])) (keeps_text text n)
    ∙ ap (λ (z : List ℕ). keepalives n ++ z) (append-nil (message_text 4 []))

keeps_rules : (n : ℕ) → rules_in (keeps_of n) ≡ []
keeps_rules zero = refl
keeps_rules (suc n) = rules_more (keeps_of n) (None ∷ []) ∙ ap (λ (z : List Sent). z ++ []) (keeps_rules n)

module _ (a : Announcing) (line : Lined) (heard : Pieces) (said : List ℕ) (moment : ℕ) (piece o0 o2 : List ℕ) (s : Speaks a true heard said)
    (alive : (course (machine_in a) heard).point.closed ≡ None) where
  abbrev machine : Machine
  machine = machine_in a

  abbrev here : Point
  here = (course machine heard).point

  abbrev woke : Handed
  woke = ticked moment here

  abbrev made : Handed
  made = hand machine moment woke.point piece

  abbrev all : Pieces
  all = heard ++ (moment, piece) ∷ []

  abbrev end : Announcing
  end = with_line a line

  module _ (stands : StandsAt machine line made.point) (grows : o2 ≡ o0 ++ (woke.text ++ made.text)) where
    abbrev Answer : Type 0
    Answer = (more : List ℕ) × ((o2 ≡ o0 ++ more) × Speaks end true all (said ++ more))

    at_all : StandsAt machine line (course machine all).point
    at_all = subst (λ (h : Handed). StandsAt machine line h.point) (sym (course_more machine heard (moment, piece))) stands

    open_a : a.line.closed ≡ None
    open_a = s.at.closed_is ∙ alive

    at_here : IsAt machine a.line here
    at_here = s.at.open_is alive

    -- what it said without its OPEN and the UPDATEs
    kept_all : (keeps : List (Option Sent)) (more ending : List ℕ) → woke.text ++ made.text ≡ more → more ≡ without_rules keeps ++ ending
        → without_rules (s.parts ++ keeps) ++ ending ≡ (course machine all).text
    kept_all keeps more ending t e =
        ap (λ (z : List ℕ). z ++ ending) (woven_more (λ sent. []) s.parts keeps)
        ∙ append_assoc (without_rules s.parts) (without_rules keeps) ending
        ∙ ap (λ (z : List ℕ). without_rules s.parts ++ z) (sym e ∙ sym t)
        ∙ ap (λ (z : List ℕ). z ++ (woke.text ++ made.text))
        (sym (append-nil (without_rules s.parts)) ∙ ap (λ (z : List ℕ). without_rules s.parts ++ z) (sym (s.unended open_a)) ∙ s.kept)
        ∙ sym (ap (λ (h : Handed). h.text) (course_more machine heard (moment, piece)))

    lived_all : (earlier : Pieces) (last : ℕ × List ℕ) → all ≡ earlier ++ last ∷ [] → (course machine earlier).point.closed ≡ None
    lived_all earlier last e = subst (λ (z : Pieces). (course machine z).point.closed ≡ None) (but_last _ _ _ _ e) alive

    -- the end closes: nothing is told of it but what it said
    shut : (why : Closed) (more ending : List ℕ) (keeps : List (Option Sent)) → made.point.closed ≡ Some why → woke.text ++ made.text ≡ more
        → rules_in keeps ≡ []
        → more ≡ without_rules keeps ++ ending → said ++ more ≡ opening_of a ++ (woven (text_in a s.four) (s.parts ++ keeps) ++ ending) → Answer
    shut why more ending keeps c t n k text = (
      more,
      (
        grows ∙ ap (λ (z : List ℕ). o0 ++ z) t,
        record {
          started_is = s.started_is;
          at = at_all;
          four = s.four;
          parts = s.parts ++ keeps;
          rules_are = rules_more s.parts keeps ∙ ap (λ (z : List Sent). rules_in s.parts ++ z) n ∙ append-nil (rules_in s.parts) ∙ s.rules_are;
          ending = ending;
          said_is = text;
          kept = kept_all _ _ _ t k;
          lived = lived_all;
          unended = λ e. absurd (none-some why (sym e ∙ stands.closed_is ∙ c));
          began = λ e. absurd (none-some why (sym e ∙ stands.closed_is ∙ c));
          unstarted = λ e. absurd (never e);
        },
      ),
    )

    -- what was said, with so much more
    said_more : (keeps : List (Option Sent)) (ending : List ℕ) → s.ending ≡ []
        → said ++ (woven (text_in a s.four) keeps ++ ending) ≡ opening_of a ++ (woven (text_in a s.four) (s.parts ++ keeps) ++ ending)
    said_more keeps ending none =
        ap (λ (z : List ℕ). z ++ (woven (text_in a s.four) keeps ++ ending))
        (s.said_is ∙ ap (λ (z : List ℕ). opening_of a ++ (woven (text_in a s.four) s.parts ++ z)) none
        ∙ ap (λ (z : List ℕ). opening_of a ++ z) (append-nil (woven (text_in a s.four) s.parts)))
        ∙ append_assoc (opening_of a) (woven (text_in a s.four) s.parts) (woven (text_in a s.four) keeps ++ ending)
        ∙ ap (λ (z : List ℕ). opening_of a ++ z)
        (sym (append_assoc (woven (text_in a s.four) s.parts) (woven (text_in a s.four) keeps) ending)
        ∙ ap (λ (z : List ℕ). z ++ ending) (sym (woven_more (text_in a s.four) s.parts keeps)))

    expires : tick_at here.phase.hold (at_moment moment here.times) ≡ Expires → Answer
    expires due =
        let late = woke_is machine (moment, piece) here _ alive due in
        let closed_is : woke.point.closed ≡ Some (Fault 4 0) = ap (λ (h : Handed). h.point.closed) late in
        let there = closed_hand machine moment woke.point piece (Fault 4 0) closed_is in
        shut _ _ (notice_text 4 0) [] (ap (λ (h : Handed). h.point.closed) there ∙ closed_is)
        (ap (λ (h : Handed). h.text ++ made.text) late ∙ ap (λ (h : Handed). notice_text 4 0 ++ h.text) there ∙ append-nil (notice_text 4 0)) refl refl
        (said_more _ _ (s.unended open_a))

    -- it goes on, with these parts more
    goes_on : (four : Bool) (keeps : List (Option Sent)) → ((text : Sent → List ℕ) → woke.text ++ made.text ≡ woven text keeps) → rules_in keeps ≡ []
        → woven (text_in a s.four) s.parts ≡ woven (text_in a four) s.parts
        → (line.closed ≡ None → Began line.phase.state end four all (s.parts ++ keeps)) → Answer
    goes_on four keeps t n same began = (
      woven (text_in a four) keeps,
      (
        grows ∙ ap (λ (z : List ℕ). o0 ++ z) (t (text_in a four)),
        record {
          started_is = s.started_is;
          at = at_all;
          four = four;
          parts = s.parts ++ keeps;
          rules_are = rules_more s.parts keeps ∙ ap (λ (z : List Sent). rules_in s.parts ++ z) n ∙ append-nil (rules_in s.parts) ∙ s.rules_are;
          ending = [];
          said_is =
              ap (λ (z : List ℕ). z ++ woven (text_in a four) keeps)
              (s.said_is ∙ ap (λ (z : List ℕ). opening_of a ++ (woven (text_in a s.four) s.parts ++ z)) (s.unended open_a)
              ∙ ap (λ (z : List ℕ). opening_of a ++ z) (append-nil (woven (text_in a s.four) s.parts) ∙ same))
              ∙ append_assoc (opening_of a) (woven (text_in a four) s.parts) (woven (text_in a four) keeps)
              ∙ ap (λ (z : List ℕ). opening_of a ++ z) (sym (woven_more (text_in a four) s.parts keeps)
              ∙ sym (append-nil (woven (text_in a four) (s.parts ++ keeps))));
          kept = kept_all _ _ _ (t (λ sent. [])) (sym (append-nil (without_rules keeps)));
          lived = lived_all;
          unended = λ e. refl;
          began = began;
          unstarted = λ e. absurd (never e);
        },
      ),
    )

    module _ (k : Steps machine (moment, piece) here) where
      abbrev later : Handed
      later = runs_by machine here.phase k.times (here.waiting ++ piece)

      line_phase : line.closed ≡ None → line.phase ≡ later.point.phase
      line_phase e = (stands.open_is (sym stands.closed_is ∙ e)).phase_is ∙ ap (λ (p : Point). p.phase) k.point_is

      later_open : line.closed ≡ None → later.point.closed ≡ None
      later_open e = sym (ap (λ (p : Point). p.closed) k.point_is) ∙ sym stands.closed_is ∙ e

      -- past its OPEN
      past : awaits_open here.phase.state ≡ false → Answer
      past e =
          let quiet : IsQuiet a.config (needs_of a.sending.rules) here.phase later =
          quiet_by a.config (needs_of a.sending.rules) _ _ _ e in
          let before : Past a s.four heard s.parts =
          past_of _ _ _ _ _ (ap (λ (p : Phase). awaits_open p.state) at_here.phase_is ∙ e) (s.began open_a) in
          goes_on _ _ (λ text. k.text_is ∙ ap (λ (z : List ℕ). keepalives k.kept ++ z) quiet.text_is
          ∙ append-nil (keepalives k.kept) ∙ sym (keeps_text text k.kept)) (keeps_rules k.kept) refl (λ f.
          let g : Goes here.phase later.point.phase = quiet.goes (later_open f) in
          of_past _ _ _ _ _ (ap (λ (p : Phase). awaits_open p.state) (line_phase f) ∙ g.past) (
            (before.0.0 ++ keeps_of k.kept, ap (λ (z : List (Option Sent)). z ++ keeps_of k.kept) before.0.1),
            (
              before.1.0 ∙ ap (λ (p : Phase). p.four) at_here.phase_is ∙ sym g.four_is ∙ sym (ap (λ (p : Phase). p.four) (line_phase f)),
              subst (TookOpen a.config s.four) (sym (octets_more heard moment piece)) (took_more _ _ _ piece before.1.1),
            ),
          ))

      -- before it
      opening : here.phase.state ≡ WaitOpen → Answer
      opening e = by (opens_by a.config (needs_of a.sending.rules) _ _ _ e)
        where
          before : (s.parts ≡ []) × ((a.appended ≡ 0) × ((a.line.phase.hold ≡ 0) × (here.waiting ≡ octets_in heard)))
          before = subst (λ (state : State). Began state a s.four heard s.parts) (ap (λ (p : Phase). p.state) at_here.phase_is ∙ e) (s.began open_a)

          octets_are : here.waiting ++ piece ≡ octets_in all
          octets_are = ap (λ (z : List ℕ). z ++ piece) before.1.1.1 ∙ sym (octets_more heard _ _)

          no_parts : (four : Bool) → woven (text_in a s.four) s.parts ≡ woven (text_in a four) s.parts
          no_parts four = ap (woven (text_in a s.four)) before.0 ∙ sym (ap (woven (text_in a four)) before.0)

          text_so : woke.text ++ made.text ≡ later.text
          text_so = k.text_is ∙ ap (λ (n : ℕ). keepalives n ++ later.text) (k.untimed (sym (ap (λ (p : Phase). p.hold) at_here.phase_is) ∙ before.1.1.0))

          by : Opens a.config (needs_of a.sending.rules) (here.waiting ++ piece) here.phase later → Answer
          by (inl w) =
              goes_on _ _ (λ text. text_so ∙ w.text_is) refl refl (λ f.
              subst (λ (state : State). Began state end s.four all (s.parts ++ []))
              (sym (ap (λ (p : Phase). p.state) (line_phase f) ∙ ap (λ (p : Phase). p.state) w.phase_is ∙ e)) (
                append-nil s.parts ∙ before.0,
                (
                  before.1.0,
                  (
                    ap (λ (p : Phase). p.hold) (line_phase f) ∙ ap (λ (p : Phase). p.hold) w.phase_is
                        ∙ sym (ap (λ (p : Phase). p.hold) at_here.phase_is) ∙ before.1.1.0,
                    ap (λ (h : Handed). h.point.waiting) (course_more _ heard _) ∙ ap (λ (p : Point). p.waiting) k.point_is
                        ∙ w.waiting_is ∙ octets_are,
                  ),
                ),
              ))
          by (inr (inl t)) =
              goes_on _ _ (λ text. text_so ∙ t.text_is ∙ sym (append-nil (message_text 4 []))) refl (no_parts _) (λ f.
              of_past _ _ _ _ _ (ap (λ (p : Phase). awaits_open p.state) (line_phase f)
              ∙ t.past (later_open f)) (
                ([], ap (λ (z : List (Option Sent)). z ++ None ∷ []) before.0),
                (sym (ap (λ (p : Phase). p.four) (line_phase f)), subst (TookOpen a.config later.point.phase.four) octets_are (t.took (later_open f))),
              ))
          by (inr (inr x)) =
              shut _ _ _ [] (ap (λ (p : Point). p.closed) k.point_is ∙ x.closed_is) (text_so ∙ x.text_is) refl refl
              (said_more _ _ (s.unended open_a))

      either_way : Answer
      either_way = at here.phase.state refl
        where
          at : (state : State) → here.phase.state ≡ state → Answer
          at WaitOpen e = opening e
          at WaitKeep e = past (ap awaits_open e)
          at Established e = past (ap awaits_open e)
          at IsClosed e = past (ap awaits_open e)

    is_open : Answer
    is_open = by (steps _ _ _ alive)
      where
        by : Steps machine (moment, piece) here ⊎ (tick_at here.phase.hold (at_moment moment here.times) ≡ Expires) → Answer
        by (inl k) = either_way k
        by (inr due) = expires due

    pub spoke : (more : List ℕ) × ((o2 ≡ o0 ++ more) × Speaks end true all (said ++ more))
    spoke = is_open

-- the OPEN
pub begins_from : (a new : Announcing) (started : Bool) (out out' : List ℕ) → started ≡ false → StartsWith a.started a new out out'
    → Says (Speaks a started) (Speaks new true) out out'
begins_from a new started out out' e starts heard said s =
    let now : a.started ≡ false = s.started_is ∙ e in
    let begun : StartsWith false a new out out' = subst (λ (b : Bool). StartsWith b a new out out') now starts in
    let before = s.unstarted e in
    let opening : List ℕ = open_sent a.config a.peer a.sending in
    let none : said ≡ [] =
    s.said_is ∙ ap (λ (b : Bool). (if b then opening else []) ++ (woven (text_in a s.four) s.parts ++ s.ending)) now
    ∙ ap (λ (z : List (Option Sent)). woven (text_in a s.four) z ++ s.ending) before.0 ∙ before.1 in (
      opening,
      (
        begun.1,
        subst (λ (n : Announcing). Speaks n true heard (said ++ opening)) (sym begun.0) (record {
          started_is = refl;
          at = s.at;
          four = s.four;
          parts = [];
          rules_are = sym (ap rules_in before.0) ∙ s.rules_are;
          ending = [];
          said_is = ap (λ (z : List ℕ). z ++ opening) none ∙ sym (append-nil opening);
          kept = sym (ap (λ (z : List (Option Sent)). without_rules z ++ s.ending) before.0 ∙ before.1) ∙ s.kept;
          lived = s.lived;
          unended = λ f. refl;
          began = λ f. began_same a.line.phase.state (subst (Began a.line.phase.state a s.four heard) before.0 (s.began f));
          unstarted = λ f. absurd (never f);
        }),
      ),
    )
  where
    began_same : (state : State) → Began state a s.four heard [] → Began state (has_started a) s.four heard []
    began_same WaitOpen b = b
    began_same WaitKeep b = b
    began_same Established b = b
    began_same IsClosed b = b

-- the UPDATE of the next rule
pub says_next : (a new : Announcing) (started had : Bool) (out out' : List ℕ) → started ≡ true → a.line.closed ≡ None
    → SaysText (next_text a) had a new out out'
    → Says (Speaks a started) (Speaks new started) out out'
says_next a new started had out out' go alive says heard said s = by (is_established a.line.phase.state) refl
  where
    texts : Option (List ℕ)
    texts = first_text (text_sent a.config a.peer a.line.phase.four a.sending) (drop a.appended a.sending.rules)

    next_is : (b : Bool) → is_established a.line.phase.state ≡ b → next_text a ≡ (if b then texts else None)
    next_is b e =
        ap (λ (c : Option Closed). if is_established (elim c [ Some why ↦ IsClosed | None ↦ a.line.phase.state ]) then texts else None) alive
        ∙ ap (λ (x : Bool). if x then texts else None) e

    same : new ≡ a → out' ≡ out → (more : List ℕ) × ((out' ≡ out ++ more) × Speaks new started heard (said ++ more))
    same e f = (
      [],
      (
        f ∙ sym (append-nil out),
        subst (Speaks new started heard) (sym (append-nil said)) (subst (λ (n : Announcing). Speaks n started heard said) (sym e) s),
      ),
    )

    sent_one : (text : List ℕ) → is_established a.line.phase.state ≡ true → texts ≡ Some text → new ≡ one_sent a → out' ≡ out ++ text
        → (more : List ℕ) × ((out' ≡ out ++ more) × Speaks new started heard (said ++ more))
    sent_one text up t e f = (
      text,
      (
        f,
        subst (λ (n : Announcing). Speaks n started heard (said ++ text)) (sym e) (record {
          started_is = s.started_is;
          at = s.at;
          four = s.four;
          parts = s.parts ++ Some sent ∷ [];
          rules_are = rules_more s.parts _ ∙ ap (λ (z : List Sent). z ++ sent ∷ []) s.rules_are ∙ sym found.1.1;
          ending = [];
          said_is =
              ap (λ (z : List ℕ). z ++ text)
              (s.said_is ∙ ap (λ (z : List ℕ). opening_of a ++ (woven (text_in a s.four) s.parts ++ z)) (s.unended alive)
              ∙ ap (λ (z : List ℕ). opening_of a ++ z) (append-nil (woven (text_in a s.four) s.parts)))
              ∙ append_assoc (opening_of a) (woven (text_in a s.four) s.parts) text
              ∙ ap (λ (z : List ℕ). opening_of a ++ (woven (text_in a s.four) s.parts ++ z))
              (found.1.0 ∙ ap (λ (b : Bool). text_in a b sent) (sym past.1.0) ∙ sym (append-nil (text_in a s.four sent)))
              ∙ ap (λ (z : List ℕ). opening_of a ++ z) (sym (woven_more _ s.parts _)
              ∙ sym (append-nil (woven (text_in a s.four) (s.parts ++ Some sent ∷ []))));
          kept =
              append-nil (without_rules (s.parts ++ Some sent ∷ [])) ∙ woven_more _ s.parts _
              ∙ ap (λ (z : List ℕ). without_rules s.parts ++ z) (sym (s.unended alive)) ∙ s.kept;
          lived = s.lived;
          unended = λ g. refl;
          began = λ g. of_past _ _ _ _ _ waits_not
              ((past.0.0 ++ Some sent ∷ [], ap (λ (z : List (Option Sent)). z ++ Some sent ∷ []) past.0.1), past.1);
          unstarted = λ g. absurd (never (sym go ∙ g));
        }),
      ),
    )
      where
        found : (sent : Sent) × ((text ≡ text_sent a.config a.peer a.line.phase.four a.sending sent)
            × (take (a.appended + 1) a.sending.rules ≡ take a.appended a.sending.rules ++ sent ∷ []))
        found =
            let one : a.appended + 1 ≡ suc a.appended = omega arith in
            let said : (sent : Sent) × ((text ≡ text_sent a.config a.peer a.line.phase.four a.sending sent)
            × (take (suc a.appended) a.sending.rules ≡ take a.appended a.sending.rules ++ sent ∷ [])) =
            next_of _ _ _ _ t in
            (said.0, (said.1.0, ap (λ (n : ℕ). take n a.sending.rules) one ∙ said.1.1))

        sent : Sent
        sent = found.0

        waits_not : awaits_open a.line.phase.state ≡ false
        waits_not = unawaited _ up

        past : Past a s.four heard s.parts
        past = past_of _ _ _ _ _ waits_not (s.began alive)

    by_text : (o : Option (List ℕ)) → is_established a.line.phase.state ≡ true → texts ≡ o → SaysText o had a new out out'
        → (more : List ℕ) × ((out' ≡ out ++ more) × Speaks new started heard (said ++ more))
    by_text None up t q = same q.1 q.2
    by_text (Some text) up t q = sent_one _ up t q.1 q.2

    by : (b : Bool) → is_established a.line.phase.state ≡ b → (more : List ℕ) × ((out' ≡ out ++ more) × Speaks new started heard (said ++ more))
    by false e = let q = subst (λ (o : Option (List ℕ)). SaysText o had a new out out') (next_is _ e) says in same q.1 q.2
    by true e = by_text _ e refl (subst (λ (o : Option (List ℕ)). SaysText o had a new out out') (next_is _ e) says)

-- an open end hears a piece at a moment
hears_piece : (b w c : Announcing) (moment needed : ℕ) (piece o1 o2 o3 : List ℕ) → b.line.closed ≡ None → HeardSo true b w c moment needed piece o1 o2 o3
    → Hears (Speaks b true) (Speaks c true) moment piece o1 o3
hears_piece b w c moment needed piece o1 o2 o3 alive call heard said s =
    subst (λ (n : Announcing). (more : List ℕ) × ((o3 ≡ o1 ++ more) × Speaks n true (heard ++ (moment, piece) ∷ []) (said ++ more)))
    (sym (call.took.0 ∙ ap (λ (n : Announcing). with_line n c.line) call.woke.0))
    (spoke _ _ _ _ moment piece _ _ s (sym s.at.closed_is ∙ alive) (made.1 refl)
    (made.0 ∙ ap (λ (z : List ℕ). z ++ (hand (machine_in b) moment woke.point piece).text) ticked_so.1
    ∙ append_assoc o1 woke.text (hand (machine_in b) moment woke.point piece).text))
  where
    woke : Handed
    woke = ticked moment (course (machine_in b) heard).point

    ticked_so : StandsAt (machine_in b) w.line woke.point × (o2 ≡ o1 ++ woke.text)
    ticked_so = call.ticks (course (machine_in b) heard).point s.at

    made : (o3 ≡ o2 ++ (hand (machine_in b) moment woke.point piece).text)
        × (stops_at true c.line ≡ false → StandsAt (machine_in b) c.line (hand (machine_in b) moment woke.point piece).point)
    made = (subst (λ (m : Machine). SaysTo true m moment w.line c.line piece o2 o3) (ap machine_in call.woke.0) call.says) woke.point ticked_so.0

-- once the OPEN was said
begins_hears : (s0 s1 s2 : Stance) (moment : ℕ) (piece o0 o1 o2 : List ℕ) → Says s0 s1 o0 o1 → Hears s1 s2 moment piece o1 o2 → Hears s0 s2 moment piece o0 o2
begins_hears s0 s1 s2 moment piece o0 o1 o2 first later heard said s =
    let f = first heard said s in
    let l = later heard (said ++ f.0) f.1.1 in (
      f.0 ++ l.0,
      (
        l.1.0 ∙ ap (λ (z : List ℕ). z ++ l.0) f.1.0 ∙ append_assoc o0 f.0 l.0,
        subst (s2 (heard ++ (moment, piece) ∷ [])) (append_assoc said f.0 l.0) l.1.1,
      ),
    )

-- and so many octets count
counts_says : (on : Bool) (a c : Announcing) (started started' : Bool) (count : ℕ) (out out' : List ℕ)
    → ((octets : List ℕ) → CountsTo on (machine_in a) a.line count octets → CountsTo on (machine_in c) c.line count octets)
    → Says (SaysOn on a started) (SaysOn on c started') out out' → Says (SaysUpTo on a started count) (SaysUpTo on c started' count) out out'
counts_says on a c started started' count out out' counts step heard said s =
    let h = step heard said s.0 in (h.0, (h.1.0, (h.1.1, counts (octets_in heard) s.1)))

-- by whether it hears on
pub begins_on : (on : Bool) (a new : Announcing) (started : Bool) (out out' : List ℕ) → started ≡ false → StartsWith a.started a new out out'
    → Says (SaysOn on a started) (SaysOn on new true) out out'
begins_on true a new started out out' e starts = begins_from _ _ _ _ _ e starts
begins_on false a new started out out' e starts = begins_early _ _ _ _ _ e starts

pub begun_on : (on : Bool) (a : Announcing) (started : Bool) (out : List ℕ) → started ≡ true → Says (SaysOn on a started) (SaysOn on a true) out out
begun_on on a started out e = subst (λ (b : Bool). Says (SaysOn on a started) (SaysOn on a b) out out) e (says_same _ _)

next_by : (on : Bool) (a new : Announcing) (started had : Bool) (out out' : List ℕ) → started ≡ true → a.line.closed ≡ None
    → SaysText (next_text a) had a new out out'
    → Says (SaysOn on a started) (SaysOn on new started) out out'
next_by true a new started had out out' go alive says = says_next _ _ _ _ _ _ go alive says
next_by false a new started had out out' go alive says = next_early _ _ _ _ _ _ alive go says

pub next_on : (on : Bool) (a new : Announcing) (started had : Bool) (count : ℕ) (out out' : List ℕ) → started ≡ true → a.line.closed ≡ None
    → SaysText (next_text a) had a new out out'
    → Says (SaysUpTo on a started count) (SaysUpTo on new started count) out out'
next_on on a new started had count out out' go alive says =
    counts_says _ _ _ _ _ _ _ _ (counts_text on _ _ _ _ count _ _ says) (next_by _ _ _ _ _ _ _ go alive says)

pub opens_on : (on : Bool) (a new : Announcing) (started : Bool) (count : ℕ) (out out' : List ℕ) → before_all new ≡ before_all a → new.line ≡ a.line
    → Says (SaysOn on a started) (SaysOn on new true) out out' → Says (SaysUpTo on a started count) (SaysUpTo on new true count) out out'
opens_on on a new started count out out' own same begins =
    counts_says _ _ _ _ _ _ _ _ (counts_same on a new count _ (ap machine_in own) same refl) begins

hears_by : (on : Bool) (b w c : Announcing) (count count' moment needed : ℕ) (piece o1 o2 o3 : List ℕ) → is_over on b.line ≡ false
    → HeardSo on b w c moment needed piece o1 o2 o3
    → ((octets : List ℕ) → CountsTo on (machine_in b) b.line count octets → CountsTo on (machine_in c) c.line count' (octets ++ piece))
    → Hears (SaysUpTo on b true count) (SaysUpTo on c true count') moment piece o1 o3
hears_by true b w c count count' moment needed piece o1 o2 o3 over call counts heard said s =
    let h = hears_piece _ _ _ _ _ _ _ _ _ (none_there b.line.closed over) call heard said s.0 in
    (h.0, (h.1.0, (h.1.1, subst (CountsTo true (machine_in c) c.line count') (sym (octets_more heard moment piece)) (counts (octets_in heard) s.1))))
hears_by false b w c count count' moment needed piece o1 o2 o3 over call counts heard said s =
    hears_early _ _ _ _ _ _ _ _ _ _ _ call over counts heard said s

-- what it is when it isn't over
early_on : (on : Bool) (line : Lined) → is_over on line ≡ false → on ≡ false → is_settled line ≡ false
early_on true line over off = absurd cc
early_on false line over off = over

pub hears_on : (on : Bool) (a b w c : Announcing) (started was : Bool) (count count' moment needed : ℕ) (piece o0 o1 o2 o3 : List ℕ) → is_over on a.line ≡ false
    → before_all b ≡ before_all a → b.line ≡ a.line → Says (SaysOn on a started) (SaysOn on b true) o0 o1 → HeardSo on b w c moment needed piece o1 o2 o3
    → was ≡ is_settled a.line → (was ≡ false → count' ≡ count + needed) → (was ≡ true → count' ≡ count)
    → Hears (SaysUpTo on a started count) (SaysUpTo on c true count') moment piece o0 o3
hears_on on a b w c started was count count' moment needed piece o0 o1 o2 o3 over own same begins call is added kept =
    let over_b : is_over on b.line ≡ false = ap (is_over on) same ∙ over in
    begins_hears (SaysUpTo on a started count) (SaysUpTo on b true count) (SaysUpTo on c true count') moment piece o0 o1 o3
    (opens_on on a b started count o0 o1 own same begins)
    (hears_by on b w c count count' moment needed piece o1 o2 o3 over_b call
    (counts_piece on b w c was piece needed count count' call.woke call.took call.hand call.counts (is
    ∙ ap is_settled (sym same)) added kept (early_on on b.line over_b)))

-- before its first octet
none_last : (earlier : Pieces) (last : ℕ × List ℕ) → [] ≡ earlier ++ last ∷ [] → ⊥
none_last [] last e = cc
none_last (event ∷ earlier) last e = cc

speaks_none : (config : Config) (whose : Peer) (sending : Sending) → Speaks (begins_with config whose sending) false [] []
speaks_none config whose sending = record {
  started_is = refl;
  at = record { closed_is = refl; open_is = λ e. record { waiting_is = refl; phase_is = refl; times_is = refl; waits_is = refl } };
  four = false;
  parts = [];
  rules_are = refl;
  ending = [];
  said_is = refl;
  kept = refl;
  lived = λ earlier last e. absurd (none_last _ _ e);
  unended = λ e. refl;
  began = λ e. (refl, (refl, (refl, refl)));
  unstarted = λ e. (refl, refl);
}

heard_none : (config : Config) (peer : Peer) (sending : Sending) → HasHeard (begins_with config peer sending) false [] []
heard_none config peer sending = record {
  started_is = refl;
  at = λ e. record {
    closed_is = refl;
    open_is = λ f. record { waiting_is = refl; phase_is = refl; times_is = refl; waits_is = refl };
  };
  said_is = refl;
  listened = λ earlier last e. absurd (none_last _ _ e);
  alive = λ f earlier last e. absurd (none_last _ _ e);
  shut = λ why e. absurd (none-some why e);
  none = λ e. refl;
  unstarted = λ e. (refl, refl);
}

says_none : (on : Bool) (config : Config) (peer : Peer) (sending : Sending) → SaysOn on (begins_with config peer sending) false [] []
says_none true config peer sending = speaks_none _ _ _
says_none false config peer sending = heard_none _ _ _

pub says_start : (on : Bool) (teller : Announcing) (started : Bool) (count : ℕ) (config : Config) (peer : Peer) (sending : Sending)
    → teller ≡ begins_with config peer sending → started ≡ false
    → count ≡ 0 → SaysUpTo on teller started count [] []
says_start on teller started count config peer sending e s k =
    subst (λ (n : Announcing). SaysUpTo on n started count [] []) (sym e)
    (subst (λ (b : Bool). SaysUpTo on (begins_with config peer sending) b count [] []) (sym s)
    (subst (λ (m : ℕ). SaysUpTo on (begins_with config peer sending) false m [] []) (sym k) (says_none _ _ _ _, λ f. (λ more. refl, refl))))
