-- How what an announcing end says over a wire follows from how it stands.
use Rattle.fs_peering.proofs.Words.{Announcing, Closed, Config, Lined, Machine, Peer, Phase, Sending, TakesIn, Told, WireEnd, WireEnds}
use Rattle.fs_peering.proofs.Words.{is_established, machine_in, open_sent, state_in, text_sent, ◌≡◌, ◌<◌, ◌≤◌, ℕ, ◌+◌, ◌-◌, List, [], ◌++◌, length}
use Rattle.fs_peering.proofs.Words.{IsTrue, Bool, true, false, if◌then◌else◌, Option, Some, None, refl, ap, sym, ◌∙◌, subst, arith, append_assoc}
use Rattle.fs_peering.proofs.Words.{append-nil, flat_map, is_some, length-map, take_all, none_there, EndsSo, HeardOut, HearsOut, Part, Pieces, Spoken}
use Rattle.fs_peering.proofs.Words.{Stance, moments_in, octets_in, Stopped, All, Over, Ending, Done, AtLimit, course, CountsTo, SaysUpTo, ClosesSo}
use Rattle.fs_peering.proofs.Words.{HasHeard, ahead_of, before_all, is_settled, rules_of, Teller, Tells, TellsOver, TellsSo, answers_to, begins_with}
use Rattle.fs_peering.proofs.{Composing.{part_then, same_stance}, WrittenInParts.{told_and}, Counting.{Opens, ends_by, met_by, opens_so}}
use Rattle.fs_peering.proofs.{Hearing.{no_rules, unsettled}, Sending.{says_start}, Settled.{settled_up, state_open, state_shut}}
use Rattle.fs_peering.specs.declared.{listening.Stopped.TheVariants.{AtLimit as MetIt}, tell.Ending.TheVariants.{Ended, Closed as HasClosed}}
use Rattle.fs_peering.specs.{Teller.{is_over}, Tell.{SaidAll, farewell_to}}

-- whose it is
pub record IsOf (end : Announcing) (config : Config) (peer : Peer) (sending : Sending) : Type 0 where
  pub config_is : end.config ≡ config
  pub peer_is : end.peer ≡ peer
  pub sending_is : end.sending ≡ sending

pub is_of : (end old : Announcing) (config : Config) (peer : Peer) (sending : Sending) → before_all end ≡ before_all old
    → old ≡ begins_with config peer sending → IsOf end config peer sending
is_of end old config peer sending own e = record {
  config_is = ap (λ (n : Announcing). n.config) own ∙ ap (λ (n : Announcing). n.config) e;
  peer_is = ap (λ (n : Announcing). n.peer) own ∙ ap (λ (n : Announcing). n.peer) e;
  sending_is = ap (λ (n : Announcing). n.sending) own ∙ ap (λ (n : Announcing). n.sending) e;
}

module _ (end : Announcing) (started : Bool) (count : ℕ) (heard : Pieces) (said : List ℕ) (h : HasHeard end started heard said)
    (k : CountsTo false (machine_in end) end.line count (octets_in heard)) where
  abbrev machine : Machine
  machine = machine_in end

  -- its OPEN was said, as it heard something
  begun : 0 < length heard → end.started ≡ true
  begun some = by end.started refl
    where
      by : (b : Bool) → end.started ≡ b → end.started ≡ true
      by true e = e
      by false e = let none : length heard ≡ 0 = ap (λ (z : Pieces). length z) (h.unstarted e).0 in absurd (omega (arith, some, none))

  -- what it said, with these rules
  said_so : (rules : List ℕ) → 0 < length heard → rules_of end ≡ rules → said ≡ answers_to end.config end.peer end.sending heard ++ rules
  said_so rules some e =
      h.said_is ∙ ap (λ (b : Bool). (if b then open_sent end.config end.peer end.sending else []) ++ ((course machine heard).text ++ rules_of end)) (begun some)
      ∙ ap (λ (z : List ℕ). open_sent end.config end.peer end.sending ++ ((course machine heard).text ++ z)) e
      ∙ sym (append_assoc (open_sent end.config end.peer end.sending) (course machine heard).text rules)

  said_none : 0 < length heard → end.appended ≡ 0 → said ≡ answers_to end.config end.peer end.sending heard
  said_none some none = said_so _ some (no_rules end none) ∙ append-nil (answers_to end.config end.peer end.sending heard)

  closed_so : (why : Closed) → 0 < length heard → end.line.closed ≡ Some why
      → ((course machine heard).point.closed ≡ Some why)
      × (ClosesSo machine (moments_in heard) (octets_in heard) why × (said ≡ answers_to end.config end.peer end.sending heard))
  closed_so why some shut =
      let early : is_established (state_in end.line) ≡ false = state_shut end.line _ shut in
      (sym (h.at early).closed_is ∙ shut, (h.shut why shut, said_none some (h.none early)))

  module _ (alive : end.line.closed ≡ None) where
    opens : Opens false machine end.line count (octets_in heard)
    opens =
        opens_so _ _ _ _ _ _ alive
        (λ down. let at = h.at (state_open end.line alive ∙ down) in at.open_is (sym at.closed_is ∙ alive)) k

    said_all : (limit : ℕ) → 0 < length heard → count < limit → is_established (state_in end.line) ≡ true → ahead_of end started ≡ 0
        → SaidAll end.config end.peer end.sending limit heard said
    said_all limit some within up ahead =
        let c = opens.counted in
        record {
          phase = opens.phase;
          behind = opens.behind;
          alive = h.alive alive;
          found = opens.found;
          up = opens.up ∙ sym (state_open end.line alive) ∙ up;
          within = omega (arith, c, within);
          said_is = said_so _ some
              (all ∙ ap (λ (p : Phase). flat_map (text_sent end.config end.peer p.four end.sending) end.sending.rules) (opens.stays refl));
        }
      where
        left : (if started then 0 else 1) + (length end.sending.rules - end.appended) ≡ 0
        left = sym (ap (λ (c : Option Closed). if is_some c then 0 else (if started then 0 else 1) + (length end.sending.rules - end.appended)) alive) ∙ ahead

        sub_none : (a b c : ℕ) → a + (b - c) ≡ 0 → b ≤ c
        sub_none a b c z = omega (arith, z)

        all : rules_of end ≡ flat_map (text_sent end.config end.peer end.line.phase.four end.sending) end.sending.rules
        all = ap (flat_map (text_sent end.config end.peer end.line.phase.four end.sending))
            (take_all end.appended end.sending.rules (sub_none _ _ _ left))

-- what an end said, and then this
abbrev pub Leaves : Stance → List ℕ → Stance
Leaves stance text heard said = (earlier : List ℕ) × ((said ≡ earlier ++ text) × stance heard earlier)

leaving : (stance : Stance) (text : List ℕ) (b c : WireEnds) → TakesIn 1 text b c → Spoken stance (Leaves stance text) 1 b c
leaving stance text b c took = record {
  out = text;
  part = record {
    stands = λ earlier spoken s. (spoken, (refl, same_stance stance _ _ spoken _ (sym (append-nil earlier)) refl s));
    read = sym (ap (λ (e : WireEnd). e.left) took.wrote);
    wrote = ap (λ (e : WireEnd). e.written) took.wrote;
    tied = ap (λ (e : WireEnd). e.joined) took.wrote;
    other = took.other;
  };
}

-- what was said first, what was heard and said then, and what was said last
record Whole (s0 s3 : Stance) (limit : ℕ) (given : List ℕ) (before now : WireEnds) : Type 0 where
  heard : Pieces
  said : List ℕ
  part : Part s0 s3 1 heard said before now
  asked : moments_in heard ≡ given
  some : 0 < length heard
  within : length (octets_in heard) ≤ limit

first_heard : (heard : Stopped) (s0 s1 s2 : Stance) (over : Bool) (begun count limit : ℕ) (given : List ℕ) (a b c : WireEnds) → Spoken s0 s1 1 a b
    → HeardOut heard s1 s2 over begun count 1 limit given b c → Whole s0 s2 limit given a c
first_heard heard s0 s1 s2 over begun count limit given a b c first later = record {
  heard = later.listened.heard;
  said = first.out ++ later.listened.said;
  part = part_then s0 s1 s2 1 [] later.listened.heard first.out later.listened.said a b c first.part later.listened.part;
  asked = later.listened.asked;
  some =
      let e : length later.listened.heard ≡ length given = sym (length-map later.listened.heard (λ (p : ℕ × List ℕ). p.0))
      ∙ ap (λ (z : List ℕ). length z) later.listened.asked in
      omega (arith, e, later.some);
  within = let few = later.within in omega (arith, few);
}

said_last : (s0 s1 s2 : Stance) (limit : ℕ) (given : List ℕ) (a b c : WireEnds) (w : Whole s0 s1 limit given a b) → Spoken s1 s2 1 b c
    → Whole s0 s2 limit given a c
said_last s0 s1 s2 limit given a b c w last = record {
  heard = w.heard ++ [];
  said = w.said ++ last.out;
  part = part_then _ _ _ _ _ _ _ _ _ _ _ w.part last.part;
  asked = ap moments_in (append-nil w.heard) ∙ w.asked;
  some = subst (λ (z : Pieces). 0 < length z) (sym (append-nil w.heard)) w.some;
  within = subst (λ (z : Pieces). length (octets_in z) ≤ limit) (sym (append-nil w.heard)) w.within;
}

-- the clause, from how the end stands
module _ (ending : Ending) (config : Config) (peer : Peer) (sending : Sending) (limit : ℕ) (on : Bool) (end : Announcing) (started : Bool) (count : ℕ)
    (off : on ≡ false) (of : IsOf end config peer sending) where
  abbrev own : List ℕ → Pieces → List ℕ → Type 0
  own left heard said = TellsSo ending end.config end.peer end.sending limit heard said left

  told_from : (stance : Stance) (given : List ℕ) (s0 : Stance) (a b : WireEnds) → s0 [] []
      → ((heard : Pieces) (said : List ℕ) → 0 < length heard → stance heard said
      → (first : List ℕ) × (SaysUpTo false end started count heard first × own b.second.left heard said))
      → Whole s0 stance limit given a b → Tells ending config peer sending limit given a b
  told_from stance given s0 a b start ends w =
      let h = ends w.heard w.said w.some (w.part.stands [] [] start) in
      subst (λ (c : Config). Tells ending c peer sending limit given a b) of.config_is
      (subst (λ (p : Peer). Tells ending end.config p sending limit given a b) of.peer_is
      (subst (λ (s : Sending). Tells ending end.config end.peer s limit given a b) of.sending_is (record {
        heard = w.heard;
        said = w.said;
        read = w.part.read;
        within = w.within;
        wrote = w.part.wrote;
        asked = w.asked;
        listened = h.1.0.0.listened;
        ends = h.1.1;
      })))

  told_so : (given : List ℕ) (s0 : Stance) (a b : WireEnds) → s0 [] []
      → ((heard : Pieces) (said : List ℕ) → 0 < length heard → SaysUpTo false end started count heard said → own b.second.left heard said)
      → Whole s0 (SaysUpTo on end started count) limit given a b → Tells ending config peer sending limit given a b
  told_so given s0 a b start ends = told_from (SaysUpTo on end started count) given s0 a b start (λ heard said some h.
      let k = subst (λ (x : Bool). SaysUpTo x end started count heard said) off h in (said, (k, ends heard said some k)))

  -- and so where this was said last
  told_leaving : (text : List ℕ) (given : List ℕ) (s0 : Stance) (a b : WireEnds) → s0 [] []
      → ((heard : Pieces) (said : List ℕ) → 0 < length heard → SaysUpTo false end started count heard said → own b.second.left heard (said ++ text))
      → Whole s0 (Leaves (SaysUpTo on end started count) text) limit given a b → Tells ending config peer sending limit given a b
  told_leaving text given s0 a b start ends =
      told_from (Leaves (SaysUpTo on end started count) text) given s0 a b start (λ heard said some h.
      let k = subst (λ (x : Bool). SaysUpTo x end started count heard h.0) off h.1.1 in
      (h.0, (k, subst (own b.second.left heard) (sym h.1.0) (ends heard h.0 some k))))

-- what stays of an end
abbrev own_of : Teller → Teller
own_of t = record { announcer = before_all t.announcer; hears_on = t.hears_on; started = false; count = 0 }

-- what an end is that hears more, and how it then stands
module _ (config : Config) (peer : Peer) (sending : Sending) (limit : ℕ) (first spoke now : Teller) (t0 t1 t2 : Option WireEnds)
    (answers answers' : Option (List ℕ)) (own_spoke : own_of spoke ≡ own_of first) (own_now : own_of now ≡ own_of spoke)
    (early : first.hears_on ≡ false) (e : first.announcer ≡ begins_with config peer sending)
    (unstarted : first.started ≡ false) (fresh : first.count ≡ 0)
    (told : Told (Spoken (SaysUpTo first.hears_on first.announcer first.started first.count)
    (SaysUpTo spoke.hears_on spoke.announcer spoke.started spoke.count) 1) t0 t1)
    (open_before : is_over spoke.hears_on spoke.announcer.line ≡ false) where
  abbrev end : Announcing
  end = now.announcer

  abbrev s0 : Stance
  s0 = SaysUpTo first.hears_on first.announcer first.started first.count

  abbrev s1 : Stance
  s1 = SaysUpTo spoke.hears_on spoke.announcer spoke.started spoke.count

  abbrev s2 : Stance
  s2 = SaysUpTo now.hears_on end now.started now.count

  off_spoke : spoke.hears_on ≡ false
  off_spoke = ap (λ (t : Teller). t.hears_on) own_spoke ∙ early

  off : now.hears_on ≡ false
  off = ap (λ (t : Teller). t.hears_on) own_now ∙ off_spoke

  start : s0 [] []
  start = says_start _ _ _ _ _ _ _ e unstarted fresh

  -- no rule was said before the end heard
  unsent : (a b : WireEnds) → Spoken s0 s1 1 a b → spoke.announcer.appended ≡ 0
  unsent a b f =
      (subst (λ (x : Bool). SaysUpTo x spoke.announcer spoke.started spoke.count [] ([] ++ f.out)) off_spoke (f.part.stands [] [] start)).0.none
      (unsettled spoke.announcer.line (subst (λ (x : Bool). is_over x spoke.announcer.line ≡ false) off_spoke open_before)).1

  pub at_end : (ending : Ending) (heard : Stopped) (over : Bool) (begun so_far : ℕ) → HearsOut heard s1 s2 over begun so_far 1 limit t1 t2 answers answers'
      → end.appended ≡ spoke.announcer.appended
      → ((pieces : Pieces) (said left : List ℕ) → end.appended ≡ 0 → EndsSo heard over so_far limit left → 0 < length pieces
      → SaysUpTo false end now.started now.count pieces said
      → TellsSo ending end.config end.peer end.sending limit pieces said left)
      → TellsOver ending config peer sending limit t0 t2 answers answers'
  at_end ending heard over begun so_far hears same ends = record {
    given = hears.given;
    grew = hears.grew;
    told = told_and _ _ _ (λ a b c f l. told_so _ _ _ _ _ _ _ _ _ off
        (is_of _ _ _ _ _ (ap (λ (t : Teller). t.announcer) (own_now ∙ own_spoke)) e) _ _ _ _ start
        (λ pieces said some h. ends pieces said c.second.left (same ∙ unsent _ _ f) l.ends some h)
        (first_heard _ _ _ _ _ _ _ _ _ _ _ _ f l)) _ _ _ told hears.told;
  }

  pub over_so : (why : Closed) (over : Bool) (begun so_far : ℕ) → HearsOut Over s1 s2 over begun so_far 1 limit t1 t2 answers answers'
      → end.line.closed ≡ Some why
      → (t3 : Option WireEnds) → Told (TakesIn 1 (farewell_to why)) t2 t3 → TellsOver (HasClosed why) config peer sending limit t0 t3 answers answers'
  over_so why over begun so_far hears shut t3 leaves = record {
    given = hears.given;
    grew = hears.grew;
    told = told_and _ _ _ (λ a b c w l. told_leaving _ _ _ _ _ _ _ _ _ off
        (is_of _ _ _ _ _ (ap (λ (t : Teller). t.announcer) (own_now ∙ own_spoke)) e) _ _ _ _ _ start
        (λ pieces said some h. let c = closed_so _ _ _ _ _ h.0 h.1 _ some shut in
        (c.0, (c.1.0, ap (λ (z : List ℕ). z ++ farewell_to why) c.1.1))) (said_last _ _ _ _ _ _ _ _ w (leaving _ _ _ _ l))) _ _ _
        (told_and _ _ _ (λ a b c f l. first_heard _ _ _ _ _ _ _ _ _ _ _ _ f l) _ _ _ told hears.told) leaves;
  }

  limit_end : (alive : end.line.closed ≡ None) → limit ≤ now.count → (pieces : Pieces) (said left : List ℕ) → end.appended ≡ 0 → 0 < length pieces
      → SaysUpTo false end now.started now.count pieces said
      → TellsSo AtLimit end.config end.peer end.sending limit pieces said left
  limit_end alive met pieces said left none some h = (
    met_by (opens _ _ _ _ _ h.0 h.1 alive) _ met,
    (said_none _ _ _ _ _ h.0 h.1 some none, h.0.alive alive),
  )

  pub over_limit : (over : Bool) (begun so_far : ℕ) → HearsOut Over s1 s2 over begun so_far 1 limit t1 t2 answers answers'
      → end.appended ≡ spoke.announcer.appended
      → end.line.closed ≡ None → limit ≤ now.count → TellsOver AtLimit config peer sending limit t0 t2 answers answers'
  over_limit over begun so_far hears same alive met =
      at_end AtLimit Over over begun so_far hears same (λ pieces said left none e some h. limit_end alive met pieces said left none some h)

  over_is : is_over now.hears_on end.line ≡ is_settled end.line
  over_is = ap (λ (o : Bool). is_over o end.line) off

  pub limit_so : (begun : ℕ) → HearsOut MetIt s1 s2 (is_over now.hears_on end.line) begun now.count 1 limit t1 t2 answers answers'
      → end.appended ≡ spoke.announcer.appended → TellsOver AtLimit config peer sending limit t0 t2 answers answers'
  limit_so begun hears same =
      at_end _ MetIt (is_over now.hears_on end.line) begun now.count hears same
      (λ pieces said left none e some h. limit_end (unsettled end.line (sym over_is ∙ e.0)).0 e.1 pieces said left none some h)

  pub ended_so : (begun : ℕ) → HearsOut All s1 s2 (is_over now.hears_on end.line) begun now.count 1 limit t1 t2 answers answers'
      → end.appended ≡ spoke.announcer.appended → TellsOver Ended config peer sending limit t0 t2 answers answers'
  ended_so begun hears same =
      at_end _ All (is_over now.hears_on end.line) begun now.count hears same (λ pieces said left none e some h.
      let alive = unsettled end.line (sym over_is ∙ e.0) in (
        ends_by (opens _ _ _ _ _ h.0 h.1 alive.0) _ _ (sym (state_open end.line alive.0) ∙ alive.1) e.1.0 e.1.1,
        (said_none _ _ _ _ _ h.0 h.1 some none, h.0.alive alive.0),
      ))

-- and when its rules were said
pub done_so : (config : Config) (peer : Peer) (sending : Sending) (limit : ℕ) (s0 s1 s2 : Stance) (heard : Lined) (on : Bool) (end : Announcing)
    (started : Bool) (count : ℕ)
    (t0 t1 t2 t3 : Option WireEnds) (answers answers' : Option (List ℕ)) → s0 [] [] → Told (Spoken s0 s1 1) t0 t1 → on ≡ false → IsOf end config peer sending
    → (over : Bool) (begun_at so_far : ℕ) → HearsOut Over s1 s2 over begun_at so_far 1 limit t1 t2 answers answers'
    → Told (Spoken s2 (SaysUpTo on end started count) 1) t2 t3
    → over ≡ is_settled heard → heard.closed ≡ None → is_some end.line.closed ≡ is_some heard.closed → is_settled end.line ≡ is_settled heard → count < limit
    → (IsTrue (is_settled heard) → ahead_of end started ≡ 0) → TellsOver Done config peer sending limit t0 t3 answers answers'
done_so config peer sending limit s0 s1 s2 heard on end started count t0 t1 t2 t3 answers answers' start first off of over begun_at so_far hears last
    o alive shut ready within ahead = record {
      given = hears.given;
      grew = hears.grew;
      told = told_and Before (Spoken s2 (SaysUpTo on end started count) 1) (Tells Done config peer sending limit hears.given)
          (λ a b c w l.
          let open_end : end.line.closed ≡ None = none_there end.line.closed (shut ∙ ap is_some alive) in
          told_so Done config peer sending limit on end started count off of hears.given s0 a c start
          (λ pieces said some h. said_all end started count pieces said h.0 h.1 open_end limit some within
          (settled_up end.line open_end (ready ∙ w.1)) (ahead w.1))
          (said_last s0 s2 (SaysUpTo on end started count) limit hears.given a b c w.0 l)) t0 t2 t3
          (told_and (Spoken s0 s1 1) (HeardOut Over s1 s2 over begun_at so_far 1 limit hears.given) Before
          (λ a b c f l. (first_heard Over s0 s1 s2 over begun_at so_far limit hears.given a b c f l, sym o ∙ l.ends)) t0 t1 t2
          first hears.told) last;
    }
  where
    Before : WireEnds → WireEnds → Type 0
    Before a c = Whole s0 s2 limit hears.given a c × (is_settled heard ≡ true)
