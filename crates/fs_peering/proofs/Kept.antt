-- How a kept session stands, whatever happened: what was said through its connection is the OPEN, KEEPALIVEs and changes of
-- rules, and leaves the receiving end exactly what it was told.
use Rattle.std.specs.List.{AllByRecursion}
use Rattle.fs_base.{specs.Gate.{What, ended, gave, made, nothing, taken}, proofs.Bools.{false_of_not}}
use Rattle.fs_session.specs.declared.times.Times.{Times}
use Rattle.fs_speaker.{specs.Numbers.{HasOwnNumbers, IsFourOctet}, proofs.{MessageRuns.{hand_each}, Waking.{open_not, tick_each}}}
use Rattle.fs_desk.specs.Updates.{flow_left}
use Rattle.fs_peering.specs.Keeper.{Connection, Kept, accepts, at_first, begins, checks, comes_up, dialling, dials, exceeds, follows, is_up, lets_go}
use Rattle.fs_peering.specs.Keeper.{machine_of, parts, receives, outcome, speaks, news_told, ends, spoke, tells, tells_all, terms_at, wakes}
use Rattle.fs_peering.specs.Keeper.{with_connection, with_rules, change_text, rises}
use Rattle.fs_peering.specs.KeeperLaws.{Act, KeepsEqual, LeavesExactly, MayAct, MayKeep, accepted, acted, dialled, heard, kept_from, told_all}
use Rattle.fs_peering.proofs.Words.{AreRead, Bool, Config, Expires, Fault, Handed, Keeps, List, Needs, None, Option, Peer, Phase, Point}
use Rattle.fs_peering.proofs.Words.{Quiet as IsQuiet, Sending, Some, Tick, [], announcer, ap, append-nil, at_moment, at_start, false, hand}
use Rattle.fs_peering.proofs.Words.{if◌then◌else◌, inl, inr, is_established, is_some, message_text, needs_of, not, notice_text, open_sent, receiver}
use Rattle.fs_peering.proofs.Words.{refl, runs_by, same_Some, sender_of, subst, sym, terms_of, tick_at, ticked, ticks, true, true≢false, ℕ, ◌++◌, ◌∙◌}
use Rattle.fs_peering.proofs.{Words.{◌∷◌, ◌≡◌, ◌⊎◌}, Answering.{Opens, opens_by}, Changing.{Holds, IsFit, IsFitOr, tells_change}}
use Rattle.fs_peering.proofs.Leading.{Leads, leads_alive, leads_first_alive, leads_open, leads_then, leads_whole, met, up}
use Rattle.fs_peering.proofs.Outcomes.{accepts_each, checks_each, dials_each, line_each, receives_each, tells_all_each, wakes_each}
use Rattle.fs_peering.proofs.{Phases.{Quiet, awaits_open, quiet_by}, Sendable.{arrives}}

module _ (config : Config) (peer : Peer) (own : HasOwnNumbers config) (asn : IsFourOctet peer.asn) where
  fit : (sending : Sending) → MayKeep config peer sending → IsFit config peer sending
  fit sending may =
      let read : AreRead config peer sending = record { own = own; asn = asn; id = may.id.small; path = may.path; rules = may.rules } in
      record { rules = may.rules; read = (arrives config peer sending read may.can may.id.some).read; single = may.single }

  -- Before the other end's OPEN nothing but ours was said.
  pub record IsEarly (c : Connection) : Type 0 where
    pub waits : c.point.phase ≡ at_start
    pub untold : c.told ≡ None
    pub leads : c.made ≡ true → Leads (receiver config peer) at_start c.spoken [] (met config peer)

  -- Behind it the receiving end holds what it was told.
  pub record IsLate (c : Connection) : Type 0 where
    pub made_is : c.made ≡ true
    pub past : awaits_open c.point.phase.state ≡ false
    pub fits : IsFitOr config peer c.told
    pub holds : c.point.phase.four ≡ true → Holds config peer c.told c.spoken

  abbrev pub Stands : Connection → Type 0
  Stands c = IsEarly c ⊎ IsLate c

  pub record IsConnection (rules : Option Sending) (c : Connection) : Type 0 where
    pub peer_is : c.peer ≡ peer
    pub asked : MayKeep config peer c.asked
    pub same : (told : Sending) → c.told ≡ Some told → rules ≡ Some told
    pub stands : Stands c

  abbrev pub AreFit : Option Sending → Type 0
  AreFit rules = (sending : Sending) → rules ≡ Some sending → MayKeep config peer sending

  pub record IsKept (kept : Kept) : Type 0 where
    pub rules : AreFit kept.rules
    pub connection : (c : Connection) → kept.connection ≡ Some c → IsConnection kept.rules c

  -- NOTHING MORE IS SAID, OR A KEEPALIVE
  holds_none : (told : Option Sending) (octets text : List ℕ) → text ≡ [] → Holds config peer told octets → Holds config peer told (octets ++ text)
  holds_none told octets text e h = subst (Holds config peer told) (sym (ap (λ (z : List ℕ). octets ++ z) e ∙ append-nil octets)) h

  holds_alive : (told : Option Sending) (octets : List ℕ) → Holds config peer told octets → Holds config peer told (octets ++ message_text 4 [])
  holds_alive told octets h = record {
    updates = h.updates ++ [];
    leads =
        leads_then (receiver config peer) at_start (up config peer) (up config peer) octets (message_text 4 []) h.updates [] h.leads (leads_alive config peer);
    leaves = λ rule. ap (flow_left rule) (append-nil h.updates) ∙ h.leaves rule;
  }

  leads_more : (octets text : List ℕ) → text ≡ [] → Leads (receiver config peer) at_start octets [] (met config peer)
      → Leads (receiver config peer) at_start (octets ++ text) [] (met config peer)
  leads_more octets text e l =
      subst (λ (z : List ℕ). Leads (receiver config peer) at_start z [] (met config peer)) (sym (ap (λ (z : List ℕ). octets ++ z) e ∙ append-nil octets)) l

  no_made : (b : Bool) → b ≡ false → b ≡ true → ⊥
  no_made b e f = true≢false (sym f ∙ e)

  some_none : (told : Sending) (o : Option Sending) → o ≡ None → o ≡ Some told → ⊥
  some_none told o e f = none_some (sym e ∙ f)
    where
      none_some : None ≡ Some told → ⊥
      none_some g = cc

  -- THE CLOCK AT A CONNECTION
  abbrev StaysBy : Connection → Handed → Type 0
  StaysBy c then_so = then_so.point.closed ≡ None → Stands (spoke then_so.text then_so.point c)

  tick_stands : (time : ℕ) (c : Connection) → Stands c → StaysBy c (ticked time c.point)
  tick_stands time c s = tick_each time c.point (StaysBy c) (λ e. by s) (λ why e o. absurd (open_not why (sym e ∙ o)))
    where
      times : Times
      times = at_moment time c.point.times

      early : IsEarly c → (p : Phase) → p ≡ at_start → StaysBy c (ticks (tick_at p.hold times) c.point.waiting p times)
      early i p e =
          subst (λ (q : Phase). StaysBy c (ticks (tick_at q.hold times) c.point.waiting q times)) (sym e)
          (λ o. inl (record { waits = refl; untold = i.untold; leads = λ m. leads_more c.spoken [] refl (i.leads m) }))

      late : IsLate c → (tick : Tick) → StaysBy c (ticks tick c.point.waiting c.point.phase times)
      late l IsQuiet o = inr (record { made_is = l.made_is; past = l.past; fits = l.fits; holds = λ f. holds_none c.told c.spoken [] refl (l.holds f) })
      late l Keeps o = inr (record { made_is = l.made_is; past = l.past; fits = l.fits; holds = λ f. holds_alive c.told c.spoken (l.holds f) })
      late l Expires o = absurd (open_not (Fault 4 0) o)

      by : Stands c → StaysBy c (ticks (tick_at c.point.phase.hold times) c.point.waiting c.point.phase times)
      by (inl i) = early i c.point.phase i.waits
      by (inr l) = late l (tick_at c.point.phase.hold times)

  -- OCTETS AT A CONNECTION
  hand_stands : (time : ℕ) (piece : List ℕ) (c : Connection) → c.made ≡ true → Stands c → StaysBy c (hand (machine_of config c) time c.point piece)
  hand_stands time piece c m s =
      hand_each (machine_of config c) time c.point piece (StaysBy c) (λ e. by s) (λ why e o. absurd (open_not why (sym e ∙ o)))
    where
      needs : Needs
      needs = needs_of c.asked.rules

      octets : List ℕ
      octets = c.point.waiting ++ piece

      result : Handed
      result = runs_by (announcer config needs) c.point.phase (at_moment time c.point.times) octets

      first : IsEarly c → Opens config needs octets c.point.phase result → StaysBy c result
      first i (inl w) o = inl (record { waits = w.phase_is ∙ i.waits; untold = i.untold; leads = λ m. leads_more c.spoken result.text w.text_is (i.leads m) })
      first i (inr (inl t)) o = inr (record {
        made_is = m;
        past = t.past o;
        fits = subst (IsFitOr config peer) (sym i.untold) tt;
        holds = λ f.
            subst (λ (told : Option Sending). Holds config peer told (c.spoken ++ result.text)) (sym i.untold)
            (subst (λ (z : List ℕ). Holds config peer None (c.spoken ++ z)) (sym t.text_is)
            (record {
              updates = [];
              leads = leads_then (receiver config peer) at_start (met config peer) (up config peer) c.spoken (message_text 4 []) [] [] (i.leads m)
                  (leads_first_alive config peer);
              leaves = λ rule. refl;
            }));
      })
      first i (inr (inr h)) o = absurd (open_not h.why (sym h.closed_is ∙ o))

      later : IsLate c → Quiet config needs c.point.phase result → StaysBy c result
      later l q o = inr (record {
        made_is = m;
        past = (q.goes o).past;
        fits = l.fits;
        holds = λ f. holds_none c.told c.spoken result.text q.text_is (l.holds (sym (q.goes o).four_is ∙ f));
      })

      by : Stands c → StaysBy c result
      by (inl i) = first i (opens_by config needs c.point.phase (at_moment time c.point.times) octets (ap (λ (p : Phase). p.state) i.waits))
      by (inr l) = later l (quiet_by config needs c.point.phase (at_moment time c.point.times) octets l.past)

  -- WHAT BECOMES OF THE WHOLE
  gone_kept : (time : ℕ) (kept : Kept) → AreFit kept.rules → IsKept (lets_go time kept)
  gone_kept time kept r = record { rules = r; connection = λ c e. absurd (never c e) }
    where
      never : (c : Connection) → None ≡ Some c → ⊥
      never c e = cc

  with_kept : (x : Connection) (kept : Kept) → AreFit kept.rules → IsConnection kept.rules x → IsKept (with_connection (Some x) kept)
  with_kept x kept r i = record { rules = r; connection = λ c e. subst (IsConnection kept.rules) (same_Some x c e) i }

  spoke_is : (rules : Option Sending) (c : Connection) (text : List ℕ) (now : Point) → IsConnection rules c → Stands (spoke text now c)
      → IsConnection rules (spoke text now c)
  spoke_is rules c text now i s = record { peer_is = i.peer_is; asked = i.asked; same = i.same; stands = s }

  wakes_kept : (time : ℕ) (c : Connection) (kept : Kept) → IsKept kept → IsConnection kept.rules c → IsKept (wakes time c kept).kept
  wakes_kept time c kept k i = wakes_each (λ o. IsKept o.kept) time c kept (λ text why. gone_kept time kept k.rules)
      (λ e. with_kept (spoke (ticked time c.point).text (ticked time c.point).point c) kept k.rules
      (spoke_is kept.rules c (ticked time c.point).text (ticked time c.point).point i (tick_stands time c i.stands e)))

  checks_kept : (time : ℕ) (kept : Kept) → IsKept kept → IsKept (checks time kept).kept
  checks_kept time kept k = checks_each (λ o. IsKept o.kept) time kept k (λ c e m. wakes_kept time c kept k (k.connection c e))

  up_kept : (b : Bool) (x : Connection) (kept : Kept) → IsKept kept → IsConnection kept.rules x → IsKept (with_connection (Some x) (comes_up b kept))
  up_kept true x kept k i = with_kept x (comes_up true kept) k.rules i
  up_kept false x kept k i = with_kept x kept k.rules i

  receives_kept : (time : ℕ) (piece : List ℕ) (c : Connection) (kept : Kept) → IsKept kept → IsConnection kept.rules c → c.made ≡ true
      → IsKept (receives config time piece c kept).kept
  receives_kept time piece c kept k i m = receives_each (λ o. IsKept o.kept) config time piece c kept (λ text why. gone_kept time kept k.rules)
      (λ e. let made_so : Handed = hand (machine_of config c) time c.point piece in
      up_kept (rises c.point made_so.point) (spoke made_so.text made_so.point c) kept k
      (spoke_is kept.rules c made_so.text made_so.point i (hand_stands time piece c m i.stands e)))

  begins_kept : (time : ℕ) (c : Connection) (kept : Kept) → IsKept kept → IsConnection kept.rules c → c.made ≡ false → IsKept (begins config time c kept).kept
  begins_kept time c kept k i m = with_kept _ kept k.rules (record { peer_is = i.peer_is; asked = i.asked; same = i.same; stands = by i.stands })
    where
      by : Stands c → Stands (record c { made = true; since = time; spoken = open_sent config c.peer c.asked })
      by (inl e) = inl (record {
        waits = e.waits;
        untold = e.untold;
        leads = λ n.
            subst (λ (p : Peer). Leads (receiver config peer) at_start (open_sent config p c.asked) [] (met config peer)) (sym i.peer_is)
            (leads_open config peer own asn c.asked i.asked.id);
      })
      by (inr l) = absurd (no_made c.made m l.made_is)

  follows_kept : (time : ℕ) (what : What) (kept : Kept) → IsKept kept → IsKept (follows config time what kept).kept
  follows_kept time (made line) kept k =
      line_each (λ o. IsKept o.kept) line (λ c. not c.made) (begins config time) kept k
      (λ c e m. begins_kept time c kept k (k.connection c e) (false_of_not c.made m))
  follows_kept time (gave line piece) kept k =
      line_each (λ o. IsKept o.kept) line (λ c. c.made) (receives config time piece) kept k (λ c e m. receives_kept time piece c kept k (k.connection c e) m)
  follows_kept time (ended line) kept k =
      line_each (λ o. IsKept o.kept) line (λ c. true) (ends time) kept k (λ c e m. gone_kept time kept k.rules)
  follows_kept time (taken line from) kept k = k
  follows_kept time nothing kept k = k

  -- RULES ARE TOLD
  tells_kept : (time : ℕ) (new : Sending) (c : Connection) (kept : Kept) → kept.rules ≡ Some new → MayKeep config peer new → c.peer ≡ peer
      → MayKeep config peer c.asked
      → IsLate c → IsKept (tells config time new c kept).kept
  tells_kept time new c kept r may p asked l = by (exceeds (needs_of c.asked.rules) (needs_of new.rules))
    where
      are_fit : AreFit kept.rules
      are_fit sending e = subst (MayKeep config peer) (same_Some new sending (sym r ∙ e)) may

      told_so : Connection
      told_so = record c { spoken = c.spoken ++ change_text (terms_at config c) c.told new; told = Some new }

      holds : c.point.phase.four ≡ true → Holds config peer (Some new) (c.spoken ++ change_text (terms_at config c) c.told new)
      holds f =
          subst (λ (q : Peer). Holds config peer (Some new) (c.spoken ++ change_text (terms_of config q c.point.phase.four) c.told new)) (sym p)
          (subst (λ (b : Bool). Holds config peer (Some new) (c.spoken ++ change_text (terms_of config peer b) c.told new)) (sym f)
          (tells_change config peer c.spoken c.told new l.fits (fit new may) (l.holds f)))

      is : IsConnection kept.rules told_so
      is = record {
        peer_is = p;
        asked = asked;
        same = λ told e. r ∙ e;
        stands = inr (record { made_is = l.made_is; past = l.past; fits = fit new may; holds = holds });
      }

      by : (b : Bool) → IsKept (if b then parts (notice_text 6 6) (Fault 6 6) time c kept
          else outcome (speaks c.line (change_text (terms_at config c) c.told new)) (Some (news_told (terms_at config c) c.told new))
          (with_connection (Some told_so) kept)).kept
      by true = gone_kept time kept are_fit
      by false = with_kept told_so kept are_fit is

  late_told : (c : Connection) → is_some c.told ≡ true → Stands c → IsLate c
  late_told c e (inl i) = absurd (true≢false (sym e ∙ ap is_some i.untold))
  late_told c e (inr l) = l

  late_up : (c : Connection) → is_up c.point ≡ true → Stands c → IsLate c
  late_up c e (inl i) = absurd (true≢false (sym e ∙ ap (λ (p : Phase). is_established p.state) i.waits))
  late_up c e (inr l) = l

  accepts_kept : (time : ℕ) (new : Sending) (kept : Kept) → MayKeep config peer new → IsKept kept → IsKept (accepts config time new kept).kept
  accepts_kept time new kept may k = accepts_each (λ o. IsKept o.kept) config time new kept (λ idle. untold (λ c e. none_told c.told (idle c e)))
      (λ c e f. let i = k.connection c e in tells_kept time new c other refl may i.peer_is i.asked (late_told c f i.stands))
    where
      other : Kept
      other = with_rules new kept

      -- the rules are others, and no connection was told any
      untold : ((c : Connection) → kept.connection ≡ Some c → c.told ≡ None) → IsKept other
      untold none = record {
        rules = λ sending e. subst (MayKeep config peer) (same_Some new sending e) may;
        connection = λ c e.
            let i = k.connection c e in
            record { peer_is = i.peer_is; asked = i.asked; same = λ told f. absurd (some_none told c.told (none c e) f); stands = i.stands };
      }

      none_told : (o : Option Sending) → is_some o ≡ false → o ≡ None
      none_told None e = refl
      none_told (Some told) e = absurd (true≢false e)

  tells_all_kept : (time : ℕ) (kept : Kept) → IsKept kept → IsKept (tells_all config time kept).kept
  tells_all_kept time kept k = tells_all_each (λ o. IsKept o.kept) config time kept k (λ c e new r f.
      let i = k.connection c e in tells_kept time new c kept r (k.rules new r) i.peer_is i.asked (late_up c f i.stands))

  -- A CONNECTION IS DIALLED
  module _ (sender : sender_of config.peers ≡ Some peer) where
    dials_kept : (line time : ℕ) (address : List ℕ) (kept : Kept) → IsKept kept → IsKept (dials config line time address kept).kept
    dials_kept line time address kept k = dials_each (λ o. IsKept o.kept) config line time address kept k
        (λ sending r other s. with_kept (dialling line time other sending) kept k.rules (record {
          peer_is = sym (same_Some peer other (sym sender ∙ s));
          asked = k.rules sending r;
          same = λ told e. absurd (some_none told None refl e);
          stands = inl (record { waits = refl; untold = refl; leads = λ m. absurd (no_made false refl m) });
        }))

    -- ALL ACTS
    acted_kept : (act : Act) (kept : Kept) → MayAct config peer act → IsKept kept → IsKept (acted config kept act)
    acted_kept (heard time what) kept may k = follows_kept time what (checks time kept).kept (checks_kept time kept k)
    acted_kept (dialled line time address) kept may k = dials_kept line time address kept k
    acted_kept (accepted time new) kept may k = accepts_kept time new kept may k
    acted_kept (told_all time) kept may k = tells_all_kept time kept k

    pub all_kept : (acts : List Act) (kept : Kept) → AllByRecursion (MayAct config peer) acts → IsKept kept → IsKept (kept_from config kept acts)
    all_kept [] kept all k = k
    all_kept (act ∷ acts) kept all k = all_kept acts (acted config kept act) all.1 (acted_kept act kept all.0 k)

  pub first_kept : IsKept at_first
  first_kept = record { rules = λ sending e. absurd (some_none sending None refl e); connection = λ c e. absurd (never c e) }
    where
      never : (c : Connection) → None ≡ Some c → ⊥
      never c e = cc

  -- what a connection that was told rules leaves
  pub leaves_told : (rules : Option Sending) (c : Connection) (told : Sending) → IsConnection rules c → c.told ≡ Some told → c.point.phase.four ≡ true
      → LeavesExactly config peer told c.spoken
  leaves_told rules c told i t f =
      let l = late_told c (ap is_some t) i.stands in
      let h : Holds config peer (Some told) c.spoken = subst (λ (o : Option Sending). Holds config peer o c.spoken) t (l.holds f) in
      record { updates = h.updates; session_is = leads_whole (receiver config peer) at_start (up config peer) c.spoken h.updates h.leads; leaves = h.leaves }

pub keeps_equal : KeepsEqual
keeps_equal config peer acts c told are e t f =
    let i = (all_kept config peer are.own are.asn are.sender acts at_first are.each (first_kept config peer are.own are.asn)).connection c e in
    (i.same told t, (i.peer_is, leaves_told config peer are.own are.asn _ c told i t f))
