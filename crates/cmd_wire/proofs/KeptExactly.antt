-- That the rules which `keep` said are those that its file was accepted as last: what happens to the command, act by act.
use Rattle.std.proofs.Common.{ℕ, List, [], ◌∷◌, ◌++◌, Bool, true, false, Option, Some, None, IfSome, refl, ap, sym, subst, ◌≡◌, ◌<◌, ◌∙◌, ◌&&◌, ◌||◌}
use Rattle.std.proofs.Common.{if◌then◌else◌, not}
use Rattle.std.proofs.lemmas.{Bool.{true≢false}, Option.{none-some, same_Some}}
use Rattle.std.specs.{List.{AllByRecursion, list_any}, Option.{is_some, option_or}, Prelude.{option_and_then}}
use Rattle.fs_base.specs.{Gate.{Content, What, absent, too_long, unread, whole}, declared.config.{Config.{Config}, Peer.{Peer}}}
use Rattle.fs_conf.proofs.{Accepted.{accepts_numbers}, Announced.{accepts_rules}, Found.{found_each}}
use Rattle.fs_conf.specs.{Config.{config_of}, Laws.{HasPeerNumbers}, Rules.{are_single as are_single_read, rules_of}}
use Rattle.cmd_stages.proofs.Sendable.{rules_sendable}
use Rattle.fs_speaker.specs.{Announcer.{CanSend}, Sending.{is_lowest, sender_of}, declared.{Sending.{Sending}, Sent.{Sent}}}
use Rattle.fs_peering.proofs.Kept.{keeps_equal}
use Rattle.fs_peering.specs.Keeper.{Kept, accepts, dials, hears, is_same, tells_all}
use Rattle.fs_peering.specs.KeeperLaws.{Act, AreActs, LeavesExactly, MayAct, MayKeep, accepted as accepted_at, acted, are_single, dialled, heard}
use Rattle.fs_peering.specs.KeeperLaws.{kept_behind, kept_from, told_all}
use Rattle.cmd_wire.specs.Judged.{IsJudged, Judged, accepted, refused}
use Rattle.cmd_wire.specs.Keeping.{AllFit, Between, Fits, Happening, IsFirst, IsRight, IsThere, Order, Reread, at_first, begun, behind, changes}
use Rattle.cmd_wire.specs.Keeping.{is_done, is_up, judges, keeps, passed, put, rereads, rereads_if, rests, stands_from, starts_by, tells_if, was_done}
use Rattle.cmd_wire.specs.Keeping.{octets_in, AllNamed, IsNamed, StandsExactly, accepted_last, newly, newly_at, rules_in}
use Rattle.cmd_wire.specs.KeepingLaws.{KeptExactly}
use Rattle.cmd_wire.specs.Shelf.{Shelf, changed_by, empty_shelf, is_same_as, kept_by, settled_by, settles, shelved}
use Rattle.cmd_wire.proofs.{Judging.{rules_single}, KeptRules.{accepts_takes, dials_stays, hears_stays, tells_all_stays}}

-- acts behind others

acts_more : (config : Config) (kept : Kept) (acts : List Act) (act : Act)
    → kept_from config kept (acts ++ act ∷ []) ≡ acted config (kept_from config kept acts) act
acts_more config kept [] act = refl
acts_more config kept (first ∷ acts) act = acts_more config (acted config kept first) acts act

each_more : (config : Config) (peer : Peer) (acts : List Act) (act : Act) → AllByRecursion (MayAct config peer) acts → MayAct config peer act
    → AllByRecursion (MayAct config peer) (acts ++ act ∷ [])
each_more config peer [] act each may = (may, tt)
each_more config peer (first ∷ acts) act each may = (each.0, each_more config peer acts act each.1 may)

-- what is accepted may be kept

same_single : (rules : List Sent) → are_single rules ≡ are_single_read rules
same_single [] = refl
same_single (sent ∷ rules) = ap (λ b. not (list_any (is_same sent) rules) && b) (same_single rules)

may_keep : (config : Config) (peer : Peer) (octets : List ℕ) (sending : Sending) → sender_of config.peers ≡ Some peer
    → rules_of config octets ≡ Some sending → 0 < sending.id
    → MayKeep config peer sending
may_keep config peer octets sending sender is named =
    let rules = accepts_rules octets config sending is in
    record {
      can = subst (λ (found : Option Peer). CanSend config found sending) sender (rules_sendable config octets sending is);
      id = record { small = rules.id; some = named };
      path = rules.numbers.each;
      rules = rules.rules;
      single = same_single sending.rules ∙ rules_single config octets sending is;
    }

-- the shelf behind a reading

settled_now : (shelf : Shelf) (content : Content) (time : ℕ) → settles shelf content time ≡ true → (shelved content time shelf).settled ≡ Some content
settled_now shelf content time e =
    ap (λ (b : Bool). (if b then settled_by content time shelf else if is_same_as shelf.settled content then kept_by time shelf
    else changed_by content time shelf).settled) e

settled_still : (shelf : Shelf) (content : Content) (time : ℕ) → settles shelf content time ≡ false → (shelved content time shelf).settled ≡ shelf.settled
settled_still shelf content time e =
    ap (λ (b : Bool). (if b then settled_by content time shelf else if is_same_as shelf.settled content then kept_by time shelf
    else changed_by content time shelf).settled) e
    ∙ by (is_same_as shelf.settled content)
  where
    changed : (b : Bool) → (if b then record shelf { read_at = time }
        else record { settled = shelf.settled; changed = Some content; since = time; read_at = time }).settled ≡ shelf.settled
    changed true = refl
    changed false = refl

    by : (b : Bool) → (if b then kept_by time shelf else changed_by content time shelf).settled ≡ shelf.settled
    by true = refl
    by false = changed (is_same_as shelf.changed content)

module _ (order : Order) (peer : Peer) (sender : sender_of order.config.peers ≡ Some peer) where
  -- Acts lead to how it stands, and what counts is what was accepted last, where it is a rules file.
  record Reaches (now : Between) (last : Option Sending) : Type 0 where
    pub acts : List Act
    pub each : AllByRecursion (MayAct order.config peer) acts
    pub reached : kept_behind order.config acts ≡ now.kept
    pub rules : now.kept.rules ≡ last
    pub held : (octets : List ℕ) (sending : Sending) → now.shelf.settled ≡ Some (whole octets) → rules_of order.config octets ≡ Some sending
        → last ≡ Some sending

  abbrev Counts : Shelf → Option Sending → Type 0
  Counts shelf last = (octets : List ℕ) (sending : Sending) → shelf.settled ≡ Some (whole octets) → rules_of order.config octets ≡ Some sending
      → last ≡ Some sending

  -- one act more
  acts_on : (act : Act) (now later : Between) (last next : Option Sending) → Reaches now last → MayAct order.config peer act
      → later.kept ≡ acted order.config now.kept act
      → later.kept.rules ≡ next → Counts later.shelf next → Reaches later next
  acts_on act now later last next r may is rules held = record {
    acts = r.acts ++ act ∷ [];
    each = each_more order.config peer r.acts act r.each may;
    reached = acts_more order.config _ r.acts act ∙ ap (λ (kept : Kept). acted order.config kept act) r.reached ∙ sym is;
    rules = rules;
    held = held;
  }

  hears_on : (time : ℕ) (what : What) (now : Between) (last : Option Sending) → Reaches now last → Reaches (keeps (hears order.config time what) now).now last
  hears_on time what now last r =
      acts_on (heard time what) now (keeps (hears order.config time what) now).now last last r tt refl (hears_stays order.config time what now.kept
      ∙ r.rules) r.held

  dials_on : (line time : ℕ) (now : Between) (last : Option Sending) → Reaches now last
      → Reaches (keeps (dials order.config line time order.address) now).now last
  dials_on line time now last r =
      acts_on (dialled line time order.address) now (keeps (dials order.config line time order.address) now).now last last r tt refl
      (dials_stays order.config line time order.address now.kept ∙ r.rules) r.held

  tells_on : (time : ℕ) (b : Bool) (now : Between) (last : Option Sending) → Reaches now last → Reaches (tells_if order time b now).now last
  tells_on time true now last r =
      acts_on (told_all time) now (keeps (tells_all order.config time) now).now last last r tt refl (tells_all_stays order.config time now.kept
      ∙ r.rules) r.held
  tells_on time false now last r = r

  -- A READING

  -- one that changes nothing, or isn't accepted
  puts_on : (reread : Reread) (now : Between) (last : Option Sending) → Reaches now last → Counts (put reread now).shelf last → Reaches (put reread now) last
  puts_on reread now last r held = record { acts = r.acts; each = r.each; reached = r.reached; rules = r.rules; held = held }

  same_whole : (content : Content) (octets : List ℕ) → Some content ≡ Some (whole octets) → content ≡ whole octets
  same_whole content octets e = same_Some content (whole octets) e

  -- what is accepted, where this is what counts
  accepted_as : (content : Content) (sending : Sending) → IsJudged order.config content (accepted sending)
      → (octets : List ℕ) × ((content ≡ whole octets) × (rules_of order.config octets ≡ Some sending))
  accepted_as (whole octets) sending right = (octets, (refl, right))
  accepted_as absent sending right = absurd cc
  accepted_as unread sending right = absurd cc
  accepted_as too_long sending right = absurd cc

  counts_accepted : (content : Content) (sending : Sending) (shelf : Shelf) → IsJudged order.config content (accepted sending) → shelf.settled ≡ Some content
      → Counts shelf (Some sending)
  counts_accepted content sending shelf right is octets other e f =
      sym (subst (λ (c : Content). IsJudged order.config c (accepted sending)) (same_whole content octets (sym is ∙ e)) right) ∙ f

  counts_refused : (content : Content) (reason : List ℕ) (last : Option Sending) (shelf : Shelf) → IsJudged order.config content (refused reason)
      → shelf.settled ≡ Some content
      → Counts shelf last
  counts_refused content reason last shelf right is octets other e f =
      let refusal = subst (λ (c : Content). IsJudged order.config c (refused reason)) (same_whole content octets (sym is ∙ e)) right in
      absurd (none-some other (sym refusal.refused ∙ f))

  accepts_on : (reread : Reread) (sending : Sending) (now : Between) (last : Option Sending) → Reaches now last
      → IsJudged order.config reread.content (accepted sending)
      → 0 < sending.id → settles now.shelf reread.content reread.time ≡ true
      → Reaches (keeps (accepts order.config reread.time sending) (put reread now)).now (Some sending)
  accepts_on reread sending now last r right named e =
      let found = accepted_as reread.content sending right in
      let is = settled_now now.shelf reread.content reread.time e in
      acts_on (accepted_at reread.time sending) now (keeps (accepts order.config reread.time sending) (put reread now)).now last (Some sending) r
      (may_keep order.config peer found.0 sending sender found.1.1 named) refl (accepts_takes order.config reread.time sending now.kept)
      (counts_accepted reread.content sending (put reread now).shelf right is)

  judges_on : (reread : Reread) (judged : Option Judged) (now : Between) (last : Option Sending) → Reaches now last → is_some judged ≡ true
      → IfSome judged (IsJudged order.config reread.content) → IsNamed (rules_in judged) → settles now.shelf reread.content reread.time ≡ true
      → Reaches (judges order reread.time judged (put reread now)).now (option_or (rules_in judged) last)
  judges_on reread None now last r done right named e = absurd (true≢false (sym done))
  judges_on reread (Some (accepted sending)) now last r done right named e = accepts_on reread sending now last r right named e
  judges_on reread (Some (refused reason)) now last r done right named e =
      puts_on reread now last r (counts_refused reread.content reason last (put reread now).shelf right (settled_now now.shelf reread.content reread.time e))

  shelves_on : (reread : Reread) (now : Between) (last : Option Sending) (b : Bool) → changes now.shelf reread ≡ b → Reaches now last
      → not b || is_some reread.judged ≡ true
      → IsRight order.config reread → IsNamed (if b then rules_in reread.judged else None)
      → Reaches (if b then judges order reread.time reread.judged (put reread now) else rests (put reread now)).now
      (option_or (if b then rules_in reread.judged else None) last)
  shelves_on reread now last true e r done right named = judges_on reread reread.judged now last r done right named e
  shelves_on reread now last false e r done right named =
      puts_on reread now last r (λ octets sending f. r.held octets sending (sym (settled_still now.shelf reread.content reread.time e) ∙ f))

  rereads_on : (reread : Reread) (now : Between) (last : Option Sending) → Reaches now last → is_done now.shelf reread ≡ true → IsRight order.config reread
      → IsNamed (newly now.shelf reread) → Reaches (rereads order reread now).now (option_or (newly now.shelf reread) last)
  rereads_on reread now last r done right named = shelves_on reread now last (changes now.shelf reread) refl r done right named

  reads_on : (reads : Option Reread) (now : Between) (last : Option Sending) → Reaches now last → IfSome reads (λ reread. is_done now.shelf reread ≡ true)
      → IfSome reads (IsRight order.config) → IsNamed (option_and_then (newly now.shelf) reads)
      → Reaches (rereads_if order reads now).now (option_or (option_and_then (newly now.shelf) reads) last)
  reads_on None now last r done right named = r
  reads_on (Some reread) now last r done right named = rereads_on reread now last r done right named

  -- ALL EVENTS

  event_on : (event : Happening) (now : Between) (last : Option Sending) → Reaches now last → Fits order now event → IsNamed (newly_at now event)
      → Reaches (behind order now event) (option_or (newly_at now event) last)
  event_on event now last r fits named =
      let start : Between = passed event.moment (octets_in event.what) now in
      let begins : Reaches start last = record { acts = r.acts; each = r.each; reached = r.reached; rules = r.rules; held = r.held } in
      let hears_it : Between = (keeps (hears order.config event.time event.what) start).now in
      let dials_it : Between = (keeps (dials order.config event.line event.time order.address) hears_it).now in
      let reads_it : Between = (rereads_if order event.reads dials_it).now in
      tells_on event.time (is_up (hears order.config event.time event.what start.kept).news && was_done dials_it.shelf event.reads) reads_it
      (option_or (newly_at now event) last)
      (reads_on event.reads dials_it last (dials_on event.line event.time hears_it last (hears_on event.time event.what start last begins)) fits.done
      fits.right named)

  events_on : (events : List Happening) (now : Between) (last : Option Sending) → Reaches now last → AllFit order now events → AllNamed order now events
      → Reaches (stands_from order now events) (accepted_last order now last events)
  events_on [] now last r fit named = r
  events_on (event ∷ later) now last r fit named =
      events_on later (behind order now event) (option_or (newly_at now event) last) (event_on event now last r fit.0 named.0) fit.1 named.1

  -- THE FIRST READING

  nothing_yet : Reaches at_first None
  nothing_yet = record { acts = []; each = tt; reached = refl; rules = refl; held = λ octets sending e f. absurd (none-some (whole octets) e) }

  or_none : (found : Option Sending) → option_or found None ≡ found
  or_none None = refl
  or_none (Some sending) = refl

  or_done : (a b : Bool) → b ≡ true → (a || b) ≡ true
  or_done true b e = refl
  or_done false b e = e

  starts_on : (first : Reread) (content : Content) (last : Option Sending) → IsThere content → Reaches (rereads order first at_first).now last
      → Reaches (starts_by order first content).now last
  starts_on first (whole octets) last there r = r
  starts_on first too_long last there r = r
  starts_on first absent last there r = absurd there
  starts_on first unread last there r = absurd there

  begun_on : (first : Reread) → IsFirst order first → IsNamed (newly empty_shelf first) → Reaches (begun order first) (newly empty_shelf first)
  begun_on first is named =
      starts_on first first.content (newly empty_shelf first) is.there
      (subst (Reaches (rereads order first at_first).now) (or_none (newly empty_shelf first))
      (rereads_on first at_first None nothing_yet (or_done (not (changes empty_shelf first)) (is_some first.judged) is.done) is.right named))

  -- THE LAW
  exactly : (text : List ℕ) (now : Between) (last : Option Sending) → config_of text ≡ Some order.config → Reaches now last → StandsExactly order now last
  exactly text now last config_is r connection told e t four =
      let numbers = accepts_numbers text order.config config_is in
      let own = found_each HasPeerNumbers (is_lowest order.config.peers) order.config.peers peer numbers.peers sender in
      let acts : AreActs order.config peer r.acts = record { own = numbers.own; asn = own.asn; sender = sender; each = r.each } in
      let equal = keeps_equal order.config peer r.acts connection told acts (ap (λ (kept : Kept). kept.connection) r.reached ∙ e) t four in
      let kept : now.kept.rules ≡ Some told = sym (ap (λ (kept : Kept). kept.rules) r.reached) ∙ equal.0 in
      let last_is : last ≡ Some told = sym r.rules ∙ kept in
      record {
        sender = sender ∙ ap Some (sym equal.1.0);
        kept = kept;
        last_is = last_is;
        held = λ octets sending held rules. same_Some told sending (sym last_is ∙ r.held octets sending held rules);
        leaves = subst (λ (p : Peer). LeavesExactly order.config p told connection.spoken) (sym equal.1.0) equal.1.1;
      }

-- a front of events that fit
front_fits : (order : Order) (now : Between) (events later : List Happening) → AllFit order now (events ++ later) → AllFit order now events
front_fits order now [] later fit = tt
front_fits order now (event ∷ events) later fit = (fit.0, front_fits order (behind order now event) events later fit.1)

pub kept_exactly : KeptExactly
kept_exactly order first earlier is fit text peer events later config_is sender front named =
    let fits : AllFit order (begun order first) events =
    front_fits order (begun order first) events later (subst (AllFit order (begun order first)) (sym front) fit) in
    exactly order peer sender text (stands_from order (begun order first) events)
    (accepted_last order (begun order first) (newly empty_shelf first) events) config_is
    (events_on order peer sender events (begun order first) (newly empty_shelf first) (begun_on order peer sender first is named.0) fits named.1)
