-- What a keeper does, one part after the other.
use Rattle.fs_peering.proofs.KeeperWords.{ℕ, ◌*◌, min, most_wait, not, List, [], ◌∷◌, ◌++◌, append-nil, ◌≡◌, ◌==◌, ◌&&◌, Bool, true, false, Option}
use Rattle.fs_peering.proofs.KeeperWords.{Some, None, IfSome, refl, ap, sym, subst, ◌∙◌, if◌then◌else◌, option_or, Turn, What, ended, gave, made}
use Rattle.fs_peering.proofs.KeeperWords.{OnErr, Result, on_err}
use Rattle.fs_peering.proofs.KeeperWords.{nothing, taken, shut, Grew, Grew-refl, Grew-trans, Config, Peer, CanSend, has_started, is_established}
use Rattle.fs_peering.proofs.KeeperWords.{machine_in, open_sent, sender_of, state_in, terms_of, StandsAt, Closed, Lined, Machine, Point, Sending}
use Rattle.fs_peering.proofs.KeeperWords.{Connection, Kept, Outcome, Said, at_line, begins, checks, ends, follows, hears, is_up, machine_of, news_up}
use Rattle.fs_peering.proofs.KeeperWords.{outcome, rests, received, receives, speaks, wakes, woken, BreaksSo, Fits, IsConnection, IsOwn}
use Rattle.fs_peering.proofs.KeeperWords.{KeepsOwn, Keeping, LinkSaid, LinkSays, Linked, MayBeSaid, Stands, Took, TookQuietly, TookSo, let_go}
use Rattle.fs_peering.proofs.KeeperWords.{terms_in, News, Ended, Unreached}
use Rattle.fs_peering.proofs.Standing.{going, linked_none, linked_some, machines, checks_none, checks_some, line_none, line_some, settled, settled_by}
use Rattle.fs_peering.proofs.Standing.{took_open, took_rests, took_shut}
use Rattle.fs_session.proofs.Fitting.{all_short}
use Rattle.fs_session.specs.declared.transition.Phase.{Phase}
use Rattle.fs_speaker.specs.declared.State.TheVariants.{Closed as IsClosed}

-- the rules may be said on the terms of the connection
pub may_be_said : (config : Config) (linked : Linked) (sending : Sending) → IsOwn config linked → CanSend config (sender_of config.peers) sending
    → MayBeSaid (terms_in linked.end) sending
may_be_said config linked sending own can =
    let sent : CanSend config (Some linked.end.peer) sending = subst (λ (p : Option Peer). CanSend config p sending) own.sender can in
    let short = all_short config linked.end.peer sending linked.end.line.phase.four sent in
    subst (λ (c : Config). MayBeSaid (terms_of c linked.end.peer linked.end.line.phase.four) sending) (sym own.config_is)
    (record { few = short.0; fits = short.1 })

pub all_said : (config : Config) (linked : Linked) (sending : Option Sending) → IsOwn config linked → IfSome sending (CanSend config (sender_of config.peers))
    → IfSome sending (MayBeSaid (terms_in linked.end))
all_said config linked None own can = tt
all_said config linked (Some sending) own can = may_be_said _ _ _ own can

-- whose the end of the connection is stays
pub owns_on : (config : Config) (linked linked' : Linked) → IsOwn config linked → (linked'.end.config ≡ linked.end.config)
    → (linked'.end.peer ≡ linked.end.peer) → IsOwn config linked'
owns_on config linked linked' own same peer = record {
  config_is = same ∙ own.config_is;
  sender = own.sender ∙ ap (λ (p : Peer). Some p) (sym peer);
}

-- where it broke off before it asked
pub asked_none : {T E : Type 0} (result : Result T E) (turns : Option (List Turn)) → OnErr result (Grew turns turns [])
asked_none result turns = on_err result (Grew-refl turns)

-- what a keeper has fits together still
pub fits_on : (config : Config) (rules : Option Sending) (link : Option Linked) (linked linked' : Linked) → link ≡ Some linked → Fits config rules link
    → KeepsOwn linked linked' → Fits config rules (Some linked')
fits_on config rules link linked linked' is fits keeps = record {
  sendable = fits.sendable;
  own = owns_on _ _ _ (subst (λ (l : Option Linked). IfSome l (IsOwn config)) is fits.own) keeps.0 keeps.1;
}

-- the clock, where a connection isn't made, or is
module _ (time : ℕ) (old : Keeping) (linked : Linked) (link_is : old.link ≡ Some linked) where
  pub check_waits : (turns : Option (List Turn)) → linked.made ≡ false → TookSo (checks time) None old old turns turns
  check_waits turns off = λ kept stands.
      let f = linked_some _ _ _ stands link_is in
      took_rests _ _ _ _ stands (checks_some _ _ _ _ f.there (sym f.is.made_is ∙ off))

  pub check_open : (news : Option News) (linked' : Linked) (out : List ℕ) (new : Keeping) (turns turns1 : Option (List Turn)) → linked.made ≡ true
      → LinkSays (woken time linked.since) news linked linked' [] out → Grew turns turns1 (speaks linked.line out) → news ≡ None
      → new ≡ going false linked' old → TookSo (checks time) None old new turns turns1
  check_open news linked' out new turns turns1 on says asked none goes = λ kept stands.
      let f = linked_some _ _ _ stands link_is in
      let said : LinkSaid (woken time f.connection.since f.connection.point) news linked linked' [] out =
      subst (λ since. LinkSaid (woken time since f.connection.point) news linked linked' [] out) f.is.since_is
      (says f.connection.point (subst (λ machine. StandsAt machine linked.end.line f.connection.point)
      (sym (machines _ _ _ _ f.is)) f.is.stands) f.is.alive) in
      subst (λ (o : Outcome). Took o None old new turns turns1) (sym (checks_some _ _ _ _ f.there (sym f.is.made_is ∙ on)))
      (took_open _ _ time _ _ _ _ _ _ stands f.is said _ _ asked false _ none goes)

  pub check_shut : (news : Option News) (linked' : Linked) (out : List ℕ) (new : Keeping) (turns turns1 turns2 : Option (List Turn)) (done : News)
      → linked.made ≡ true
      → LinkSays (woken time linked.since) news linked linked' [] out → Grew turns turns1 (speaks linked.line out) → news ≡ Some done
      → Grew turns1 turns2 (shut linked.line ∷ []) → new ≡ let_go time old → TookSo (checks time) (Some done) old new turns turns2
  check_shut news linked' out new turns turns1 turns2 done on says asked some closed goes = λ kept stands.
      let f = linked_some _ _ _ stands link_is in
      let said : LinkSaid (woken time f.connection.since f.connection.point) news linked linked' [] out =
      subst (λ since. LinkSaid (woken time since f.connection.point) news linked linked' [] out) f.is.since_is
      (says f.connection.point (subst (λ machine. StandsAt machine linked.end.line f.connection.point)
      (sym (machines _ _ _ _ f.is)) f.is.stands) f.is.alive) in
      subst (λ (o : Outcome). Took o (Some done) old new turns turns2) (sym (checks_some _ _ _ _ f.there (sym f.is.made_is ∙ on)))
      (took_shut _ _ _ _ _ _ _ _ _ stands f.is said _ _ asked false _ _ _ some closed goes)

pub check_none : (time : ℕ) (old : Keeping) (turns : Option (List Turn)) → old.link ≡ None → TookSo (checks time) None old old turns turns
check_none time old turns none = λ kept stands. took_rests _ _ _ _ stands (checks_none _ _ (linked_none _ _ stands none))

-- no connection is there, or another
pub at_none : (line : ℕ) (fits : Connection → Bool) (act : Connection → Kept → Outcome) (old : Keeping) → old.link ≡ None
    → TookQuietly (at_line line fits act) None old old
at_none line fits act old none =
    λ turns kept stands. took_rests _ _ _ _ stands (line_none _ _ act _ (linked_none _ _ stands none))

same_lines : (a b line : ℕ) (fits is : Bool) → a ≡ b → ((a == line) && fits) ≡ is → ((b == line) && fits) ≡ is
same_lines a b line fits is e h = subst (λ n. ((n == line) && fits) ≡ is) e h

-- what is asked of a connection is asked of its link
at_link : (line : ℕ) (fits : Connection → Bool) (connection : Connection) (linked : Linked) (fit is : Bool) → linked.line ≡ connection.line
    → fits connection ≡ fit
    → ((linked.line == line) && fit) ≡ is → ((connection.line == line) && fits connection) ≡ is
at_link line fits connection linked fit is line_is fit_is h =
    same_lines _ _ _ _ _ line_is (ap (λ b. (linked.line == line) && b) fit_is ∙ h)

pub at_other : (line : ℕ) (fits : Connection → Bool) (act : Connection → Kept → Outcome) (old : Keeping) (linked : Linked) (fit : Bool) → old.link ≡ Some linked
    → ((connection : Connection) → linked.made ≡ connection.made → fits connection ≡ fit) → ((linked.line == line) && fit) ≡ false
    → TookQuietly (at_line line fits act) None old old
at_other line fits act old linked fit some fits_is other = λ turns kept stands.
    let f = linked_some _ _ _ stands some in
    took_rests _ _ _ _ stands (line_some _ _ act _ _ _ f.there
    (at_link _ fits f.connection linked _ _ f.is.line_is (fits_is f.connection f.is.made_is) other))

pub at_this : (line : ℕ) (fits : Connection → Bool) (act : Connection → Kept → Outcome) (news : Option News) (old new : Keeping) (linked : Linked) (fit : Bool)
    (turns turns' : Option (List Turn)) → old.link ≡ Some linked
    → ((connection : Connection) → linked.made ≡ connection.made → fits connection ≡ fit) → ((linked.line == line) && fit) ≡ true
    → ((kept : Kept) (connection : Connection) → Stands kept old → IsConnection old.config kept.rules connection linked
    → Took (act connection kept) news old new turns turns')
    → TookSo (at_line line fits act) news old new turns turns'
at_this line fits act news old new linked fit turns turns' some fits_is this took = λ kept stands.
    let f = linked_some _ _ _ stands some in
    subst (λ (o : Outcome). Took o news old new turns turns') (sym (line_some _ _ act _ _ _ f.there
    (at_link _ fits f.connection linked _ _ f.is.line_is (fits_is f.connection f.is.made_is) this)))
    (took kept f.connection stands f.is)

-- the OPEN is said
pub begun_so : (time : ℕ) (old new : Keeping) (linked linked' : Linked) (out : List ℕ) (turns turns1 : Option (List Turn)) → linked.made ≡ false
    → (linked.end.started ≡ false
    → (linked' ≡ record linked { made = true; since = time; end = has_started linked.end })
    × (out ≡ [] ++ open_sent linked.end.config linked.end.peer linked.end.sending))
    → Grew turns turns1 (speaks linked.line out) → new ≡ going false linked' old
    → (kept : Kept) (connection : Connection) → Stands kept old → IsConnection old.config kept.rules connection linked
    → Took (begins old.config time connection kept) None old new turns turns1
begun_so time old new linked linked' out turns turns1 off begun asked goes kept connection stands is =
    let b = begun (is.started_is ∙ sym is.made_is ∙ off) in
    let text : out ≡ open_sent old.config connection.peer connection.asked =
    b.1 ∙ ap (λ (c : Config). open_sent c linked.end.peer linked.end.sending) is.config_is
    ∙ ap (λ (p : Peer). open_sent old.config p linked.end.sending) is.peer_is
    ∙ ap (λ (s : Sending). open_sent old.config connection.peer s) is.asked_is in
    subst (λ (n : Keeping). Took (begins old.config time connection kept) None old n turns turns1) (sym goes)
    (record {
      asked = subst (λ line. Grew turns turns1 (speaks line (open_sent old.config connection.peer connection.asked))) is.line_is
          (subst (λ t. Grew turns turns1 (speaks linked.line t)) text asked);
      news_is = refl;
      stands = record {
        rules_are = stands.rules_are;
        sendable = stands.sendable;
        since_is = stands.since_is;
        wait_is = stands.wait_is;
        delay_is = stands.delay_is;
        link = (
          linked',
          refl,
          subst (IsConnection old.config kept.rules (record connection {
            made = true;
            since = time;
            spoken = open_sent old.config connection.peer connection.asked;
          })) (sym b.0) assumption,
        );
      };
      config_is = refl;
    })

-- the connection ends
pub ended_so : (time : ℕ) (news : News) (old new : Keeping) (linked : Linked) (turns : Option (List Turn)) → news ≡ (if linked.made then Ended else Unreached)
    → new ≡ let_go time old
    → (kept : Kept) (connection : Connection) → Stands kept old → IsConnection old.config kept.rules connection linked
    → Took (ends time connection kept) (Some news) old new turns turns
ended_so time news old new linked turns news_is goes kept connection stands is =
    subst (λ (n : Keeping). Took (ends time connection kept) (Some news) old n turns turns) (sym goes)
    (record {
      asked = Grew-refl turns;
      news_is = ap (λ (n : News). Some n) (news_is ∙ ap (λ (b : Bool). if b then Ended else Unreached) is.made_is);
      stands = assumption (ap (λ (n : ℕ). min most_wait (2 * n)) stands.delay_is);
      config_is = refl;
    })

-- whether the session is up
pub up_is : (machine : Machine) (line : Lined) (now : Point) → StandsAt machine line now → now.closed ≡ None → is_established (state_in line) ≡ is_up now
up_is machine line now stands alive =
    ap (λ (c : Option Closed). is_established (elim c [ Some why ↦ IsClosed | None ↦ line.phase.state ])) (stands.closed_is ∙ alive)
    ∙ ap (λ (p : Phase). is_established p.state) (stands.open_is alive).phase_is

-- octets come
module _ (time : ℕ) (piece : List ℕ) (old : Keeping) (linked linked' : Linked) (news : Option News) (out : List ℕ) (turns turns1 : Option (List Turn))
    (says : LinkSays (received (machine_in linked.end) time piece) news linked linked' [] out) (asked : Grew turns turns1 (speaks linked.line out)) where
  said_so : (kept : Kept) (connection : Connection) → IsConnection old.config kept.rules connection linked
      → LinkSaid (received (machine_of old.config connection) time piece connection.point) news linked linked' [] out
  said_so kept connection is =
      subst (λ machine. LinkSaid (received machine time piece connection.point) news linked linked' [] out) (machines _ _ _ _ is)
      (says connection.point (subst (λ machine. StandsAt machine linked.end.line connection.point)
      (sym (machines _ _ _ _ is)) is.stands) is.alive)

  pub received_shut : (new : Keeping) (done : News) (turns2 : Option (List Turn)) → news ≡ Some done → Grew turns1 turns2 (shut linked.line ∷ [])
      → new ≡ let_go time old
      → (kept : Kept) (connection : Connection) → Stands kept old → IsConnection old.config kept.rules connection linked
      → Took (receives old.config time piece connection kept) (Some done) old new turns turns2
  received_shut new done turns2 some closed goes kept connection stands is =
      took_shut _ _ _ _ _ _ _ _ _ stands is (said_so kept _ is) _ _ asked _ _ _ _ some closed goes

  -- whether it was up, and is
  pub received_open : (new : Keeping) (was now : Bool) → news ≡ None → was ≡ is_established (state_in linked.end.line)
      → now ≡ is_established (state_in linked'.end.line)
      → new ≡ going (now && not was) linked' old
      → (kept : Kept) (connection : Connection) → Stands kept old → IsConnection old.config kept.rules connection linked
      → Took (receives old.config time piece connection kept) (news_up (now && not was)) old new turns turns1
  received_open new was now none was_is now_is goes kept connection stands is =
      by (received (machine_of old.config connection) time piece connection.point).closing refl
    where
      took : Took (settled (received (machine_of old.config connection) time piece connection.point) (now && not was) time connection kept)
          (news_up (now && not was)) old new turns turns1
      took =
          took_open _ _ _ _ _ _ _ _ _ stands is (said_so kept _ is) _ _ asked _ _ none goes

      by : (closing : Option Closed) → (received (machine_of old.config connection) time piece connection.point).closing ≡ closing
          → Took (receives old.config time piece connection kept) (news_up (now && not was)) old new turns turns1
      by (Some why) e =
          subst (λ (o : Outcome). Took o (news_up (now && not was)) old new turns turns1) (settled_by _ _ _ connection _ _ e
          ∙ sym (settled_by _ _ _ connection _ _ e)) took
      by None e =
          let on = (said_so kept _ is).stays e in
          let was_up : was ≡ is_up connection.point = was_is ∙ up_is _ _ _ is.stands is.alive in
          let now_up : now ≡ is_up (received (machine_of old.config connection) time piece connection.point).point =
          now_is ∙ up_is _ _ _ on.0 on.1 in
          subst (λ (b : Bool). Took (settled (received (machine_of old.config connection) time piece connection.point) b time connection kept)
          (news_up (now && not was)) old new turns turns1)
          (ap (λ b. b && not was) now_up ∙ ap (λ b. is_up (received (machine_of old.config connection) time piece connection.point).point && not b) was_up)
          took

-- First the clock is heard, and then the event.
abbrev GoneWhereTold : News → Outcome → Type 0
GoneWhereTold done o = o.news ≡ Some done → o.kept.connection ≡ None

gone_told : (time : ℕ) (kept : Kept) (done : News) → (checks time kept).news ≡ Some done → (checks time kept).kept.connection ≡ None
gone_told time kept done = by kept.connection refl
  where
    rests_so : GoneWhereTold done (rests kept)
    rests_so some = absurd (let no : None ≡ Some done = some in cc)

    settled_so : (said : Said) (connection : Connection) (closing : Option Closed) → said.closing ≡ closing
        → GoneWhereTold done (settled said false time connection kept)
    settled_so said connection (Some why) e = subst (GoneWhereTold done) (sym (settled_by _ false _ connection kept _ e)) (λ some. refl)
    settled_so said connection None e =
        subst (GoneWhereTold done) (sym (settled_by _ false _ connection kept _ e)) (λ some. absurd (let no : None ≡ Some done = some in cc))

    made_so : (connection : Connection) (made : Bool) → GoneWhereTold done (if made then wakes time connection kept else rests kept)
    made_so connection true = settled_so _ connection _ refl
    made_so connection false = rests_so

    by : (connection : Option Connection) → kept.connection ≡ connection → GoneWhereTold done (checks time kept)
    by None e = subst (GoneWhereTold done) (sym (checks_none _ _ e)) rests_so
    by (Some connection) e = subst (GoneWhereTold done) (sym (checks_some _ _ _ _ e refl)) (made_so connection connection.made)

follows_gone : (config : Config) (time : ℕ) (what : What) (kept : Kept) → kept.connection ≡ None → follows config time what kept ≡ rests kept
follows_gone config time (made line) kept e = line_none _ _ (begins config time) _ e
follows_gone config time (gave line piece) kept e = line_none _ _ (receives config time piece) _ e
follows_gone config time (ended line) kept e = line_none _ _ (ends time) _ e
follows_gone config time (taken line from) kept e = refl
follows_gone config time nothing kept e = refl

-- the clock closed the session
pub hear_shut : (config : Config) (time : ℕ) (what : What) (done : News) (old mid : Keeping) (turns turns1 : Option (List Turn))
    → TookSo (checks time) (Some done) old mid turns turns1 → TookSo (hears config time what) (Some done) old mid turns turns1
hear_shut config time what done old mid turns turns1 first = λ kept stands.
    let took = first kept stands in
    let e = follows_gone config time what _ (gone_told time kept _ (sym took.news_is)) in
    subst (λ (o : Outcome). Took (outcome ((checks time kept).turns ++ o.turns) (option_or (checks time kept).news o.news) o.kept)
    (Some done) old mid turns turns1) (sym e)
    (record {
      asked = subst (Grew turns turns1) (sym (append-nil (checks time kept).turns)) took.asked;
      news_is = ap (λ (n : Option News). option_or n None) took.news_is;
      stands = took.stands;
      config_is = took.config_is;
    })

-- it didn't
module _ (time : ℕ) (what : What) (old mid : Keeping) (turns turns1 turns2 : Option (List Turn)) (first : TookSo (checks time) None old mid turns turns1) where
  pub hear_on : (news : Option News) (new : Keeping) → TookSo (follows mid.config time what) news mid new turns1 turns2
      → TookSo (hears old.config time what) news old new turns turns2
  hear_on news new later = λ kept stands.
      let took = first kept stands in
      let next = later (checks time kept).kept took.stands in
      subst (λ (config : Config). Took (hears config time what kept) news old new turns turns2) took.config_is
      (record {
        asked =
            Grew-trans turns turns1 turns2 (checks time kept).turns (follows mid.config time what (checks time kept).kept).turns took.asked next.asked;
        news_is = next.news_is ∙ ap (λ (n : Option News). option_or n (follows mid.config time what (checks time kept).kept).news) took.news_is;
        stands = next.stands;
        config_is = next.config_is ∙ took.config_is;
      })

  pub hear_breaks : Grew turns1 turns2 [] → BreaksSo (hears old.config time what) old turns turns2
  hear_breaks none = λ kept stands.
      let took = first kept stands in
      record {
        asked = (checks time kept).turns;
        later = (follows old.config time what (checks time kept).kept).turns;
        front = refl;
        gate = subst (Grew turns turns2) (append-nil (checks time kept).turns) (Grew-trans turns turns1 turns2 (checks time kept).turns [] took.asked none);
      }

-- nothing was asked
pub breaks_early : (step : Kept → Outcome) (old : Keeping) (turns turns1 : Option (List Turn)) → Grew turns turns1 [] → BreaksSo step old turns turns1
breaks_early step old turns turns1 none = λ kept stands. record { asked = []; later = (step kept).turns; front = refl; gate = none }
