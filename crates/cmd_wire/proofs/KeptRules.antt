-- Which rules are kept: only where rules are accepted they change.
use Rattle.std.proofs.Common.{ℕ, List, ◌++◌, Bool, true, false, Option, Some, None, refl, ◌≡◌, ◌∙◌, ◌&&◌, ◌==◌, if◌then◌else◌, not}
use Rattle.std.specs.Option.{is_some}
use Rattle.fs_base.specs.{Gate.{What, ended, gave, made, nothing, taken}, declared.config.{Config.{Config}, Peer.{Peer}}}
use Rattle.fs_speaker.specs.{Handed.{Point}, Sending.{needs_of, sender_of}, Side.{notice_text}}
use Rattle.fs_speaker.specs.declared.{Closed.{Closed, TheVariants.{Fault}}, Sending.{Sending}}
use Rattle.fs_peering.specs.Keeper.{Connection, Kept, Outcome, Said, accepts, at_line, begins, begins_one, change_text, checks, comes_up, dials, ends}
use Rattle.fs_peering.specs.Keeper.{exceeds, follows, hears, is_due, is_up, machine_of, news_told, news_up, outcome, parts, received, receives, rests}
use Rattle.fs_peering.specs.Keeper.{rises, speaks, speaks_on, tells, tells_all, terms_at, wakes, with_connection, with_rules, woken}
use Rattle.fs_peering.specs.declared.keeper.News.{News}

abbrev Stays : Kept → Outcome → Type 0
Stays kept outcome = outcome.kept.rules ≡ kept.rules

up_stays : (b : Bool) (text : List ℕ) (now : Point) (news : Option News) (c : Connection) (kept : Kept)
    → Stays kept (speaks_on text now news c (comes_up b kept))
up_stays true text now news c kept = refl
up_stays false text now news c kept = refl

wakes_stays : (time : ℕ) (c : Connection) (kept : Kept) → Stays kept (wakes time c kept)
wakes_stays time c kept = by (woken time c.since c.point)
  where
    comes : Said → Option Closed → Outcome
    comes s how = elim how [ Some why ↦ parts s.text why time c kept | None ↦ speaks_on s.text s.point None c kept ]

    each : (s : Said) (how : Option Closed) → Stays kept (comes s how)
    each s (Some why) = refl
    each s None = refl

    by : (s : Said) → Stays kept (comes s s.closing)
    by s = each s s.closing

checks_stays : (time : ℕ) (kept : Kept) → Stays kept (checks time kept)
checks_stays time kept = by kept.connection
  where
    inner : (c : Connection) (b : Bool) → Stays kept (if b then wakes time c kept else rests kept)
    inner c true = wakes_stays time c kept
    inner c false = refl

    comes : Option Connection → Outcome
    comes o = elim o [ None ↦ rests kept | Some c ↦ if c.made then wakes time c kept else rests kept ]

    by : (o : Option Connection) → Stays kept (comes o)
    by None = refl
    by (Some c) = inner c c.made

receives_stays : (config : Config) (time : ℕ) (piece : List ℕ) (c : Connection) (kept : Kept) → Stays kept (receives config time piece c kept)
receives_stays config time piece c kept = by (received (machine_of config c) time piece c.point)
  where
    comes : Said → Option Closed → Outcome
    comes s how = elim how [
      | Some why ↦ parts s.text why time c kept
      | None ↦ speaks_on s.text s.point (news_up (rises c.point s.point)) c (comes_up (rises c.point s.point) kept)
    ]

    each : (s : Said) (how : Option Closed) → Stays kept (comes s how)
    each s (Some why) = refl
    each s None = up_stays (rises c.point s.point) s.text s.point (news_up (rises c.point s.point)) c kept

    by : (s : Said) → Stays kept (comes s s.closing)
    by s = each s s.closing

line_stays : (line : ℕ) (test : Connection → Bool) (act : Connection → Kept → Outcome) (kept : Kept) → ((c : Connection) → Stays kept (act c kept))
    → Stays kept (at_line line test act kept)
line_stays line test act kept acts = by kept.connection
  where
    inner : (c : Connection) (b : Bool) → Stays kept (if b then act c kept else rests kept)
    inner c true = acts c
    inner c false = refl

    comes : Option Connection → Outcome
    comes o = elim o [ None ↦ rests kept | Some c ↦ if (c.line == line) && test c then act c kept else rests kept ]

    by : (o : Option Connection) → Stays kept (comes o)
    by None = refl
    by (Some c) = inner c ((c.line == line) && test c)

follows_stays : (config : Config) (time : ℕ) (what : What) (kept : Kept) → Stays kept (follows config time what kept)
follows_stays config time (made line) kept = line_stays line (λ c. not c.made) (begins config time) kept (λ c. refl)
follows_stays config time (gave line piece) kept =
    line_stays line (λ c. c.made) (receives config time piece) kept (λ c. receives_stays config time piece c kept)
follows_stays config time (ended line) kept = line_stays line (λ c. true) (ends time) kept (λ c. refl)
follows_stays config time (taken line from) kept = refl
follows_stays config time nothing kept = refl

pub hears_stays : (config : Config) (time : ℕ) (what : What) (kept : Kept) → (hears config time what kept).kept.rules ≡ kept.rules
hears_stays config time what kept = follows_stays config time what (checks time kept).kept ∙ checks_stays time kept

pub dials_stays : (config : Config) (line time : ℕ) (address : List ℕ) (kept : Kept) → (dials config line time address kept).kept.rules ≡ kept.rules
dials_stays config line time address kept = by kept.connection
  where
    due : (sending : Sending) (peer : Peer) (b : Bool) → Stays kept (if b then begins_one line time address peer sending kept else rests kept)
    due sending peer true = refl
    due sending peer false = refl

    for_peer : Sending → Option Peer → Outcome
    for_peer sending found = elim found [
      | None ↦ rests kept
      | Some peer ↦ if is_due time kept then begins_one line time address peer sending kept
          else rests kept
    ]

    of_peer : (sending : Sending) (found : Option Peer) → Stays kept (for_peer sending found)
    of_peer sending None = refl
    of_peer sending (Some peer) = due sending peer (is_due time kept)

    for_rules : Option Sending → Outcome
    for_rules rules = elim rules [ None ↦ rests kept | Some sending ↦ for_peer sending (sender_of config.peers) ]

    of_rules : (rules : Option Sending) → Stays kept (for_rules rules)
    of_rules None = refl
    of_rules (Some sending) = of_peer sending (sender_of config.peers)

    comes : Option Connection → Outcome
    comes o = elim o [ Some c ↦ rests kept | None ↦ for_rules kept.rules ]

    by : (o : Option Connection) → Stays kept (comes o)
    by (Some c) = refl
    by None = of_rules kept.rules

tells_stays : (config : Config) (time : ℕ) (new : Sending) (c : Connection) (kept : Kept) → Stays kept (tells config time new c kept)
tells_stays config time new c kept = by (exceeds (needs_of c.asked.rules) (needs_of new.rules))
  where
    text : List ℕ
    text = change_text (terms_at config c) c.told new

    comes : Bool → Outcome
    comes b =
        if b then parts (notice_text 6 6) (Fault 6 6) time c kept
        else outcome (speaks c.line text) (Some (news_told (terms_at config c) c.told new))
        (with_connection (Some (record c { spoken = c.spoken ++ text; told = Some new })) kept)

    by : (b : Bool) → Stays kept (comes b)
    by true = refl
    by false = refl

pub tells_all_stays : (config : Config) (time : ℕ) (kept : Kept) → (tells_all config time kept).kept.rules ≡ kept.rules
tells_all_stays config time kept = by kept.connection
  where
    inner : (c : Connection) (new : Sending) (b : Bool) → Stays kept (if b then tells config time new c kept else rests kept)
    inner c new true = tells_stays config time new c kept
    inner c new false = refl

    tells_by : Connection → Option Sending → Outcome
    tells_by c rules = elim rules [ None ↦ rests kept | Some new ↦ if is_up c.point && not (is_some c.told) then tells config time new c kept else rests kept ]

    of_rules : (c : Connection) (rules : Option Sending) → Stays kept (tells_by c rules)
    of_rules c None = refl
    of_rules c (Some new) = inner c new (is_up c.point && not (is_some c.told))

    comes : Option Connection → Outcome
    comes o = elim o [ None ↦ rests kept | Some c ↦ tells_by c kept.rules ]

    by : (o : Option Connection) → Stays kept (comes o)
    by None = refl
    by (Some c) = of_rules c kept.rules

-- rules that are accepted are kept from now on
pub accepts_takes : (config : Config) (time : ℕ) (new : Sending) (kept : Kept) → (accepts config time new kept).kept.rules ≡ Some new
accepts_takes config time new kept = by kept.connection
  where
    other : Kept
    other = with_rules new kept

    inner : (c : Connection) (b : Bool) → (if b then tells config time new c other else rests other).kept.rules ≡ Some new
    inner c true = tells_stays config time new c other
    inner c false = refl

    comes : Option Connection → Outcome
    comes o = elim o [ None ↦ rests other | Some c ↦ if is_some c.told then tells config time new c other else rests other ]

    by : (o : Option Connection) → (comes o).kept.rules ≡ Some new
    by None = refl
    by (Some c) = inner c (is_some c.told)
