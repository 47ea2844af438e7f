-- That a keeper takes a step: what its gate was asked, and how it stands.
use Rattle.std.specs.Prelude.{ℕ, List, [], ◌∷◌, ◌++◌, ◌*◌, ◌&&◌, ◌≡◌, ◌≢◌, ◌≤◌, Bool, true, false, Option, Some, None, is_some, length, min, not}
use Rattle.std.specs.Prelude.{option_and_then, IfSome}
use Rattle.std.specs.List.{list_all}
use Rattle.fs_base.specs.{Gate.{Turn, shut}, Sink.{Grew}, declared.config.Config.{Config}}
use Rattle.fs_attrs.specs.declared.update.Terms.{Terms}
use Rattle.fs_speaker.specs.Announcer.{Announcing, CanSend, is_established, machine_in, with_line}
use Rattle.fs_speaker.specs.{End.{StandsAt}, Handed.{Point}, Line.{state_in}, Sending.{is_short, needs_of, sender_of}, Side.{notice_text}}
use Rattle.fs_speaker.specs.{Transition.{terms_of}, declared.{Closed.{TheVariants.{Memory}}, Sending.{Sending}}}
use Rattle.fs_peering.specs.Keeper.{Connection, Kept, Outcome, Said, change_text, exceeds, machine_of, most_wait, news_of, news_told, speaks}
use Rattle.fs_peering.specs.declared.keeper.News.{News, TheVariants.{Closed as HasClosed}}

-- the terms on which an end writes
abbrev pub terms_in : Announcing → Terms
terms_in end = terms_of end.config end.peer end.line.phase.four

-- What a keeper has of a connection: its end of the session, the families that were asked for, and whether it was told the
-- rules.
pub record Linked : Type 0 where
  pub line : ℕ
  pub made : Bool
  pub since : ℕ
  pub end : Announcing
  pub told : Bool

-- whose end it is stays
abbrev pub KeepsOwn : (old new : Linked) → Type 0
KeepsOwn old new = (new.end.config ≡ old.end.config) × (new.end.peer ≡ old.end.peer)

-- These rules may be said on these terms: they are few enough AS numbers, and each UPDATE fits a message.
pub record MayBeSaid (terms : Terms) (sending : Sending) : Type 0 where
  pub few : length sending.as_path ≤ 255
  pub fits : list_all (is_short terms sending.as_path) sending.rules ≡ true

-- A link said this, and is to tell that; where it hasn't closed its end stands at the point. Want of memory is no closing.
pub record LinkSaid (said : Said) (news : Option News) (old new : Linked) (out out' : List ℕ) : Type 0 where
  pub text : out' ≡ out ++ said.text
  pub news_is : news ≡ option_and_then news_of said.closing
  pub other : said.closing ≢ Some Memory
  pub stays : said.closing ≡ None → StandsAt (machine_in old.end) new.end.line said.point × (said.point.closed ≡ None)
  pub same : new ≡ record old { end = with_line old.end new.end.line }

-- from wherever its session stands, open
abbrev pub LinkSays : (Point → Said) → Option News → (old new : Linked) → (out out' : List ℕ) → Type 0
LinkSays says news old new out out' =
    (now : Point) → StandsAt (machine_in old.end) old.end.line now → now.closed ≡ None → LinkSaid (says now) news old new out out'

-- A link closes for the rules, or was told them: what there is to tell, and whether it closes.
abbrev pub LinkTellsBy : (exceeding : Bool) → Option Sending → Sending → News × Bool → (old new : Linked) → (out out' : List ℕ) → Type 0
LinkTellsBy true told rules done old new out out' =
    (done ≡ (HasClosed 6 6, true)) × ((out' ≡ out ++ notice_text 6 6) × (new ≡ old))
LinkTellsBy false told rules done old new out out' =
    (done ≡ (news_told (terms_in old.end) told rules, false))
    × ((out' ≡ out ++ change_text (terms_in old.end) told rules) × (new ≡ record old { told = true }))

-- by whether they have a family that wasn't asked for
abbrev pub LinkTells : Option Sending → Sending → News × Bool → (old new : Linked) → (out out' : List ℕ) → Type 0
LinkTells told rules done old new out out' =
    LinkTellsBy (exceeds (needs_of old.end.sending.rules) (needs_of rules.rules)) told rules done old new out out'

-- What a keeper has.
pub record Keeping : Type 0 where
  pub config : Config
  pub rules : Option Sending
  pub since : ℕ
  pub wait : ℕ
  pub delay : ℕ
  pub link : Option Linked

-- What a keeper has fits together: its rules may be sent, and its connection's end is that of the peer for which they are.
pub record IsOwn (config : Config) (linked : Linked) : Type 0 where
  pub config_is : linked.end.config ≡ config
  pub sender : sender_of config.peers ≡ Some linked.end.peer

pub record Fits (config : Config) (rules : Option Sending) (link : Option Linked) : Type 0 where
  pub sendable : IfSome rules (CanSend config (sender_of config.peers))
  pub own : IfSome link (IsOwn config)

-- whether a connection was told the rules; whether one is up that wasn't
abbrev pub is_told : Option Linked → Bool
is_told None = false
is_told (Some linked) = linked.told

abbrev pub is_untold : Option Linked → Bool
is_untold None = false
is_untold (Some linked) = not linked.told && is_established (state_in linked.end.line)

-- the connection goes
abbrev pub let_go : (time : ℕ) → Keeping → Keeping
let_go time old = record {
  config = old.config;
  rules = old.rules;
  since = time;
  wait = old.delay;
  delay = min most_wait (2 * old.delay);
  link = None;
}

-- A keeper's connection closes for the rules, or was told them: what its gate was asked, what there is to tell, and what it
-- has then.
abbrev pub TellsBy : (exceeding : Bool) → (time : ℕ) → Option Sending → Sending → Linked → Option News
    → (old new : Keeping) → (turns turns' : Option (List Turn)) → Type 0
TellsBy true time told rules linked news old new turns turns' =
    Grew turns turns' (speaks linked.line (notice_text 6 6) ++ shut linked.line ∷ [])
    × ((news ≡ Some (HasClosed 6 6)) × (new ≡ let_go time old))
TellsBy false time told rules linked news old new turns turns' =
    Grew turns turns' (speaks linked.line (change_text (terms_in linked.end) told rules))
    × ((news ≡ Some (news_told (terms_in linked.end) told rules))
    × (new ≡ record old { link = Some (record linked { told = true }) }))

-- where there are a connection and rules
abbrev pub TellsAt : Option Linked → Option Sending → (time : ℕ) → Option Sending → Option News
    → (old new : Keeping) → (turns turns' : Option (List Turn)) → Type 0
TellsAt (Some linked) (Some rules) time told news old new turns turns' =
    TellsBy (exceeds (needs_of linked.end.sending.rules) (needs_of rules.rules)) time told rules linked news old new turns turns'
TellsAt (Some linked) None time told news old new turns turns' = Grew turns turns' [] × ((news ≡ None) × (new ≡ old))
TellsAt None rules time told news old new turns turns' = Grew turns turns' [] × ((news ≡ None) × (new ≡ old))

abbrev pub TellsSo : (time : ℕ) → Option Sending → Option News → (old new : Keeping)
    → (turns turns' : Option (List Turn)) → Type 0
TellsSo time told news old new turns turns' = TellsAt old.link old.rules time told news old new turns turns'

-- The end of the session stands at the connection's point. It was told the rules that are to be kept, or nothing.
pub record IsConnection (config : Config) (rules : Option Sending) (connection : Connection) (link : Linked) : Type 0 where
  pub line_is : link.line ≡ connection.line
  pub made_is : link.made ≡ connection.made
  pub since_is : link.since ≡ connection.since
  pub config_is : link.end.config ≡ config
  pub peer_is : link.end.peer ≡ connection.peer
  pub sender : sender_of config.peers ≡ Some connection.peer
  pub asked_is : link.end.sending ≡ connection.asked
  pub started_is : link.end.started ≡ connection.made
  pub appended_is : link.end.appended ≡ 0
  pub stands : StandsAt (machine_of config connection) link.end.line connection.point
  pub alive : connection.point.closed ≡ None
  pub told_is : link.told ≡ is_some connection.told
  pub same : IfSome connection.told (λ told. rules ≡ Some told)

abbrev pub IsLink : Config → Option Sending → Option Connection → Option Linked → Type 0
IsLink config rules None link = link ≡ None
IsLink config rules (Some connection) link = (linked : Linked) × (link ≡ Some linked) × IsConnection config rules connection linked

-- the keeper stands so; the rules may be sent
pub record Stands (kept : Kept) (keeping : Keeping) : Type 0 where
  pub rules_are : keeping.rules ≡ kept.rules
  pub sendable : IfSome kept.rules (CanSend keeping.config (sender_of keeping.config.peers))
  pub since_is : keeping.since ≡ kept.since
  pub wait_is : keeping.wait ≡ kept.wait
  pub delay_is : keeping.delay ≡ kept.delay
  pub link : IsLink keeping.config kept.rules kept.connection keeping.link

-- Behind a step, from however it stood: the gate was asked so much and no more, this there is to be told, and it stands as
-- the step leaves it.
pub record Took (outcome : Outcome) (news : Option News) (old new : Keeping) (turns turns' : Option (List Turn)) : Type 0 where
  pub asked : Grew turns turns' outcome.turns
  pub news_is : news ≡ outcome.news
  pub stands : Stands outcome.kept new
  pub config_is : new.config ≡ old.config

abbrev pub TookSo : (Kept → Outcome) → Option News → (old new : Keeping) → (turns turns' : Option (List Turn)) → Type 0
TookSo step news old new turns turns' = (kept : Kept) → Stands kept old → Took (step kept) news old new turns turns'

-- so where the gate is asked nothing
abbrev pub TookQuietly : (Kept → Outcome) → Option News → (old new : Keeping) → Type 0
TookQuietly step news old new = (turns : Option (List Turn)) → TookSo step news old new turns turns

-- It was broken off for want of memory: a front of what the gate was to be asked was.
pub record BreaksAt (due : List Turn) (turns turns' : Option (List Turn)) : Type 0 where
  pub asked : List Turn
  pub later : List Turn
  pub front : asked ++ later ≡ due
  pub gate : Grew turns turns' asked

abbrev pub BreaksSo : (Kept → Outcome) → Keeping → (turns turns' : Option (List Turn)) → Type 0
BreaksSo step old turns turns' = (kept : Kept) → Stands kept old → BreaksAt (step kept).turns turns turns'
