-- How a keeper stands behind what its connection says.
use Rattle.fs_peering.proofs.KeeperWords.{ℕ, ◌*◌, min, most_wait, option_and_then, List, [], ◌∷◌, ◌≡◌, ◌≢◌, ◌==◌, ◌&&◌, Bool, true, false, Option}
use Rattle.fs_peering.proofs.KeeperWords.{Some, None, refl, ap, sym, subst, ◌∙◌, if◌then◌else◌, Turn, shut, Grew, Grew-refl, Grew-trans, Config}
use Rattle.fs_peering.proofs.KeeperWords.{announcer, machine_in, needs_of, StandsAt, Closed, Fault, Memory, NoFamily, Notified, Sending, Connection}
use Rattle.fs_peering.proofs.KeeperWords.{Kept, Outcome, Said, at_line, checks, comes_up, machine_of, news_of, news_up, parts, rests, speaks}
use Rattle.fs_peering.proofs.KeeperWords.{speaks_on, spoke, wakes, with_connection, IsConnection, IsLink, Keeping, LinkSaid, Linked, Stands, Took}
use Rattle.fs_peering.proofs.KeeperWords.{let_go, News, HasClosed, HasNotified}

-- no connection is there
pub linked_none : (kept : Kept) (old : Keeping) → Stands kept old → old.link ≡ None → kept.connection ≡ None
linked_none kept old stands none = by kept.connection stands.link
  where
    by : (connection : Option Connection) → IsLink old.config kept.rules connection old.link → connection ≡ None
    by None is = refl
    by (Some connection) is = absurd (let e : Some is.0 ≡ None = sym is.1 ∙ none in cc)

-- the connection that a link is
pub record Found (config : Config) (kept : Kept) (linked : Linked) : Type 0 where
  pub connection : Connection
  pub there : kept.connection ≡ Some connection
  pub is : IsConnection config kept.rules connection linked

pub linked_some : (kept : Kept) (old : Keeping) (linked : Linked) → Stands kept old → old.link ≡ Some linked → Found old.config kept linked
linked_some kept old linked stands some = by _ refl stands.link
  where
    by : (connection : Option Connection) → kept.connection ≡ connection → IsLink old.config kept.rules connection old.link → Found old.config kept linked
    by None there is = absurd (let e : Some linked ≡ None = sym some ∙ is in cc)
    by (Some connection) there is =
        let same : is.0 ≡ linked = (let e : Some is.0 ≡ Some linked = sym is.1 ∙ some in cc) in
        record { connection = connection; there = there; is = subst (IsConnection old.config kept.rules connection) same is.2 }

-- it rests
pub took_rests : (made : Outcome) (kept : Kept) (old : Keeping) (turns : Option (List Turn)) → Stands kept old → made ≡ rests kept
    → Took made None old old turns turns
took_rests made kept old turns stands e =
    subst (λ (o : Outcome). Took o None old old turns turns) (sym e)
    (record { asked = Grew-refl turns; news_is = refl; stands = stands; config_is = refl })

pub checks_none : (time : ℕ) (kept : Kept) → kept.connection ≡ None → checks time kept ≡ rests kept
checks_none time kept e =
    ap (λ (o : Option Connection). elim o as (λ _. Outcome) [
      | None ↦ rests kept
      | Some connection ↦ if connection.made then wakes time connection kept
          else rests kept
    ]) e

pub checks_some : (time : ℕ) (kept : Kept) (connection : Connection) (made : Bool) → kept.connection ≡ Some connection → connection.made ≡ made
    → checks time kept ≡ (if made then wakes time connection kept else rests kept)
checks_some time kept connection made e m =
    ap (λ (o : Option Connection). elim o as (λ _. Outcome) [
      | None ↦ rests kept
      | Some connection ↦ if connection.made then wakes time connection kept
          else rests kept
    ]) e
    ∙ ap (λ (b : Bool). if b then wakes time connection kept else rests kept) m

pub line_none : (line : ℕ) (fits : Connection → Bool) (act : Connection → Kept → Outcome) (kept : Kept) → kept.connection ≡ None
    → at_line line fits act kept ≡ rests kept
line_none line fits act kept e =
    ap (λ (o : Option Connection). elim o as (λ _. Outcome) [
      | None ↦ rests kept
      | Some connection ↦ if (connection.line == line) && fits connection
          then act connection kept else rests kept
    ]) e

pub line_some : (line : ℕ) (fits : Connection → Bool) (act : Connection → Kept → Outcome) (kept : Kept) (connection : Connection) (is : Bool)
    → kept.connection ≡ Some connection → ((connection.line == line) && fits connection) ≡ is
    → at_line line fits act kept ≡ (if is then act connection kept else rests kept)
line_some line fits act kept connection is e m =
    ap (λ (o : Option Connection). elim o as (λ _. Outcome) [
      | None ↦ rests kept
      | Some connection ↦ if (connection.line == line) && fits connection
          then act connection kept else rests kept
    ]) e
    ∙ ap (λ (b : Bool). if b then act connection kept else rests kept) m

-- what a session says is said, and where it has closed its connection is
abbrev pub settled : Said → Bool → (time : ℕ) → Connection → Kept → Outcome
settled said up time connection kept = elim said.closing [
  | Some why ↦ parts said.text why time connection kept
  | None ↦ speaks_on said.text said.point (news_up up) connection (comes_up up kept)
]

pub settled_by : (said : Said) (up : Bool) (time : ℕ) (connection : Connection) (kept : Kept) (closing : Option Closed) → said.closing ≡ closing
    → settled said up time connection kept ≡ (elim closing as (λ _. Outcome) [
      | Some why ↦ parts said.text why time connection kept
      | None ↦ speaks_on said.text said.point (news_up up) connection (comes_up up kept)
    ])
settled_by said up time connection kept closing e =
    ap (λ (o : Option Closed). elim o as (λ _. Outcome) [
      | Some why ↦ parts said.text why time connection kept
      | None ↦ speaks_on said.text said.point (news_up up) connection (comes_up up kept)
    ]) e

-- the connection stays, and has come up or not
abbrev pub going : Bool → Linked → Keeping → Keeping
going up linked old = record {
  config = old.config;
  rules = old.rules;
  since = old.since;
  wait = old.wait;
  delay = if up then 1000 else old.delay;
  link = Some linked;
}

-- a closing has news
closes_loud : (why : Closed) → why ≢ Memory → news_of why ≡ None → ⊥
closes_loud (Fault code subcode) other none = (let e : Some (HasClosed code subcode) ≡ None = none in absurd cc)
closes_loud (Notified code subcode) other none = (let e : Some (HasNotified code subcode) ≡ None = none in absurd cc)
closes_loud NoFamily other none = (let e : Some (HasClosed 2 7) ≡ None = none in absurd cc)
closes_loud Memory other none = other refl

pub machines : (config : Config) (rules : Option Sending) (connection : Connection) (linked : Linked) → IsConnection config rules connection linked
    → machine_in linked.end ≡ machine_of config connection
machines config rules connection linked is =
    ap (λ (c : Config). announcer c (needs_of linked.end.sending.rules)) is.config_is ∙ ap (λ (s : Sending). announcer config (needs_of s.rules)) is.asked_is

module _ (said : Said) (news : Option News) (time : ℕ) (connection : Connection) (linked linked' : Linked) (out : List ℕ) (kept : Kept) (old : Keeping)
    (stands : Stands kept old) (is : IsConnection old.config kept.rules connection linked) (says : LinkSaid said news linked linked' [] out)
    (turns turns1 : Option (List Turn)) (asked : Grew turns turns1 (speaks linked.line out)) where
  asked_so : Grew turns turns1 (speaks connection.line said.text)
  asked_so = subst (λ line. Grew turns turns1 (speaks line said.text)) is.line_is (subst (λ text. Grew turns turns1 (speaks linked.line text)) says.text asked)

  goes_on : said.closing ≡ None → IsConnection old.config kept.rules (spoke said.text said.point connection) linked'
  goes_on alive = record {
    line_is = ap (λ (l : Linked). l.line) says.same ∙ is.line_is;
    made_is = ap (λ (l : Linked). l.made) says.same ∙ is.made_is;
    since_is = ap (λ (l : Linked). l.since) says.same ∙ is.since_is;
    config_is = ap (λ (l : Linked). l.end.config) says.same ∙ is.config_is;
    peer_is = ap (λ (l : Linked). l.end.peer) says.same ∙ is.peer_is;
    sender = is.sender;
    asked_is = ap (λ (l : Linked). l.end.sending) says.same ∙ is.asked_is;
    started_is = ap (λ (l : Linked). l.end.started) says.same ∙ is.started_is;
    appended_is = ap (λ (l : Linked). l.end.appended) says.same ∙ is.appended_is;
    stands = subst (λ machine. StandsAt machine linked'.end.line said.point) (machines _ _ _ _ is) (says.stays alive).0;
    alive = (says.stays alive).1;
    told_is = ap (λ (l : Linked). l.told) says.same ∙ is.told_is;
    same = is.same;
  }

  link_on : said.closing ≡ None → IsLink old.config kept.rules (Some (spoke said.text said.point connection)) (Some linked')
  link_on alive = (linked', refl, goes_on alive)

  stands_on : said.closing ≡ None → (up : Bool)
      → Stands (with_connection (Some (spoke said.text said.point connection)) (comes_up up kept)) (going up linked' old)
  stands_on alive true = let link = link_on alive in assumption
  stands_on alive false = let link = link_on alive in assumption

  opens_none : said.closing ≡ None → news ≡ None
  opens_none alive = says.news_is ∙ ap (λ (closing : Option Closed). option_and_then news_of closing) alive

  -- the session stays open
  pub took_open : (up : Bool) (new : Keeping) → news ≡ None → new ≡ going up linked' old
      → Took (settled said up time connection kept) (news_up up) old new turns turns1
  took_open up new none goes =
      subst (λ (n : Keeping). Took (settled said up time connection kept) (news_up up) old n turns turns1) (sym goes) (by _ refl)
    where
      by : (closing : Option Closed) → said.closing ≡ closing → Took (settled said up time connection kept) (news_up up) old (going up linked' old) turns turns1
      by (Some why) e =
          absurd (closes_loud _ (λ m. says.other (e ∙ ap (λ (w : Closed). Some w) m))
          (sym (ap (λ (closing : Option Closed). option_and_then news_of closing) e) ∙ sym says.news_is ∙ none))
      by None e =
          subst (λ (o : Outcome). Took o (news_up up) old (going up linked' old) turns turns1) (sym (settled_by _ _ _ connection _ _ e))
          (record { asked = asked_so; news_is = refl; stands = stands_on e _; config_is = refl })

  -- it has closed
  pub took_shut : (up : Bool) (done : News) (turns2 : Option (List Turn)) (new : Keeping) → news ≡ Some done → Grew turns1 turns2 (shut linked.line ∷ [])
      → new ≡ let_go time old → Took (settled said up time connection kept) (Some done) old new turns turns2
  took_shut up done turns2 new some closed goes =
      subst (λ (n : Keeping). Took (settled said up time connection kept) (Some done) old n turns turns2) (sym goes) (by _ refl)
    where
      by : (closing : Option Closed) → said.closing ≡ closing → Took (settled said up time connection kept) (Some done) old (let_go time old) turns turns2
      by None e = absurd (let no : Some done ≡ None = sym some ∙ opens_none e in cc)
      by (Some why) e =
          subst (λ (o : Outcome). Took o (Some done) old (let_go time old) turns turns2) (sym (settled_by _ _ _ connection _ _ e))
          (record {
            asked =
                Grew-trans turns turns1 turns2 (speaks connection.line said.text) (shut connection.line ∷ []) asked_so
                (subst (λ line. Grew turns1 turns2 (shut line ∷ [])) is.line_is closed);
            news_is = sym some ∙ says.news_is ∙ ap (λ (closing : Option Closed). option_and_then news_of closing) e;
            stands = assumption (ap (λ (n : ℕ). min most_wait (2 * n)) stands.delay_is);
            config_is = refl;
          })
