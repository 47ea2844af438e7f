-- What a keeper says where the rules are told, and what it dials.
use Rattle.fs_peering.proofs.KeeperWords.{ℕ, ◌*◌, ◌-◌, min, most_wait, nat_lt, not, List, [], ◌∷◌, ◌++◌, ◌≡◌, ◌&&◌, Bool, true, false, Option, Some}
use Rattle.fs_peering.proofs.KeeperWords.{None, IfSome, refl, ap, sym, subst, ◌∙◌, if◌then◌else◌, is_some, Turn, dialled, shut, Grew, Grew-refl}
use Rattle.fs_peering.proofs.KeeperWords.{Grew-trans, Config, Peer, CanSend, announcing, fresh, is_established, needs_of, sender_of, state_in}
use Rattle.fs_peering.proofs.KeeperWords.{notice_text, terms_of, Fault, Sending, Connection, Kept, Outcome, accepts, begins_one, change_text}
use Rattle.fs_peering.proofs.KeeperWords.{dialling, dials, exceeds, is_due, is_up, news_told, outcome, parts, rests, speaks, tells}
use Rattle.fs_peering.proofs.KeeperWords.{tells_all, terms_at, with_connection, with_rules, IsConnection, IsLink, Keeping, LinkTellsBy, Linked}
use Rattle.fs_peering.proofs.KeeperWords.{Stands, TellsAt, TellsBy, TellsSo, Took, TookSo, is_told, is_untold, let_go, terms_in, News}
use Rattle.fs_peering.proofs.{Standing.{going, linked_none, linked_some, took_rests}, Following.{up_is}}
use Rattle.fs_session.specs.declared.{transition.Phase.{Phase}}

-- A link closes for the rules, and so does its keeper's connection.
pub tells_shut : (exceeding : Bool) (time : ℕ) (told : Option Sending) (rules : Sending) (done : News) (linked linked' : Linked) (out : List ℕ)
    (old new : Keeping)
    (turns turns1 turns2 : Option (List Turn)) → LinkTellsBy exceeding told rules (done, true) linked linked' [] out
    → Grew turns turns1 (speaks linked.line out) → Grew turns1 turns2 (shut linked.line ∷ []) → new ≡ let_go time old
    → TellsBy exceeding time told rules linked (Some done) old new turns turns2
tells_shut true time told rules done linked linked' out old new turns turns1 turns2 by asked closed goes = (
  Grew-trans turns turns1 turns2 (speaks linked.line (notice_text 6 6)) (shut linked.line ∷ [])
      (subst (λ text. Grew turns turns1 (speaks linked.line text)) by.1.0 asked) closed,
  (ap (λ (d : News × Bool). Some d.0) by.0, goes),
)
tells_shut false time told rules done linked linked' out old new turns turns1 turns2 by asked closed goes =
    absurd (let no : true ≡ false = ap (λ (d : News × Bool). d.1) by.0 in cc)

-- or was told them
pub tells_on : (exceeding : Bool) (time : ℕ) (told : Option Sending) (rules : Sending) (done : News) (linked linked' : Linked) (out : List ℕ)
    (old new : Keeping)
    (turns turns1 : Option (List Turn)) → LinkTellsBy exceeding told rules (done, false) linked linked' [] out
    → Grew turns turns1 (speaks linked.line out) → new ≡ going false linked' old
    → TellsBy exceeding time told rules linked (Some done) old new turns turns1
tells_on true time told rules done linked linked' out old new turns turns1 by asked goes =
    absurd (let no : false ≡ true = ap (λ (d : News × Bool). d.1) by.0 in cc)
tells_on false time told rules done linked linked' out old new turns turns1 by asked goes = (
  subst (λ text. Grew turns turns1 (speaks linked.line text)) by.1.0 asked,
  (ap (λ (d : News × Bool). Some d.0) by.0, goes ∙ ap (λ (l : Linked). going false l old) by.1.1),
)

-- so from what it has
pub tells_by : (time : ℕ) (told : Option Sending) (news : Option News) (old new : Keeping) (turns turns' : Option (List Turn)) (linked : Linked)
    (rules : Sending)
    → old.link ≡ Some linked → old.rules ≡ Some rules
    → TellsBy (exceeds (needs_of linked.end.sending.rules) (needs_of rules.rules)) time told rules linked news old new turns turns'
    → TellsSo time told news old new turns turns'
tells_by time told news old new turns turns' linked rules link_is rules_are by =
    subst (λ (l : Option Linked). TellsAt l old.rules time told news old new turns turns') (sym link_is)
    (subst (λ (r : Option Sending). TellsAt (Some linked) r time told news old new turns turns') (sym rules_are) by)

pub tells_none : (time : ℕ) (told : Option Sending) (old : Keeping) (turns : Option (List Turn)) → old.link ≡ None → TellsSo time told None old old turns turns
tells_none time told old turns none =
    subst (λ (l : Option Linked). TellsAt l old.rules time told None old old turns turns) (sym none) (Grew-refl turns, (refl, refl))

pub tells_idle : (time : ℕ) (told : Option Sending) (old : Keeping) (turns : Option (List Turn)) → old.rules ≡ None → TellsSo time told None old old turns turns
tells_idle time told old turns none = by old.link refl
  where
    by : (link : Option Linked) → old.link ≡ link → TellsSo time told None old old turns turns
    by None e = tells_none _ _ _ _ e
    by (Some linked) e =
        subst (λ (l : Option Linked). TellsAt l old.rules time told None old old turns turns) (sym e)
        (subst (λ (r : Option Sending). TellsAt (Some linked) r time told None old old turns turns) (sym none) (Grew-refl turns, (refl, refl)))

-- A keeper stands so but for its connection.
record StandsBut (kept : Kept) (keeping : Keeping) : Type 0 where
  rules_are : keeping.rules ≡ kept.rules
  sendable : IfSome kept.rules (CanSend keeping.config (sender_of keeping.config.peers))
  since_is : keeping.since ≡ kept.since
  wait_is : keeping.wait ≡ kept.wait
  delay_is : keeping.delay ≡ kept.delay

but_of : (kept : Kept) (old : Keeping) → Stands kept old → StandsBut kept old
but_of kept old stands = assumption

module _ (time : ℕ) (rules : Sending) (before : Option Sending) (connection : Connection) (linked : Linked) (kept : Kept) (mid new : Keeping)
    (told : Option Sending) (news : Option News)
    (turns turns' : Option (List Turn)) (is : IsConnection mid.config before connection linked) (but : StandsBut kept mid)
    (rules_are : kept.rules ≡ Some rules) (told_is : told ≡ connection.told) where
  terms_so : terms_in linked.end ≡ terms_at mid.config connection
  terms_so =
      ap (λ (c : Config). terms_of c linked.end.peer linked.end.line.phase.four) is.config_is
      ∙ ap (λ (p : Peer). terms_of mid.config p linked.end.line.phase.four) is.peer_is
      ∙ ap (λ (p : Phase). terms_of mid.config connection.peer p.four) (is.stands.open_is is.alive).phase_is

  told_connection : (text : List ℕ)
      → IsConnection mid.config kept.rules (record connection { spoken = text; told = Some rules }) (record linked { told = true })
  told_connection text = assumption

  abbrev tells_of : Bool → Outcome
  tells_of exceeding =
      if exceeding then parts (notice_text 6 6) (Fault 6 6) time connection kept
      else outcome (speaks connection.line (change_text (terms_at mid.config connection) connection.told rules))
      (Some (news_told (terms_at mid.config connection) connection.told rules))
      (with_connection (Some (record connection {
        spoken = connection.spoken ++ change_text (terms_at mid.config connection) connection.told rules;
        told = Some rules;
      })) kept)

  tells_case : (exceeding : Bool) → exceeds (needs_of connection.asked.rules) (needs_of rules.rules) ≡ exceeding
      → TellsBy exceeding time told rules linked news mid new turns turns' → Took (tells mid.config time rules connection kept) news mid new turns turns'
  tells_case true e by =
      subst (λ (b : Bool). Took (tells_of b) news mid new turns turns') (sym e)
      (subst (λ (n : Keeping). Took (parts (notice_text 6 6) (Fault 6 6) time connection kept) news mid n turns turns') (sym by.1.1)
      (record {
        asked = subst (λ line. Grew turns turns' (speaks line (notice_text 6 6) ++ shut line ∷ [])) is.line_is by.0;
        news_is = by.1.0;
        stands = assumption (ap (λ (n : ℕ). min most_wait (2 * n)) but.delay_is);
        config_is = refl;
      }))
  tells_case false e by =
      let terms = terms_so in
      subst (λ (b : Bool). Took (tells_of b) news mid new turns turns') (sym e)
      (record {
        asked =
            subst (λ line. Grew turns turns' (speaks line (change_text (terms_at mid.config connection) connection.told rules))) is.line_is
            (subst (λ o. Grew turns turns' (speaks linked.line (change_text (terms_at mid.config connection) o rules))) told_is
            (subst (λ t. Grew turns turns' (speaks linked.line (change_text t told rules))) terms by.0));
        news_is = by.1.0 ∙ ap (λ t. Some (news_told t told rules)) terms ∙ ap (λ o. Some (news_told (terms_at mid.config connection) o rules)) told_is;
        stands =
            subst (Stands (with_connection (Some (record connection {
              spoken = connection.spoken ++ change_text (terms_at mid.config connection) connection.told rules;
              told = Some rules;
            })) kept)) (sym by.1.1)
            (record {
              rules_are = but.rules_are;
              sendable = but.sendable;
              since_is = but.since_is;
              wait_is = but.wait_is;
              delay_is = but.delay_is;
              link = (
                record linked { told = true },
                refl,
                told_connection _,
              );
            });
        config_is = ap (λ (k : Keeping). k.config) by.1.1;
      })

  took_tells : TellsBy (exceeds (needs_of linked.end.sending.rules) (needs_of rules.rules)) time told rules linked news mid new turns turns'
      → Took (tells mid.config time rules connection kept) news mid new turns turns'
  took_tells by =
      tells_case _ refl
      (subst (λ (s : Sending). TellsBy (exceeds (needs_of s.rules) (needs_of rules.rules)) time told rules linked news mid new turns turns') is.asked_is by)

-- Other rules are to be kept.
abbrev with_new : Sending → Keeping → Keeping
with_new rules old = record old { rules = Some rules }

accepts_none : (config : Config) (time : ℕ) (rules : Sending) (kept : Kept) → kept.connection ≡ None
    → accepts config time rules kept ≡ rests (with_rules rules kept)
accepts_none config time rules kept e =
    ap (λ (o : Option Connection). elim o as (λ _. Outcome) [
      | None ↦ rests (with_rules rules kept)
      | Some connection ↦
          if is_some connection.told then tells config time rules connection (with_rules rules kept) else rests (with_rules rules kept)
    ]) e

accepts_some : (config : Config) (time : ℕ) (rules : Sending) (kept : Kept) (connection : Connection) (told : Bool)
    → kept.connection ≡ Some connection → is_some connection.told ≡ told
    → accepts config time rules kept ≡ (if told then tells config time rules connection (with_rules rules kept) else rests (with_rules rules kept))
accepts_some config time rules kept connection told e m =
    ap (λ (o : Option Connection). elim o as (λ _. Outcome) [
      | None ↦ rests (with_rules rules kept)
      | Some connection ↦
          if is_some connection.told then tells config time rules connection (with_rules rules kept) else rests (with_rules rules kept)
    ]) e
    ∙ ap (λ (b : Bool). if b then tells config time rules connection (with_rules rules kept) else rests (with_rules rules kept)) m

old_told : (rules before : Option Sending) → IfSome before (λ told. rules ≡ Some told) → is_some before ≡ true → rules ≡ before
old_told rules None same on = absurd (let no : false ≡ true = on in cc)
old_told rules (Some told) same on = same

untold : (rules : Option Sending) (before : Option Sending) → is_some before ≡ false → IfSome before (λ told. rules ≡ Some told)
untold rules None off = tt
untold rules (Some told) off = absurd (let no : true ≡ false = off in cc)

module _ (time : ℕ) (rules : Sending) (old : Keeping) (can : CanSend old.config (sender_of old.config.peers) rules) where
  but_so : (kept : Kept) → Stands kept old → StandsBut (with_rules rules kept) (with_new rules old)
  but_so kept stands = assumption

  rests_with : (turns : Option (List Turn)) (kept : Kept) → Stands kept old → IsLink old.config (Some rules) kept.connection old.link
      → accepts old.config time rules kept ≡ rests (with_rules rules kept) → Took (accepts old.config time rules kept) None old (with_new rules old) turns turns
  rests_with turns kept stands link e =
      subst (λ (o : Outcome). Took o None old (with_new rules old) turns turns) (sym e) (assumption (Grew-refl turns))

  pub accept_rests : (mid : Keeping) (turns : Option (List Turn)) → is_told old.link ≡ false → mid ≡ with_new rules old
      → TookSo (accepts old.config time rules) None old mid turns turns
  accept_rests mid turns off mid_is =
      λ kept stands. subst (λ (m : Keeping). Took (accepts old.config time rules kept) None old m turns turns) (sym mid_is)
      (by _ stands old.link refl)
    where
      by : (kept : Kept) → Stands kept old → (link : Option Linked) → old.link ≡ link
          → Took (accepts old.config time rules kept) None old (with_new rules old) turns turns
      by kept stands None e =
          let none = linked_none _ _ stands e in
          rests_with _ _ stands (subst (λ (o : Option Connection). IsLink old.config (Some rules) o old.link) (sym none) e)
          (accepts_none old.config _ _ kept none)
      by kept stands (Some linked) e =
          let f = linked_some _ _ _ stands e in
          let off_so : is_some f.connection.told ≡ false = sym f.is.told_is ∙ sym (ap is_told e) ∙ off in
          rests_with _ _ stands (subst (λ (o : Option Connection). IsLink old.config (Some rules) o old.link) (sym f.there) (
            linked,
            e,
            assumption (f.is, untold (Some rules) f.connection.told off_so),
          )) (accepts_some old.config _ _ kept _ _ f.there off_so)

  pub accept_tells : (news : Option News) (mid new : Keeping) (turns turns' : Option (List Turn)) → is_told old.link ≡ true → mid ≡ with_new rules old
      → TellsSo time old.rules news mid new turns turns' → TookSo (accepts old.config time rules) news old new turns turns'
  accept_tells news mid new turns turns' on mid_is so = λ kept stands.
      by _ stands _ refl (subst (λ (m : Keeping). TellsSo time old.rules news m new turns turns') mid_is so)
    where
      by : (kept : Kept) → Stands kept old → (link : Option Linked) → old.link ≡ link → TellsSo time old.rules news (with_new rules old) new turns turns'
          → Took (accepts old.config time rules kept) news old new turns turns'
      by kept stands None e so = absurd (let no : false ≡ true = sym (ap is_told e) ∙ on in cc)
      by kept stands (Some linked) e so =
          let f = linked_some _ _ _ stands e in
          let on_so : is_some f.connection.told ≡ true = sym f.is.told_is ∙ sym (ap is_told e) ∙ on in
          let told : old.rules ≡ f.connection.told = stands.rules_are ∙ old_told _ _ f.is.same on_so in
          let took =
          took_tells _ _ _ _ _ _ _ _ _ _ _ _ f.is (but_so _ stands) refl told
          (subst (λ (l : Option Linked). TellsAt l (Some rules) time old.rules news (with_new rules old) new turns turns') e so) in
          subst (λ (o : Outcome). Took o news old new turns turns') (sym (accepts_some old.config _ _ kept _ _ f.there on_so))
          (record { asked = took.asked; news_is = took.news_is; stands = took.stands; config_is = took.config_is })

-- All rules are told.
swapped : (a b : Bool) → (a && b) ≡ (b && a)
swapped true true = refl
swapped true false = refl
swapped false true = refl
swapped false false = refl

module _ (time : ℕ) (old : Keeping) where
  abbrev all_of : Kept → Option Connection → Option Sending → Outcome
  all_of kept connection rules = elim connection [
    | None ↦ rests kept
    | Some connection ↦ elim rules [
      | None ↦ rests kept
      | Some new ↦
          if is_up connection.point && not (is_some connection.told) then tells old.config time new connection kept else rests kept
    ]
  ]

  all_so : (kept : Kept) (connection : Option Connection) (rules : Option Sending) → kept.connection ≡ connection → kept.rules ≡ rules
      → tells_all old.config time kept ≡ all_of kept connection rules
  all_so kept connection rules e r = ap (λ (o : Option Connection). all_of kept o kept.rules) e ∙ ap (λ (o : Option Sending). all_of kept connection o) r

  untold_so : (kept : Kept) (connection : Connection) (linked : Linked) → IsConnection old.config kept.rules connection linked
      → is_untold (Some linked) ≡ (is_up connection.point && not (is_some connection.told))
  untold_so kept connection linked is =
      ap (λ b. not b && is_established (state_in linked.end.line)) is.told_is
      ∙ ap (λ b. not (is_some connection.told) && b) (up_is _ _ _ is.stands is.alive)
      ∙ swapped (not (is_some connection.told)) (is_up connection.point)

  idle : (kept : Kept) (connection : Option Connection) → all_of kept connection None ≡ rests kept
  idle kept None = refl
  idle kept (Some connection) = refl

  rests_off : (kept : Kept) (connection : Connection) (rules : Option Sending) → (is_up connection.point && not (is_some connection.told)) ≡ false
      → all_of kept (Some connection) rules ≡ rests kept
  rests_off kept connection None off = refl
  rests_off kept connection (Some new) off = ap (λ (b : Bool). if b then tells old.config time new connection kept else rests kept) off

  pub all_rests : (turns : Option (List Turn)) → is_untold old.link ≡ false → TookSo (tells_all old.config time) None old old turns turns
  all_rests turns off = λ kept stands. by kept stands _ refl
    where
      by : (kept : Kept) → Stands kept old → (link : Option Linked) → old.link ≡ link → Took (tells_all old.config time kept) None old old turns turns
      by kept stands None e = took_rests _ _ _ _ stands (all_so _ _ _ (linked_none _ _ stands e) refl)
      by kept stands (Some linked) e =
          let f = linked_some _ _ _ stands e in
          took_rests _ _ _ _ stands (all_so _ _ _ f.there refl
          ∙ rests_off _ f.connection _ (sym (untold_so kept _ _ f.is) ∙ sym (ap is_untold e) ∙ off))

  up_untold : (up told : Bool) → (up && not told) ≡ true → told ≡ false
  up_untold true true e = absurd (let no : false ≡ true = e in cc)
  up_untold true false e = refl
  up_untold false told e = absurd (let no : false ≡ true = e in cc)

  none_of : (before : Option Sending) → is_some before ≡ false → None ≡ before
  none_of None off = refl
  none_of (Some told) off = absurd (let no : true ≡ false = off in cc)

  pub all_tells : (news : Option News) (new : Keeping) (turns turns' : Option (List Turn)) → is_untold old.link ≡ true
      → TellsSo time None news old new turns turns' → TookSo (tells_all old.config time) news old new turns turns'
  all_tells news new turns turns' on so = λ kept stands. by _ stands _ refl old.rules refl
    where
      by : (kept : Kept) → Stands kept old → (link : Option Linked) → old.link ≡ link → (rules : Option Sending) → old.rules ≡ rules
          → Took (tells_all old.config time kept) news old new turns turns'
      by kept stands None e rules r = absurd (let no : false ≡ true = sym (ap is_untold e) ∙ on in cc)
      by kept stands (Some linked) e None r =
          let t = subst (λ (o : Option Sending). TellsAt (Some linked) o time None news old new turns turns') r
          (subst (λ (l : Option Linked). TellsAt l old.rules time None news old new turns turns') e so) in
          subst (λ (n : Keeping). Took (tells_all old.config time kept) news old n turns turns') (sym t.1.1)
          (subst (λ (o : Outcome). Took o news old old turns turns')
          (sym (all_so _ _ _ refl (sym stands.rules_are ∙ r) ∙ idle _ _))
          (record { asked = t.0; news_is = t.1.0; stands = stands; config_is = refl }))
      by kept stands (Some linked) e (Some rules) r =
          let t = subst (λ (o : Option Sending). TellsAt (Some linked) o time None news old new turns turns') r
          (subst (λ (l : Option Linked). TellsAt l old.rules time None news old new turns turns') e so) in
          let f = linked_some _ _ _ stands e in
          let up : (is_up f.connection.point && not (is_some f.connection.told)) ≡ true = sym (untold_so kept _ _ f.is)
          ∙ sym (ap is_untold e) ∙ on in
          let rules_so : kept.rules ≡ Some rules = sym stands.rules_are ∙ r in
          subst (λ (o : Outcome). Took o news old new turns turns') (sym (all_so _ _ _ f.there rules_so
          ∙ ap (λ (b : Bool). if b then tells old.config time rules f.connection kept else rests kept) up))
          (took_tells _ _ _ _ _ kept _ _ _ _ _ _ f.is (but_of kept old stands) rules_so (none_of _ (up_untold _ _ up)) t)

-- A connection is dialled.
module _ (line time : ℕ) (address : List ℕ) (old : Keeping) where
  abbrev dials_of : Kept → Option Connection → Option Sending → Option Peer → Bool → Outcome
  dials_of kept connection rules sender due = elim connection [
    | Some connection ↦ rests kept
    | None ↦ elim rules [
      | None ↦ rests kept
      | Some sending ↦ elim sender [
        | None ↦ rests kept
        | Some peer ↦ if due then begins_one line time address peer sending kept else rests kept
      ]
    ]
  ]

  there : (kept : Kept) (connection : Option Connection) (rules : Option Sending) (sender : Option Peer) (due : Bool) → is_some connection ≡ true
      → dials_of kept connection rules sender due ≡ rests kept
  there kept (Some connection) rules sender due on = refl
  there kept None rules sender due on = absurd (let no : false ≡ true = on in cc)

  early : (kept : Kept) (connection : Option Connection) (rules : Option Sending) (sender : Option Peer)
      → dials_of kept connection rules sender false ≡ rests kept
  early kept (Some connection) rules sender = refl
  early kept None None sender = refl
  early kept None (Some sending) None = refl
  early kept None (Some sending) (Some peer) = refl

  without : (kept : Kept) (connection : Option Connection) (sender : Option Peer) (due : Bool) → dials_of kept connection None sender due ≡ rests kept
  without kept (Some connection) sender due = refl
  without kept None sender due = refl

  linked_there : (kept : Kept) → Stands kept old → is_some old.link ≡ true → is_some kept.connection ≡ true
  linked_there kept stands on = by kept.connection stands.link
    where
      by : (connection : Option Connection) → IsLink old.config kept.rules connection old.link → is_some connection ≡ true
      by None is = absurd (let no : false ≡ true = sym (ap is_some is) ∙ on in cc)
      by (Some connection) is = refl

  pub dial_there : (turns : Option (List Turn)) → is_some old.link ≡ true → TookSo (dials old.config line time address) None old old turns turns
  dial_there turns on = λ kept stands. took_rests _ _ _ _ stands (there _ _ _ _ _ (linked_there _ stands on))

  due_so : (kept : Kept) → Stands kept old → is_due time kept ≡ not (nat_lt (time - old.since) old.wait)
  due_so kept stands = ap (λ n. not (nat_lt (time - n) kept.wait)) (sym stands.since_is) ∙ ap (λ n. not (nat_lt (time - old.since) n)) (sym stands.wait_is)

  pub dial_early : (turns : Option (List Turn)) → nat_lt (time - old.since) old.wait ≡ true
      → TookSo (dials old.config line time address) None old old turns turns
  dial_early turns on = λ kept stands. took_rests _ _ _ _ stands
      (ap (dials_of kept kept.connection kept.rules (sender_of old.config.peers)) (due_so _ stands ∙ ap not on)
      ∙ early _ _ _ _)

  pub dial_idle : (turns : Option (List Turn)) → old.rules ≡ None → TookSo (dials old.config line time address) None old old turns turns
  dial_idle turns none = λ kept stands. took_rests _ _ _ _ stands
      (ap (λ (o : Option Sending). dials_of kept kept.connection o (sender_of old.config.peers) (is_due time kept)) (sym stands.rules_are ∙ none)
      ∙ without _ _ (sender_of old.config.peers) (is_due time kept))

  abbrev pub fresh_link : Peer → Sending → Linked
  fresh_link peer sending = record { line = line; made = false; since = time; end = announcing old.config peer sending fresh false 0; told = false }

  fresh_stands : (peer : Peer) (sending : Sending) (rules : Option Sending) → sender_of old.config.peers ≡ Some peer
      → IsConnection old.config rules (dialling line time peer sending) (fresh_link peer sending)
  fresh_stands peer sending rules sender = assumption tt

  pub dial_new : (peer : Peer) (sending : Sending) (new : Keeping) (turns turns1 : Option (List Turn)) → old.link ≡ None → old.rules ≡ Some sending
      → sender_of old.config.peers ≡ Some peer → nat_lt (time - old.since) old.wait ≡ false → Grew turns turns1 (dialled line address ∷ [])
      → new ≡ going false (fresh_link peer sending) old → TookSo (dials old.config line time address) None old new turns turns1
  dial_new peer sending new turns turns1 none rules_are sender off asked goes = λ kept stands.
      subst (λ (n : Keeping). Took (dials old.config line time address kept) None old n turns turns1) (sym goes)
      (subst (λ (o : Outcome). Took o None old (going false (fresh_link peer sending) old) turns turns1)
      (sym (ap (λ (o : Option Connection). dials_of kept o kept.rules (sender_of old.config.peers) (is_due time kept)) (linked_none _ _ stands none)
      ∙ ap (λ (o : Option Sending). dials_of kept None o (sender_of old.config.peers) (is_due time kept)) (sym stands.rules_are ∙ rules_are)
      ∙ ap (λ (o : Option Peer). dials_of kept None (Some sending) o (is_due time kept)) sender
      ∙ ap (dials_of kept None (Some sending) (Some peer)) (due_so _ stands ∙ ap not off)))
      (let link : IsLink old.config kept.rules (Some (dialling line time peer sending)) (Some (fresh_link peer sending)) =
      (fresh_link peer sending, refl, fresh_stands _ _ _ sender) in assumption))
