-- How what `announce` answers follows from its stages.
use Rattle.cmd_wire.proofs.Words.{Announcing, AtLimit, CanSend, Done, EndCloses, Ended, Ending, EndsBefore, EndsEarly, Found, HasReason, Machine}
use Rattle.cmd_wire.proofs.Words.{MetLimit, Names, Peer, Phase, Pieces, Refusal, SaidAll, Sending, Stage, Tells, TellsOver, TellsSo, Told, WireEnds}
use Rattle.cmd_wire.proofs.Words.{and_then, announcing, answered, at_start, begins_with, config_stage, is_established, moments_in, needs_of}
use Rattle.cmd_wire.proofs.Words.{octets_in, rules_stage, sender_of, sending_stage, status_of, still, ◌≡◌, inl, inr, ◌<◌, ◌∙◌, ℕ, ◌+◌, List, []}
use Rattle.cmd_wire.proofs.Words.{length, nat_le, Bool, true, false, if◌then◌else◌, Option, Some, None, IfSome, Result, append-nil, arith, refl, ap}
use Rattle.cmd_wire.proofs.Words.{sym, subst, Config, le_false, le_true, Closed, fresh, announcer, told_and, opened_by, ClosesSo, IsErrAnd}
use Rattle.cmd_wire.proofs.Words.{answered_err, ends_early, reason_then, Connected, IsBrokenOff, IsDue, Speaks, Conversation, dialling, IsOfWire}
use Rattle.cmd_wire.proofs.Words.{Grew, OpensFront, config_alone, config_then, opened_due}
use Rattle.fs_base.specs.Files.{Opened}
use Rattle.cmd_wire.specs.Announcing.{ending_by, ending_of}
use Rattle.std.specs.Result.{MatchResult}
use Rattle.fs_peering.specs.declared.tell.Ending.TheVariants.{Closed as HasClosed}
use Rattle.cmd_stages.proofs.Stages.{match_err}

-- the end that is due

ending_at : (limit size : ℕ) (phase : Phase) (behind : List ℕ) (met up : Bool) → nat_le (limit + length behind) size ≡ met → is_established phase.state ≡ up
    → ending_by limit size (still phase, behind) ≡ (if met then AtLimit else if up then Done else Ended)
ending_at limit size phase behind met up m u =
    ap (λ (b : Bool). if b then AtLimit else if is_established phase.state then Done else Ended) m
    ∙ ap (λ (b : Bool). if met then AtLimit else if b then Done else Ended) u

below_sum : (limit size : ℕ) → size < limit → size < limit + length {A = ℕ} []
below_sum limit size l = omega (arith, l)

module _ (config : Config) (peer : Peer) (sending : Sending) (limit : ℕ) (heard : Pieces) (said left : List ℕ) where
  abbrev machine : Machine
  machine = announcer config (needs_of sending.rules)

  abbrev octets : List ℕ
  octets = octets_in heard

  due_done : SaidAll config peer sending limit heard said → Done ≡ ending_of machine limit octets
  due_done s = sym (
      ap (ending_by limit (length octets)) s.found
      ∙ ending_at limit (length octets) s.phase s.behind false true (le_false (limit + length s.behind) (length octets) s.within) s.up)

  due_limit : MetLimit machine limit octets → AtLimit ≡ ending_of machine limit octets
  due_limit m = sym (
      ap (ending_by limit (length octets)) m.found
      ∙ ending_at limit (length octets) m.phase m.behind true (is_established m.phase.state) (le_true (limit + length m.behind) (length octets) m.met) refl)

  due_ended : EndsBefore machine limit octets left → Ended ≡ ending_of machine limit octets
  due_ended e = sym (
      ap (ending_by limit (length octets)) e.found
      ∙ ending_at limit (length octets) e.phase [] false false
      (le_false (limit + length {A = ℕ} []) (length octets) (below_sum limit (length octets) e.within)) e.down)

  due_closed : (why : Closed) → ClosesSo machine (moments_in heard) octets why → IsDue (HasClosed why) machine limit (moments_in heard) octets
  due_closed why (inl c) = inl (sym (
      ap (λ (z : List ℕ). ending_by limit (length octets) (opened_by machine at_start z)) (sym (append-nil octets))
      ∙ ap (ending_by limit (length octets)) (c [])))
  due_closed why (inr x) = inr (ap HasClosed x.0, x.1)

  due_of : (ending : Ending) → TellsSo ending config peer sending limit heard said left → IsDue ending machine limit (moments_in heard) octets
  due_of Done t = inl (due_done t)
  due_of (HasClosed why) t = due_closed why t.1.0
  due_of Ended t = inl (due_ended t.0)
  due_of AtLimit t = inl (due_limit t.0)

-- what was told of a connection that was opened, spoken through, and closed

abbrev dialled : WireEnds → WireEnds → Type 0
dialled before now = now ≡ dialling before

spoken : (ending : Ending) (config : Config) (peer : Peer) (sending : Sending) (limit : ℕ) (given : List ℕ) (a b c : WireEnds)
    → dialled a b → Tells ending config peer sending limit given b c → Speaks ending config peer sending limit given a c
spoken ending config peer sending limit given a b c d t =
    let t : Tells ending config peer sending limit given (dialling a) c = subst (λ (e : WireEnds). Tells ending config peer sending limit given e c) d t in
    record {
      tells = t;
      due = subst (λ (moments : List ℕ). IsDue ending (announcer config (needs_of sending.rules)) limit moments (octets_in t.heard)) t.asked
          (due_of config peer sending limit t.heard t.said c.second.left ending t.ends);
    }

-- a connection that was opened, spoken through, and closed
pub told_through : (opened spoke whole : WireEnds → WireEnds → Type 0) → ((a b c : WireEnds) → opened a b → spoke b c → whole a c)
    → (t0 t1 t2 t3 : Option WireEnds)
    → Told opened t0 t1 → Told spoke t1 t2 → Told EndCloses t2 t3 → Told whole t0 t3
told_through opened spoke whole join t0 t1 t2 t3 opens speaks closes =
    told_and whole EndCloses whole (λ a b c w e. subst (whole a) (sym e) w) t0 t2 t3 (told_and opened spoke whole join t0 t1 t2 opens speaks) closes

-- as the peer that the rules are sent for
pub connected_as : (ending : Ending) (config : Config) (sending : Sending) (limit : ℕ) (teller : Announcing) (started : Bool)
    (t1 t2 : Option WireEnds) (talk : Conversation)
    → CanSend config (sender_of config.peers) sending
    → IfSome (sender_of config.peers) (λ peer. (teller ≡ announcing config peer sending fresh false 0) × (started ≡ false))
    → Told dialled talk.ends t1
    → ((config : Config) (peer : Peer) (sending : Sending) → teller ≡ begins_with config peer sending → started ≡ false
    → TellsOver ending config peer sending limit t1 t2 talk.answers talk.answers_now)
    → Told EndCloses t2 talk.ends_now → Connected ending config sending limit talk
connected_as ending config sending limit teller started t1 t2 talk can made opens tells closes = by (sender_of config.peers) refl can made
  where
    by : (o : Option Peer) → sender_of config.peers ≡ o → CanSend config o sending
        → IfSome o (λ peer. (teller ≡ announcing config peer sending fresh false 0) × (started ≡ false)) → Connected ending config sending limit talk
    by None e c m = absurd c
    by (Some peer) e c m =
        let over : TellsOver ending config peer sending limit t1 t2 talk.answers talk.answers_now = tells config peer sending m.0 m.1 in
        record {
          peer = peer;
          peer_is = e;
          given = over.given;
          grew = over.grew;
          told = told_through dialled (Tells ending config peer sending limit over.given) (Speaks ending config peer sending limit over.given)
              (spoken ending config peer sending limit over.given) talk.ends t1 t2 talk.ends_now opens over.told closes;
        }

-- the run ended before anything was written, for what a `?` hands on
pub ends_handed : {T A : Type 0} {stage : Stage A} {failed failed' : Type 0} {a : Option (List ℕ)} {cause : Refusal} (r : Result T Refusal)
    → IsErrAnd r (λ e. e ≡ cause)
    → HasReason stage failed cause → (failed → failed') → EndsEarly stage failed' a a (answered r)
ends_handed {stage = stage} {failed = failed} {failed' = failed'} {a = a} {cause = cause} r h reason f =
    answered_err (EndsEarly stage failed' a a) r cause h (ends_early stage failed failed' a cause reason f)

-- a session that was broken off answers a status of a session, and not that of the files
pub broken_session : {T : Type 0} {failed : Type 0} {cause : Refusal} (r : Result T Refusal) → IsErrAnd r (λ e. e ≡ cause) → IsBrokenOff failed cause
    → IsOfWire (answered r)
broken_session {failed = failed} {cause = cause} r h broken = answered_err IsOfWire r cause h (by broken)
  where
    by : IsBrokenOff failed cause → IsOfWire (status_of cause)
    by (inl e) = subst (λ (c : Refusal). IsOfWire (status_of c)) (sym e) ((λ k. absurd cc), ((λ k. absurd cc), (λ k. absurd cc), λ k. absurd cc))
    by (inr e) = subst (λ (c : Refusal). IsOfWire (status_of c)) (sym e.0) ((λ k. absurd cc), ((λ k. absurd cc), (λ k. absurd cc), λ k. absurd cc))

-- a stage that gives a value passes on what ends the next
pub next_reason : {A B : Type 0} (stage : Stage A) (next : A → Stage B) (a : A) (failed : Type 0) (refusal : Refusal) → stage ≡ Found a
    → HasReason (next a) failed refusal
    → HasReason (and_then stage next) failed refusal
next_reason stage next a failed refusal e h = subst (λ s. HasReason (and_then s next) failed refusal) (sym e) h

-- the rules file ends it
abbrev then_rules : ℕ → Names → List ℕ → Config → Stage (Config × Sending)
then_rules limit holds rules accepted = and_then (rules_stage accepted limit holds rules) (λ sending. Found (accepted, sending))

rules_reason : (limit : ℕ) (holds holds' : Names) (config rules : List ℕ) (accepted : Config) (failed failed' : Type 0) (refusal : Refusal)
    → config_stage limit holds config ≡ Found accepted → holds' ≡ holds → HasReason (rules_stage accepted limit holds' rules) failed refusal
    → (failed → failed')
    → HasReason (sending_stage limit holds config rules) failed' refusal
rules_reason limit holds holds' config rules accepted failed failed' refusal e same h wider =
    next_reason (config_stage limit holds config) (then_rules limit holds rules) accepted failed' refusal e
    (reason_then (rules_stage accepted limit holds rules) (λ sending. Found (accepted, sending)) failed' refusal
    (by (subst (λ (names : Names). HasReason (rules_stage accepted limit names rules) failed refusal) same h)))
  where
    by : HasReason (rules_stage accepted limit holds rules) failed refusal → HasReason (rules_stage accepted limit holds rules) failed' refusal
    by (inl h) = inl h
    by (inr (inl h)) = inr (inl h)
    by (inr (inr h)) = inr (inr (h.0, wider h.1))

-- for what a `?` hands on
pub rules_handed : {T : Type 0} (P : T → Type 0) (limit : ℕ) (holds holds' : Names) (config rules : List ℕ) (accepted : Config)
    (failed failed' : Type 0) (r : Result T Refusal) (cause : Refusal)
    → IsErrAnd r (λ e. e ≡ cause) → config_stage limit holds config ≡ Found accepted → holds' ≡ holds
    → HasReason (rules_stage accepted limit holds' rules) failed cause → (failed → failed')
    → MatchResult r P (HasReason (sending_stage limit holds config rules) failed')
rules_handed P limit holds holds' config rules accepted failed failed' r cause is e same h wider =
    match_err P (HasReason (sending_stage limit holds config rules) failed') r is (λ refusal at.
    subst (HasReason (sending_stage limit holds config rules) failed') (sym at)
    (rules_reason limit holds holds' config rules accepted failed failed' cause e same h wider))

-- both files are accepted
pub sending_found : (limit : ℕ) (holds holds' : Names) (config rules : List ℕ) (accepted : Config) (sending : Sending)
    → config_stage limit holds config ≡ Found accepted → holds' ≡ holds → rules_stage accepted limit holds' rules ≡ Found sending
    → sending_stage limit holds config rules ≡ Found (accepted, sending)
sending_found limit holds holds' config rules accepted sending e same r =
    let here : rules_stage accepted limit holds rules ≡ Found sending =
    subst (λ (names : Names). rules_stage accepted limit names rules ≡ Found sending) same r in
    ap (λ (s : Stage Config). and_then s (then_rules limit holds rules)) e ∙ ap (λ (s : Stage Sending). and_then s (λ sending. Found (accepted, sending))) here

-- the configuration was opened, and then no other file
pub config_opened : (config : List ℕ) (before now : Option (List Opened)) (answer : ℕ) → Grew before now (config_alone config).files
    → OpensFront (config_alone config) before now answer
config_opened config before now answer grew =
    opened_due (config_alone config) 1 (omega (arith)) before now now answer grew refl (omega (arith)) (λ three. omega (arith))

-- and the rules file too
pub both_opened : (config rules : List ℕ) (before now : Option (List Opened)) (answer : ℕ) → Grew before now (config_then 2 config rules).files
    → OpensFront (config_then 2 config rules) before now answer
both_opened config rules before now answer grew =
    opened_due (config_then 2 config rules) 2 (omega (arith)) before now now answer grew refl (omega (arith)) (λ three. omega (arith))
