-- What the clauses of runs of `announce` and `pair` say follows from what they do.
use Rattle.cmd_wire.proofs.Words.{AtLimit, Done, Ended, Ending, EndsBefore, Found, Happened, Last, Limit, Machine, MetLimit, Names, Outside, Peer}
use Rattle.cmd_wire.proofs.Words.{Phase, Refusal, Sending, Stage, Stopped, WireEnds, and_then, at_start, closed, config_stage, fetch, is_established}
use Rattle.cmd_wire.proofs.Words.{moments_in, needs_of, octets_in, or_stop, rules_stage, sending_stage, still, ◌≡◌, inl, inr, ◌<◌, ◌≤◌, ◌∙◌, ℕ, ◌+◌}
use Rattle.cmd_wire.proofs.Words.{List, [], ◌++◌, length, nat_le, Bool, true, false, if◌then◌else◌, Option, Some, None, append-nil, append_assoc}
use Rattle.cmd_wire.proofs.Words.{arith, refl, ap, sym, subst, length-append, true≢false, Config, Closed, announcer, opened_by, ClosesSo, config_of}
use Rattle.cmd_wire.proofs.Words.{rules_of, Rejected, Announces, Speaks, Conversation, AnnouncePromises, IsServed, Announced, Carries, Joins}
use Rattle.cmd_wire.proofs.Words.{CanBeCarried, PairPromises}
use Rattle.cmd_wire.proofs.{Carrying.{carried_done}, Concluding.{IsOfFiles, promises, told_at}}
use Rattle.fs_peering.specs.{declared.tell.Ending.TheVariants.{Closed as HasClosed}, Teller.{HasExpired}}

same_stop : {A : Type 0} (one other : Refusal) → ◌≡◌ {A = Stage A} (Stopped one) (Stopped other) → other ≡ one
same_stop one other e = cc

pub then_stops : {A B : Type 0} (stage : Stage A) (next : A → Stage B) (refusal : Refusal) → and_then stage next ≡ Stopped refusal
    → ((other : Refusal) → stage ≡ Stopped other → IsOfFiles other) → ((a : A) → next a ≡ Stopped refusal → IsOfFiles refusal) → IsOfFiles refusal
then_stops (Found a) next refusal e first later = later a e
then_stops (Stopped other) next refusal e first later = subst IsOfFiles (sym (same_stop other refusal e)) (first other refl)

pub or_stops : {A : Type 0} (cause : Refusal) (o : Option A) (refusal : Refusal) → or_stop cause o ≡ Stopped refusal → refusal ≡ cause
or_stops cause (Some a) refusal e = absurd cc
or_stops cause None refusal e = same_stop cause refusal e

limit_stops : (b : Bool) (octets : List ℕ) (refusal : Refusal) → (if b then Stopped Limit else Found octets) ≡ Stopped refusal → refusal ≡ Limit
limit_stops true octets refusal e = same_stop Limit refusal e
limit_stops false octets refusal e = absurd cc

fetch_stops : (limit : ℕ) (holds : Names) (name : List ℕ) (refusal : Refusal) → fetch limit holds name ≡ Stopped refusal → IsOfFiles refusal
fetch_stops limit holds name refusal e =
    then_stops (or_stop Outside (holds name)) (λ octets. if nat_le limit (length octets) then Stopped Limit else Found octets) refusal e
    (λ other h. inl (or_stops Outside (holds name) other h)) (λ octets h. inr (inl (limit_stops (nat_le limit (length octets)) octets refusal h)))

pub config_stops : (limit : ℕ) (holds : Names) (name : List ℕ) (refusal : Refusal) → config_stage limit holds name ≡ Stopped refusal → IsOfFiles refusal
config_stops limit holds name refusal e =
    then_stops (fetch limit holds name) (λ octets. or_stop Rejected (config_of octets)) refusal e (fetch_stops limit holds name)
    (λ octets h. inr (inr (or_stops Rejected (config_of octets) refusal h)))

rules_stop : (config : Config) (limit : ℕ) (holds : Names) (name : List ℕ) (refusal : Refusal) → rules_stage config limit holds name ≡ Stopped refusal
    → IsOfFiles refusal
rules_stop config limit holds name refusal e =
    then_stops (fetch limit holds name) (λ octets. or_stop Rejected (rules_of config octets)) refusal e (fetch_stops limit holds name)
    (λ octets h. inr (inr (or_stops Rejected (rules_of config octets) refusal h)))

abbrev with_config : Config → Sending → Stage (Config × Sending)
with_config accepted sending = Found (accepted, sending)

never_found : (accepted : Config) (sending : Sending) (refusal : Refusal) → with_config accepted sending ≡ Stopped refusal → IsOfFiles refusal
never_found accepted sending refusal e = absurd cc

pub files_stop : (limit : ℕ) (holds : Names) (config rules : List ℕ) (refusal : Refusal) → sending_stage limit holds config rules ≡ Stopped refusal
    → IsOfFiles refusal
files_stop limit holds config rules refusal e =
    then_stops (config_stage limit holds config) (λ accepted. and_then (rules_stage accepted limit holds rules) (with_config accepted)) refusal e
    (config_stops limit holds config)
    (λ accepted h. then_stops (rules_stage accepted limit holds rules) (with_config accepted) refusal h (rules_stop accepted limit holds rules)
    (λ sending found. never_found accepted sending refusal found))

-- another end that establishes the session

never_both : (why : Closed) (phase : Phase) (behind : List ℕ) → ◌≡◌ {A = Last × List ℕ} (closed why, []) (still phase, behind) → ⊥
never_both why phase behind e = let at : closed why ≡ still phase = ap (λ (p : Last × List ℕ). p.0) e in absurd cc

same_phase : (phase other : Phase) (behind more : List ℕ) → ◌≡◌ {A = Last × List ℕ} (still phase, behind) (still other, more) → phase ≡ other
same_phase phase other behind more e = let at : still phase ≡ still other = ap (λ (p : Last × List ℕ). p.0) e in cc

expired_more : (machine : Machine) (moments octets more : List ℕ) → HasExpired machine moments octets → HasExpired machine moments (octets ++ more)
expired_more machine moments octets more h = record {
  taken = h.taken;
  untaken = h.untaken ++ more;
  split = ap (λ (z : List ℕ). z ++ more) h.split ∙ append_assoc h.taken h.untaken more;
  phase = h.phase;
  found = h.found;
  timed = h.timed;
  spans = h.spans;
}

too_many : (limit behind size all left : ℕ) → limit + behind ≤ size → all ≡ size + left → all < limit → ⊥
too_many limit behind size all left m e l = omega (arith, m, e, l)

module _ (config : Config) (peer : Peer) (sending : Sending) (limit : ℕ) (given : List ℕ) (before now : WireEnds) (phase : Phase) (behind : List ℕ)
    (opens : opened_by (announcer config (needs_of sending.rules)) at_start before.second.to_receive ≡ (still phase, behind))
    (up : is_established phase.state ≡ true) (within : length before.second.to_receive < limit)
    (timely : HasExpired (announcer config (needs_of sending.rules)) given before.second.to_receive → ⊥) where
  abbrev machine : Machine
  machine = announcer config (needs_of sending.rules)

  only_done_so : (ending : Ending) → Speaks ending config peer sending limit given before now → ending ≡ Done
  only_done_so Done s = refl
  only_done_so (HasClosed why) s = absurd (at s.tells.ends.1.0)
    where
      at : ClosesSo machine (moments_in s.tells.heard) (octets_in s.tells.heard) why → ⊥
      at (inl c) = never_both why phase behind (sym (c now.second.left) ∙ ap (opened_by machine at_start) (sym s.tells.read) ∙ opens)
      at (inr x) = timely (subst (HasExpired machine given) (sym s.tells.read)
          (expired_more machine given (octets_in s.tells.heard) now.second.left
          (subst (λ (moments : List ℕ). HasExpired machine moments (octets_in s.tells.heard)) s.tells.asked x.1)))
  only_done_so Ended s = absurd (at s.tells.ends.0)
    where
      at : EndsBefore machine limit (octets_in s.tells.heard) now.second.left → ⊥
      at e =
          let all : before.second.to_receive ≡ (octets_in s.tells.heard) = s.tells.read ∙ ap (λ (z : List ℕ). (octets_in s.tells.heard) ++ z) e.none
          ∙ append-nil (octets_in s.tells.heard) in
          let same : phase ≡ e.phase = same_phase phase e.phase behind [] (sym opens ∙ ap (opened_by machine at_start) all ∙ e.found) in
          true≢false (sym (subst (λ (p : Phase). is_established p.state ≡ true) same up) ∙ e.down)
  only_done_so AtLimit s = absurd (at s.tells.ends.0)
    where
      at : MetLimit machine limit (octets_in s.tells.heard) → ⊥
      at m = too_many limit (length m.behind) (length (octets_in s.tells.heard)) (length before.second.to_receive) (length now.second.left) m.met
          (ap (λ (z : List ℕ). length z) s.tells.read ∙ length-append (octets_in s.tells.heard) now.second.left) within

module _ (limit : ℕ) (holds : Names) (config rules : List ℕ) (call : Happened) (talk : Conversation) (answer : ℕ) where
  pub announce_promises : Announces limit holds config rules call talk answer → AnnouncePromises limit holds config rules call talk answer
  announce_promises =
      promises (sending_stage limit holds config rules) (Announced limit talk) call answer talk (IsServed limit holds config rules talk)
      (files_stop limit holds config rules) (λ s. s.set_up) (λ s ending text said.
      only_done_so s.set_up.accepted.0 said.0.peer s.set_up.accepted.1 limit said.0.given s.set_up.ends s.set_up.ends_now s.phase s.behind s.opens s.up s.within
      (s.timely said.0.given said.0.grew) ending
      (told_at (Speaks ending s.set_up.accepted.0 said.0.peer s.set_up.accepted.1 limit said.0.given) s.set_up said.0.told))

  pub pair_promises : Joins limit holds config rules call talk answer → PairPromises limit holds config rules call talk answer
  pair_promises =
      promises (sending_stage limit holds config rules) (Carries limit talk) call answer talk (CanBeCarried limit holds config rules talk)
      (files_stop limit holds config rules) (λ s. s.set_up) (carried_done limit holds config rules talk)
