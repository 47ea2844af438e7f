-- An end that is settled stays so.
use Rattle.fs_peering.proofs.Words.{Advanced, Announcing, Closed, FeedsEnd, Lined, Phase, StaysEnded, Step, TicksEnd, closed_after, is_established}
use Rattle.fs_peering.proofs.Words.{machine_in, moved, needs_of, pending, state_in, step_by, stops, takes, waits, with_line, ◌≡◌, ◌||◌, ℕ, ◌+◌, ◌-◌}
use Rattle.fs_peering.proofs.Words.{◌≤◌, List, ◌++◌, length, take, drop, length-drop, Bool, true, false, Option, Some, None, Result, Ok, Err, refl}
use Rattle.fs_peering.proofs.Words.{ap, sym, ◌∙◌, arith, true≢false, is_some, take_rest, KeepsSettled, is_settled, stops_at}
use Rattle.fs_peering.proofs.{Ahead.{alive_on}, Phases.{step_goes, unawaited}}
use Rattle.fs_speaker.specs.declared.State.TheVariants.{Closed as IsClosed}

-- one that has closed is settled
shut_settled : (line : Lined) (why : Closed) → line.closed ≡ Some why → is_settled line ≡ true
shut_settled line why e = ap (λ (c : Option Closed). is_some c || is_established (elim c [ Some w ↦ IsClosed | None ↦ line.phase.state ])) e

pub open_settled : (line : Lined) → line.closed ≡ None → is_settled line ≡ is_established line.phase.state
open_settled line e = ap (λ (c : Option Closed). is_some c || is_established (elim c [ Some w ↦ IsClosed | None ↦ line.phase.state ])) e

pub state_open : (line : Lined) → line.closed ≡ None → is_established (state_in line) ≡ is_established line.phase.state
state_open line e = ap (λ (c : Option Closed). is_established (elim c [ Some why ↦ IsClosed | None ↦ line.phase.state ])) e

pub state_shut : (line : Lined) (why : Closed) → line.closed ≡ Some why → is_established (state_in line) ≡ false
state_shut line why e = ap (λ (c : Option Closed). is_established (elim c [ Some w ↦ IsClosed | None ↦ line.phase.state ])) e

-- one that takes more of a piece isn't established, where it doesn't hear on
pub goes_early : (on : Bool) (line : Lined) → line.closed ≡ None → stops_at on line ≡ false → on ≡ false → is_established line.phase.state ≡ false
goes_early true line alive e off = absurd cc
goes_early false line alive e off = sym (state_open line alive) ∙ e

pub stops_up : (on : Bool) (line : Lined) → stops_at on line ≡ true → is_established (state_in line) ≡ true
stops_up true line e = absurd (true≢false (sym e))
stops_up false line e = e

pub fed_settled : (old new : Announcing) (moment : ℕ) (piece out out' : List ℕ) (result : Result ℕ Closed) → new ≡ with_line old new.line
    → StaysEnded old new result out out'
    → new.line.closed ≡ closed_after result → FeedsEnd moment old new piece out out' result → KeepsSettled old new
fed_settled old new moment piece out out' result same stays shut feeds = (same, λ h. by result refl h)
  where
    by : (r : Result ℕ Closed) → result ≡ r → is_settled old.line ≡ true → is_settled new.line ≡ true
    by (Err why) e h = shut_settled new.line _ (shut ∙ ap closed_after e)
    by (Ok count) e h =
        let alive = alive_on _ _ _ _ _ stays _ e in
        let up : is_established old.line.phase.state ≡ true = sym (open_settled old.line alive) ∙ h in
        let fed = rw e at feeds alive in
        open_settled new.line (shut ∙ ap closed_after e)
        ∙ at (step_by (machine_in old) old.line.phase (pending old.line.framing ++ piece)) refl fed.0 up
      where
        at : (step : Step) → step_by (machine_in old) old.line.phase (pending old.line.framing ++ piece) ≡ step
            → Advanced step (moved moment old.line) new.line piece count None
            → is_established old.line.phase.state ≡ true → is_established new.line.phase.state ≡ true
        at waits k did up = ap (λ (p : Phase). is_established p.state) did.2 ∙ up
        at (takes next update behind) k did up =
            ap (λ (p : Phase). is_established p.state) did.3
            ∙ (step_goes old.config (needs_of old.sending.rules) _ _ (pending old.line.framing ++ piece) _ _
            (unawaited _ up) k).up up
        at (stops why) k did up = absurd did

pub woke_settled : (old new : Announcing) (moment : ℕ) (out out' : List ℕ) (result : Result (Unit {0}) Closed) → new ≡ with_line old new.line
    → StaysEnded old new result out out'
    → new.line.closed ≡ closed_after result → TicksEnd moment old new out out' result → KeepsSettled old new
woke_settled old new moment out out' result same stays shut ticks_so = (same, λ h. by _ refl h)
  where
    by : (r : Result (Unit {0}) Closed) → result ≡ r → is_settled old.line ≡ true → is_settled new.line ≡ true
    by (Err why) e h = shut_settled new.line _ (shut ∙ ap closed_after e)
    by (Ok u) e h =
        let alive = alive_on _ _ _ _ _ stays _ e in
        open_settled new.line (shut ∙ ap closed_after e) ∙ ap (λ (p : Phase). is_established p.state) (ticks_so alive).1.1
        ∙ sym (open_settled old.line alive) ∙ h

pub settled_then : (a b c : Announcing) → KeepsSettled a b → KeepsSettled b c → KeepsSettled a c
settled_then a b c f l = (l.0 ∙ ap (λ (n : Announcing). with_line n c.line) f.0, λ h. l.1 (f.1 h))

pub settled_fed : (a b c : Announcing) (moment : ℕ) (piece out out' : List ℕ) (result : Result ℕ Closed) → KeepsSettled a b → c ≡ with_line b c.line
    → StaysEnded b c result out out' → c.line.closed ≡ closed_after result → FeedsEnd moment b c piece out out' result → KeepsSettled a c
settled_fed a b c moment piece out out' result first same stays shut feeds =
    settled_then a b c first (fed_settled b c moment piece out out' result same stays shut feeds)

pub settled_same : (a : Announcing) → KeepsSettled a a
settled_same a = (refl, λ h. h)

-- an open one that is settled is established
pub settled_up : (line : Lined) → line.closed ≡ None → is_settled line ≡ true → is_established (state_in line) ≡ true
settled_up line e h = sym (ap (λ (c : Option Closed). is_some c || is_established (state_in line)) e) ∙ h

pub counts_bound : (was : Bool) (needed needed' count total : ℕ) (rest : List ℕ) → count ≤ length rest → (was ≡ false → needed' ≡ needed + count)
    → (was ≡ true → needed' ≡ needed)
    → needed + length rest ≤ total → needed' + length (take (length rest - count) (drop count rest)) ≤ total
counts_bound was needed needed' count total rest few added kept bound =
    let left : length (take (length rest - count) (drop count rest)) ≡ length rest - count = ap length (take_rest rest count) ∙ length-drop count rest in
    by _ refl left
  where
    by : (b : Bool) → was ≡ b → length (take (length rest - count) (drop count rest)) ≡ length rest - count
        → needed' + length (take (length rest - count) (drop count rest)) ≤ total
    by false h left = let more = added h in omega (arith, more, left, few, bound)
    by true h left = let same = kept h in omega (arith, same, left, few, bound)
