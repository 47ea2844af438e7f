-- How many of the octets that an announcing end heard count: those up to and with the message that establishes it.
use Rattle.fs_peering.proofs.Words.{Advanced, Announcing, Closed, FeedsEnd, Framing, IsAt, Lined, Machine, Memory, Phase, Point, SaysText, StaysEnded}
use Rattle.fs_peering.proofs.Words.{Step, TicksEnd, at_start, closed, closed_after, is_established, machine_in, moved, pending, step_by, still, stops}
use Rattle.fs_peering.proofs.Words.{takes, waits, with_line, ◌≡◌, ℕ, ◌+◌, ◌-◌, ◌≤◌, ◌<◌, List, [], ◌++◌, length, drop, Bool, true, false}
use Rattle.fs_peering.proofs.Words.{if◌then◌else◌, Option, Some, None, Result, Ok, Err, refl, ap, sym, ◌∙◌, subst, arith, append_assoc, append-nil}
use Rattle.fs_peering.proofs.Words.{length-append, length-drop, drop_all, none-some, same_Some, close_is, opened_by, CountsBy, CountsOn, CountsTo}
use Rattle.fs_peering.proofs.Words.{CountsUp, KeepsHand, KeepsSettled, EndsBefore, MetLimit, ShutsBy, is_settled}
use Rattle.fs_peering.proofs.{Ahead.{alive_on}, OpenSteps.{opened_stops, opened_takes, opened_waits}, Settled.{open_settled}}
use Rattle.std.proofs.lemmas.Bool.{true≢false as never}

-- before the first message of a piece
pub counts_start : (on : Bool) (machine : Machine) (line : Lined) (piece : List ℕ) → CountsOn on machine line line piece piece 0
counts_start on machine line piece e = (
  e,
  λ f. subst (λ (b : Bool). CountsBy on b machine line.phase (pending line.framing) piece line piece 0) (sym f)
      (λ more. refl, omega arith),
)

-- an end that has closed
pub counts_shut : (on : Bool) (machine : Machine) (old line : Lined) (piece rest : List ℕ) (count : ℕ) (result : Result ℕ Closed) (why : Closed)
    → result ≡ Err why
    → line.closed ≡ closed_after result → CountsOn on machine old line piece rest count
counts_shut on machine old line piece rest count result why is shut e = absurd (none-some why (sym e ∙ shut ∙ ap closed_after is))

-- an end that is established takes no more
pub counts_cut : (on : Bool) (machine : Machine) (old line : Lined) (piece rest : List ℕ) (count : ℕ) → is_established line.phase.state ≡ true
    → CountsOn on machine old line piece rest count → CountsOn on machine old line piece [] count
counts_cut on machine old line piece rest count up counts e =
    let o = counts e in (
      o.0,
      λ f. subst (λ (b : Bool). CountsBy on b machine old.phase (pending old.framing) piece line [] count) (sym up)
          (subst (λ (b : Bool). CountsBy on b machine old.phase (pending old.framing) piece line rest count) up (o.1 f)),
    )

-- Of a piece one step more.
module _ (on : Bool) (machine : Machine) (old line new : Lined) (moment : ℕ) (piece rest : List ℕ) (needed needed' count : ℕ) where
  abbrev hand : List ℕ
  hand = pending line.framing

  abbrev left : List ℕ
  left = drop count rest

  joins : (more : List ℕ) → opened_by machine line.phase (hand ++ (rest ++ more)) ≡ opened_by machine line.phase ((hand ++ rest) ++ more)
  joins more = ap (opened_by machine line.phase) (sym (append_assoc hand rest more))

  counted : needed' ≡ needed + count → count ≤ length rest → needed + length rest ≡ length piece → needed' + length left ≡ length piece
  counted e few k =
      let gone : length left ≡ length rest - count = length-drop count rest in
      omega (arith, e, few, k, gone)

  module _ (opens : (more : List ℕ)
      → opened_by machine old.phase (pending old.framing ++ (piece ++ more)) ≡ opened_by machine line.phase (hand ++ (rest ++ more)))
      (before : needed + length rest ≡ length piece) (added : needed' ≡ needed + count) (down : is_established line.phase.state ≡ false) where
    abbrev Answer : Bool → Type 0
    Answer b = CountsBy on b machine old.phase (pending old.framing) piece new left needed'

    by_step : (step : Step) → step_by machine line.phase (hand ++ rest) ≡ step → Advanced step (moved moment line) new rest count None
        → Answer (is_established new.phase.state)
    by_step waits s did =
        let gone : left ≡ [] = drop_all count rest (omega (arith, did.0)) in
        subst Answer (sym (ap (λ (p : Phase). is_established p.state) did.2 ∙ down)) (
          λ more. opens more
              ∙ joins _
              ∙ ap (λ (z : List ℕ). opened_by machine line.phase (z ++ more)) (sym did.1)
              ∙ ap (λ (z : List ℕ). opened_by machine line.phase (pending new.framing ++ (z ++ more))) (sym gone)
              ∙ ap (λ (p : Phase). opened_by machine p (pending new.framing ++ (left ++ more))) (sym did.2),
          counted added (omega (arith, did.0)) before,
        )
    by_step (takes next update behind) s did = by (is_established next.state) refl
      where
        took : (b : Bool) → is_established next.state ≡ b → (more : List ℕ) → opened_by machine old.phase (pending old.framing ++ (piece ++ more))
            ≡ (if b then (still next, behind ++ more) else opened_by machine next (behind ++ more))
        took b e more =
            opens more ∙ joins _ ∙ opened_takes _ _ _ _ _ _ _ s
            ∙ ap (λ (x : Bool). if x then (still next, behind ++ more) else opened_by machine next (behind ++ more)) e

        all : needed' + length left ≡ length piece
        all = counted added did.0 before

        by : (b : Bool) → is_established next.state ≡ b → Answer (is_established new.phase.state)
        by true e =
            subst Answer (sym (ap (λ (p : Phase). is_established p.state) did.3 ∙ e)) (record {
              phase = next;
              behind = behind;
              opens = λ more. took _ e _;
              up = e;
              stays = λ off. did.3;
              counted = ap (λ (z : List ℕ). needed' + length z) did.1 ∙ all;
            })
        by false e =
            subst Answer (sym (ap (λ (p : Phase). is_established p.state) did.3 ∙ e)) (
              λ more. took _ e _
                  ∙ ap (λ (z : List ℕ). opened_by machine next (z ++ more)) did.1
                  ∙ ap (λ (p : Phase). opened_by machine p (left ++ more)) (sym did.3)
                  ∙ ap (λ (z : List ℕ). opened_by machine new.phase (z ++ (left ++ more))) (sym did.2),
              all,
            )
    by_step (stops why) s did = absurd did

  counts_step : CountsOn on machine old line piece rest needed → line.closed ≡ None
      → Advanced (step_by machine line.phase (hand ++ rest)) (moved moment line) new rest count None
      → (is_established line.phase.state ≡ true → is_established new.phase.state ≡ true)
      → (is_established line.phase.state ≡ false → needed' ≡ needed + count) → (is_established line.phase.state ≡ true → needed' ≡ needed)
      → (on ≡ false → is_established old.phase.state ≡ false → is_established line.phase.state ≡ false)
      → CountsOn on machine old new piece left needed'
  counts_step counts alive did stays added kept off e =
      let o = counts alive in (o.0, λ f. by f (is_established line.phase.state) refl (o.1 f))
    where
      by : is_established old.phase.state ≡ false → (b : Bool) → is_established line.phase.state ≡ b
          → CountsBy on b machine old.phase (pending old.framing) piece line rest needed
          → CountsBy on (is_established new.phase.state) machine old.phase (pending old.framing) piece new left needed'
      by f true h k =
          subst (λ (x : Bool). CountsBy on x machine old.phase (pending old.framing) piece new left needed') (sym (stays h))
          (record {
            phase = k.phase;
            behind = k.behind;
            opens = k.opens;
            up = k.up;
            stays = λ cut. absurd (never (sym h ∙ off cut f));
            counted =
                ap (λ (n : ℕ). n + length k.behind) (kept h) ∙ k.counted;
          })
      by f false h k = by_step k.0 k.1 (added h) h _ refl did

-- one call more
pub counts_fed : (on : Bool) (a b c : Announcing) (moment : ℕ) (piece rest o1 o2 : List ℕ) (result : Result ℕ Closed) (was : Bool)
    (needed needed' count : ℕ) → KeepsSettled a b
    → result ≡ Ok count → StaysEnded b c result o1 o2 → FeedsEnd moment b c rest o1 o2 result → KeepsSettled b c → c.line.closed ≡ closed_after result
    → was ≡ is_settled b.line → (was ≡ false → needed' ≡ needed + count) → (was ≡ true → needed' ≡ needed)
    → (on ≡ false → is_established a.line.phase.state ≡ false → is_established b.line.phase.state ≡ false)
    → CountsOn on (machine_in a) a.line b.line piece rest needed → CountsOn on (machine_in a) a.line c.line piece (drop count rest) needed'
counts_fed on a b c moment piece rest o1 o2 result was needed needed' count same e stays feeds settles shut w added kept off counts =
    let alive : b.line.closed ≡ None = alive_on _ _ _ _ _ stays _ e in
    let open_c : c.line.closed ≡ None = shut ∙ ap closed_after e in
    let up : is_settled b.line ≡ is_established b.line.phase.state = open_settled b.line alive in
    let fed = rw e at feeds alive in
    counts_step _ _ a.line b.line c.line moment piece rest _ _ _ counts alive
    (subst (λ (m : Machine). Advanced (step_by m b.line.phase (pending b.line.framing ++ rest))
    (moved moment b.line) c.line rest count None) (ap machine_in same.0) fed.0) (λ h. sym (open_settled c.line open_c)
    ∙ settles.1 (up ∙ h)) (λ h. added (w ∙ up ∙ h)) (λ h. kept (w ∙ up ∙ h)) off

-- a call that closes an end which isn't established
pub shuts_fed : (on : Bool) (a b c : Announcing) (moment : ℕ) (piece rest o1 o2 : List ℕ) (result : Result ℕ Closed) (why : Closed) (needed : ℕ)
    → b ≡ with_line a b.line
    → result ≡ Err why → (why ≡ Memory → ⊥) → FeedsEnd moment b c rest o1 o2 result → c.line.closed ≡ closed_after result
    → (a.line.closed ≡ None → b.line.closed ≡ None)
    → (on ≡ false → is_established a.line.phase.state ≡ false → is_established b.line.phase.state ≡ false)
    → CountsOn on (machine_in a) a.line b.line piece rest needed → on ≡ false → ShutsBy (machine_in a) a.line c.line piece
shuts_fed on a b c moment piece rest o1 o2 result why needed same e other feeds shut alive early counts off what how open_a down more =
    let open_b : b.line.closed ≡ None = alive open_a in
    let fed = rw e at feeds open_b in
    let step : step_by (machine_in a) b.line.phase (pending b.line.framing ++ rest) ≡ stops why =
    subst (λ (m : Machine). step_by m b.line.phase (pending b.line.framing ++ rest) ≡ stops why) (ap machine_in same)
    (close_is (step_by (machine_in b) b.line.phase (pending b.line.framing ++ rest)) why other fed.0) in
    let opens = subst (λ (x : Bool). CountsBy on x (machine_in a) a.line.phase (pending a.line.framing) piece b.line rest needed) (early off down)
    ((counts open_b).1 down) in
    opens.0 more ∙ ap (opened_by (machine_in a) b.line.phase) (sym (append_assoc (pending b.line.framing) rest more))
    ∙ opened_stops _ _ _ (pending b.line.framing ++ rest) more step
    ∙ ap (λ (w : Closed). (closed w, [])) (same_Some why what (sym (shut ∙ ap closed_after e) ∙ how))

pub still_open : (line : Lined) (result : Result ℕ Closed) (count : ℕ) → result ≡ Ok count → line.closed ≡ closed_after result → line.closed ≡ None
still_open line result count e shut = shut ∙ ap closed_after e

pub shuts_open : (machine : Machine) (old line : Lined) (piece : List ℕ) (result : Result ℕ Closed) (count : ℕ) → result ≡ Ok count
    → line.closed ≡ closed_after result
    → ShutsBy machine old line piece
shuts_open machine old line piece result count e shut why how = absurd (none-some why (sym (still_open line _ _ e shut) ∙ how))

-- The clock, and then a piece.
module _ (on : Bool) (machine : Machine) (a w c : Lined) (octets piece : List ℕ) (needed count count' : ℕ) (hand : KeepsHand a w)
    (counts : CountsOn on machine w c piece [] needed)
    (stays : c.closed ≡ None → is_established w.phase.state ≡ true → is_established c.phase.state ≡ true)
    (added : is_established a.phase.state ≡ false → count' ≡ count + needed) (kept : is_established a.phase.state ≡ true → count' ≡ count)
    (off : on ≡ false → is_established a.phase.state ≡ false) (before : CountsTo on machine a count octets) where
  abbrev To : Bool → Type 0
  To b = CountsBy on b machine at_start [] (octets ++ piece) c [] count'

  both : length (octets ++ piece) ≡ length octets + length piece
  both = length-append octets piece

  module _ (e : c.closed ≡ None) where
    woke : (w.closed ≡ None) × (is_established w.phase.state ≡ false
        → CountsBy on (is_established c.phase.state) machine w.phase (pending w.framing) piece c [] needed)
    woke = counts e

    same : (a.closed ≡ None) × ((w.phase ≡ a.phase) × (w.framing ≡ a.framing))
    same = hand woke.0

    settled : is_established a.phase.state ≡ true → CountsUp on machine at_start [] octets a count → To (is_established c.phase.state)
    settled u k =
        let size : length (k.behind ++ piece) ≡ length k.behind + length piece = length-append k.behind piece in
        let n : count' ≡ count = kept u in
        let m = k.counted in
        let l = both in
        subst To (sym (stays e (ap (λ (p : Phase). is_established p.state) same.1.0 ∙ u))) (record {
          phase = k.phase;
          behind = k.behind ++ piece;
          opens = λ more. ap (opened_by machine at_start) (append_assoc octets piece more) ∙ k.opens (piece ++ more)
              ∙ ap (λ (z : List ℕ). (still k.phase, z)) (sym (append_assoc k.behind piece more));
          up = k.up;
          stays = λ cut. absurd (never (sym u ∙ off cut));
          counted = omega (arith, size, n, m, l);
        })

    module _ (d : is_established a.phase.state ≡ false)
        (opens : (more : List ℕ) → opened_by machine at_start (octets ++ more) ≡ opened_by machine a.phase (pending a.framing ++ more))
        (all : count + 0 ≡ length octets) where
      goes : (more : List ℕ) → opened_by machine at_start ((octets ++ piece) ++ more) ≡ opened_by machine w.phase (pending w.framing ++ (piece ++ more))
      goes more =
          ap (opened_by machine at_start) (append_assoc octets piece more) ∙ opens (piece ++ more)
          ∙ ap (λ (p : Phase). opened_by machine p (pending a.framing ++ (piece ++ more))) (sym same.1.0)
          ∙ ap (λ (f : Framing). opened_by machine w.phase (pending f ++ (piece ++ more))) (sym same.1.1)

      opening : (b : Bool) → is_established c.phase.state ≡ b → CountsBy on b machine w.phase (pending w.framing) piece c [] needed → To b
      opening true u k =
          let n : count' ≡ count + needed = added d in
          let m = k.counted in
          let l = both in
          record {
            phase = k.phase;
            behind = k.behind;
            opens = λ more. goes _ ∙ k.opens more;
            up = k.up;
            stays = k.stays;
            counted =
                omega (arith, n, m, l, all);
          }
      opening false u k =
          let n : count' ≡ count + needed = added d in
          let m = k.1 in
          let l = both in
          (λ more. goes _ ∙ k.0 more, omega (arith, n, m, l, all))

  pub counts_more : CountsTo on machine c count' (octets ++ piece)
  counts_more e = by (is_established a.phase.state) refl (before (same e).0)
    where
      by : (b : Bool) → is_established a.phase.state ≡ b → CountsBy on b machine at_start [] octets a [] count → To (is_established c.phase.state)
      by true u k = settled e u k
      by false u k =
          opening e u k.0 k.1 _ refl ((woke e).1 (ap (λ (p : Phase). is_established p.state) (same e).1.0 ∙ u))

-- so of a whole call: the clock is heard, and the piece
pub counts_piece : (on : Bool) (b w c : Announcing) (was : Bool) (piece : List ℕ) (needed count count' : ℕ) → KeepsSettled b w → KeepsSettled w c
    → KeepsHand b.line w.line → CountsOn on (machine_in w) w.line c.line piece [] needed → was ≡ is_settled b.line
    → (was ≡ false → count' ≡ count + needed) → (was ≡ true → count' ≡ count) → (on ≡ false → is_settled b.line ≡ false)
    → (octets : List ℕ) → CountsTo on (machine_in b) b.line count octets → CountsTo on (machine_in c) c.line count' (octets ++ piece)
counts_piece on b w c was piece needed count count' woke took hand counts is added kept off octets before e =
    let counts_b : CountsOn on (machine_in b) w.line c.line piece [] needed =
    subst (λ (m : Machine). CountsOn on m w.line c.line piece [] needed) (ap machine_in woke.0) counts in
    let open_w : w.line.closed ≡ None = (counts_b e).0 in
    let open_b : b.line.closed ≡ None = (hand open_w).0 in
    let up : is_settled b.line ≡ is_established b.line.phase.state = open_settled b.line open_b in
    subst (λ (m : Machine). CountsBy on (is_established c.line.phase.state) m at_start [] (octets ++ piece) c.line [] count')
    (sym (ap machine_in took.0 ∙ ap machine_in woke.0)) (counts_more _ _ _ w.line _ _ _ _ _ _ hand counts_b
    (λ f h. sym (open_settled c.line f) ∙ took.1 (open_settled w.line open_w ∙ h))
    (λ h. added (is ∙ up ∙ h)) (λ h. kept (is ∙ up ∙ h)) (λ cut. sym up ∙ off cut) before e)

-- the clock leaves what is kept of the octets
pub woke_hand : (old new : Announcing) (moment : ℕ) (out out' : List ℕ) (result : Result (Unit {0}) Closed) → StaysEnded old new result out out'
    → new.line.closed ≡ closed_after result → TicksEnd moment old new out out' result → KeepsHand old.line new.line
woke_hand old new moment out out' result stays shut ticks_so e = by result refl
  where
    by : (r : Result (Unit {0}) Closed) → result ≡ r → (old.line.closed ≡ None) × ((new.line.phase ≡ old.line.phase) × (new.line.framing ≡ old.line.framing))
    by (Err why) k = absurd (none-some why (sym e ∙ shut ∙ ap closed_after k))
    by (Ok u) k =
        let alive : old.line.closed ≡ None = alive_on _ _ _ _ _ stays _ k in
        (alive, ((ticks_so alive).1.1, (ticks_so alive).1.0))

-- what is said unasked changes nothing of it
pub counts_same : (on : Bool) (old new : Announcing) (count count' : ℕ) → machine_in new ≡ machine_in old → new.line ≡ old.line → count' ≡ count
    → (octets : List ℕ) → CountsTo on (machine_in old) old.line count octets → CountsTo on (machine_in new) new.line count' octets
counts_same on old new count count' own line same octets k =
    subst (λ (m : Machine). CountsTo on m new.line count' octets) (sym own)
    (subst (λ (l : Lined). CountsTo on (machine_in old) l count' octets) (sym line)
    (subst (λ (n : ℕ). CountsTo on (machine_in old) old.line n octets) (sym same) k))

pub counts_text : (on : Bool) (text : Option (List ℕ)) (had : Bool) (old new : Announcing) (count : ℕ) (out out' : List ℕ) → SaysText text had old new out out'
    → (octets : List ℕ) → CountsTo on (machine_in old) old.line count octets → CountsTo on (machine_in new) new.line count octets
counts_text on None had old new count out out' says octets k = subst (λ (n : Announcing). CountsTo on (machine_in n) n.line count octets) (sym says.1) k
counts_text on (Some text) had old new count out out' says octets k = subst (λ (n : Announcing). CountsTo on (machine_in n) n.line count octets) (sym says.1) k

-- What the octets come to that an open end heard.
pub record Opens (on : Bool) (machine : Machine) (line : Lined) (count : ℕ) (octets : List ℕ) : Type 0 where
  pub phase : Phase
  pub behind : List ℕ
  pub found : opened_by machine at_start octets ≡ (still phase, behind)
  pub counted : count + length behind ≡ length octets
  pub up : is_established phase.state ≡ is_established line.phase.state
  pub none : is_established line.phase.state ≡ false → behind ≡ []
  pub stays : on ≡ false → line.phase ≡ phase

pub opens_so : (on : Bool) (machine : Machine) (line : Lined) (now : Point) (count : ℕ) (octets : List ℕ) → line.closed ≡ None
    → (is_established line.phase.state ≡ false → IsAt machine line now) → CountsTo on machine line count octets → Opens on machine line count octets
opens_so on machine line now count octets e at k = by _ refl (k e)
  where
    whole : octets ++ [] ≡ octets
    whole = append-nil octets

    by : (b : Bool) → is_established line.phase.state ≡ b → CountsBy on b machine at_start [] octets line [] count → Opens on machine line count octets
    by true u c = record {
      phase = c.phase;
      behind = c.behind;
      found = sym (ap (opened_by machine at_start) whole) ∙ c.opens [] ∙ ap (λ (z : List ℕ). (still c.phase, z)) (append-nil c.behind);
      counted = c.counted;
      up = c.up ∙ sym u;
      none = λ d. absurd (never (sym u ∙ d));
      stays = c.stays;
    }
    by false u c =
        let waits_here : step_by machine line.phase (pending line.framing) ≡ waits =
        ap (λ (z : List ℕ). step_by machine line.phase z) (at u).waiting_is ∙ ap (λ (p : Phase). step_by machine p now.waiting) (at u).phase_is
        ∙ (at u).waits_is in
        record {
          phase = line.phase;
          behind = [];
          found = sym (ap (opened_by machine at_start) whole) ∙ c.0 [] ∙ ap (opened_by machine line.phase) (append-nil (pending line.framing))
              ∙ opened_waits _ _ _ waits_here;
          counted = c.1;
          up = refl;
          none = λ d. refl;
          stays = λ off. refl;
        }

-- the limit was met, or the octets end before the session is established
module _ {on : Bool} {machine : Machine} {line : Lined} {count : ℕ} {octets : List ℕ} (opens : Opens on machine line count octets) (limit : ℕ) where
  pub met_by : limit ≤ count → MetLimit machine limit octets
  met_by met = let c = opens.counted in record { phase = opens.phase; behind = opens.behind; found = opens.found; met = omega (arith, c, met) }

  pub ends_by : (left : List ℕ) → is_established line.phase.state ≡ false → count < limit → left ≡ [] → EndsBefore machine limit octets left
  ends_by left down within none =
      let c = opens.counted in
      let behind : opens.behind ≡ [] = opens.none down in
      let zero : length opens.behind ≡ 0 = ap length behind in
      record {
        phase = opens.phase;
        found = opens.found ∙ ap (λ (z : List ℕ). (still opens.phase, z)) behind;
        down = opens.up ∙ down;
        within = omega (arith, c, within, zero);
        none = none;
      }
