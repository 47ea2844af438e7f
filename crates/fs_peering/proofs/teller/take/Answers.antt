use Rattle.fs_peering.proofs.Words.{machine_in, ◌≡◌, ℕ, List, subst, rules, arith, [], length, true, false, Bool, None, sym, ◌∙◌, take_rest}
use Rattle.fs_peering.proofs.Words.{going_start, rest_none, CountsOn}
use Rattle.fs_peering.proofs.Counting.{counts_cut, counts_fed, counts_shut, counts_start, shuts_fed, shuts_open, still_open}
use Rattle.fs_peering.proofs.{Feeding.{ends_all, ends_shut, goes_more}, Hearing.{says_handed, says_up}}
use Rattle.fs_peering.proofs.Settled.{counts_bound, fed_settled, goes_early, settled_fed, settled_same, state_open, stops_up}
use Rattle.fs_peering.proofs.teller.take.Goals.{then-not-was_settled, else-not-was_settled}
use Rattle.fs_peering.proofs.teller.take.Goals as goal

both : {b : Bool} → b ≡ false → b ≡ true → ⊥
both e f = cc

pub messages-init : goal.messages-init
messages-init c = record {
  same = settled_same _;
  alive = λ e. e;
  early = λ off down. down;
  going = going_start (machine_in c.args.announcer.now) c.args.moment c.args.announcer.now.line c.args.piece.now [] c.args.out.now.items;
  bound = omega arith;
  counts = counts_start _ _ c.args.announcer.now.line c.args.piece.now;
}

pub messages-preserved : goal.messages-preserved
messages-preserved c = record {
  same = settled_fed c.args.announcer.now c.messages.announcer c.feed_at.new.self _ _ _ _ _ c.messages.invariant.same
      c.feed_at.ensures.same c.feed_at.ensures.again c.feed_at.ensures.closed c.feed_at.ensures.exact;
  alive = λ e. still_open c.feed_at.new.self.line c.feed_at.result c.in-Ok.count (search rules) c.feed_at.ensures.closed;
  early = λ off down. goes_early c.args.hears_on c.feed_at.new.self.line
      (still_open c.feed_at.new.self.line c.feed_at.result c.in-Ok.count (search rules) c.feed_at.ensures.closed) (search rules) off;
  going = rw take_rest (goes_more c.args.announcer.now c.messages.announcer c.feed_at.new.self c.args.moment c.args.piece.now c.messages.rest.now
      c.args.out.now.items c.messages.out.items c.feed_at.new.out.items c.feed_at.result c.messages.invariant.same.0 c.messages.invariant.going
      c.feed_at.ensures.again c.feed_at.ensures.exact c.feed_at.ensures.closed c.in-Ok.count (search rules));
  bound = counts_bound c.is_settled-was_settled.result c.messages.needed c.if-not-was_settled.needed c.in-Ok.count
      (length c.args.piece.now) c.messages.rest.now c.in-Ok.ensures.some.0
      (λ h. elim c.if-not-was_settled.branch [ then-not-was_settled w ↦ w.needed-is | else-not-was_settled w ↦ absurd (both h (search rules)) ])
      (λ h. elim c.if-not-was_settled.branch [ then-not-was_settled w ↦ absurd (both (search rules) h) | else-not-was_settled w ↦ w.needed-is ])
      c.messages.invariant.bound;
  counts = rw take_rest (counts_fed c.args.hears_on c.args.announcer.now c.messages.announcer c.feed_at.new.self c.args.moment c.args.piece.now
      c.messages.rest.now c.messages.out.items c.feed_at.new.out.items c.feed_at.result
      c.is_settled-was_settled.result c.messages.needed c.if-not-was_settled.needed c.in-Ok.count c.messages.invariant.same
      (search rules) c.feed_at.ensures.again c.feed_at.ensures.exact
      (fed_settled c.messages.announcer c.feed_at.new.self c.args.moment c.messages.rest.now c.messages.out.items c.feed_at.new.out.items
      c.feed_at.result c.feed_at.ensures.same c.feed_at.ensures.again c.feed_at.ensures.closed c.feed_at.ensures.exact)
      c.feed_at.ensures.closed c.is_settled-was_settled.ensures
      (λ h. elim c.if-not-was_settled.branch [ then-not-was_settled w ↦ w.needed-is | else-not-was_settled w ↦ absurd (both h (search rules)) ])
      (λ h. elim c.if-not-was_settled.branch [ then-not-was_settled w ↦ absurd (both (search rules) h) | else-not-was_settled w ↦ w.needed-is ])
      c.messages.invariant.early c.messages.invariant.counts);
}

pub returns-in-Err-clause-says : goal.returns-in-Err-clause-says
returns-in-Err-clause-says c =
    says_handed _ _ _ _ _ _ _ _ (ends_shut _ _ _ _ _ _ _ _ _ _ c.messages.invariant.same.0 c.messages.invariant.going
    c.feed_at.ensures.again c.feed_at.ensures.exact c.feed_at.ensures.closed _ (search rules) c.in_ok-closes-in-Err.ensures)

pub returns-in-Err-clause-counts : goal.returns-in-Err-clause-counts
returns-in-Err-clause-counts c =
    counts_shut c.args.hears_on (machine_in c.args.announcer.now) c.args.announcer.now.line c.feed_at.new.self.line
    c.args.piece.now [] c.messages.needed c.feed_at.result c.in-Err.why (search rules) c.feed_at.ensures.closed

pub returns-in-Err-clause-shuts : goal.returns-in-Err-clause-shuts
returns-in-Err-clause-shuts c =
    shuts_fed _ c.args.announcer.now _ c.feed_at.new.self _ c.args.piece.now _ _ _ _ _ c.messages.needed
    c.messages.invariant.same.0 (search rules) c.in_ok-closes-in-Err.ensures c.feed_at.ensures.exact c.feed_at.ensures.closed
    c.messages.invariant.alive c.messages.invariant.early c.messages.invariant.counts

pub returns-then-is_empty-clause-says : goal.returns-then-is_empty-clause-says
returns-then-is_empty-clause-says c =
    says_handed _ _ _ _ _ _ _ _ (ends_all _ _ _ _ _ _ _ _ _ _ c.messages.invariant.same.0 c.messages.invariant.going
    c.feed_at.ensures.again c.feed_at.ensures.exact c.feed_at.ensures.closed _ (search rules)
    (rest_none c.in-Ok.count c.messages.rest.now (search rules)))

pub returns-then-is_empty-clause-same : goal.returns-then-is_empty-clause-same
returns-then-is_empty-clause-same c =
    settled_fed c.args.announcer.now c.messages.announcer c.feed_at.new.self _ _ _ _ _ c.messages.invariant.same
    c.feed_at.ensures.same c.feed_at.ensures.again c.feed_at.ensures.closed c.feed_at.ensures.exact

pub returns-then-is_empty-clause-counts : goal.returns-then-is_empty-clause-counts
returns-then-is_empty-clause-counts c =
    subst (λ (z : List ℕ). CountsOn c.args.hears_on (machine_in c.args.announcer.now) c.args.announcer.now.line c.feed_at.new.self.line
    c.args.piece.now z c.if-not-was_settled.needed)
    (rest_none c.in-Ok.count c.messages.rest.now (search rules)) (counts_fed _ c.args.announcer.now _ _ _ c.args.piece.now _ _ _ _
    _ _ _ _ c.messages.invariant.same (search rules) c.feed_at.ensures.again c.feed_at.ensures.exact (fed_settled _ _ _ _ _ _
    _ c.feed_at.ensures.same c.feed_at.ensures.again c.feed_at.ensures.closed c.feed_at.ensures.exact)
    c.feed_at.ensures.closed c.is_settled-was_settled.ensures
    (λ h. elim c.if-not-was_settled.branch [ then-not-was_settled w ↦ w.needed-is | else-not-was_settled w ↦ absurd (both h (search rules)) ])
    (λ h. elim c.if-not-was_settled.branch [ then-not-was_settled w ↦ absurd (both (search rules) h) | else-not-was_settled w ↦ w.needed-is ])
    c.messages.invariant.early c.messages.invariant.counts)

pub returns-then-is_empty-clause-shuts : goal.returns-then-is_empty-clause-shuts
returns-then-is_empty-clause-shuts c = λ off.
    shuts_open (machine_in c.args.announcer.now) c.args.announcer.now.line c.feed_at.new.self.line c.args.piece.now c.feed_at.result c.in-Ok.count
    (search rules) c.feed_at.ensures.closed

pub returns-then-stops-clause-says : goal.returns-then-stops-clause-says
returns-then-stops-clause-says c =
    says_up _ c.args.announcer.now c.args.moment _ _ c.args.piece.now _ _ _
    (goes_more _ _ _ _ _ _ _ _ _ _ c.messages.invariant.same.0 c.messages.invariant.going c.feed_at.ensures.again
    c.feed_at.ensures.exact c.feed_at.ensures.closed c.in-Ok.count (search rules)) (search rules)

pub returns-then-stops-clause-counts : goal.returns-then-stops-clause-counts
returns-then-stops-clause-counts c =
    let open_now : c.feed_at.new.self.line.closed ≡ None =
    still_open c.feed_at.new.self.line c.feed_at.result c.in-Ok.count (search rules) c.feed_at.ensures.closed in
    counts_cut _ _ c.args.announcer.now.line c.feed_at.new.self.line c.args.piece.now _ c.if-not-was_settled.needed
    (sym (state_open c.feed_at.new.self.line open_now) ∙ stops_up c.args.hears_on c.feed_at.new.self.line (search rules))
    (counts_fed _ c.args.announcer.now _ _ _ c.args.piece.now _ _ _ _ _ _ _ _ c.messages.invariant.same
    (search rules) c.feed_at.ensures.again c.feed_at.ensures.exact (fed_settled _ _ _ _ _ _
    _ c.feed_at.ensures.same c.feed_at.ensures.again c.feed_at.ensures.closed c.feed_at.ensures.exact)
    c.feed_at.ensures.closed c.is_settled-was_settled.ensures
    (λ h. elim c.if-not-was_settled.branch [ then-not-was_settled w ↦ w.needed-is | else-not-was_settled w ↦ absurd (both h (search rules)) ])
    (λ h. elim c.if-not-was_settled.branch [ then-not-was_settled w ↦ absurd (both (search rules) h) | else-not-was_settled w ↦ w.needed-is ])
    c.messages.invariant.early c.messages.invariant.counts)

pub returns-then-stops-clause-shuts : goal.returns-then-stops-clause-shuts
returns-then-stops-clause-shuts c = λ off.
    shuts_open (machine_in c.args.announcer.now) c.args.announcer.now.line c.feed_at.new.self.line c.args.piece.now c.feed_at.result c.in-Ok.count
    (search rules) c.feed_at.ensures.closed
