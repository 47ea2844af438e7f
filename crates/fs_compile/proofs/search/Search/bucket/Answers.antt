use Rattle.fs_compile.proofs.Words.{◌<◌, ◌≤◌, ℕ, subst, arith, Node}
use Rattle.fs_compile.proofs.Climbing.{scanned_at, searched_found, searched_inside, searched_steps, skipped_cost, skipped_up}
use Rattle.fs_compile.proofs.search.Search.bucket.Goals as goal

pub returns-then-place-node-clause-found : goal.returns-then-place-node-clause-found
returns-then-place-node-clause-found g c = λ near n w missed.
    skipped_up c.args.self.now c.args.place near c.requires n w
    (subst (λ (x : Node ℕ). c.args.place.address < x.first) c.at-node.ensures c.if-place-node.true) missed

pub returns-then-place-node-clause-steps : goal.returns-then-place-node-clause-steps
returns-then-place-node-clause-steps g c = λ near n. let cost = skipped_cost c.args.self.now c.args.place near c.requires in omega (arith, cost)

pub returns-clause-found : goal.returns-clause-found
returns-clause-found g c = λ near n w missed.
    searched_found c.args.self.now c.args.place near _ _ c.run.result c.requires n w missed
    (scanned_at c.args.self.now c.args.place _ _ _ _ _ _ c.at-node.ensures c.at-end.ensures c.max.ensures c.run.ensures)

pub returns-clause-steps : goal.returns-clause-steps
returns-clause-steps g c = λ near n.
    searched_steps c.args.self.now c.args.place near _ _ c.run.result c.requires n
    (subst (λ (x : Node ℕ). x.first ≤ c.args.place.address) c.at-node.ensures c.if-place-node.false)
    (scanned_at c.args.self.now c.args.place _ _ _ _ _ _ c.at-node.ensures c.at-end.ensures c.max.ensures c.run.ensures)

pub returns-clause-inside : goal.returns-clause-inside
returns-clause-inside g c =
    searched_inside c.args.self.now c.args.place _ _ c.run.result c.requires
    (scanned_at c.args.self.now c.args.place _ _ _ _ _ _ c.at-node.ensures c.at-end.ensures c.max.ensures c.run.ensures)
