use Rattle.fs_buckets.proofs.Words.{ℕ, ◌<◌, List, get_or, length, refl, subst, arith, numbers_in, nodes_in, IsSubnet, AreNodes, ArePlain}
use Rattle.fs_buckets.proofs.Running.{housed_from, buckets_from}
use Rattle.fs_buckets.proofs.buckets.buckets_with.Goals as goal

pub returns : goal.returns
returns c = λ count spans few runs nesting rest. record {
  sound = buckets_from c.requires.some.0 c.args.runs.firsts.items (numbers_in c.args.runs.lasts) c.args.runs.starts.items c.args.runs.homes.items
      c.in_ok-parents.parents.items
      (nodes_in c.in_ok-nodes.nodes) count c.requires.some.3 subnets c.requires.some.1 plain made few;
  housed = housed_from spans (record { lasts = c.args.runs.lasts; marks = c.in_ok-marks.marks; nodes = c.in_ok-nodes.nodes; homes = c.args.runs.homes })
      c.args.runs.firsts.items (numbers_in c.args.runs.lasts) c.args.runs.starts.items c.args.runs.homes.items c.deref-2.result.now
      nesting runs c.in_ok-nodes.ensures refl refl rest;
} where
  subnets : (i : ℕ) → i < length (numbers_in c.args.runs.lasts) → IsSubnet (get_or c.args.runs.firsts.items i 0) (get_or (numbers_in c.args.runs.lasts) i 0)
  subnets i below = (c.requires.some.2 (get_or c.args.runs.starts.items i 0) (
    get_or c.args.runs.firsts.items i 0,
    get_or (numbers_in c.args.runs.lasts) i 0,
  ) (c.requires.some.1.owner i below)).2

  plain : ArePlain c.args.runs.firsts.items c.in_ok-parents.parents.items 0
  plain = subst (λ (xs : List ℕ). ArePlain xs c.in_ok-parents.parents.items 0) c.deref.ensures.value c.in_ok-parents.ensures.plain

  made : AreNodes c.args.runs.firsts.items c.args.runs.starts.items c.in_ok-parents.parents.items (length c.args.runs.homes.items)
      (nodes_in c.in_ok-nodes.nodes)
  made = subst (λ (xs : List ℕ). AreNodes c.args.runs.firsts.items c.args.runs.starts.items xs (length c.args.runs.homes.items)
      (nodes_in c.in_ok-nodes.nodes)) c.deref-2.ensures.value c.in_ok-nodes.ensures

pub nodes_of-requires-clause-width : goal.nodes_of-requires-clause-width
nodes_of-requires-clause-width c = λ i below.
    (c.requires.some.2 (get_or c.args.runs.starts.items i 0) (get_or c.args.runs.firsts.items i 0, get_or (numbers_in c.args.runs.lasts) i 0)
    (c.requires.some.1.owner i (omega (arith, below, c.requires.some.1.firsts_size)))).0
