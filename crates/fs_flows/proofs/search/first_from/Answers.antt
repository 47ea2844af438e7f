use Rattle.fs_flows.proofs.{Words.{◌≡◌, subst, entries_between, Included, Unbounded, prefix_cmp}, Searching.{first_in_range, none_in_range}}
use Rattle.fs_flows.proofs.search.first_from.Goals as goal

pub returns-in-Some : goal.returns-in-Some
returns-in-Some c = first_in_range c.args.low.now c.args.groups.now.entries c.range.ensures.ordered c.range.result (
  c.in-Some.destination.now,
  c.in-Some.field-0-1.now,
) c.next.new.self
    (subst (λ d. c.range.result ≡ entries_between prefix_cmp (Included d) Unbounded c.args.groups.now.entries) c.of.ensures
    (c.range.ensures.between tt)) c.in-Some.ensures.steps

pub returns-in-None : goal.returns-in-None
returns-in-None c = none_in_range c.args.low.now c.args.groups.now.entries c.range.result
    (subst (λ d. c.range.result ≡ entries_between prefix_cmp (Included d) Unbounded c.args.groups.now.entries) c.of.ensures
    (c.range.ensures.between tt)) c.in-None.ensures.steps.0
