use Rattle.fs_flows.proofs.Words.{List, ◌≡◌, false, not, ◌==◌, sym, subst, AllByRecursion, Prefix, V4, V6, IsAmong, is_of_other}
use Rattle.fs_flows.proofs.{Along.{listed_others, among_taken}, BothFamilies.{filtered}}
use Rattle.fs_flows.proofs.flows.Flows.forget.Goals as goal

-- Few destinations are listed.
pub forget_along-requires : goal.forget_along-requires
forget_along-requires c = subst
    (λ (keys : List Prefix). AllByRecursion (λ k. not (k.route.peer == c.args.peer) ≡ false → IsAmong keys k) c.self.inside.v4)
    (sym c.deref.ensures.value)
    (among_taken c.self.inside.listed c.args.peer c.in-Some.destinations.items c.self.inside.v4
    (rw c.in-Some.is at c.take.ensures.taken) c.self.invariant.1.first)

pub forget_along-requires-in-Some : goal.forget_along-requires-in-Some
forget_along-requires-in-Some c =
    subst (λ (keys : List Prefix). AllByRecursion (λ k. not (k.route.peer == c.args.peer) ≡ false → IsAmong keys k) c.self.inside.v6)
    (sym c.deref-in-Some.ensures.value)
    (among_taken c.self.inside.listed c.args.peer c.in-Some.destinations.items c.self.inside.v6
    (rw c.in-Some.is at c.take.ensures.taken) c.self.invariant.1.second)

pub invariant_of-self : goal.invariant_of-self
invariant_of-self c = (
  record {
    first = filtered (is_of_other c.args.peer) V4 c.self.inside.v4 c.forget_along.new.self c.forget_along.ensures c.self.invariant.0.first;
    second = filtered (is_of_other c.args.peer) V6 c.self.inside.v6 c.forget_along-in-Some.new.self c.forget_along-in-Some.ensures
        c.self.invariant.0.second;
  },
  record {
    first = listed_others c.self.inside.listed c.take.new.self c.args.peer c.self.inside.v4 c.forget_along.new.self c.take.ensures.stays
        c.forget_along.ensures c.self.invariant.1.first;
    second =
        listed_others c.self.inside.listed c.take.new.self c.args.peer c.self.inside.v6 c.forget_along-in-Some.new.self c.take.ensures.stays
        c.forget_along-in-Some.ensures c.self.invariant.1.second;
  },
)

-- Any may have one.
pub invariant_of-self-in-None : goal.invariant_of-self-in-None
invariant_of-self-in-None c = (
  record {
    first = filtered (is_of_other c.args.peer) V4 c.self.inside.v4 c.forget.new.self c.forget.ensures c.self.invariant.0.first;
    second =
        filtered (is_of_other c.args.peer) V6 c.self.inside.v6 c.forget-in-None.new.self c.forget-in-None.ensures c.self.invariant.0.second;
  },
  record {
    first = listed_others c.self.inside.listed c.take.new.self c.args.peer c.self.inside.v4 c.forget.new.self c.take.ensures.stays
        c.forget.ensures c.self.invariant.1.first;
    second =
        listed_others c.self.inside.listed c.take.new.self c.args.peer c.self.inside.v6 c.forget-in-None.new.self c.take.ensures.stays
        c.forget-in-None.ensures c.self.invariant.1.second;
  },
)
