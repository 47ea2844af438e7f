use Rattle.fs_peering.proofs.{KeeperWords.{sym, ◌∙◌}, Stepped.{dial_fits, dial_none, dial_soon, dial_still, dial_took}}
use Rattle.fs_peering.proofs.keeper.Keeper.dial.Goals.{then-is_some-via-then-is_some, then-is_some-via-else-is_some+then-saturating_sub-self}
use Rattle.fs_peering.proofs.keeper.Keeper.dial.Goals as goal

pub returns-then-is_some-clause-took : goal.returns-then-is_some-clause-took
returns-then-is_some-clause-took g c = (
  0,
  elim c.then-is_some.branch [
    | then-is_some-via-then-is_some w ↦ dial_still _ _ _ _ _ c.self.view_is (sym c.is_some.ensures ∙ w.if-is_some.true)
    | then-is_some-via-else-is_some+then-saturating_sub-self w ↦ dial_soon _ _ _ _ _ _ c.self.view_is
        w.saturating_sub.ensures w.if-saturating_sub-self.true
  ],
)

pub returns-in_default-clause-took : goal.returns-in_default-clause-took
returns-in_default-clause-took g c =
    (0, dial_none _ _ _ _ _ c.self.view_is c.in_default.is)

pub new-requires : goal.new-requires
new-requires g c =
    (rw c.in-Some.is at c.self.invariant.sendable)

pub invariant_of-self : goal.invariant_of-self
invariant_of-self g c =
    dial_fits _ _ _ _ _ _ _ _ c.self.invariant
    (rw c.in-Some.is at c.self.invariant.sendable) c.in_ok-link.ensures.made c.link.view_is

pub returns-clause-took : goal.returns-clause-took
returns-clause-took g c = (
  c.dial.result,
  dial_took _ _ _ _ _ _ _ _ _ _ _ c.self.view_is
      (rw c.in-Some.is at c.self.invariant.sendable) (sym
      c.is_some.ensures ∙ c.if-is_some.false) c.in-Some.is c.saturating_sub.ensures c.if-saturating_sub-self.false c.dial.ensures.dialled
      c.in_ok-link.ensures.made c.link.view_is,
)
