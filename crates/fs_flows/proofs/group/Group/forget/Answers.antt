use Rattle.fs_flows.proofs.Words.{sym, ap, subst, ◌∙◌, filter, flat, IsCut, routes_in, AreWell, the_invariant, the_view, is_of_other}
use Rattle.fs_flows.proofs.{Cutting.{flat_kept, cut_kept}, group.Group.forget.Goals.{in-One, in-Many}}
use Rattle.fs_flows.proofs.group.Group.forget.Goals as goal

pub invariant_of-self : goal.invariant_of-self
invariant_of-self c = elim c.match-self.branch [
  | in-One w ↦ subst the_invariant (sym w.self-inside-is) tt
  | in-Many w ↦ subst the_invariant (sym w.self-inside-is)
      (subst IsCut (sym w.forget_each.ensures)
      (cut_kept (is_of_other c.args.peer) w.in-Many.blocks.items (subst AreWell w.in-Many.is c.self.invariant)))
]

pub returns : goal.returns
returns c = elim c.match-self.branch [
  | in-One w ↦ ap the_view w.self-inside-is ∙ w.forget.ensures ∙ ap (filter (is_of_other c.args.peer)) (ap routes_in (sym w.in-One.is) ∙ c.self.view_is)
  | in-Many w ↦ ap the_view w.self-inside-is ∙ ap flat w.forget_each.ensures ∙ flat_kept (is_of_other c.args.peer) w.in-Many.blocks.items
      ∙ ap (filter (is_of_other c.args.peer)) (ap routes_in (sym w.in-Many.is) ∙ c.self.view_is)
]
