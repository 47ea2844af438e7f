use Rattle.fs_nlri.proofs.{Words.{List, All, sym, subst, Component, part_of, IsWritable}, Writable.{all_writable}}
use Rattle.fs_nlri.proofs.writing.encode.Goals as goal

pub append_frame-written-requires-clause-writable :
    goal.append_frame-written-requires-clause-writable
append_frame-written-requires-clause-writable c =
    subst (λ (l : List Component). All (λ (component : Component). IsWritable (part_of component).body) l) (sym c.deref.ensures.value)
    (all_writable c.rule.inside.family 0 c.rule.inside.components.items c.rule.invariant.normal)
