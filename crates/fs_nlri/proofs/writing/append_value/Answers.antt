use Rattle.fs_nlri.proofs.{Words.{take, parts_of, canonical_value}, Writable.{front_kept}}
use Rattle.fs_nlri.proofs.writing.append_value.Goals as goal

pub returns-in_err-append_component-clause-front :
    goal.returns-in_err-append_component-clause-front
returns-in_err-append_component-clause-front c =
    front_kept c.args.out.now.items c.loop-component.out.items c.append_component.new.out.items
    (canonical_value (parts_of (take c.loop-component.component-index c.args.components.now)))
    c.args.out.now.len c.loop-component.out.len c.args.out.now.ok.0 c.loop-component.out.ok.0 c.loop-component.invariant c.append_component.ensures.front
