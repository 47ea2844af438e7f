use Rattle.fs_message.proofs.{Words.{sym, ◌∙◌, field_of}, CapabilityLists.{gathered_more, gathered_not, gathered_end}}
use Rattle.fs_message.proofs.capabilities.read_capabilities.Goals as goal

pub returns-in_default-with_capability : goal.returns-in_default-with_capability
returns-in_default-with_capability c =
    sym (gathered_not c.loop-capability.found c.loop-capability.rest.now (field_of c.in-Some.capability, c.in-Some.behind.now)
    (sym c.in-Some.ensures) c.in_default-with_capability.ensures)
    ∙ c.loop-capability.invariant

pub loop-capability-preserved : goal.loop-capability-preserved
loop-capability-preserved c =
    sym (gathered_more c.loop-capability.found c.in-Some-with_capability.next c.loop-capability.rest.now (field_of c.in-Some.capability, c.in-Some.behind.now)
    (sym c.in-Some.ensures) c.in-Some-with_capability.ensures)
    ∙ c.loop-capability.invariant

pub returns : goal.returns
returns c = c.found_at_end.ensures ∙ sym (gathered_end c.loop-capability.found c.loop-capability.rest.now (sym c.in_default.ensures))
    ∙ c.loop-capability.invariant
