use Rattle.fs_message.proofs.Words.{◌≡◌, ◌==◌, ◌&&◌, Bool, false, sym, ap, ◌∙◌, arith, ne_eqb, Field, field_of, are_fields, is_capability, fields_of}
use Rattle.fs_message.proofs.Words.{list_all}
use Rattle.fs_message.proofs.CapabilityLists.{all_more, all_not, none_gathered, all_end}
use Rattle.fs_message.proofs.capabilities.read_parameters.Goals as goal

pub returns-then-parameter-ne-CAPABILITIES : goal.returns-then-parameter-ne-CAPABILITIES
returns-then-parameter-ne-CAPABILITIES c =
    let given : Field = field_of c.in-Some.parameter in
    let unknown : (given.kind == 2) ≡ false = ne_eqb c.in-Some.parameter.kind 2 (λ same. omega arith) in
    sym (all_not c.loop-parameter.found c.loop-parameter.rest.now (given, c.in-Some.behind.now) (sym c.in-Some.ensures)
    (ap (λ (b : Bool). b && (are_fields given.value && list_all is_capability (fields_of given.value))) unknown)) ∙ c.loop-parameter.invariant

pub returns-in_default-read_capabilities : goal.returns-in_default-read_capabilities
returns-in_default-read_capabilities c =
    sym (all_not c.loop-parameter.found c.loop-parameter.rest.now (field_of c.in-Some.parameter, c.in-Some.behind.now) (sym c.in-Some.ensures)
    (none_gathered c.loop-parameter.found (field_of c.in-Some.parameter) c.in_default-read_capabilities.ensures)) ∙ c.loop-parameter.invariant

pub loop-parameter-preserved : goal.loop-parameter-preserved
loop-parameter-preserved c =
    sym (all_more c.loop-parameter.found c.in-Some-read_capabilities.next c.loop-parameter.rest.now (
      field_of c.in-Some.parameter,
      c.in-Some.behind.now,
    ) (sym c.in-Some.ensures)
    (omega arith) c.in-Some-read_capabilities.ensures)
    ∙ c.loop-parameter.invariant

pub returns : goal.returns
returns c = c.found_at_end.ensures ∙ sym (all_end c.loop-parameter.found c.loop-parameter.rest.now (sym c.in_default.ensures)) ∙ c.loop-parameter.invariant
