use Rattle.fs_text.proofs.Led.{bad_family, no_family}
use Rattle.fs_text.proofs.text.read_family.Goals as goal

pub returns-in-None-family_named-clause-fault : goal.returns-in-None-family_named-clause-fault
returns-in-None-family_named-clause-fault c = bad_family _ c.in-Some.word.now _ c.in-Some.ensures.some c.in-None-family_named.ensures.none

pub returns-in-None-clause-fault : goal.returns-in-None-clause-fault
returns-in-None-clause-fault c = no_family _ c.in-None.ensures.none
