use Rattle.fs_validate.proofs.validity.valid.Goals as goal

pub returns-clause-validity : goal.returns-clause-validity
returns-clause-validity g c = c.validity_of.ensures.validity c.args.route.now.actions
