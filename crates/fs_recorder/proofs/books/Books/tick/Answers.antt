use Rattle.fs_recorder.proofs.books.Books.tick.Goals as goal

pub returns-clause-played : goal.returns-clause-played
returns-clause-played c = rw (← c.self.view_is) c.in_ok-tick.ensures.played

pub returns-clause-expired : goal.returns-clause-expired
returns-clause-expired c = rw (← c.self.view_is) c.in_ok-tick.ensures.expired

pub returns-clause-others : goal.returns-clause-others
returns-clause-others c = rw (← c.self.view_is) c.in_ok-tick.ensures.others
