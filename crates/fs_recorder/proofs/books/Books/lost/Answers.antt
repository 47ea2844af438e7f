use Rattle.fs_recorder.proofs.{Words.{on_err, was_lost}, Doing.{handed_on}, Telling.{part_as, tells_as}}
use Rattle.fs_recorder.proofs.books.Books.lost.Goals as goal

pub returns-in_err-write-clause-err : goal.returns-in_err-write-clause-err
returns-in_err-write-clause-err g c = on_err c.from_residual.result
    (part_as (was_lost c.args.peer) (record { desk = c.self.inside.desk; scribe = c.self.inside.scribe }) c.args.self.now _ _ c.self.view_is
    (c.ranges.peer.fits, c.requires) c.in_err-write.ensures.err
    (λ limited. c.in_err-write.ensures.limit (handed_on c.in_err-write.field-0.0 c.from_residual.result c.from_residual.ensures.1 limited)))

pub returns-clause-told : goal.returns-clause-told
returns-clause-told g c = tells_as (was_lost c.args.peer) (record { desk = c.self.inside.desk; scribe = c.self.inside.scribe }) c.args.self.now _ _ _
    c.self.view_is (c.ranges.peer.fits, c.requires) c.lost.ensures.played
    c.lost.ensures.config c.in_ok-write.ensures.longer c.in_ok-write.ensures.room c.in_ok-write.ensures.written

pub returns-clause-others : goal.returns-clause-others
returns-clause-others g c = rw (← c.self.view_is) c.lost.ensures.others
