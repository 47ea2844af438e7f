use Rattle.fs_recorder.proofs.{Words.{came_up, on_err, part_whole}, Doing.{handed_on, no_memory}, Telling.{part_as, tells_as}}
use Rattle.fs_recorder.proofs.books.Books.up.Goals as goal

pub returns-in_err-write-clause-err : goal.returns-in_err-write-clause-err
returns-in_err-write-clause-err g c = on_err c.from_residual.result
    (part_as (came_up c.args.peer) (record { desk = c.self.inside.desk; scribe = c.self.inside.scribe }) c.args.self.now _ _ c.self.view_is
    (c.ranges.peer.fits, c.requires) c.in_err-write.ensures.err
    (λ limited. c.in_err-write.ensures.limit (handed_on c.in_err-write.field-0.0 c.from_residual.result c.from_residual.ensures.1 limited)))

pub returns-in_err-up-clause-err : goal.returns-in_err-up-clause-err
returns-in_err-up-clause-err g c = on_err c.from_residual-in_err-up.result
    (part_as (came_up c.args.peer) (record { desk = c.self.inside.desk; scribe = c.self.inside.scribe }) c.args.self.now _ _ c.self.view_is
    (c.ranges.peer.fits, c.requires) (part_whole _ _ _ c.in_ok-write.ensures.written)
    (λ limited. absurd (no_memory c.from_residual-in_err-up.result c.from_residual-in_err-up.ensures.1 limited)))

pub returns-clause-told : goal.returns-clause-told
returns-clause-told g c = tells_as (came_up c.args.peer) (record { desk = c.self.inside.desk; scribe = c.self.inside.scribe }) c.args.self.now _ _ _
    c.self.view_is (c.ranges.peer.fits, c.requires) c.in_ok-up.ensures.played
    c.up.ensures.config c.in_ok-write.ensures.longer c.in_ok-write.ensures.room c.in_ok-write.ensures.written

pub returns-clause-others : goal.returns-clause-others
returns-clause-others g c = rw (← c.self.view_is) c.in_ok-up.ensures.others
