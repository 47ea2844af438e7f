use Rattle.fs_pcapng.{specs.Pcapng.{NgState, coming}, proofs.{Words.{moment}, Opening.{opens, opens_not, opens_others}}}
use Rattle.fs_pcapng.proofs.capture.Ng.begin.Goals as goal

pub returns-in-Ok-clause-begins : goal.returns-in-Ok-clause-begins
returns-in-Ok-clause-begins g c = λ told.
    opens (moment g.F.Files c.args.files.now c.args.counted) (moment g.F.Files c.take_opening.new.files c.take_opening.new.counted)
    c.requires.start c.in-Ok.ensures.none told c.in-Ok.ensures.reads

pub returns-in-Err-clause-begins : goal.returns-in-Err-clause-begins
returns-in-Err-clause-begins g c = λ told.
    opens_not (moment g.F.Files c.args.files.now c.args.counted) (moment g.F.Files c.take_opening.new.files c.take_opening.new.counted)
    (λ (capture : NgState). coming capture (g.F.Files.left c.take_opening.new.files c.args.counted.slot)) c.requires.start told c.in-Err.ensures.reads

pub returns-in-Ok-clause-others : goal.returns-in-Ok-clause-others
returns-in-Ok-clause-others g c = λ told.
    opens_others (moment g.F.Files c.args.files.now c.args.counted) (moment g.F.Files c.take_opening.new.files c.take_opening.new.counted)
    told c.in-Ok.ensures.reads

pub returns-in-Err-clause-others : goal.returns-in-Err-clause-others
returns-in-Err-clause-others g c = λ told.
    opens_others (moment g.F.Files c.args.files.now c.args.counted) (moment g.F.Files c.take_opening.new.files c.take_opening.new.counted)
    told c.in-Err.ensures.reads
