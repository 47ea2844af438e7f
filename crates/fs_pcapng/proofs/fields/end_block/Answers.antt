use Rattle.fs_pcapng.proofs.Words.{reads_then, close_in}
use Rattle.fs_pcapng.proofs.fields.end_block.Goals as goal

pub returns-clause-reads : goal.returns-clause-reads
returns-clause-reads g c =
    reads_then (λ _. close_in c.args.frame) (λ _. c.args.frame.total) c.in_default.ensures.reads c.close_block.ensures.reads
