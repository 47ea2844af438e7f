use Rattle.fs_text.{specs.ListWord.{is_within}, proofs.Cuts.{split_behind}}
use Rattle.fs_text.proofs.lists.first_pair.Goals as goal

pub returns-clause-parts : goal.returns-clause-parts
returns-clause-parts c = λ front behind all ends is.
    split_behind is_within c.args.text.now front behind c.split_at.result.0.now c.split_at.result.1.now c.pair_len.result c.pair_len.ensures.value
    c.split_at.ensures.front
    c.split_at.ensures.back all ends is
