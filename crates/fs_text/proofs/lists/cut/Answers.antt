use Rattle.fs_text.proofs.{Words.{◌++◌, is_sign, is_plain}, Cuts.{ends_append, split_behind}}
use Rattle.fs_text.proofs.lists.cut.Goals as goal

pub returns : goal.returns
returns c = λ front digits behind all some plain end is.
    let first = split_behind is_sign c.args.text.now front (digits ++ behind) c.split_at.result.0.now c.split_at.result.1.now c.sign_len.result
    c.sign_len.ensures.value c.split_at.ensures.front
    c.split_at.ensures.back all (ends_append digits behind some plain) is in
    let second = split_behind is_plain c.split_at.result.1.now digits behind c.split_at-2.result.0.now c.split_at-2.result.1.now c.run_len.result
    c.run_len.ensures.value c.split_at-2.ensures.front
    c.split_at-2.ensures.back plain end first.1 in
    (first.0, second.0, second.1)
