use Rattle.fs_peering.proofs.ChangeParts.{all_fit, both_counted, both_withdrawn}
use Rattle.fs_peering.proofs.change.append_gone.Goals as goal

pub append_unkept-requires : goal.append_unkept-requires
append_unkept-requires c =
    rw c.as_slice-rules.ensures (all_fit _ _ _ c.requires.fits)

pub append_unkept-requires-2 : goal.append_unkept-requires-2
append_unkept-requires-2 c =
    rw c.as_slice-rules.ensures (all_fit _ _ _ c.requires.fits)

pub returns-clause-text : goal.returns-clause-text
returns-clause-text c =
    both_withdrawn c.args.terms.now _ _ _ _ _ _ _ _
    c.in_ok-kept.ensures c.as_slice.ensures c.as_slice-rules.ensures c.in_ok-v4.ensures.text c.in_ok-v6.ensures.text

pub returns-clause-count : goal.returns-clause-count
returns-clause-count c =
    both_counted _ _ _ _ _ _ _
    c.in_ok-kept.ensures c.as_slice.ensures c.as_slice-rules.ensures c.in_ok-v4.ensures.count c.in_ok-v6.ensures.count
