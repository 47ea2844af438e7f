use Rattle.fs_peering.proofs.Words.{◌≡◌, ◌++◌, true, flat_map, length, list_all}
use Rattle.fs_attrs.specs.Writable.{are_rules_of}
use Rattle.fs_peering.specs.{Change.{fits_alone}, Keeper.{packs, withdrawal_text}}
use Rattle.fs_peering.proofs.change.append_withdrawals.Given as goal

-- with the packs of the rules that are left, all is there
abbrev pub invariant-loop-rest : goal.invariant-loop-rest
invariant-loop-rest l = record {
  of_family : are_rules_of l.family l.rest ≡ true;
  fit : list_all fits_alone l.rest ≡ true;
  text : l.out.items ++ flat_map (withdrawal_text l.terms l.family) (packs l.rest) ≡ l.fn.out.items
      ++ flat_map (withdrawal_text l.terms l.family) (packs l.rules);
}

abbrev pub decreases-loop-rest : goal.decreases-loop-rest
decreases-loop-rest l = length l.rest
