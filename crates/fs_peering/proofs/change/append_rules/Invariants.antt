use Rattle.fs_peering.proofs.Words.{◌≡◌, ◌++◌, true, flat_map, length, list_all, is_short}
use Rattle.fs_speaker.specs.Sending.{text_by}
use Rattle.fs_peering.proofs.change.append_rules.Given as goal

-- with the rules that are left, all is there
abbrev pub invariant-loop-rest : goal.invariant-loop-rest
invariant-loop-rest l = record {
  fit : list_all (is_short l.terms l.numbers) l.rest ≡ true;
  text : l.out.items ++ flat_map (text_by l.terms l.numbers) l.rest ≡ l.fn.out.items ++ flat_map (text_by l.terms l.numbers) l.rules;
}

abbrev pub decreases-loop-rest : goal.decreases-loop-rest
decreases-loop-rest l = length l.rest
