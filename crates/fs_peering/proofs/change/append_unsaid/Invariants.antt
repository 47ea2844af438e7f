use Rattle.fs_peering.proofs.Words.{◌≡◌, ◌++◌, ◌+◌, ◌≤◌, true, length, list_all, map, is_short}
use Rattle.fs_speaker.specs.Sending.{text_by}
use Rattle.fs_peering.specs.Change.{joined, unsaid}
use Rattle.fs_peering.proofs.change.append_unsaid.Given as goal

-- with the texts of the rules that are left, all is there and counted
abbrev pub invariant-loop-rest : goal.invariant-loop-rest
invariant-loop-rest l = record {
  fit : list_all (is_short l.terms l.numbers) l.rest ≡ true;
  text : l.out.items ++ joined (unsaid l.said (map (text_by l.terms l.numbers) l.rest)) ≡ l.fn.out.items
      ++ joined (unsaid l.said (map (text_by l.terms l.numbers) l.rules));
  counted : l.count + length (unsaid l.said (map (text_by l.terms l.numbers) l.rest))
      ≡ length (unsaid l.said (map (text_by l.terms l.numbers) l.rules));
  passed : l.count + length l.rest ≤ length l.rules;
}

abbrev pub decreases-loop-rest : goal.decreases-loop-rest
decreases-loop-rest l = length l.rest
