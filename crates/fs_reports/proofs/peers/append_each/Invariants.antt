use Rattle.fs_reports.proofs.Words.{◌≡◌, ◌++◌, drop, peers_text, standing_at_desk}
use Rattle.fs_reports.proofs.peers.append_each.Given as goal

abbrev pub invariant-loop-number : goal.invariant-loop-number
invariant-loop-number l =
    l.text.items ++ peers_text (drop l.number-index l.numbers) (standing_at_desk l.desk)
    ≡ l.fn.text.items ++ peers_text l.numbers (standing_at_desk l.desk)
