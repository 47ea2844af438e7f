use Rattle.fs_peering.proofs.Words.{ℕ, List, ◌≡◌, ◌||◌, true, length, list_all, map, is_short}
use Rattle.std.specs.{List.{list_any}, Str.{bytes_eq}}
use Rattle.fs_speaker.specs.Sending.{text_by}
use Rattle.fs_peering.specs.Change.{has_text}
use Rattle.fs_peering.proofs.change.said_of.Given as goal

-- a text is among those said or those left where it is one of them
abbrev pub invariant-loop-rest : goal.invariant-loop-rest
invariant-loop-rest l = record {
  fit : list_all (is_short l.terms l.numbers) l.rest ≡ true;
  said : (text : List ℕ) → (has_text l.said text || list_any (bytes_eq text) (map (text_by l.terms l.numbers) l.rest))
      ≡ list_any (bytes_eq text) (map (text_by l.terms l.numbers) l.rules);
}

abbrev pub decreases-loop-rest : goal.decreases-loop-rest
decreases-loop-rest l = length l.rest
