use Rattle.fs_session.proofs.TwoPieces.{both_hands, both_answers, front_first}
use Rattle.fs_session.proofs.laws.pieces_join.Goals as goal

pub returns : goal.returns
returns c = record { updates = both_hands; replies = both_answers; fronts = front_first }
