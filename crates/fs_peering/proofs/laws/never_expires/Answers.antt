use Rattle.fs_peering.proofs.Expiring.{bounded_late, opened_late, session_late}
use Rattle.fs_peering.proofs.laws.never_expires.Goals as goal

pub returns : goal.returns
returns c = record { by_session = session_late; by_opening = opened_late; bounded = bounded_late }
