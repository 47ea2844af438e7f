-- How it stands with a peer: by what its octets come to, and by the session that is kept of it.
use Rattle.std.specs.Prelude.{Option, Some, None}
use Rattle.fs_session.specs.{declared.state.Standing.{Standing, TheVariants.{Down, Live as LiveIn, Ended}}, Session.{Last, still, closed, Live as Session}}

-- with an open session the peer is up, and a closed one has ended
abbrev pub standing_at : Last → Standing
standing_at (still phase) = LiveIn phase.state
standing_at (closed why) = Ended why

-- without a session the peer is down
abbrev pub standing_by : Option Session → Standing
standing_by None = Down
standing_by (Some session) = elim session.closed [ Some why ↦ Ended why | None ↦ LiveIn session.phase.state ]
