-- The words that lemmas on places and steps speak of.
pub use Rattle.std.proofs.Common.{Bool, Err, List, None, Ok, Option, Result, Some, eqb-true, [], ap, append_assoc, arith, false, length, not, refl}
pub use Rattle.std.proofs.Common.{subst, sym, true, ℕ, ◌++◌, ◌<◌, ◌≤◌, ◌==◌, ◌∙◌, ◌∷◌, ◌≡◌}
pub use Rattle.std.proofs.lemmas.List.{append-nil, map-append}
pub use Rattle.std.specs.{List.{AllByRecursion}, Prelude.{IsSome, OnErr, OnOk, filter, find, if◌then◌else◌, map, option_map}}
pub use Rattle.fs_base.specs.{Config.{peer_of}, Gate.{Turn, What, ended, gave, made, nothing, shut, taken}, Sink.{Grew}}
pub use Rattle.fs_base.specs.declared.config.{Address.{Address}, Config.{Config}, Peer.{Peer}}
pub use Rattle.fs_tape.specs.{Header.{longest_payload}, Laws.{IsNumbered, IsWritable}, Tape.{Item, came_up, received, was_lost}}
pub use Rattle.fs_speaker.specs.{Handed.{Point}, Line.{fresh}, Session.{begins, live}}
pub use Rattle.fs_desk.specs.{Desk.{Desked, KeepsOthers, Played, expired_after, session_at, standing_of}, Leaves.{nobody}}
pub use Rattle.fs_recorder.specs.Books.{Tells, TellsPart}
pub use Rattle.fs_recorder.specs.Deeds.{Deed, Does, Recording, is_closed, items_of, leaves, says, shuts, tells}
pub use Rattle.fs_recorder.specs.Seats.{seat_for, seat_of}
pub use Rattle.fs_recorder.specs.Door.{AtDoor, guest_of, has_time, is_due, late_lines, said_as, swept_at, swept_where_due, with_guest, without_guest}
pub use Rattle.fs_recorder.specs.Steps.{Place, Station, Step, admits, checks, checks_peer, comes, doing, door_after, door_with, ends, expires}
pub use Rattle.fs_recorder.specs.Steps.{follows, gives, handed_point, hears, hears_octets, hurries, hurries_where_late, hurries_where_new, is_early}
pub use Rattle.fs_recorder.specs.Steps.{is_established, moved, peer_for, peers_at, peers_in, place_for, place_of, places_without, receives, replaces}
pub use Rattle.fs_recorder.specs.Steps.{replies_to, resting, seat_at, seats_one, settles, speaks, sweeps, sweeps_all, sweeps_where_due, taken_by}
pub use Rattle.fs_recorder.specs.Steps.{takes, then_do, turns_away, vacates, waits, wakes, woken}
pub use Rattle.fs_recorder.specs.Works.{AreApart, BreaksAt, DoesStep, IsOpenAt, Left, Ran, RanAt, RanHear, RanQuietly, RanSeat, RanSo, Stands, broken, done}
pub use Rattle.fs_recorder.specs.declared.{door.Guest.{Guest}, seats.Seat.{Seat}, stop.Stop.{Stop, TheVariants.{Limit}}}
pub use Rattle.std.specs.Result.{IsErrAnd, IsErrOf}
