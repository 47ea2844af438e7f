-- The words of the crates below, and of the specs, that lemmas here speak of.
pub use Rattle.std.proofs.Common.{Bool, Err, List, None, Ok, Option, Result, Some, eqb-true, inl, inr, map, true≢false, unwrap_or, [], ap}
pub use Rattle.std.proofs.Common.{append_assoc, arith, drop, false, filter, length, length-append, not, refl, rules, subst, sym, take, true, ℕ, ◌++◌}
pub use Rattle.std.proofs.Common.{◌+◌, ◌-◌, ◌<◌, ◌&&◌, ◌==◌, ◌||◌, ◌^◌, ◌∙◌, ◌∷◌, ◌≡◌, ◌≢◌, ◌≤◌, ◌⊎◌}
pub use Rattle.std.proofs.{lemmas.{List.{append-nil, length-drop, take_all}}, Math.Seq.{drop-append_seam}}
pub use Rattle.std.specs.Result.{IsErrAnd, IsErrOf}
pub use Rattle.std.specs.{List.{AllByRecursion}, Prelude.{IfOk, IsSome, is_some, nat_lt, OnErr, OnOk, find, flat_map, if◌then◌else◌}}
pub use Rattle.fs_base.proofs.{NumberTests.{eq_itself}, Grew.{Grew-refl, Grew-trans, on_err, part_more, part_then, part_whole}}
pub use Rattle.fs_base.specs.{Config.{peer_of}, Gate.{Turn, said, shut}, Sink.{Grew, GrewPart}, declared.config.{Config.{Config}, Peer.{Peer}}}
pub use Rattle.fs_input.specs.Parts.{AllFrom}
pub use Rattle.fs_tape.specs.Header.{longest_payload}
pub use Rattle.fs_tape.specs.Laws.{Fits, IsNumbered, IsWritable, after, item_text, record_text}
pub use Rattle.fs_tape.specs.Tape.{Item, Timed, came_up, received, stands, timed, was_lost}
pub use Rattle.fs_tape.specs.declared.magic.Version.TheVariants.{Two}
pub use Rattle.fs_speaker.specs.{Handed.{Point}, Session.{Live}}
pub use Rattle.fs_desk.specs.Desk.{Desked, HandsPeer, KeepsOthers, PeerIs, Played, Replied, RepliesBehind, StandsAs, ExpiresPlayed, ExpiresSo}
pub use Rattle.fs_desk.specs.Desk.{PlayedBut, Plays, StaysPlayed, TicksPeer, expired_after, expired_with, session_at, standing_at_desk, standing_of}
pub use Rattle.fs_desk.specs.{Leaves.{nobody}, Life.{life}, Receive.{point_of}}
pub use Rattle.fs_recorder.specs.Books.{Agrees, AgreesBut, Booked, Tells, TellsPart, text_now}
pub use Rattle.fs_recorder.specs.Deeds.{AreKnown, Deed, Does, IsKnown, Recording, StayKnown, answered, asked_in, behind_answer, is_closed, items_of}
pub use Rattle.fs_recorder.specs.Deeds.{leaves, passing, says, sends, shuts, stands_established, tells, text_at, told_at}
pub use Rattle.fs_recorder.specs.Seats.{seat_for, seat_of, without}
pub use Rattle.fs_recorder.specs.Steps.{Place, Station, Step, doing, expires, handed_point, hurries, hurries_where_late, hurries_where_new}
pub use Rattle.fs_recorder.specs.Steps.{is_early, is_established, moved, peers_at, place_for, place_of, places_without, receives}
pub use Rattle.fs_recorder.specs.Steps.{replies_to, resting, seat_at, settles, speaks, then_do, wakes, woken}
pub use Rattle.fs_recorder.specs.{Tapes.{Scribed, items_in, last_of, longer_by}, Door.{AtDoor, open_time}, declared.seats.Seat.{Seat}}
pub use Rattle.fs_recorder.specs.Works.{Answered, AreApart, BreaksAt, DoesStep, IsOpenAt, Left, Ran, RanAnswer, RanAt, RanHear, RanSo}
pub use Rattle.fs_recorder.specs.Works.{Settled, Stands, WakesSo, broken, done}
pub use Rattle.fs_recorder.specs.declared.stop.Stop.{Stop, TheVariants.{Limit}}
