-- The words of the crates below, and of the specs, that lemmas here speak of.
pub use Rattle.std.proofs.Common.{Bool, Err, IfSome, IsSome, List, None, Ok, Option, Result, Some, [], ap, append-nil, append_assoc, arith, drop}
pub use Rattle.std.proofs.Common.{eq-eqb, eqb-true, false, find, if◌then◌else◌, inl, inr, length, map, max, min, nat_le, not, option_map, refl, rules}
pub use Rattle.std.proofs.Common.{subst, suc, sym, take, true, true≢false, unwrap_or, zero, ℕ, ◌&&◌, ◌++◌, ◌+◌, ◌-◌, ◌<◌, ◌==◌, ◌^◌, ◌||◌, ◌∙◌, ◌∷◌}
pub use Rattle.std.proofs.Common.{◌≡◌, ◌⊎◌}
pub use Rattle.std.proofs.lemmas.{List.{drop_all, nil_from_length, take-append-drop, take_rest}, Result.{on_ok_weaker}}
pub use Rattle.std.specs.List.{AllByRecursion, list_all}
pub use Rattle.fs_base.specs.{Parts.{parts_of}, declared.config.{Config.{Config}, Peer.{Peer}}}
pub use Rattle.fs_message.proofs.{OpenReadBack.{open_read, open_unnamed}, TextFirst.{text_first}}
pub use Rattle.fs_message.specs.{Deframer.{pending}, Stream.{Message, first_message, wrong_at}, Write.{message_text, open_body}}
pub use Rattle.fs_message.specs.declared.{fault.MessageFault.{MessageFault}, open_.Open.{Open}}
pub use Rattle.fs_attrs.specs.declared.update.Update.{Update}
pub use Rattle.fs_session.proofs.Arriving.{at_most, body_long, one_message, open_fits, update_fits}
pub use Rattle.fs_session.proofs.MessageRuns.{closed_hand, hand_each, open_hand, runs_begun, runs_each, runs_stops, runs_takes, runs_waits}
pub use Rattle.fs_session.proofs.SessionSteps.{last_of, machine_stops, machine_waits, runs_updates, session_seen, step_found}
pub use Rattle.fs_session.proofs.TwoPieces.{both_by, both_hands, front_first}
pub use Rattle.fs_session.specs.Announcer.{Announcing, StartsOpen, announcing, first_text, is_established, machine_in, open_sent}
pub use Rattle.fs_session.specs.Handed.{Handed, Point, hand, handed, point, rests, runs_by, shuts, updates_with, with_taken}
pub use Rattle.fs_session.specs.Line.{Advanced, CloseIs, FeedsAt, FeedsOpen, Lined, Refuses, StaysOver, Step, TickCloses, TickDoes, Ticks, TicksOpen}
pub use Rattle.fs_session.specs.Line.{answer_of, closed_after, fresh, moved, step_by, stops, takes, waits}
pub use Rattle.fs_session.specs.Sending.{body_by, is_lowest, needs_of, sender_of, text_sent, update_sent}
pub use Rattle.fs_session.specs.Session.{Last, Live, at_start, begins, closed, line_of, live, session_by, still, with_update}
pub use Rattle.fs_session.specs.Side.{announcer, as_update, at_fault, keepalive_to, lacks_of, no_farewell, notice_text, receiver, reply_to}
pub use Rattle.fs_session.specs.Times.{at_moment, tick_at, times, written_now}
pub use Rattle.fs_session.specs.Transition.{Machine, faulted, notified, opened, phase, taken, terms_of, transition_by, updates}
pub use Rattle.fs_session.specs.declared.sending.{Sending.{Sending}, Sent.{Sent}}
pub use Rattle.fs_session.specs.declared.state.Closed.{Closed, TheVariants.{Fault, Memory, NoFamily, Notified}}
pub use Rattle.fs_session.specs.declared.state.State.{State, TheVariants.{Established, WaitKeep, WaitOpen}}
pub use Rattle.fs_session.specs.declared.times.{Tick.{Tick, TheVariants.{Expires, Keeps, Quiet}}, Times.{Times}}
pub use Rattle.fs_session.specs.declared.transition.Phase.{Phase}
pub use Rattle.fs_speaker.specs.End.{HandsOver, IsAt, Own, StandsAt, TicksOver, own_of_taker, own_of_teller, ticked, ticks}
pub use Rattle.fs_speaker.specs.Ends.{AreIn, Becomes, Both, IsTaker, IsTeller, SameOnes, both}
pub use Rattle.fs_speaker.specs.{Flight.{Flying, flying}, Joint.{IsRun, Jointed, jointed, one_more, run_of}}
pub use Rattle.fs_speaker.specs.JointLaws.{CanArrive, ClosesSo, IsDue, IsUnnamed, delivered, delivered_on, handed_over, point_of, taken_in}
pub use Rattle.fs_speaker.specs.World.{World, at_first, cuts, delivers, happens, next_said, run, runs_on, says, sent, taker_comes, taker_of}
pub use Rattle.fs_speaker.specs.World.{teller_comes, teller_of, wakes}
pub use Rattle.fs_speaker.specs.declared.event.Event.{Event, TheVariants.{Cut, Deliver, Send}}
