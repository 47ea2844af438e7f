-- The words of the crates below, and of the specs, that lemmas here speak of.
pub use Rattle.byteorder.specs.Endian.{big_bytes}
pub use Rattle.std.proofs.Common.{All, Bool, Err, IsTrue, List, None, Ok, Option, Result, Some, [], ap, append-nil, append_assoc, arith, drop, false}
pub use Rattle.std.proofs.Common.{if◌then◌else◌, inl, inr, length, length-append, map, min, nat_le, nat_lt, not, refl, subst, sym, true, ℕ, ◌&&◌}
pub use Rattle.std.proofs.Common.{◌*◌, ◌++◌, ◌+◌, ◌<◌, ◌==◌, ◌^◌, ◌∙◌, ◌∷◌, ◌≡◌, ◌≢◌, ◌≤◌, ◌⊎◌}
pub use Rattle.std.proofs.lemmas.Bool.{leb-true, ne_eqb, Decides.{nat_tests}}
pub use Rattle.std.specs.{List.{AllByRecursion, list_all}, Prelude.{bit_or, flat_map}}
pub use Rattle.fs_base.{proofs.Parts.{parts_append, parts_end, parts_step}, specs.{Parts.{parts_of}, declared.config.{Config.{Config}, Peer.{Peer}}}}
pub use Rattle.fs_message.proofs.StreamLaws.{fault_stays, message_shrinks, message_stable}
pub use Rattle.fs_message.specs.Deframer.{Feeds, Framing, frame_of, pending, standing_message}
pub use Rattle.fs_message.specs.Stream.{Message, first_message, message_of, wrong_at}
pub use Rattle.fs_message.specs.declared.{fault.MessageFault.{MessageFault}, open_.Open.{Open}}
pub use Rattle.fs_attrs.specs.Segments.{AreNumbers, as_text, as_width, is_written_segment, segment, segments_text}
pub use Rattle.fs_attrs.specs.{Texts.{attribute_text, flags_of, long_text}, Update.{update_of}}
pub use Rattle.fs_attrs.specs.Write.{IsSound, Writes, actions_in, local_pref_in, reach_text, update_text, written_attributes}
pub use Rattle.fs_attrs.specs.declared.update.{Terms.{Terms}, Update.{Update}, UpdateFault.{UpdateFault}}
pub use Rattle.fs_session.specs.Announcer.{Announcing, FeedsEnd, announcing_in, counted, without_update}
pub use Rattle.fs_session.specs.Handed.{Handed, Point, hand, handed, point, rests, runs_by, shuts, with_taken}
pub use Rattle.fs_session.specs.Laws.{AreSendable, ComesBack, IsSent, RulesComeBack, said_by}
pub use Rattle.fs_session.specs.Line.{CloseIs, DoesAt, FeedsAt, FeedsOpen, Lined, Step, rest_step, step_at, step_by, step_in, stops, takes, waits}
pub use Rattle.fs_session.specs.Replies.{replies_by, replies_from, reply_rest}
pub use Rattle.fs_session.specs.Sending.{attribute_size, is_sending, is_short, needs_of, path_by, path_size, segments_sent, text_sent, update_by, update_sent}
pub use Rattle.fs_session.specs.Session.{GoesOnAt, Last, Live, at_start, closed, live_in, rest_closes, session_by, session_from, state_of, step_of}
pub use Rattle.fs_session.specs.Session.{still, with_update}
pub use Rattle.fs_session.specs.Side.{ClosesAs, announcer, as_update, at_fault, machine_as, machine_of, receiver, reply_at, reply_to, skips_update}
pub use Rattle.fs_session.specs.Times.{at_moment, no_times, taken_in}
pub use Rattle.fs_session.specs.Transition.{IsTransition, Machine, Phase, closing_of, faulted, not_taken, notified, opened, phase, taken, terms_of}
pub use Rattle.fs_session.specs.Transition.{transition_at, transition_by, updates}
pub use Rattle.fs_session.specs.declared.{sending.{Sending.{Sending}, Sent.{Sent}}, side.{Needs.{Needs}, Role.{Role}}}
pub use Rattle.fs_session.specs.declared.state.Closed.{Closed, TheVariants.{Fault, Memory, NoFamily, Notified}}
pub use Rattle.fs_session.specs.declared.state.State.TheVariants.{Established, WaitKeep, WaitOpen}
pub use Rattle.fs_session.specs.declared.times.Times.{Times}
unfoldable pub use Rattle.fs_session.specs.{Handed.{runs}, Replies.{replies}, Sending.{body_by}, Session.{plays}}
