-- The words of the crates below that lemmas here speak of.
pub use Rattle.std.proofs.Common.{Bool, Err, IfOk, IfSome, IsTrue, List, None, Ok, OnOk, Option, Result, Some, [], ap, append-nil, append_assoc}
pub use Rattle.std.proofs.Common.{arith, cond, drop, false, filter, find, get_or, if◌then◌else◌, inl, inr, length, length-append, length-drop, map}
pub use Rattle.std.proofs.Common.{max, min, nat_le, nat_lt, not, refl, rules, subst, suc, sym, take, true, zero, ℕ, ◌&&◌, ◌*◌, ◌++◌, ◌+◌, ◌-◌, ◌<◌}
pub use Rattle.std.proofs.Common.{◌==◌, ◌^◌, ◌||◌, ◌∙◌, ◌∷◌, ◌≡◌, ◌≢◌, ◌≤◌, ◌⊎◌}
pub use Rattle.std.proofs.lemmas.{Bool.{true≢false, Decides.{nat_tests}}, Grind.{flat_map-append}}
pub use Rattle.std.proofs.lemmas.List.{drop_all, length-map, map-append, take-append-drop, take_all, take_rest}
pub use Rattle.std.proofs.lemmas.{Option.{none-some, same_Some}, Result.{on_ok_weaker}}
pub use Rattle.std.specs.{List.{AllByRecursion, list_all}, Option.{is_some}, Prelude.{IsSome, flat_map, option_map}}
pub use Rattle.fs_base.proofs.{Grew.{Grew-refl, Grew-trans}, Options.{none_there, some_there}}
pub use Rattle.fs_base.specs.{Config.{peer_of}, Parts.{Shrinks, parts_of}, Sink.{Grew}}
pub use Rattle.fs_base.specs.Wire.{TakesIn, Told, WireEnd, WireEnds, end_at, heard_end, other_than, wrote_end}
pub use Rattle.fs_base.specs.declared.config.{Config.{Config}, Peer.{Peer}}
pub use Rattle.fs_message.proofs.OpenReadBack.{open_read, open_unnamed}
pub use Rattle.fs_message.proofs.StreamLaws.{fault_stays, is_first, message_shrinks, message_stable}
pub use Rattle.fs_message.proofs.TextFirst.{text_first}
pub use Rattle.fs_message.specs.{Deframer.{Framing, pending}, Notice.{notice_of}, Open.{fields_fault, open_of}}
pub use Rattle.fs_message.specs.Stream.{Message, first_message, header_of, size_of, wrong_at}
pub use Rattle.fs_message.specs.Write.{message_text, open_body}
pub use Rattle.fs_message.specs.declared.{fault.MessageFault.{MessageFault}, open_.Open.{Open}}
pub use Rattle.fs_attrs.specs.declared.update.{Update.{Update}, UpdateFault.{UpdateFault}}
pub use Rattle.fs_session.specs.declared.{side.Needs.{Needs}, times.{Tick.{Tick, TheVariants.{Expires, Keeps, Quiet}}, Times.{Times}}, transition.Phase.{Phase}}
pub use Rattle.fs_speaker.proofs.Arriving.{at_most, body_long, one_message, open_fits, update_fits}
pub use Rattle.fs_speaker.proofs.Handover.{Comes, GoesFrom, Going, close_is, closed_hand, going_more, going_start, hands_all, hands_closed}
pub use Rattle.fs_speaker.proofs.Handover.{moment_stays, open_hand, rest_none}
pub use Rattle.fs_speaker.proofs.MessageRuns.{ran, runs_none, runs_step, runs_stops, runs_takes, runs_waits}
pub use Rattle.fs_speaker.proofs.ReplySteps.{Shows, replies_rest, replies_takes, told, wrong_first}
pub use Rattle.fs_speaker.proofs.SessionInPieces.{goes_by, goes_on, last_by, last_update}
pub use Rattle.fs_speaker.proofs.SessionSteps.{Transition, going, machine_stops, machine_takes, machine_waits, plays_none, plays_step, session_rest}
pub use Rattle.fs_speaker.proofs.SessionSteps.{step_found}
pub use Rattle.fs_speaker.proofs.Waking.{ticked_by, ticks_on, ticks_shut}
pub use Rattle.fs_speaker.specs.Announcer.{Announcing, CanSend, FeedsEnd, SaysText, Starts, StartsOpen, StartsWith, StaysEnded, TicksEnd, announcing}
pub use Rattle.fs_speaker.specs.Announcer.{first_text, has_started, is_established, machine_in, next_text, one_sent, open_sent, with_line}
pub use Rattle.fs_speaker.specs.Announcer.{without_update}
pub use Rattle.fs_speaker.specs.End.{HandsOver, IsAt, StandsAt, TicksOver, first_point, ticked, ticks}
pub use Rattle.fs_speaker.specs.Handed.{Handed, Point, hand, handed, point, runs, runs_by, shuts}
pub use Rattle.fs_speaker.specs.{JointLaws.{CanArrive, IsUnnamed, TakesFront, TakesNone}, Laws.{AreSendable, ComesBack, IsSent}}
pub use Rattle.fs_speaker.specs.Line.{Advanced, FeedsOpen, Lined, StaysOver, Step, closed_after, fresh, moved, rest_step, state_in, step_at}
pub use Rattle.fs_speaker.specs.Line.{step_by, stops, takes, waits}
pub use Rattle.fs_speaker.specs.Sending.{body_by, is_short, needs_of, sender_of, text_sent, update_sent}
pub use Rattle.fs_speaker.specs.Session.{Last, at_start, begins, closed, live, plays, rest_closes, session_by, session_from, still, with_update}
pub use Rattle.fs_speaker.specs.Side.{announcer, as_update, at_fault, keepalive_to, no_farewell, notice_text, receiver, reply_at, reply_to}
pub use Rattle.fs_speaker.specs.{State.{standing_at, standing_by}, Times.{at_moment, taken_in, tick_at, times, written_now}}
pub use Rattle.fs_speaker.specs.Transition.{Machine, closing_of, faulted, not_taken, notified, opened, phase, taken, terms_of, transition_at}
pub use Rattle.fs_speaker.specs.Transition.{transition_by, updates}
pub use Rattle.fs_speaker.specs.World.{World, at_first, happens, next_said, run, runs_on, says, sent, taker_comes, taker_of, teller_comes, teller_of}
pub use Rattle.fs_speaker.specs.declared.Closed.{Closed, TheVariants.{Fault, Memory, NoFamily, Notified}}
pub use Rattle.fs_speaker.specs.declared.{Sending.{Sending}, Sent.{Sent}}
pub use Rattle.fs_speaker.specs.declared.Standing.{Standing, TheVariants.{Down, Ended, Live}}
pub use Rattle.fs_speaker.specs.declared.State.{State, TheVariants.{Established, WaitKeep, WaitOpen}}
pub use Rattle.fs_desk.specs.Desk.{Desked, HandsPeer, PeerIs, Played, Plays, Replied, RepliesBehind, StaysPlayed, TicksPeer, session_at}
pub use Rattle.fs_desk.specs.Desk.{standing_at_desk}
pub use Rattle.fs_desk.specs.Leaves.{nobody}
pub use Rattle.fs_desk.specs.Limit.{bounded, bounded_from, bounded_replies, bounded_replies_from, bounded_session, first_over, fronts, is_over}
pub use Rattle.fs_desk.specs.Limit.{replies_to_limit, routes_left, too_many}
pub use Rattle.fs_peering.specs.Course.{after, course, course_from, hears}
pub use Rattle.fs_peering.specs.Hearer.{ClosesIn, ExpiresAt, HasClosed, IsHearing, Receives, StandsBy, bare, course_of, is_ended, tape_of}
pub use Rattle.fs_peering.specs.HoldTime.{AreTimely, IsTakenAt, Spans, most}
pub use Rattle.fs_peering.specs.Joined.{AreJoined, ExchangedOut, Exchanges, Heard, SaidAll, Side, StopsSo, heard_by, moments_of, of_first}
pub use Rattle.fs_peering.specs.Joined.{of_second}
pub use Rattle.fs_peering.specs.Laws.{AreRead, ClosesUnnamed, OpeningIsSession, OpensAs, SendsFront}
pub use Rattle.fs_peering.specs.Listen.{EndsHearing, IsReceiving, ListensOver, ListensSo, MeetsLimit}
pub use Rattle.fs_peering.specs.Listening.{EndsSo, HeardOut, HearsOut, Listened, ListenedTo, Listens}
pub use Rattle.fs_peering.specs.Opening.{front_message, opened_by}
pub use Rattle.fs_peering.specs.Pair.{Arrives, ComesUp, EndsEarly, EndsTalk, IsTimely, IsUnhindered, LieApart, MayHold, Pairs, PairsOver, PairsSo}
pub use Rattle.fs_peering.specs.Pair.{Reaches, RunsLate, SaysFront, told_by}
pub use Rattle.fs_peering.specs.Round.{Hears, Part, Pieces, Round, Says, Speech, Spoken, Stance, moments_in, octets_in}
pub use Rattle.fs_peering.specs.Sender.{Began, CountsBy, CountsOn, CountsTo, CountsUp, KeepsHand, KeepsSettled, SaysOn, SaysUpTo, Speaks, TookOpen}
pub use Rattle.fs_peering.specs.Sender.{part_text, rule_in, rules_in, text_in, without_rules, woven}
pub use Rattle.fs_peering.specs.Tell.{EndsBefore, MetLimit, Tells, TellsOver, TellsSo, answers_to, begins_with}
pub use Rattle.fs_peering.specs.Teller.{ClosesSo, HasExpired, HasHeard, IsInTime, IsListening, SaysTo, ShutsBy, ahead_of, before_all, is_settled}
pub use Rattle.fs_peering.specs.Teller.{opening_of, rules_of, stops_at}
pub use Rattle.fs_peering.specs.declared.hearer.Hearer.{Hearer}
pub use Rattle.fs_peering.specs.declared.joined.Talk.{Talk, TheVariants.{Broken, FirstOver, SecondOver}}
pub use Rattle.fs_peering.specs.declared.listening.Stopped.{Stopped, TheVariants.{All, Over}}
pub use Rattle.fs_peering.specs.declared.{tell.Ending.{Ending, TheVariants.{AtLimit, Done}}, teller.Teller.{Teller}}
unfoldable pub use Rattle.fs_peering.specs.Opening.{opens}
