-- The words of the crates below that lemmas here speak of.
pub use Rattle.std.proofs.Common.{Bool, Err, IfSome, List, None, Ok, Option, Result, Some, [], ap, append-nil, append_assoc, arith, false}
pub use Rattle.std.proofs.Common.{if◌then◌else◌, inl, inr, length, length-append, nat_le, refl, subst, suc, sym, true, true≢false, zero, ℕ, ◌++◌, ◌+◌}
pub use Rattle.std.proofs.Common.{◌<◌, ◌∙◌, ◌∷◌, ◌≡◌, ◌≢◌, ◌≤◌, ◌⊎◌}
pub use Rattle.std.proofs.lemmas.Option.{same_Some}
pub use Rattle.std.specs.Result.{IfErr, IsErrAnd}
pub use Rattle.fs_base.proofs.{NumberTests.{le_false, le_true}, Grew.{Grew-trans}, Drawing.{rose_earlier}}
pub use Rattle.fs_base.specs.Config.{peer_of}
pub use Rattle.fs_base.specs.Happened.{FilesStood, Happened, SinkFailed, SinkStood, Stood, WireStood, happened, with_wire}
pub use Rattle.fs_base.specs.{Outside.{Rose}, Sink.{Grew}, Wire.{EndCloses, Told, WireEnds}, declared.config.{Config.{Config}, Peer.{Peer}}}
pub use Rattle.fs_attrs.specs.declared.update.Update.{Update}
pub use Rattle.fs_session.specs.declared.transition.Phase.{Phase}
pub use Rattle.fs_speaker.proofs.Lowest.{is_told, sender_told}
pub use Rattle.fs_speaker.specs.Announcer.{Announcing, CanSend, announcing, is_established}
pub use Rattle.fs_speaker.specs.{JointLaws.{CanArrive, IsUnnamed}, Line.{fresh}, Sending.{is_lowest, is_short, needs_of, sender_of}}
pub use Rattle.fs_speaker.specs.{Session.{Last, at_start, closed, session_from, still}, Side.{announcer}, Transition.{Machine, terms_of}}
pub use Rattle.fs_speaker.specs.declared.{Closed.{Closed}, Sending.{Sending}}
pub use Rattle.fs_conf.{proofs.{Accepted.{accepts_numbers}, Found.{found_each}}, specs.{Config.{config_of}, Laws.{HasPeerNumbers}, Rules.{rules_of}}}
pub use Rattle.fs_desk.{proofs.Leaves.{played_leaves}, specs.{Desk.{Desked, Played}, Limit.{bounded, bounded_from, bounded_session}}}
pub use Rattle.fs_peering.proofs.{Phases.{closed_still, same_still}, WrittenInParts.{told_and, told_as}}
pub use Rattle.fs_peering.specs.{Hearer.{ClosesIn, ExpiresAt, tape_of}, Joined.{AreJoined, of_first, of_second}}
pub use Rattle.fs_peering.specs.Listen.{EndsSo, Listens, ListensOver, ListensSo, MeetsLimit}
pub use Rattle.fs_peering.specs.{Opening.{opened_by}, Pair.{Arrives, MayHold, Pairs, PairsOver, PairsSo}, Round.{Pieces, moments_in, octets_in}}
pub use Rattle.fs_peering.specs.Tell.{EndsBefore, MetLimit, SaidAll, Tells, TellsOver, TellsSo, begins_with}
pub use Rattle.fs_peering.specs.Teller.{ClosesSo}
pub use Rattle.fs_peering.specs.declared.tell.Ending.{Ending, TheVariants.{AtLimit, Done, Ended}}
pub use Rattle.cmd_stages.proofs.Stages.{answered_err, answers_for, ends_early, reason_then}
pub use Rattle.cmd_stages.proofs.{Texts.{said_partly, said_whole}, Openings.{never_zero, opened_due, refused_at}}
pub use Rattle.cmd_stages.specs.Load.{Names, OpensFront, config_alone, config_stage, config_then, fetch, rules_stage, sending_stage}
pub use Rattle.cmd_stages.specs.Refusal.{Answers, EndsEarly, Found, HasReason, Stage, Stopped, and_then, answered, or_stop, status_of, verdict_with}
pub use Rattle.cmd_stages.specs.declared.refusal.Refusal.{Refusal, TheVariants.{Capture, Dump, Limit, Memory, Outside, Rejected, Session, Tape}}
pub use Rattle.cmd_wire.specs.Announcing.{Announced, Announces, Connected, IsBrokenOff, IsDue, IsOfWire, Speaks, dialling}
pub use Rattle.cmd_wire.specs.Concluded.{AnyFailed, Concludes, Ends, HasStatusBy, IsSetUp, SessionPromises}
pub use Rattle.cmd_wire.specs.{Conversation.{Conversation}, Listed.{IsListing, ListsDesk, TellsListing, verdict_by}}
pub use Rattle.cmd_wire.specs.Listening.{Begins, HasExpired, Heard, Hears, IsHeard, ListensThrough, ListensTo, ending_by, ending_of, hearing_stage}
pub use Rattle.cmd_wire.specs.Listening.{listening, with_peer}
pub use Rattle.cmd_wire.specs.Pairing.{BothBegin, Carries, Joined, Joins, Meets, joining}
pub use Rattle.cmd_wire.specs.Promised.{AnnouncePromises, CanBeCarried, IsReached, IsServed, ListenPromises, PairPromises}
