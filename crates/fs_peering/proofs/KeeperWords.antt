-- The words of a kept session that lemmas here speak of.
pub use Rattle.std.proofs.Common.{[], ap, append-nil, refl, subst, sym, ◌++◌, ◌∙◌, ◌∷◌, ◌≡◌, ◌≢◌, ℕ, ◌-◌, ◌*◌, ◌==◌, ◌&&◌, Bool, true, false, not}
pub use Rattle.std.proofs.Common.{min, if◌then◌else◌, List, Option, Some, None, Result, Ok, Err, IfOk, IfSome, nat_lt, arith}
pub use Rattle.std.specs.{Option.{is_some, option_copied, option_or}, Prelude.{OnErr, option_and_then}}
pub use Rattle.fs_base.proofs.Grew.{Grew-refl, Grew-trans, on_err}
pub use Rattle.fs_base.specs.Gate.{Turn, What, dialled, ended, gave, made, nothing, shut, taken}
pub use Rattle.fs_base.specs.{Sink.{Grew}, declared.config.{Config.{Config}, Peer.{Peer}}}
pub use Rattle.fs_speaker.specs.Announcer.{CanSend, announcing, has_started, is_established, machine_in, open_sent}
pub use Rattle.fs_speaker.specs.{End.{StandsAt}, Handed.{Point}, Line.{Lined, fresh, state_in}, Sending.{needs_of, sender_of}}
pub use Rattle.fs_speaker.specs.{Side.{announcer, notice_text}, Transition.{Machine, terms_of}}
pub use Rattle.fs_speaker.specs.declared.{Closed.{Closed, TheVariants.{Fault, Memory, NoFamily, Notified}}, Sending.{Sending}}
pub use Rattle.fs_peering.specs.Keeper.{Connection, Kept, Outcome, Said, accepts, at_line, begins, begins_one, change_text, checks}
pub use Rattle.fs_peering.specs.Keeper.{comes_up, dialling, dials, ends, exceeds, follows, hears, is_due, is_up, machine_of, most_wait}
pub use Rattle.fs_peering.specs.Keeper.{news_of, news_told, news_up, outcome, parts, received, receives, rests, speaks, speaks_on, spoke}
pub use Rattle.fs_peering.specs.Keeper.{tells, tells_all, terms_at, wakes, with_connection, with_rules, woken}
pub use Rattle.fs_peering.specs.Keeping.{BreaksSo, Fits, TellsAt, LinkTellsBy, IsConnection, IsLink, IsOwn, KeepsOwn, Keeping, LinkSaid}
pub use Rattle.fs_peering.specs.Keeping.{LinkSays, LinkTells, Linked, MayBeSaid, Stands, TellsBy, TellsSo, Took, TookQuietly, TookSo, is_told}
pub use Rattle.fs_peering.specs.Keeping.{is_untold, let_go, terms_in}
pub use Rattle.fs_peering.specs.declared.keeper.News.{News, TheVariants.{Closed as HasClosed, Ended, Notified as HasNotified, Unreached}}
