-- The words of the crates below, and of the specs, that lemmas here speak of.
pub use Rattle.std.proofs.Common.{Bool, Err, IsErrAnd, IsTrue, List, None, Ok, OnErr, OnOk, Option, Result, Some, [], add-one, ap, append-nil}
pub use Rattle.std.proofs.Common.{append_assoc, arith, drop, drop-cons, false, get_or, inl, inr, length, length-append, not, refl, subst, sym, take}
pub use Rattle.std.proofs.Common.{true, true≢false, ℕ, ⊎_elim, ◌%◌, ◌*◌, ◌++◌, ◌+◌, ◌-◌, ◌/◌, ◌<◌, ◌==◌, ◌^◌, ◌||◌, ◌∙◌, ◌∷◌, ◌≡◌, ◌≤◌}
pub use Rattle.std.proofs.lemmas.{Grind.{common_steps, flat_map-append}, List.{take-append-drop, take-append-le, take_all, take_more}}
pub use Rattle.std.specs.{List.{AllByRecursion, list_any}, Option.{option_map_or}, Prelude.{codes, decimal, filter_map, flat_map, if◌then◌else◌}}
pub use Rattle.fs_actions.specs.{Actions.{first_of}, Community.{has_flag, is_discard, limit_of, mark_of, redirect_of}}
pub use Rattle.fs_line.specs.Line.{SaysDiscard, discarded_line, effects_text, line_of, mark_text, numbered, numbers_text, others_text, rate_text}
pub use Rattle.fs_line.specs.Line.{rates_text, redirect_text, sample_text, verdict_text}
pub use Rattle.fs_line.specs.{Output.{Goes, IsDecade, Partly, Sent, Stops}, Walked.{actions_walked, entries, numbers_walked}}
pub use Rattle.fs_line.specs.declared.{kept.TheConstants.{LINE, RATE, RULE}, walked.Walked.{Walked}}
