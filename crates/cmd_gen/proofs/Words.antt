-- The words of the crates below, and of the specs, that lemmas here speak of.
pub use Rattle.std.proofs.Common.{Bool, IfOk, List, OnOk, [], ap, append-nil, append_assoc, arith, cond, false, inl, inr, length, refl, subst, suc}
pub use Rattle.std.proofs.Common.{sym, true, ℕ, ◌++◌, ◌+◌, ◌∙◌, ◌∷◌, ◌≡◌, ◌≤◌, ◌⊎◌}
pub use Rattle.fs_base.specs.declared.config.Config.{Config}
pub use Rattle.fs_tape.specs.Tape.{Item, came_up, received}
pub use Rattle.fs_rules.specs.Table.{Held, admitted}
pub use Rattle.fs_desk.specs.{Desk.{Desked, Played, Plays}, Leaves.{nobody}}
pub use Rattle.cmd_enforce.specs.{Judge.{AdmittedRules, admitted_rules}, Matcher.{HasRoom, StandsFor}}
pub use Rattle.cmd_gen.specs.Command.{dropped_of, gen_line, gen_text, is_dropped, is_passed, one_if, passed_of}
pub use Rattle.cmd_gen.specs.{Configuration.{three_peers}, Draws.{behind_pair, pair_behind, pair_of}}
pub use Rattle.cmd_gen.specs.Generator.{opening, packet_of, packets_of_seed, peer_of, step_of, tape_of_seed, update_of}
pub use Rattle.cmd_gen.specs.Messages.{keepalive, open_of}
unfoldable pub use Rattle.cmd_gen.specs.{Draws.{behind_pairs}, Generator.{packets, steps}}
