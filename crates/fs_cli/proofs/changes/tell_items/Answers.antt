use Rattle.std.proofs.Common.{◌≡◌, [], ℕ, sym, subst}
use Rattle.fs_base.specs.{Outside.{Rose}, declared.{config.Config.{Config}, prefix.Family.TheVariants.{V4, V6}}}
use Rattle.fs_desk.specs.Desk.{Played}
use Rattle.cmd_stages.specs.{Items.{read_stage, to_give}, Refusal.{Found}}
use Rattle.fs_cli.proofs.{Following.{acting_none}, Telling.{begun_follows, untold}}
use Rattle.fs_cli.proofs.changes.tell_items.Goals as goal

pub returns-in_err-player-clause-follows : goal.returns-in_err-player-clause-follows
returns-in_err-player-clause-follows g c = λ told.
    untold c.args.config.now _ (Rose (g.F.Files.faults c.args.files.now) (g.F.Files.faults c.begin.new.files)) _ _ c.in_err-player.field-0.0
    c.from_residual.result
    (c.in_err-player.ensures.begun told) c.from_residual.ensures.1

pub follow_items-requires-clause-played : goal.follow_items-requires-clause-played
follow_items-requires-clause-played g c =
    subst (λ (config : Config). Played config [] c.in_ok-player.player.desk) (sym c.in_ok-player.ensures.played.config_is) c.in_ok-player.ensures.played

pub follow_items-requires-clause-none : goal.follow_items-requires-clause-none
follow_items-requires-clause-none g c =
    (c.new-acting.ensures, acting_none c.in_ok-player.player.desk.held (c.in_ok-player.ensures.none V4) (c.in_ok-player.ensures.none V6))

pub returns-clause-follows : goal.returns-clause-follows
returns-clause-follows g c = λ told.
    begun_follows c.args.config.now (read_stage c.args.config.now c.args.limit (g.F.Files.holds c.args.files.now) c.args.tape.now)
    c.in_ok-player.player.desk.config
    (to_give c.in_ok-player.player (g.F.Files.left c.begin.new.files c.in_ok-player.player.tape.slot))
    (g.F.Files.faults c.args.files.now) (g.F.Files.faults c.begin.new.files) (g.F.Files.faults c.follow_items.new.files)
    (g.S.Sink.faults c.args.sink.now) (g.S.Sink.faults c.follow_items.new.sink) _ _ c.follow_items.result
    (subst (λ (slot : ℕ). read_stage c.args.config.now c.args.limit (g.F.Files.holds c.args.files.now) c.args.tape.now
    ≡ Found (to_give c.in_ok-player.player (g.F.Files.left c.begin.new.files slot)))
    (sym c.in_ok-player.ensures.slot) (c.in_ok-player.ensures.begun told))
    c.in_ok-player.ensures.played.config_is c.in_ok-player.ensures.later (c.follow_items.ensures.follows told)
