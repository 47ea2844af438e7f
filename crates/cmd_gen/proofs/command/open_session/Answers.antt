use Rattle.cmd_gen.proofs.{Words.{List, ℕ, OnOk, nobody, subst, Plays, keepalive, open_of, came_up, received}, Generating.{opened}}
use Rattle.std.proofs.lemmas.Result.{on_ok_weaker}
use Rattle.cmd_gen.proofs.command.open_session.Goals as goal

pub returns-clause-played : goal.returns-clause-played
returns-clause-played c =
    on_ok_weaker c.octets-2.result (λ third config items p.
    opened config items (came_up c.args.peer) (received c.args.peer (open_of c.args.peer)) (received c.args.peer keepalive) c.octets-2.new.self
    (third nobody config _ (second nobody config _ (c.in_ok-up.ensures.played nobody config items p))))
    (subst (λ (octets : List ℕ). OnOk c.octets-2.result (Plays (received c.args.peer octets) c.octets.new.self c.octets-2.new.self))
    c.keepalive.ensures c.octets-2.ensures.played)
  where
    second : Plays (received c.args.peer (open_of c.args.peer)) c.up.new.self c.octets.new.self
    second = subst (λ (octets : List ℕ). Plays (received c.args.peer octets) c.up.new.self c.octets.new.self) c.open_message.ensures
        c.in_ok-octets.ensures.played
