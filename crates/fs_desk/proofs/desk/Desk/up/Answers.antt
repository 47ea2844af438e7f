use Rattle.fs_desk.proofs.Words.{Result, Ok, Err, OnErr, refl, ap, subst, sym, ◌∙◌, Config, Covers, Desked, Plays, begins, was_lost}
use Rattle.fs_desk.proofs.Played.{Begins, begun_there, desk_of, others_put, plays_up}
use Rattle.fs_desk.proofs.desk.Desk.up.Goals.{Joined-branch-3}
use Rattle.fs_desk.proofs.desk.Desk.up.Goals as goal

on_err : {T E P : Type 0} (result : Result T E) → P → OnErr result P
on_err (Ok t) p = tt
on_err (Err e) p = p

begins_so : (c : Joined-branch-3) → Begins c.args.peer c.in_ok-session.session c.lost.new.self
    (desk_of c.self.inside.config.now c.self.inside.watched.table c.self.inside.watched.changes c.insert.new.self.entries)
begins_so c = rw (sym c.self.view_is)
    (record { config_is = refl; held_is = refl; begun = c.in_ok-session.ensures; sessions_are = c.in_ok-insert.ensures.entries })

pub returns-clause-played : goal.returns-clause-played
returns-clause-played c = λ expired config items played. plays_up (begins_so c) expired config items (c.lost.ensures.played expired config items played)

-- a session that finds no room leaves the desk as the loss left it
pub returns-in_err-insert-clause-lost : goal.returns-in_err-insert-clause-lost
returns-in_err-insert-clause-lost c =
    on_err c.from_residual-in_err-insert.result
    (subst (Plays (was_lost c.args.peer) c.args.self.now)
    (sym (ap (desk_of c.self.inside.config.now c.self.inside.watched.table c.self.inside.watched.changes) c.in_err-insert.ensures.err ∙ c.self.view_is))
    c.lost.ensures.played)

pub returns-clause-begun : goal.returns-clause-begun
returns-clause-begun c = begun_there (begins_so c) ∙ ap (λ (config : Config). begins config c.args.peer) c.lost.ensures.config

pub returns-clause-others : goal.returns-clause-others
returns-clause-others c = others_put (begins_so c) c.lost.ensures.others

pub returns-clause-told : goal.returns-clause-told
returns-clause-told c = λ base covers.
    subst (λ (d : Desked). Covers base d.changes d.held) (sym c.self.view_is) (c.lost.ensures.told base covers)
