use Rattle.fs_desk.proofs.{Words.{refl, sym}, Played.{Loses, desk_of, others_gone, plays_lost}}
use Rattle.fs_desk.proofs.desk.Desk.lost.Goals.{Joined-remove}
use Rattle.fs_desk.proofs.desk.Desk.lost.Goals as goal

loses : (c : Joined-remove) → Loses c.args.peer c.args.self.now
    (desk_of c.self.inside.config.now c.lose.new.watched.table c.lose.new.watched.changes c.remove.new.self.entries)
loses c = rw (sym c.self.view_is) (record { config_is = refl; held_is = c.lose.ensures.lost; sessions_are = c.remove.ensures.entries })

pub returns-clause-played : goal.returns-clause-played
returns-clause-played c = plays_lost (loses c)

pub returns-clause-others : goal.returns-clause-others
returns-clause-others c = others_gone (loses c)
