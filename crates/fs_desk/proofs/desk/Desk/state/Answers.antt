use Rattle.std.proofs.Common.{rules}
use Rattle.fs_desk.proofs.Standing.{standing_played}
use Rattle.fs_desk.proofs.desk.Desk.state.Goals as goal

pub returns-in-Some-clause-played : goal.returns-in-Some-clause-played
returns-in-Some-clause-played c =
    λ expired config items played. standing_played expired config items c.args.self.now c.args.peer c.standing.result (search rules) played
