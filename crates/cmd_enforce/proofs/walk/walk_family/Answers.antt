use Rattle.cmd_enforce.{specs.Judge.{rules_for}, proofs.Walking.{room_for, walks_with}}
use Rattle.cmd_enforce.proofs.walk.walk_family.Goals as goal

pub walk-requires-clause-sound : goal.walk-requires-clause-sound
walk-requires-clause-sound g c =
    let sound = c.requires.ready.sound in (
      rules_for c.args.view.now.family sound.0,
      walks_with c.args.view.now c.family.result sound.0 c.args.rules.now c.actions-actions.result.now sound.1 c.family.ensures
          (c.actions-actions.ensures (λ family. rules_for family sound.0) sound.1),
    )

pub walk-requires-clause-room : goal.walk-requires-clause-room
walk-requires-clause-room g c =
    let sound = c.requires.ready.sound in
    room_for c.family.result sound.0 c.args.rules.now c.actions-actions.result.now _ sound.1 c.requires.ready.room
    (c.actions-actions.ensures (λ family. rules_for family sound.0) sound.1)

pub returns-clause-walk : goal.returns-clause-walk
returns-clause-walk g c = λ admitted stands.
    c.walk.ensures.walk (rules_for c.args.view.now.family admitted)
    (walks_with c.args.view.now c.family.result admitted c.args.rules.now c.actions-actions.result.now stands c.family.ensures
    (c.actions-actions.ensures (λ family. rules_for family admitted) stands))
