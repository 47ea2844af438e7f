use Rattle.cmd_gen.proofs.Words.{◌≡◌, ◌++◌, List, Config, Played, behind_pairs, steps, Item}
use Rattle.cmd_gen.proofs.command.play_steps.Given as goal

abbrev pub invariant-steps : goal.invariant-steps
invariant-steps l = record {
  draws : l.draws.state ≡ behind_pairs l.count l.counter;
  played : (config : Config) → (items : List Item) → Played config items l.fn.desk → Played config (items ++ steps l.count l.counter) l.desk;
}
