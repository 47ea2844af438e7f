use Rattle.cmd_gen.proofs.Words.{◌≡◌, IfOk, inr, subst, Held, gen_text, three_peers, tape_of_seed}
use Rattle.fs_desk.proofs.Leaves.{played_leaves}
use Rattle.cmd_stages.proofs.Texts.{said_so}
use Rattle.cmd_gen.proofs.command.generate.Goals as goal

pub returns-clause-generates : goal.returns-clause-generates
returns-clause-generates g c = inr (record {
  held = c.in_ok-desk.desk.held;
  leaves = played_leaves three_peers (tape_of_seed c.args.count) c.in_ok-desk.desk c.in_ok-desk.ensures.played;
  answers = said_so (gen_text c.args.count c.in_ok-desk.desk.held) _ _ _ _ c.write_made.result
      (c.write_made.ensures.written (gen_text c.args.count c.in_ok-desk.desk.held)
      (subst (λ (held : Held). IfOk c.gen_text.result (λ text. text.items ≡ gen_text c.args.count held)) c.table.ensures.table c.gen_text.ensures))
      (λ f. f);
})
