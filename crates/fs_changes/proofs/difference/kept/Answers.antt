use Rattle.fs_changes.proofs.{Words.{◌∙◌, sym, act_of}, Same.{goes, stays}}
use Rattle.fs_changes.proofs.difference.kept.Goals as goal

pub returns-then-have_same_actions : goal.returns-then-have_same_actions
returns-then-have_same_actions c =
    stays (act_of c.args.old.now) (act_of c.args.new.now) c.requires (sym c.have_same_actions.ensures ∙ c.if-have_same_actions.true)

pub returns-else-have_same_actions : goal.returns-else-have_same_actions
returns-else-have_same_actions c =
    goes (act_of c.args.old.now) (act_of c.args.new.now) c.requires (sym c.have_same_actions.ensures ∙ c.if-have_same_actions.false)
