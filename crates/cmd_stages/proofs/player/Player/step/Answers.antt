use Rattle.cmd_stages.proofs.Words.{◌≡◌, ◌∙◌, ℕ, List, ap, arith, subst, sym, with_items, with_items_is, Config, Plays, coming, item_from, Gives}
use Rattle.cmd_stages.proofs.Words.{PlayerState}
use Rattle.cmd_stages.proofs.LookingAhead.{stands_step}
use Rattle.cmd_stages.proofs.player.Player.step.Goals as goal

pub returns-clause-played : goal.returns-clause-played
returns-clause-played g c = rw (← c.self.view_is) (λ told items t m s.
    let same : (with_items c.self.inside.buffer c.next_item.new.buffer).items ≡ c.next_item.new.buffer =
    with_items_is c.self.inside.buffer c.next_item.new.buffer (omega arith) in
    stands_step items t _ _ _ _ c.args.item (ap (λ (p : PlayerState). p.ahead) c.self.view_is ∙ c.requires) m s
    (subst (λ (l : List ℕ). Plays (item_from c.args.item l) c.self.inside.desk c.play_item.new.desk) c.deref.ensures.value
    c.in_ok-play_item.ensures.played) c.in_ok-play_item.ensures.config
    (subst (λ (l : List ℕ). Gives (coming c.self.inside.desk.config c.self.inside.tape (g.F.Files.left c.args.files.now c.self.inside.tape.slot))
    (coming c.self.inside.desk.config c.next_item.new.tape (g.F.Files.left c.next_item.new.files c.self.inside.tape.slot)) c.next_item.new.tape.moment
    l c.in_ok-ahead.ahead) (sym same)
    (subst (λ (config : Config). Gives (coming config c.self.inside.tape (g.F.Files.left c.args.files.now c.self.inside.tape.slot))
    (coming config c.next_item.new.tape (g.F.Files.left c.next_item.new.files c.self.inside.tape.slot)) c.next_item.new.tape.moment
    c.next_item.new.buffer c.in_ok-ahead.ahead)
    (c.config-config.ensures ∙ c.in_ok-play_item.ensures.config) (c.in_ok-ahead.ensures.gives told)))
    c.in_ok-ahead.ensures.version)
