use Rattle.cmd_stages.proofs.Words.{◌≡◌, ◌∙◌, ℕ, List, Some, ap, arith, subst, sym, with_items, with_items_is, with_part, Config, Desked, Plays}
use Rattle.cmd_stages.proofs.Words.{coming, item_from, timed, Gives}
use Rattle.cmd_stages.proofs.Reading.{plays_noted}
use Rattle.cmd_stages.proofs.items.ItemPlayer.play_next.Goals as goal

pub returns-in_ok-play_item-in-Some-clause-played : goal.returns-in_ok-play_item-in-Some-clause-played
returns-in_ok-play_item-in-Some-clause-played g c = rw (← c.self.view_is) (λ told.
    let into : List ℕ = (with_items c.self.inside.buffer c.next_item.new.buffer).items in
    let same : into ≡ c.next_item.new.buffer = with_items_is c.self.inside.buffer c.next_item.new.buffer (omega arith) in
    let left : List ℕ = g.F.Files.left c.args.files.now c.self.inside.tape.slot in
    let behind : List ℕ = g.F.Files.left c.next_item.new.files c.self.inside.tape.slot in
    let stays : c.play_item.new.desk.config ≡ c.self.inside.desk.config = c.in_ok-play_item-in-Some.ensures.config
    ∙ ap (λ (d : Desked). d.config) c.watch.ensures in (
      item_from c.in-Some.item into,
      subst (λ (config : Config). coming c.self.inside.desk.config c.self.inside.tape left
          ≡ with_part (timed c.moment.result (item_from c.in-Some.item into)) (coming config c.next_item.new.tape behind)) (sym stays)
          (subst (λ (n : ℕ). coming c.self.inside.desk.config c.self.inside.tape left
          ≡ with_part (timed n (item_from c.in-Some.item into)) (coming c.self.inside.desk.config c.next_item.new.tape behind))
          (sym c.moment.ensures)
          (subst (λ (l : List ℕ). Gives (coming c.self.inside.desk.config c.self.inside.tape left)
          (coming c.self.inside.desk.config c.next_item.new.tape behind) c.next_item.new.tape.moment l (Some c.in-Some.item)) (sym same)
          (subst (λ (config : Config). Gives (coming config c.self.inside.tape left)
          (coming config c.next_item.new.tape behind) c.next_item.new.tape.moment c.next_item.new.buffer (Some c.in-Some.item))
          c.config-config.ensures
          (rw c.in-Some.is at (c.in_ok-found.ensures.gives told))))),
      plays_noted (item_from c.in-Some.item into) c.self.inside.desk c.watch.new.self c.play_item.new.desk _ c.watch.ensures
          (subst (λ (l : List ℕ). Plays (item_from c.in-Some.item l) c.watch.new.self c.play_item.new.desk) c.deref.ensures.value
          c.in_ok-play_item-in-Some.ensures.played),
    ))
