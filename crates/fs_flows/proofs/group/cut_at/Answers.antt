use Rattle.std.proofs.Common.{◌≡◌, ◌+◌, refl, ap, ap₂, ◌∙◌, [], get_or, set, insert}
use Rattle.fs_flows.proofs.Cutting.{place_within, cut_is}
use Rattle.fs_flows.proofs.group.cut_at.Goals as goal

pub split_off-requires : goal.split_off-requires
split_off-requires c = place_within c.args.blocks.now.items c.args.number (c.args.number + 1) c.args.place c.index_mut.result.now refl
    c.requires.place (c.index_mut.ensures.value ∙ ap (λ bs. get_or bs c.args.number c.index_mut.result.now) inserted) where
      inserted : c.insert.new.self.items ≡ insert c.args.blocks.now.items (c.args.number + 1) []
      inserted = c.in_ok-insert.ensures.items ∙ ap (insert c.args.blocks.now.items (c.args.number + 1)) c.new-empty.ensures

pub returns-in-Ok-clause-ok : goal.returns-in-Ok-clause-ok
returns-in-Ok-clause-ok c = ap (λ bs. set (set bs c.args.number c.split_off.new.self) (c.args.number + 1) c.in-Ok.back) inserted
    ∙ ap₂ (λ front back. set (set (insert c.args.blocks.now.items (c.args.number + 1) []) c.args.number front) (c.args.number + 1) back)
    c.in-Ok.ensures.front c.in-Ok.ensures.back
    ∙ cut_is c.args.blocks.now.items c.args.number (c.args.number + 1) c.args.place c.index_mut.result.now refl c.requires.place
    (c.index_mut.ensures.value ∙ ap (λ bs. get_or bs c.args.number c.index_mut.result.now) inserted) where
      inserted : c.insert.new.self.items ≡ insert c.args.blocks.now.items (c.args.number + 1) []
      inserted = c.in_ok-insert.ensures.items ∙ ap (insert c.args.blocks.now.items (c.args.number + 1)) c.new-empty.ensures
