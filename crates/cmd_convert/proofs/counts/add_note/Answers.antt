use Rattle.cmd_convert.proofs.{Words.{rules, ap, ℕ, ◌+◌, ◌≡◌, ◌∙◌, ◌++◌, ◌∷◌, [], Some, None}, Surveying.{place_none, place_some}}
use Rattle.std.specs.Prelude.{slice_index_or, slice_set}
use Rattle.cmd_convert.specs.{Survey.{note_count, note_place, weight}}
use Rattle.cmd_convert.proofs.counts.add_note.Goals as goal

pub returns-in-Some : goal.returns-in-Some
returns-in-Some c =
    let links = c.args.counts.now.items in
    let there : note_place c.args.note links ≡ Some c.in-Some.place = search rules in
    let at : c.index_mut.result.now ≡ slice_index_or links c.in-Some.place c.index_mut.result.now = search rules in
    ap (λ (n : ℕ). slice_set links c.in-Some.place (note_count c.index_mut.result.now.note (c.index_mut.result.now.count + n))) c.weight-weight.ensures.exact
    ∙ place_some c.args.note links c.in-Some.place c.index_mut.result.now there at

pub returns-in_ok-push-in-None : goal.returns-in_ok-push-in-None
returns-in_ok-push-in-None c =
    let links = c.args.counts.now.items in
    let none : note_place c.args.note links ≡ None = search rules in
    let pushed : c.push.new.self.items ≡ links ++ note_count c.args.note (weight c.args.note) ∷ [] = search rules in
    pushed ∙ place_none c.args.note links none
