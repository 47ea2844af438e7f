use Rattle.cmd_enforce.proofs.{Words.{rules, ◌≡◌, ◌∙◌, ◌++◌, ◌∷◌, [], Some, None}, Surveying.{place_none, place_some}}
use Rattle.std.specs.Prelude.{slice_index_or}
use Rattle.cmd_enforce.specs.Survey.{link_count, link_place}
use Rattle.cmd_enforce.proofs.tally.add_packet.Goals as goal

pub returns-in-Some : goal.returns-in-Some
returns-in-Some c =
    let links = c.args.links.now.items in
    let there : link_place c.args.link links ≡ Some c.in-Some.place = search rules in
    let at : c.index_mut.result.now ≡ slice_index_or links c.in-Some.place c.index_mut.result.now = search rules in
    place_some c.args.link links c.in-Some.place c.index_mut.result.now there at

pub returns-in_ok-push-in-None : goal.returns-in_ok-push-in-None
returns-in_ok-push-in-None c =
    let links = c.args.links.now.items in
    let none : link_place c.args.link links ≡ None = search rules in
    let pushed : c.push.new.self.items ≡ links ++ link_count c.args.link 1 ∷ [] = search rules in
    pushed ∙ place_none c.args.link links none
