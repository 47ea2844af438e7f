use Rattle.std.{proofs.Common.{rules, ◌≡◌, ap, ◌∙◌, ◌<◌, length, get_or-set_same}, specs.Prelude.{is_some, unwrap_or, []}}
use Rattle.fs_outside.{specs.MemoryFiles.{content_of, content_named, place_of}, proofs.MemoryFiles.{place_found, place_content, same_tests}}
use Rattle.fs_outside.proofs.calm_files.CalmFiles.open.Goals as goal

pub returns-clause-found : goal.returns-clause-found
returns-clause-found c =
    let place : c.place_of-place.result ≡ place_of c.args.self.now.files.items c.args.name.now = search rules in
    same_tests _ _ (c.is_some.ensures ∙ ap is_some place ∙ place_found c.args.self.now.files.items c.args.name.now)

pub returns-clause-left : goal.returns-clause-left
returns-clause-left c =
    let place : c.place_of-place.result ≡ place_of c.args.self.now.files.items c.args.name.now = search rules in
    let left : content_of c.args.self.now.files.items c.place_of-place.result ≡ unwrap_or (content_named c.args.self.now.files.items c.args.name.now) [] =
    ap (content_of c.args.self.now.files.items) place ∙ place_content c.args.self.now.files.items c.args.name.now in
    let at : c.args.slot < length c.args.self.now.slots = search rules in
    rw (get_or-set_same c.args.self.now.slots c.args.slot _ _ at) left
