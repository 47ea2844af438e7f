use Rattle.fs_message.proofs.Words.{◌≡◌, ℕ, List, drop, [], Some, sym, ap, ◌∙◌, take_rest, capabilities_of, found_in, all_gathered}
use Rattle.fs_message.proofs.CapabilityLists.{open_found}
use Rattle.fs_message.proofs.open_.Open.read.Goals as goal

pub returns : goal.returns
returns c =
    let some : Some c.in-Some-read_parameters.found ≡ all_gathered (found_in []) (drop 10 c.args.body.now) =
    c.in-Some-read_parameters.ensures ∙ ap (λ (z : List ℕ). all_gathered (found_in []) z) (take_rest c.args.body.now 10) in
    let found = open_found c.args.expected_as c.args.body.now c.in-Some-read_parameters.found c.in_default.ensures some in
    c.opened.ensures (capabilities_of (drop 10 c.args.body.now)) found.0 ∙ sym found.1
