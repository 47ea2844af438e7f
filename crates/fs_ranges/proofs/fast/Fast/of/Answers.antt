use Rattle.fs_ranges.proofs.Words.{◌∙◌, ◌&&◌, ◌==◌, ap, list_all, afi_of, part_matches, facts_hold, fast_holds}
use Rattle.fs_ranges.proofs.fast.Fast.of.Goals as goal

pub tests_of-requires : goal.tests_of-requires
tests_of-requires c = rw c.components.ensures.parts c.components.ensures.sound

pub returns : goal.returns
unfolding facts_hold fast_holds
returns c = λ view small i.
    (afi_of (c.family.ensures i) == afi_of view.family) && (c.in_ok-ranges.ensures view small ∙ ap (list_all (part_matches view)) c.components.ensures.parts) i
