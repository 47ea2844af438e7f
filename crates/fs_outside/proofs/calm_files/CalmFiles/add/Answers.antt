use Rattle.std.proofs.Common.{refl, rules}
use Rattle.fs_outside.proofs.MemoryFiles.{adds_file}
use Rattle.fs_outside.proofs.calm_files.CalmFiles.add.Goals as goal

pub returns : goal.returns
returns c = record {
  adds = record {
    ok = adds_file _ _ _ _ _ c.in_ok-push.ensures.items c.in_ok-name.ensures.ok refl;
    err = search rules;
    opened = search rules;
  };
}
