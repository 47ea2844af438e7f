use Rattle.fs_compile.proofs.{Words.{length, sym, ap, subst, ◌∙◌, arith, all_admitted, Indexed, IsMended}, IndexMending.{all_shared, stretch_bounds}}
use Rattle.fs_buckets.proofs.Replaced.{replaced_is}
use Rattle.std.proofs.lemmas.Result.{IfOk-weaker}
use Rattle.fs_compile.proofs.index.Index.replaced.Goals as goal

pub overflow_sub-len : goal.overflow_sub-len
overflow_sub-len c =
    let b = (stretch_bounds c.args.place.family c.requires.some.0 c.args.self _ _ _ c.requires.some.1
    (c.stretch-from.ensures.stretch c.args.place.family c.requires.some.0 c.requires.some.1)).1 in
    let z = ap (λ (x : Indexed). length x.rules) c.self.view_is in
    let l = c.len.ensures ∙ c.self.inside.rules.ok.0 in
    omega (arith, b, z, l)

pub put_stretch-requires-clause-bounds : goal.put_stretch-requires-clause-bounds
put_stretch-requires-clause-bounds c = stretch_bounds c.args.place.family c.requires.some.0 c.args.self _ _ _ c.requires.some.1
    (c.stretch-from.ensures.stretch c.args.place.family c.requires.some.0 c.requires.some.1)

pub put_stretch-requires-clause-shared : goal.put_stretch-requires-clause-shared
put_stretch-requires-clause-shared c = all_shared c.args.place.family c.requires.some.0 c.args.self c.stretch-from.result.1 c.requires.some.1
    (stretch_bounds c.args.place.family c.requires.some.0 c.args.self _ _ _ c.requires.some.1
    (c.stretch-from.ensures.stretch c.args.place.family c.requires.some.0 c.requires.some.1)).1

pub put_stretch-requires-clause-some : goal.put_stretch-requires-clause-some
put_stretch-requires-clause-some c =
    (c.requires.some.0, c.requires.some.1, c.stretch-from.ensures.stretch c.args.place.family c.requires.some.0 c.requires.some.1)

pub returns : goal.returns
returns c =
    IfOk-weaker c.put_stretch.result _ _
    (λ x stands. λ rules h.
    let s = c.stretch-from.ensures.stretch c.args.place.family rules h in
    subst (λ rs. IsMended c.args.place.family (all_admitted c.args.list.now) rules rs c.args.self x)
    (sym (replaced_is rules (all_admitted c.args.list.now) _ _ _ s)) (stands rules h s))
    c.put_stretch.ensures
