use Rattle.fs_pcapng.proofs.{Words.{rules, ◌≡◌, length, take, sym, ◌∙◌, arith, length-take, told_in}, Told.{settled_reads, told_reads}}
use Rattle.fs_base.proofs.{Filled.{fills_straight}, Passing.{passes_straight}}
use Rattle.fs_pcapng.proofs.packets.take_told.Goals as goal

pub judge_told-judged-requires : goal.judge_told-judged-requires
judge_told-judged-requires g c =
    omega (arith, c.in-Ok.ensures.taken, c.requires.place, c.in-Ok.ensures.bound, length-take c.in-Ok.count c.fill.new.into)

pub returns-clause-reads : goal.returns-clause-reads
returns-clause-reads g c = rw c.settle.ensures (record {
  passes = passes_straight c.requires.none c.fill.ensures.passes;
  failed = settled_reads _ c.fill.new.counted.taken c.fill.new.counted.limit c.judge_told-judged.result;
  scanned = λ told.
      let filled = fills_straight _ _ _ _ _ _ _ _ c.requires.none c.in-Ok.ensures.back (c.in-Ok.ensures.filled told) in
      let said = c.judge_told-judged.ensures.said
      ∙ (λ i. told_in c.args.frame c.args.section.now ((sym c.requires.place) i) (take c.in-Ok.count c.fill.new.into)) in
      let room : length c.fill.new.into ≡ 20 = search rules in
      told_reads c.args.frame c.args.section.now c.args.counted.now.limit c.fill.new.counted.limit c.args.counted.now.taken c.fill.new.counted.taken
      _ _ c.fill.new.into c.in-Ok.count filled c.in-Ok.ensures.passes.limit c.judge_told-judged.result said room
      (search rules) c.in-Ok.ensures.taken;
})
