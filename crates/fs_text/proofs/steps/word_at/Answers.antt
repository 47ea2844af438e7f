use Rattle.std.proofs.Common.{Bor, List, ℕ}
use Rattle.fs_text.proofs.Led.{word_in}
use Rattle.fs_text.proofs.steps.word_at.Goals as goal

pub returns-then-place-words-clause-some : goal.returns-then-place-words-clause-some
returns-then-place-words-clause-some c = word_in (λ (w : Bor (List ℕ)). w.now) c.args.words.now c.args.place _ c.if-place-words.true
