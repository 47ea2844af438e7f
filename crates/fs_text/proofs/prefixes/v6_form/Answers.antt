use Rattle.fs_text.proofs.{Words.{ℕ, Some, ap, V6Body}, Prefixed.{pattern_back}}
use Rattle.fs_text.proofs.prefixes.v6_form.Goals as goal

pub returns-then-offset-lt128 : goal.returns-then-offset-lt128
returns-then-offset-lt128 c = λ pattern range clear is.
    ap (λ (k : ℕ). Some (V6Body c.args.length c.args.offset k)) (pattern_back c.args.length c.args.offset pattern c.args.address range clear is)
