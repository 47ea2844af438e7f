use Rattle.std.proofs.Common.{◌∙◌, ap, min}
use Rattle.fs_base.proofs.Nesting.{longest_common}
use Rattle.fs_base.proofs.prefix.Prefix.common.Goals as goal

pub returns-clause-longest : goal.returns-clause-longest
returns-clause-longest c = λ q h k.
    let other = c.args.other.now in
    let least = c.min-2.ensures ∙ ap (λ n. min n other.length) c.min.ensures in
    longest_common c.args.self.now other c.shortened.result q c.common_bits-bits.result c.min-2.result
    (λ m w e. (c.common_bits-bits.ensures.same m w).0 e) least c.shortened.ensures h k
