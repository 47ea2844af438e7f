use Rattle.fs_nlri.proofs.Words.{◌≡◌, ℕ, ◌+◌, ◌-◌, ap, sym, ◌∙◌, arith, length, ◌/◌, ◌^◌, ◌*◌, length-bytes_high_first, PrefixForm, body_of}
use Rattle.fs_nlri.proofs.Words.{canonical_body, octets_for}
use Rattle.fs_nlri.specs.declared.component.PrefixForm.TheVariants.{V6}
use Rattle.fs_nlri.proofs.size.prefix_len.Goals as goal

v6_len : (form : PrefixForm) (len offset pattern count : ℕ) → form ≡ V6 len offset pattern → count ≡ octets_for (len - offset)
    → 2 + count ≡ length (canonical_body (body_of form))
v6_len form len offset pattern count is counted =
    let size = length-bytes_high_first (octets_for (len - offset)) (pattern / 2 ^ (128 - 8 * octets_for (len - offset))) in
    let whole : 2 + count ≡ length (canonical_body (body_of (V6 len offset pattern))) = omega arith in
    whole ∙ ap (λ (f : PrefixForm). length (canonical_body (body_of f))) (sym is)

pub returns-in-V6-clause-value : goal.returns-in-V6-clause-value
returns-in-V6-clause-value c =
    v6_len c.args.form.now c.in-V6.length c.in-V6.offset c.in-V6.pattern c.octets_for_bits-in-V6.result c.in-V6.is
    (c.octets_for_bits-in-V6.ensures ∙ ap octets_for c.saturating_sub.ensures)
