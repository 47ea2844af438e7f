use Rattle.fs_session.proofs.{Words.{◌≡◌, ℕ, ◌+◌, List, ap, ◌∙◌, arith, length, attribute_size, path_size}, Fitting.{body_long}}
use Rattle.fs_nlri.specs.Rule.{canonical_frame}
use Rattle.fs_session.proofs.size.body_len.Goals as goal

pub returns-clause-value : goal.returns-clause-value
returns-clause-value c =
    let terms = c.args.terms.now in
    let reach : c.attribute_len-reach.result ≡ attribute_size (5 + length (canonical_frame c.args.sent.now.rule)) =
    c.attribute_len-reach.ensures.value ∙ ap (λ (n : ℕ). attribute_size (5 + n)) c.frame_len.ensures.value in
    let path : c.attribute_len-as_path.result ≡ attribute_size (path_size terms.four (length c.args.numbers.now)) =
    c.attribute_len-as_path.ensures.value
    ∙ ap attribute_size (c.path_len.ensures.value ∙ ap (λ (l : List ℕ). path_size terms.four (length l)) c.as_slice.ensures) in
    omega (arith, reach, path, c.local_pref_len.ensures.value, c.actions_len.ensures.value, body_long terms c.args.numbers.now c.args.sent.now)
