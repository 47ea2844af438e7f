use Rattle.fs_unicast.proofs.Words.{◌∙◌, sym, ap, slice_get, is_le, is_lt, option_map, place_cmp}
use Rattle.fs_unicast.proofs.{Finding.{find_both}, Nearest.{first_ahead, none_before, none_within}}
use Rattle.fs_unicast.proofs.beside.first_within.Goals as goal

pub returns-in_err-place-clause-found : goal.returns-in_err-place-clause-found
returns-in_err-place-clause-found c = ap (option_map (λ r. (r.0.now, r.1.now))) c.from_residual.ensures
    ∙ none_within (λ r. r.0) c.args.paths.now.entries (λ r. is_le (place_cmp c.args.low.now r.0)) c.args.high.now
    (sym (first_ahead (λ r. r.0) c.args.paths.now.entries c.args.low.now c.range.result (c.range.ensures.between tt))
    ∙ ap (λ rs. slice_get rs 0) c.in_err-place.ensures.steps.0)

pub returns-then-is_lt-clause-found : goal.returns-then-is_lt-clause-found
returns-then-is_lt-clause-found c =
    sym (find_both (λ r. is_le (place_cmp c.args.low.now r.0)) (λ r. is_lt (place_cmp r.0 c.args.high.now)) c.args.paths.now.entries
    (c.in_ok-place.place.now, c.in_ok-place.path.now)
    (sym (first_ahead (λ r. r.0) c.args.paths.now.entries c.args.low.now c.range.result (c.range.ensures.between tt))
    ∙ ap (λ rs. slice_get rs 0) c.in_ok-place.ensures.steps)
    (ap is_lt (sym c.cmp.ensures) ∙ sym c.is_lt.ensures ∙ c.if-is_lt.true))

pub returns-else-is_lt-clause-found : goal.returns-else-is_lt-clause-found
returns-else-is_lt-clause-found c =
    none_before (λ r. r.0) c.args.paths.now.entries (λ r. is_le (place_cmp c.args.low.now r.0)) c.args.high.now (
      c.in_ok-place.place.now,
      c.in_ok-place.path.now,
    ) c.range.ensures.ordered
    (sym (first_ahead (λ r. r.0) c.args.paths.now.entries c.args.low.now c.range.result (c.range.ensures.between tt))
    ∙ ap (λ rs. slice_get rs 0) c.in_ok-place.ensures.steps)
    (ap is_lt (sym c.cmp.ensures) ∙ sym c.is_lt.ensures ∙ c.if-is_lt.false)
