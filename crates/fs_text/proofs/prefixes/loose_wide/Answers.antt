use Rattle.fs_text.proofs.{Words.{◌∙◌, ℕ, ◌/◌, ◌%◌, ◌^◌, ◌∷◌, sym, none-some, some_pair_parts, Delimiter, half_parts, range_parts}, Prefixed.{wide_made}}
use Rattle.fs_text.proofs.prefixes.loose_wide.Goals as goal

pub returns-in-Some-loose_low : goal.returns-in-Some-loose_low
returns-in-Some-loose_low c = λ n len offset big small low is.
    let half = c.in-Some.ensures.some (n / 2 ^ 64) (Delimiter 58 ∷ half_parts n (range_parts len offset)) is in
    let behind = some_pair_parts {A = ℕ} {B = ℕ × ℕ} c.in-Some-loose_low.low (n % 2 ^ 64) c.in-Some-loose_low.range (len, offset)
    (sym c.in-Some-loose_low.is ∙ c.loose_low.ensures n len offset small low half.1) in
    wide_made c.whole.result n c.in-Some-loose_low.range (len, offset) (c.whole.ensures n big half.0 behind.0) behind.1

pub returns-in-None-loose_low : goal.returns-in-None-loose_low
returns-in-None-loose_low c = λ n len offset big small low is.
    let half = c.in-Some.ensures.some (n / 2 ^ 64) (Delimiter 58 ∷ half_parts n (range_parts len offset)) is in
    absurd (none-some _ (sym c.in-None-loose_low.is ∙ c.loose_low.ensures n len offset small low half.1))
