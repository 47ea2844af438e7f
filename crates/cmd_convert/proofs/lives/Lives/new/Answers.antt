use Rattle.cmd_convert.proofs.Words.{◌≡◌, ◌∙◌, ap, ℕ, List, Option, Some, None, Bool, inl, inr, refl, get_or, replicate}
use Rattle.std.proofs.lemmas.{Bool.{cases_lt}, List.{get_or-replicate, get_or_past, length-replicate}}
use Rattle.cmd_convert.proofs.lives.Lives.new.Goals as goal

only : (P : Option Bool → Type 0) → ((wide : Bool) → P (Some wide) → ⊥) → (y : Option Bool) → P y → y ≡ None
only P never None h = refl
only P never (Some wide) h = absurd (never wide h)

pub returns : goal.returns
returns c = λ peer. by 65536 c.in_ok-vec.field-0.items peer (c.in_ok-vec.ensures.items_if_clones_equal (only _ (λ wide h. h)))
  where
    down : Option Bool
    down = None

    by : (n : ℕ) (items : List (Option Bool)) (peer : ℕ) → items ≡ replicate n down → get_or items peer down ≡ down
    by n items peer e = ap (λ (l : List (Option Bool)). get_or l peer down) e ∙ elim (cases_lt peer n) [
      | inl less ↦ get_or-replicate n peer down down less
      | inr more ↦ get_or_past (replicate n down) peer down (rw (length-replicate n down) more)
    ]
