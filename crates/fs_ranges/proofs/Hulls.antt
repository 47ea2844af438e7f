-- The range from the least number of a list to the greatest, before the list's own test.
use Rattle.fs_ranges.proofs.Words.{◌≡◌, ℕ, ◌+◌, ◌<◌, ◌≤◌, Bool, true, false, true≢false, ◌&&◌, ◌||◌, List, [], take, get_or, length, refl, sym, ap}
use Rattle.fs_ranges.proofs.Words.{◌∙◌, arith, list_any_more, and_true, Range, Ranges, Test, Within, Facts, number_of, AreFree, range_holds}
use Rattle.fs_ranges.proofs.Words.{ranges_hold, with_range, contains, is_in, passes, Zero}
use Rattle.fs_ranges.proofs.{Enclosing.{from_in, to_in}, Placing.{put_placed}}

pub wider : (n low high low' high' : ℕ) → low' ≤ low → high ≤ high' → is_in n (low, high) ≡ true → is_in n (low', high') ≡ true
wider n low high low' high' less more h =
    let r : (low ≤ n) × (n ≤ high) = from_in n (low, high) h in
    to_in n (low', high') (omega (arith, r.0, less)) (omega (arith, r.1, more))

-- one range more
pub hull_more : (ranges : List (ℕ × ℕ)) (i n low high low' high' : ℕ) (range : ℕ × ℕ) → i < length ranges
    → low' ≤ low → low' ≤ (get_or ranges i range).0 → high ≤ high' → (get_or ranges i range).1 ≤ high'
    → (contains (take i ranges) n ≡ true → is_in n (low, high) ≡ true)
    → contains (take (i + 1) ranges) n ≡ true → is_in n (low', high') ≡ true
hull_more ranges i n low high low' high' range inside less first more last before h =
    by (contains (take i ranges) n) (is_in n (get_or ranges i range)) refl refl (sym (list_any_more (is_in n) ranges i range inside) ∙ h) where
      by : (a b : Bool) → contains (take i ranges) n ≡ a → is_in n (get_or ranges i range) ≡ b → (a || b) ≡ true → is_in n (low', high') ≡ true
      by true b e f t = wider n low high low' high' less more (before e)
      by false true e f t = wider n (get_or ranges i range).0 (get_or ranges i range).1 low' high' first last f
      by false false e f t = absurd (true≢false (sym t))

both : (new old range test : Bool) → (new && true) ≡ ((old && true) && range) → (test ≡ true → range ≡ true) → (new && test) ≡ (old && test)
both new old true true e f = e ∙ and_true (old && true)
both new old false true e f = absurd (true≢false (sym (f refl)))
both true true range false e f = refl
both true false range false e f = refl
both false true range false e f = refl
both false false range false e f = refl

-- a range more that holds of each packet that passes the test
pub hull_placed : (ranges new : Ranges) (place : ℕ) (range : Range) (test : Test) (facts : Facts) → place < 4 → AreFree place ranges
    → new ≡ with_range ranges range → number_of facts Zero ≡ 0
    → (passes facts test ≡ true → range_holds facts range ≡ true)
    → (ranges_hold facts new && passes facts test) ≡ (ranges_hold facts ranges && passes facts test)
hull_placed ranges new place range test facts below free made none within =
    both (ranges_hold facts new) (ranges_hold facts ranges) (range_holds facts range) (passes facts test)
    (put_placed ranges new place range [] (Within range) below free refl made facts none) within

-- the test behind the others, where the ranges with it say no more than those before
pub pushed : (new old tests test : Bool) → (new && test) ≡ (old && test) → (new && (tests && test)) ≡ ((old && tests) && test)
pushed new old true test h = h ∙ sym (ap (λ (b : Bool). b && test) (and_true old))
pushed true true false test h = refl
pushed true false false test h = refl
pushed false true false test h = refl
pushed false false false test h = refl
