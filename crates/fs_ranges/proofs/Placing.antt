-- One test more of a rule, in a free place among its ranges or behind them.
use Rattle.fs_ranges.proofs.Words.{◌≡◌, ℕ, zero, suc, ◌+◌, ◌<◌, ◌≤◌, List, [], ◌∷◌, length, drop, get_or, Bool, true, ◌&&◌, ◌==◌, nat_le, Some, refl}
use Rattle.fs_ranges.proofs.Words.{sym, ap, subst, ◌∙◌, arith, list_all, drop_all, and_assoc, and_comm, and_first, and_second, and_true, afi_of}
use Rattle.fs_ranges.proofs.Words.{Component, part_of, parts_of, AreSound, Viewed, part_matches, Range, Ranges, Test, Within, OneOf, PortWithin}
use Rattle.fs_ranges.proofs.Words.{Ports, TcpFlags, Fragment, Destination, Source, Facts, AreFacts, IsSmall, facts_of, number_of, AreFree, AreTestsOf}
use Rattle.fs_ranges.proofs.Words.{IsPut, all_pass, facts_hold, fast_holds, bounds_at, field_at, free_ranges, is_in_range, range_at, range_holds}
use Rattle.fs_ranges.proofs.Words.{ranges_hold, with_range, IsTestOf, passes, test_range, Zero}
use Rattle.fs_ranges.proofs.Truths.{and_swap}
use Rattle.fs_ranges.specs.declared.fast.Fast.{Fast}
use Rattle.std.proofs.Math.Seq.{drop-cons}

first_of_four : (a b c d x : Bool) → d ≡ true → (x && (a && (b && c))) ≡ ((a && (b && (c && d))) && x)
first_of_four a b c d x h = and_comm x (a && (b && c)) ∙ ap (λ (t : Bool). (a && (b && t)) && x) (sym (ap (λ (d : Bool). c && d) h ∙ and_true c))

range_is : (facts : Facts) (test : Test) (range : Range) → test_range test ≡ Some range → passes facts test ≡ range_holds facts range
range_is facts (Within inner) range h = let same : inner ≡ range = cc in ap (range_holds facts) same
range_is facts (OneOf field numbers) range h = cc
range_is facts (PortWithin low high) range h = cc
range_is facts (Ports numbers) range h = cc
range_is facts (TcpFlags pairs) range h = cc
range_is facts (Fragment pairs) range h = cc
range_is facts (Destination pattern) range h = cc
range_is facts (Source pattern) range h = cc

free_holds : (facts : Facts) (ranges : Ranges) (place : ℕ) → number_of facts Zero ≡ 0 → field_at ranges place ≡ Zero → bounds_at ranges place ≡ (0, 0)
    → range_at facts ranges place ≡ true
free_holds facts ranges place none field bounds =
    (λ i. is_in_range facts (field i) (bounds i).0 (bounds i).1) ∙ ap (λ (n : ℕ). nat_le 0 n && nat_le n 0) none

pub put_placed : (ranges new : Ranges) (place : ℕ) (range : Range) (tests : List Test) (test : Test) → place < 4 → AreFree place ranges
    → test_range test ≡ Some range → new ≡ with_range ranges range
    → IsPut test ranges tests new tests
put_placed ranges new place range tests test below free is made = λ facts none.
    let last : (field_at ranges 3 ≡ Zero) × (bounds_at ranges 3 ≡ (0, 0)) = free.free 3 (omega (arith, below)) (omega arith) in
    let four : ranges_hold facts (with_range ranges range) ≡ (ranges_hold facts ranges && range_holds facts range) =
    first_of_four (range_at facts ranges 0) (range_at facts ranges 1) (range_at facts ranges 2) (range_at facts ranges 3) (range_holds facts range)
    (free_holds facts ranges 3 none last.0 last.1) in
    (λ i. ranges_hold facts (made i) && list_all (passes facts) tests)
    ∙ ap (λ (b : Bool). b && list_all (passes facts) tests) (four ∙ sym (ap (λ (b : Bool). ranges_hold facts ranges && b) (range_is facts test range is)))
    ∙ and_swap (ranges_hold facts ranges) (passes facts test) (list_all (passes facts) tests)

pub put_free : (ranges new : Ranges) (used : ℕ) (range : Range) → AreFree used ranges → new ≡ with_range ranges range → AreFree (used + 1) new
put_free ranges new used range free made = subst (AreFree (used + 1)) (sym made) (record { fields = refl; bounds = refl; free = by }) where
  by : (k : ℕ) → used + 1 ≤ k → k < 4 → (field_at (with_range ranges range) k ≡ Zero) × (bounds_at (with_range ranges range) k ≡ (0, 0))
  by zero low high = absurd (omega (arith, low))
  by (suc zero) low high = free.free 0 (omega (arith, low)) (omega arith)
  by (suc (suc zero)) low high = free.free 1 (omega (arith, low)) (omega arith)
  by (suc (suc (suc zero))) low high = free.free 2 (omega (arith, low)) (omega arith)
  by (suc (suc (suc (suc k)))) low high = absurd (omega (arith, high))

-- the components before the index are compiled
pub record Compiling (components : List Component) (index used : ℕ) (ranges : Ranges) (tests : List Test) : Type 0 where
  pub sound : AreSound (parts_of (drop index components))
  pub free : AreFree used ranges
  pub said : (view : Viewed) → IsSmall view
      → (all_pass (facts_of view) ranges tests && list_all (part_matches view) (parts_of (drop index components)))
      ≡ list_all (part_matches view) (parts_of components)

pub compiled_more : (components : List Component) (i j used next : ℕ) (component : Component) (ranges new : Ranges) (tests more : List Test) (test : Test)
    → drop i components ≡ component ∷ drop j components
    → Compiling components i used ranges tests → IsTestOf (part_of component) test → IsPut test ranges tests new more → AreFree next new
    → Compiling components j next new more
compiled_more components i j used next component ranges new tests more test split h is placed free =
    let all : AreSound (parts_of (component ∷ drop j components)) = subst (λ (cs : List Component). AreSound (parts_of cs)) split h.sound in
    record {
      sound = all.1;
      free = free;
      said = λ view small.
          ap (λ (b : Bool). b && list_all (part_matches view) (parts_of (drop j components))) (placed (facts_of view) refl
          ∙ ap (λ (b : Bool). all_pass (facts_of view) ranges tests && b) (is view small))
          ∙ and_assoc (all_pass (facts_of view) ranges tests) (part_matches view (part_of component))
          (list_all (part_matches view) (parts_of (drop j components)))
          ∙ sym (ap (λ (cs : List Component). all_pass (facts_of view) ranges tests && list_all (part_matches view) (parts_of cs)) split)
          ∙ h.said view small;
    }

pub compiled_all : (components : List Component) (i used : ℕ) (ranges : Ranges) (tests : List Test) → length components ≤ i
    → Compiling components i used ranges tests → AreTestsOf (parts_of components) ranges tests
compiled_all components i used ranges tests end h = λ view small.
    sym (and_true (all_pass (facts_of view) ranges tests))
    ∙ sym (ap (λ (cs : List Component). all_pass (facts_of view) ranges tests && list_all (part_matches view) (parts_of cs)) (drop_all i components end))
    ∙ h.said view small

pub facts_are : (view : Viewed) (facts : Facts) → AreFacts view facts → facts ≡ facts_of view
facts_are view facts h = λ i. record { view = h.same i; numbers = h.numbers i }

-- by a packet's own facts
pub held_of : (view : Viewed) (facts : Facts) (fast : Fast) → AreFacts view facts → facts_hold facts fast ≡ fast_holds view fast
unfolding fast_holds
held_of view facts fast h = ap (λ (x : Facts). facts_hold x fast) (facts_are view facts h)

-- what a rule that holds is made of holds
rule_held : (facts : Facts) (fast : Fast) → facts_hold facts fast ≡ true → all_pass facts fast.ranges fast.tests.items ≡ true
unfolding facts_hold
rule_held facts fast h = and_second (afi_of fast.family == afi_of facts.view.family) (all_pass facts fast.ranges fast.tests.items) h

pub ranges_held : (facts : Facts) (fast : Fast) → facts_hold facts fast ≡ true → ranges_hold facts fast.ranges ≡ true
ranges_held facts fast h = and_first (ranges_hold facts fast.ranges) (list_all (passes facts) fast.tests.items) (rule_held facts fast h)

pub tests_held : (facts : Facts) (fast : Fast) → facts_hold facts fast ≡ true → list_all (passes facts) fast.tests.items ≡ true
tests_held facts fast h = and_second (ranges_hold facts fast.ranges) (list_all (passes facts) fast.tests.items) (rule_held facts fast h)

all_free : (k : ℕ) → 0 ≤ k → k < 4 → (field_at free_ranges k ≡ Zero) × (bounds_at free_ranges k ≡ (0, 0))
all_free zero low high = (refl, refl)
all_free (suc zero) low high = (refl, refl)
all_free (suc (suc zero)) low high = (refl, refl)
all_free (suc (suc (suc zero))) low high = (refl, refl)
all_free (suc (suc (suc (suc k)))) low high = absurd (omega arith)

pub compiled_none : (components : List Component) (ranges : Ranges) (tests : List Test) → ranges ≡ free_ranges → tests ≡ []
    → AreSound (parts_of components) → Compiling components 0 0 ranges tests
compiled_none components ranges tests free empty sound =
    subst (λ (r : Ranges). Compiling components 0 0 r tests) (sym free)
    (subst (λ (all : List Test). Compiling components 0 0 free_ranges all) (sym empty)
    (record { sound = sound; free = record { fields = refl; bounds = refl; free = all_free }; said = λ view small. refl }))

pub at_index : (components : List Component) (i j : ℕ) (component : Component) → component ≡ get_or components i component → i < length components
    → j ≡ i + 1 → drop i components ≡ component ∷ drop j components
at_index components i j component e below one =
    let next : suc i ≡ j = omega arith in
    drop-cons components i component below ∙ (λ k. sym e k ∷ drop (next k) components)
