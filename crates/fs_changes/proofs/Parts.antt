-- The lines of lists in parts: where the parts stand apart, those of the first parts and then those of the others.
use Rattle.fs_changes.proofs.Words.{Bool, List, [], ap, arith, false, true, if◌then◌else◌, length, refl, suc, sym, ℕ, ◌++◌, ◌+◌, ◌∙◌, ◌∷◌, ◌≡◌}
use Rattle.fs_changes.proofs.Words.{AllByRecursion, Line, gone, come, come_while, go_unless, difference}

-- none is left, or the first is neither before an element nor the same
abbrev pub IsBehind : {T : Type 0} → (T → T → Bool) → (T → T → Bool) → List T → T → Type 0
IsBehind before same [] o = Unit {0}
IsBehind before same (n ∷ ns) o = (before n o ≡ false) × (same o n ≡ false)

-- none is left, or an element is before the first
abbrev pub IsFront : {T : Type 0} → (T → T → Bool) → List T → T → Type 0
IsFront before [] n = Unit {0}
IsFront before (t ∷ ts) n = before n t ≡ true

next_place : (k m : ℕ) → (k + 1) + m ≡ k + suc m
next_place k m = omega arith

none_more : (k : ℕ) → k + 0 ≡ k
none_more k = omega arith

come_through : {T : Type 0} (test : T → Bool) (k : ℕ) (ns more : List T) (rest : ℕ → List T → List (Line T)) → AllByRecursion (λ n. test n ≡ true) ns
    → come_while test k (ns ++ more) rest ≡ come_while (λ _. true) k ns (λ _ _. []) ++ come_while test (k + length ns) more rest
come_through test k [] more rest each = ap (λ j. come_while test j more rest) (sym (none_more k))
come_through test k (n ∷ ns) more rest each =
    ap (λ b. if b then come k n ∷ come_while test (k + 1) (ns ++ more) rest else rest k (n ∷ (ns ++ more))) each.0
    ∙ ap (λ ls. come k n ∷ ls) (come_through test (k + 1) ns more rest each.1
    ∙ ap (λ j. come_while (λ _. true) (k + 1) ns (λ _ _. []) ++ come_while test j more rest) (next_place k (length ns)))

each_true : {T : Type 0} (ns : List T) → AllByRecursion (λ (_ : T). true ≡ true) ns
each_true [] = tt
each_true (n ∷ ns) = (refl, each_true ns)

-- with no element of the old list before the seam
at_seam : {T : Type 0} (before same : T → T → Bool) (k : ℕ) (more ns news : List T) → AllByRecursion (IsFront before more) ns
    → difference before same k more (ns ++ news) ≡ difference before same k [] ns ++ difference before same (k + length ns) more news
at_seam before same k [] ns news front = come_through (λ _. true) k ns news (λ _ _. []) (each_true ns)
at_seam before same k (t ∷ ts) ns news front = come_through (λ n. before n t) k ns news (go_unless same t (λ j rest. difference before same j ts rest)) front

pub parts : {T : Type 0} (before same : T → T → Bool) (k : ℕ) (os more ns news : List T) → AllByRecursion (IsBehind before same news) os
    → AllByRecursion (IsFront before more) ns
    → difference before same k (os ++ more) (ns ++ news) ≡ difference before same k os ns ++ difference before same (k + length ns) more news
parts before same k [] more ns news behind front = at_seam before same k more ns news front
parts {T} before same k (o ∷ os) more ns news behind front = along (λ j ms f. parts before same j os more ms news behind.1 f) k ns front where
  all : ℕ → List T → List (Line T)
  all j rest = difference before same j (os ++ more) rest

  own : ℕ → List T → List (Line T)
  own j rest = difference before same j os rest

  Again : Type 0
  Again = (j : ℕ) (ms : List T) → AllByRecursion (IsFront before more) ms → all j (ms ++ news) ≡ own j ms ++ difference before same (j + length ms) more news

  ends : (j : ℕ) (xs : List T) → IsBehind before same xs o → come_while (λ n. before n o) j xs (go_unless same o all) ≡ gone j o ∷ all j xs
  ends j [] b = refl
  ends j (m ∷ ms) b = ap (λ c. if c then come j m ∷ come_while (λ n. before n o) (j + 1) ms (go_unless same o all) else go_unless same o all j (m ∷ ms)) b.0
      ∙ ap (λ c. if c then all (j + 1) ms else gone j o ∷ all j (m ∷ ms)) b.1

  along : Again → (j : ℕ) (ms : List T) → AllByRecursion (IsFront before more) ms
      → come_while (λ n. before n o) j (ms ++ news) (go_unless same o all)
      ≡ come_while (λ n. before n o) j ms (go_unless same o own) ++ difference before same (j + length ms) more news
  along again j [] front = ends j news behind.0 ∙ ap (λ ls. gone j o ∷ ls) (again j [] tt)
  along again j (n ∷ ns) front = at (before n o) (same o n) (along again (j + 1) ns front.1) where
    later : (j + 1) + length ns ≡ j + length (n ∷ ns)
    later = next_place j (length ns)

    at : (b c : Bool)
        → come_while (λ m. before m o) (j + 1) (ns ++ news) (go_unless same o all) ≡ come_while (λ m. before m o) (j + 1) ns (go_unless same o own)
        ++ difference before same ((j + 1) + length ns) more news
        → (if b then come j n ∷ come_while (λ m. before m o) (j + 1) (ns ++ news) (go_unless same o all)
        else (if c then all (j + 1) (ns ++ news) else gone j o ∷ all j (n ∷ (ns ++ news))))
        ≡ (if b then come j n ∷ come_while (λ m. before m o) (j + 1) ns (go_unless same o own) else (if c then own (j + 1) ns else gone j o ∷ own j (n ∷ ns)))
        ++ difference before same (j + length (n ∷ ns)) more news
    at true c ih = ap (λ ls. come j n ∷ ls) (ih
        ∙ ap (λ i. come_while (λ m. before m o) (j + 1) ns (go_unless same o own) ++ difference before same i more news) later)
    at false true ih = again (j + 1) ns front.1 ∙ ap (λ i. own (j + 1) ns ++ difference before same i more news) later
    at false false ih = ap (λ ls. gone j o ∷ ls) (again j (n ∷ ns) front)
