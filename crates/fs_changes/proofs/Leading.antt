-- The lines from one list to another make the one out of the other.
use Rattle.fs_changes.proofs.Words.{Bool, List, Some, [], ap, ap₂, arith, false, true, true≢false, if◌then◌else◌, length, refl, subst, sym, ℕ, ◌++◌}
use Rattle.fs_changes.proofs.Words.{◌+◌, ◌≤◌, ◌∙◌, ◌∷◌, ◌≡◌, take-append_seam, drop-append_seam, drop-append-add, append_assoc, length-append}
use Rattle.fs_changes.proofs.Words.{AllByRecursion, slice_get, Line, gone, come, apply, Make, come_while, go_unless, difference}

one_more : {T : Type 0} (xs : List T) (x : T) → length (xs ++ (x ∷ [])) ≡ length xs + 1
one_more xs x = length-append xs (x ∷ [])

coming : {T : Type 0} (front : List T) (x : T) (ys : List T) → apply (come (length front) x) (front ++ ys) ≡ (front ++ (x ∷ [])) ++ ys
coming front x ys = ap₂ (λ a b. a ++ (x ∷ b)) (take-append_seam front ys) (drop-append_seam front ys) ∙ sym (append_assoc front (x ∷ []) ys)

going : {T : Type 0} (front : List T) (x : T) (ys : List T) → apply (gone (length front) x) (front ++ (x ∷ ys)) ≡ front ++ ys
going front x ys = ap₂ (λ a b. a ++ b) (take-append_seam front (x ∷ ys)) (drop-append-add front (x ∷ ys) 1)

there : {T : Type 0} (front : List T) (x : T) (ys : List T) → slice_get (front ++ (x ∷ ys)) (length front) ≡ Some x
there [] x ys = refl
there (f ∷ fs) x ys = there fs x ys

fitting : {T : Type 0} (front ys : List T) → length front ≤ length (front ++ ys)
fitting front ys = let e : length (front ++ ys) ≡ length front + length ys = length-append front ys in omega (arith, e)

-- what the test takes for the same among such elements is the same
abbrev pub IsSound : {T : Type 0} → (T → Type 0) → (T → T → Bool) → Type 0
IsSound {T} P same = (x y : T) → P x → P y → same x y ≡ true → x ≡ y

-- the first, if there is one, doesn't pass the test
abbrev Stops : {T : Type 0} → (T → Bool) → List T → Type 0
Stops test [] = Unit {0}
Stops test (x ∷ xs) = test x ≡ false

-- the lines for new lists of this kind lead from the old one to them, after any front
abbrev LeadWhere : {T : Type 0} → (List T → Type 0) → (ℕ → List T → List (Line T)) → List T → Type 0
LeadWhere {T} Q lines old = (front new : List T) → Q new → Make (lines (length front) new) (front ++ old) (front ++ new)

-- one more stands in front
moved : {T : Type 0} (lines : ℕ → List (Line T)) (front : List T) (x : T) (old new : List T)
    → Make (lines (length (front ++ (x ∷ [])))) ((front ++ (x ∷ [])) ++ old) ((front ++ (x ∷ [])) ++ new)
    → Make (lines (length front + 1)) ((front ++ (x ∷ [])) ++ old) (front ++ (x ∷ new))
moved lines front x old new h =
    subst (λ n. Make (lines n) ((front ++ (x ∷ [])) ++ old) (front ++ (x ∷ new))) (one_more front x)
    (subst (Make (lines (length (front ++ (x ∷ [])))) ((front ++ (x ∷ [])) ++ old)) (append_assoc front (x ∷ []) new) h)

come_leads : {T : Type 0} (P : T → Type 0) (test : T → Bool) (rest : ℕ → List T → List (Line T)) (old front new : List T) → AllByRecursion P new
    → LeadWhere (λ xs. Stops test xs × AllByRecursion P xs) rest old
    → Make (come_while test (length front) new rest) (front ++ old) (front ++ new)
come_leads P test rest old front [] each h = h front [] (tt, tt)
come_leads {T} P test rest old front (n ∷ ns) each h = at (test n) refl (come_leads P test rest old (front ++ (n ∷ [])) ns each.1 h) where
  at : (b : Bool) → test n ≡ b
      → Make (come_while test (length (front ++ (n ∷ []))) ns rest) ((front ++ (n ∷ [])) ++ old) ((front ++ (n ∷ [])) ++ ns)
      → Make (if b then come (length front) n ∷ come_while test (length front + 1) ns rest else rest (length front) (n ∷ ns)) (front ++ old) (front ++ (n ∷ ns))
  at true e ih = (
    fitting front old,
    subst (λ xs. Make (come_while test (length front + 1) ns rest) xs (front ++ (n ∷ ns))) (sym (coming front n old))
        (moved (λ k. come_while test k ns rest) front n old ns ih),
  )
  at false e ih = h front (n ∷ ns) (e, each)

-- the first of the old list goes
goes : {T : Type 0} (lines : ℕ → List T → List (Line T)) (front : List T) (o : T) (os new : List T)
    → Make (lines (length front) new) (front ++ os) (front ++ new)
    → Make (gone (length front) o ∷ lines (length front) new) (front ++ (o ∷ os)) (front ++ new)
goes lines front o os new h = (there front o os, subst (λ xs. Make (lines (length front) new) xs (front ++ new)) (sym (going front o os)) h)

go_leads : {T : Type 0} (P : T → Type 0) (same : T → T → Bool) (o : T) (lines : ℕ → List T → List (Line T)) (os : List T) → IsSound P same → P o
    → LeadWhere (AllByRecursion P) lines os
    → LeadWhere (AllByRecursion P) (go_unless same o lines) (o ∷ os)
go_leads P same o lines os sound own h front [] each = goes lines front o os [] (h front [] tt)
go_leads {T} P same o lines os sound own h front (n ∷ ns) each = at (same o n) refl where
  at : (b : Bool) → same o n ≡ b
      → Make (if b then lines (length front + 1) ns else gone (length front) o ∷ lines (length front) (n ∷ ns)) (front ++ (o ∷ os)) (front ++ (n ∷ ns))
  at true e = subst (λ x. Make (lines (length front + 1) ns) (front ++ (x ∷ os)) (front ++ (n ∷ ns))) (sym (sound o n own each.0 e))
      (subst (λ xs. Make (lines (length front + 1) ns) xs (front ++ (n ∷ ns))) (append_assoc front (n ∷ []) os)
      (moved (λ k. lines k ns) front n os ns (h (front ++ (n ∷ [])) ns each.1)))
  at false e = goes lines front o os (n ∷ ns) (h front (n ∷ ns) each)

pub leads : {T : Type 0} (P : T → Type 0) (before same : T → T → Bool) (old : List T) → IsSound P same → AllByRecursion P old
    → LeadWhere (AllByRecursion P) (λ k new. difference before same k old new) old
leads {T} P before same [] sound own front new each = come_leads P (λ _. true) (λ _ _. []) [] front new each ends where
  ends : LeadWhere (λ xs. Stops (λ (_ : T). true) xs × AllByRecursion P xs) (λ _ _. []) []
  ends front [] h = refl
  ends front (x ∷ xs) h = absurd (true≢false h.0)
leads P before same (o ∷ os) sound own front new each =
    come_leads P (λ n. before n o) (go_unless same o (λ j rest. difference before same j os rest)) (o ∷ os) front new each
    (λ f xs h. go_leads P same o (λ j rest. difference before same j os rest) os sound own.0 (leads P before same os sound own.1) f xs h.1)

-- One part of the lines after the other.
pub joined : {T : Type 0} (ls ms : List (Line T)) (xs ys zs : List T) → Make ls xs ys → Make ms ys zs → Make (ls ++ ms) xs zs
joined [] ms xs ys zs h k = subst (λ ws. Make ms ws zs) (sym h) k
joined (l ∷ ls) ms xs ys zs h k = (h.0, joined ls ms (apply l xs) ys zs h.1 k)

-- A list leads to itself by no line.
pub no_lines : {T : Type 0} (before same : T → T → Bool) (k : ℕ) (xs : List T) → ((x : T) → before x x ≡ false) → ((x : T) → same x x ≡ true)
    → difference before same k xs xs ≡ []
no_lines before same k [] b s = refl
no_lines {T} before same k (x ∷ xs) b s =
    ap (λ c. if c then come k x ∷ come_while (λ n. before n x) (k + 1) xs rest else rest k (x ∷ xs)) (b x)
    ∙ ap (λ c. if c then difference before same (k + 1) xs xs else gone k x ∷ difference before same k xs (x ∷ xs)) (s x)
    ∙ no_lines before same (k + 1) xs b s where
      rest : ℕ → List T → List (Line T)
      rest = go_unless same x (λ j new. difference before same j xs new)
