-- The place of a name among files in memory is where its content stands.
use Rattle.std.proofs.Common.{◌≡◌, ℕ, suc, List, [], ◌∷◌, Option, Some, None, Bool, true, false, cond, not, ◌++◌, ◌+◌, length, refl, ◌∙◌, arith}
use Rattle.std.proofs.Common.{nat_lt}
use Rattle.std.proofs.lemmas.Bool.Decides.{nat_tests}
use Rattle.std.specs.{Prelude.{if◌then◌else◌, string_bytes, unwrap_or, is_some, IsTrue, IsSome, ◌↔◌}, List.{prefix_len}}
use Rattle.fs_outside.specs.{MemoryFiles.{AddsFile, has_name, content_named, place_of, content_at, content_of}, declared.calm_files.HeldFile.{HeldFile}}

abbrev found_at : List HeldFile → ℕ → Option (List ℕ)
found_at files k = cond (nat_lt k (length files)) (Some (content_at files k)) None

step : (b : Bool) (file : HeldFile) (files : List HeldFile) (k : ℕ) (rest : Option (List ℕ)) → rest ≡ found_at files k
    → cond b (Some file.content.items) rest ≡ found_at (file ∷ files) (cond (not b) (1 + k) 0)
step true file files k rest h = let z : nat_lt 0 (suc (length files)) ≡ true = grind (arith, nat_tests) in rw z refl
step false file files k rest h =
    let e : 1 + k ≡ suc k = omega arith in
    let l : nat_lt (suc k) (suc (length files)) ≡ nat_lt k (length files) = grind (arith, nat_tests) in
    h ∙ rw (e, l) refl

by_place : (files : List HeldFile) (name : List ℕ) → content_named files name ≡ found_at files (prefix_len (λ file. not (has_name name file)) files)
by_place [] name = refl
by_place (file ∷ files) name = step (has_name name file) file files _ _ (by_place files name)

both : (b : Bool) (files : List HeldFile) (k : ℕ)
    → (is_some (cond b (Some k) None) ≡ is_some (cond b (Some (content_at files k)) None))
    × (content_of files (cond b (Some k) None) ≡ unwrap_or (cond b (Some (content_at files k)) None) [])
both true files k = (refl, refl)
both false files k = (refl, refl)

pub place_found : (files : List HeldFile) (name : List ℕ) → is_some (place_of files name) ≡ is_some (content_named files name)
place_found files name = rw (by_place files name) (both _ files _).0

pub place_content : (files : List HeldFile) (name : List ℕ)
    → content_of files (place_of files name) ≡ unwrap_or (content_named files name) []
place_content files name = rw (by_place files name) (both _ files _).1

pub same_tests : {A : Type 0} (b : Bool) (o : Option A) → b ≡ is_some o → IsTrue b ↔ IsSome o
same_tests b o e = rw e (λ x. x, λ x. x)

more : (b : Bool) (content : List ℕ) (rest rest' last : Option (List ℕ)) → rest' ≡ (if is_some rest then rest else last)
    → cond b (Some content) rest' ≡ (if is_some (cond b (Some content) rest) then cond b (Some content) rest else last)
more true content rest rest' last h = refl
more false content rest rest' last h = h

held_more : (files : List HeldFile) (file : HeldFile) (name : List ℕ)
    → content_named (files ++ file ∷ []) name
    ≡ (if is_some (content_named files name) then content_named files name else if has_name name file then Some file.content.items else None)
held_more [] file name = refl
held_more (first ∷ files) file name =
    more (has_name name first) first.content.items (content_named files name) (content_named (files ++ file ∷ []) name) _ (held_more files file name)

pub adds_file : (files later : List HeldFile) (file : HeldFile) (name content : List ℕ)
    → later ≡ files ++ file ∷ [] → string_bytes file.name ≡ name → file.content.items ≡ content
    → AddsFile (content_named files) (content_named later) name content
adds_file files later file name content e n c other =
    rw (e, ← n, ← c) (held_more files file other)
