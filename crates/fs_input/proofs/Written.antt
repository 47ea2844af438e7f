-- An input of parts is done exactly where it is the text of written parts and lies below the limit.
use Rattle.fs_input.proofs.Words.{◌≡◌, ◌≢◌, ◌⊎◌, inl, inr, Option, ℕ, suc, zero, List, [], ◌∷◌, ◌++◌, Some, Bool, true, false, ◌<◌, ◌≤◌, ◌+◌, ◌-◌}
use Rattle.fs_input.proofs.Words.{length, take, drop, refl, ap, sym, subst, ◌∙◌, ◌↔◌, arith, length-append, flat_map, drop_at, length-drop}
use Rattle.fs_input.proofs.Words.{length-take, take-append-drop, take-take, nat_tests, at_limit, window, with_part, AllFrom, End, bad, done, limited}
use Rattle.fs_input.proofs.Words.{Chain, IsTextOf, Takes, all_given, all_told, only_told, parts_to_come, told_to_come, Took, end_of, ends_by, Scan}
use Rattle.fs_input.proofs.Words.{got, partial, wrong}
use Rattle.fs_input.proofs.{Coming.{done_comes, end_comes, part_comes}, Done.{all_taken, below_limit, nothing}, Spelling.{Reads, Spells}}

-- the limit isn't reached
free_of : (limit taken : ℕ) (left : List ℕ) → taken + length left < limit → at_limit limit taken left ≡ false
free_of limit taken left below = grind (arith, nat_tests)

module _ {S P W R : Type 0} (chain : Chain S P R) (text : W → List ℕ) (Fits : S → W → Type 0) (gives : S → W → P × S) where
  -- each value is spelled by a written part that fits, and tells it
  pub record IsSpelled (now : S) (value : P × S) (octets : List ℕ) : Type 0 where
    pub part : W
    pub fits : Fits now part
    pub text_is : octets ≡ text part
    pub value_is : value ≡ gives now part

  -- what an input that is done has left
  pub record IsWritten (limit taken : ℕ) (now : S) (left : List ℕ) (parts : List P) : Type 0 where
    pub written : List W
    pub spelled : left ≡ flat_map text written
    pub fit : AllFrom Fits (λ state part. (gives state part).1) now written
    pub parts_are : parts ≡ all_given gives now written
    pub below : taken + length left < limit

  -- a part takes octets, where the text of each has some
  pub spelled_takes : ((state : S) (part : W) → Fits state part → 0 < length (text part))
      → ((state : S) → Spells (IsSpelled state) (chain state)) → (state : S) → Takes 1 (chain state)
  spelled_takes some spells state place octets value count h =
      let s = spells state place octets value count h in
      let long = some state s.1.part s.1.fits in
      (omega (arith, long, s.0, length-take count octets, ap length s.1.text_is), s.0)

  module _ (cut : R) (takes : (state : S) → Takes 1 (chain state)) (spells : (state : S) → Spells (IsSpelled state) (chain state)) (limit : ℕ) where
    abbrev Done : ℕ → S → List ℕ → List P → Type 0
    Done taken now left parts = parts_to_come chain cut limit taken now left ≡ (parts, done)

    none_written : (taken : ℕ) (now : S) (left : List ℕ) (parts : List P) → ◌≡◌ {A = List P × End R} ([], done) (parts, done)
        → at_limit limit taken left ≡ false → length (window limit taken left) ≡ 0 → IsWritten limit taken now left parts
    none_written taken now left parts same free none =
        let below : taken + length left < limit = below_limit limit taken left free in
        let size : length left ≡ 0 = omega (arith, none, below, length-take (limit - taken) left) in
        record { written = []; spelled = nothing left size; fit = tt; parts_are = sym (ap (λ (p : List P × End R). p.0) same); below = below }

    -- where the chain gives no part
    ended : (taken : ℕ) (now : S) (left : List ℕ) (parts : List P) (end : End R) → end ≢ done
        → ends_by (chain now) cut limit taken left ≡ Some end → Done taken now left parts → IsWritten limit taken now left parts
    ended taken now left parts end fault ends h = by (at_limit limit taken left) (length (window limit taken left)) refl refl
      where
        never : (at_limit limit taken left ≡ true) ⊎ (0 < length (window limit taken left)) → IsWritten limit taken now left parts
        never more =
            let met : ◌≡◌ {A = List P × End R} ([], end) (parts, done) = sym (end_comes chain cut limit taken now left end more ends) ∙ h in
            absurd (fault (ap (λ (p : List P × End R). p.1) met))

        by : (reached : Bool) (size : ℕ) → at_limit limit taken left ≡ reached → length (window limit taken left) ≡ size → IsWritten limit taken now left parts
        by true size r s = never (inl r)
        by false (suc size) r s = never (inr (omega (arith, s)))
        by false zero r s = none_written taken now left parts (sym (done_comes chain cut limit taken now left takes r s) ∙ h) r s

    one_written : (taken count : ℕ) (now : S) (left : List ℕ) (found : P × S) (rest : List P) → count ≤ length (window limit taken left)
        → IsSpelled now found (take count (window limit taken left)) → IsWritten limit (taken + count) found.1 (drop count left) rest
        → IsWritten limit taken now left (found.0 ∷ rest)
    one_written taken count now left found rest within first later =
        let room : count ≤ limit - taken = omega (arith, within, length-take (limit - taken) left) in
        let had : count ≤ length left = omega (arith, within, length-take (limit - taken) left) in
        let front : take count left ≡ text first.part = sym (take-take count (limit - taken) left room) ∙ first.text_is in
        record {
          written = first.part ∷ later.written;
          spelled =
              sym (take-append-drop count left) ∙ ap (λ l. l ++ drop count left) front ∙ ap (λ l. text first.part ++ l) later.spelled;
          fit = (first.fits, subst (λ (v : P × S). AllFrom Fits (λ state part. (gives state part).1) v.1 later.written) first.value_is later.fit);
          parts_are =
              ap (λ l. found.0 ∷ l) later.parts_are
              ∙ ap (λ (v : P × S). v.0 ∷ all_given gives v.1 later.written) first.value_is;
          below = omega (arith, later.below, length-drop count left, had);
        }

    written_by : (n taken : ℕ) (now : S) (left : List ℕ) (parts : List P) → length left ≤ n → Done taken now left parts
        → (scan : Scan (P × S) R) → chain now taken (window limit taken left) ≡ scan → IsWritten limit taken now left parts
    written_by n taken now left parts most h (wrong reason spot) s =
        ended taken now left parts (bad reason spot) (λ e. absurd cc)
        (ap (end_of cut (at_limit limit taken left) taken (length (window limit taken left))) s) h
    written_by n taken now left parts most h partial s = by (at_limit limit taken left) refl
      where
        ends : (reached : Bool) → at_limit limit taken left ≡ reached
            → ends_by (chain now) cut limit taken left ≡ end_of {A = P × S} cut reached taken (length (window limit taken left)) partial
        ends reached r i = end_of cut (r i) taken (length (window limit taken left)) (s i)

        by : (reached : Bool) → at_limit limit taken left ≡ reached → IsWritten limit taken now left parts
        by true r = ended taken now left parts limited (λ e. absurd cc) (ends true r) h
        by false r = ended taken now left parts (bad cut (taken + length (window limit taken left))) (λ e. absurd cc) (ends false r) h
    written_by zero taken now left parts most h (got found count) s =
        let held = takes now taken (window limit taken left) found count s in
        let some : 1 ≤ count = held.0 in
        let within : count ≤ length (window limit taken left) = held.1 in
        absurd (let no : ⊥ = omega (arith, some, within, most, length-take (limit - taken) left) in no)
    written_by (suc n) taken now left parts most h (got found count) s =
        let held = takes now taken (window limit taken left) found count s in
        let some : 1 ≤ count = held.0 in
        let within : count ≤ length (window limit taken left) = held.1 in
        let took : Took (chain now taken (window limit taken left)) (length (window limit taken left)) taken (taken + count) left (drop count left) found =
        record { count = count; is = s; within = within; taken_is = refl; left_is = refl } in
        let rest = parts_to_come chain cut limit (taken + count) found.1 (drop count left) in
        let step : with_part found.0 rest ≡ (parts, done) =
        sym (part_comes chain cut limit taken (taken + count) now left (drop count left) found takes took) ∙ h in
        let first : found.0 ∷ rest.0 ≡ parts = ap (λ (p : List P × End R). p.0) step in
        let last : rest.1 ≡ done = ap (λ (p : List P × End R). p.1) step in
        subst (IsWritten limit taken now left) first
        (one_written taken count now left found rest.0 within (spells now taken (window limit taken left) found count s).1
        (written_by n (taken + count) found.1 (drop count left) rest.0 (omega (arith, some, most, length-drop count left))
        (λ i. (rest.0, last i)) (chain found.1 (taken + count) (window limit (taken + count) (drop count left))) refl))

    pub done_written : (taken : ℕ) (now : S) (left : List ℕ) (parts : List P) → Done taken now left parts → IsWritten limit taken now left parts
    done_written taken now left parts h = written_by (length left) taken now left parts (omega arith) h (chain now taken (window limit taken left)) refl

    module _ (reads : (state : S) (part : W) → Fits state part → Reads (chain state) (text part) (gives state part)) where
      written_read : (taken : ℕ) (now : S) (left : List ℕ) (written : List W) → left ≡ flat_map text written
          → AllFrom Fits (λ state part. (gives state part).1) now written → taken + length left < limit
          → Done taken now left (all_given gives now written)
      written_read taken now left [] spelled fit below =
          let none : length left ≡ 0 = ap length spelled in
          done_comes chain cut limit taken now left takes (free_of limit taken left below) (omega (arith, none, length-take (limit - taken) left))
      written_read taken now left (part ∷ written) spelled fit below =
          let front = text part in
          let rest = flat_map text written in
          let all : window limit taken left ≡ front ++ rest = all_taken (limit - taken) left (omega (arith, below)) ∙ spelled in
          let behind : drop (length front) left ≡ rest = ap (drop (length front)) spelled ∙ drop_at front rest (length front) refl in
          let size : length left ≡ length front + length rest = ap length spelled ∙ length-append front rest in
          let took : Took (chain now taken (window limit taken left)) (length (window limit taken left)) taken (taken + length front) left
          (drop (length front) left) (gives now part) =
          record {
            count = length front;
            is = ap (chain now taken) all ∙ reads now part fit.0 taken rest;
            within = omega (arith, ap length all, length-append front rest);
            taken_is = refl;
            left_is = refl;
          } in
          part_comes chain cut limit taken (taken + length front) now left (drop (length front) left) (gives now part) takes took
          ∙ ap (with_part (gives now part).0)
          (written_read (taken + length front) (gives now part).1 (drop (length front) left) written behind fit.1
          (omega (arith, below, size, length-drop (length front) left)))

      pub read_written : (taken : ℕ) (now : S) (left : List ℕ) (parts : List P) → IsWritten limit taken now left parts → Done taken now left parts
      read_written taken now left parts h =
          written_read taken now left h.written h.spelled h.fit h.below ∙ ap (λ p. (p, done)) (sym h.parts_are)

-- so of what the parts tell
pub told_text : {S P W R : Type 0} (chain : Chain S (Option P) R) (text : W → List ℕ) (Fits : S → W → Type 0) (gives : S → W → Option P × S) (cut : R)
    → ((state : S) → Takes 1 (chain state)) → ((state : S) → Spells (IsSpelled chain text Fits gives state) (chain state))
    → ((state : S) (part : W) → Fits state part → Reads (chain state) (text part) (gives state part))
    → (limit : ℕ) (now : S) (content : List ℕ) (told : List P)
    → (told_to_come chain cut limit 0 now content ≡ (told, done)) ↔ IsTextOf text Fits gives now limit content told
told_text {S} {P} {W} {R} chain text Fits gives cut takes spells reads limit now content told = (to, from)
  where
    to : told_to_come chain cut limit 0 now content ≡ (told, done) → IsTextOf text Fits gives now limit content told
    to h =
        let found = parts_to_come chain cut limit 0 now content in
        let last : found.1 ≡ done = ap (λ (p : List P × End R). p.1) h in
        let w = done_written chain text Fits gives cut takes spells limit 0 now content found.0 (λ i. (found.0, last i)) in
        record {
          written = w.written;
          spelled = w.spelled;
          fit = w.fit;
          told_is = sym (ap (λ (p : List P × End R). p.0) h) ∙ ap all_told w.parts_are;
          below = omega (arith, w.below);
        }

    from : IsTextOf text Fits gives now limit content told → told_to_come chain cut limit 0 now content ≡ (told, done)
    from h =
        let parts = all_given gives now h.written in
        ap only_told (read_written chain text Fits gives cut takes spells limit reads 0 now content parts
        (record { written = h.written; spelled = h.spelled; fit = h.fit; parts_are = refl; below = omega (arith, h.below) }))
        ∙ ap (λ l. (l, done)) (sym h.told_is)
