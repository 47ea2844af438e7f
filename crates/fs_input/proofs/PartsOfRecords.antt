-- Laws of the parts that a reader reads.
use Rattle.std.proofs.Common.{length-drop}
use Rattle.fs_input.proofs.Words.{◌≡◌, ℕ, Bool, List, [], ◌∷◌, ◌++◌, Some, None, ◌≤◌, ◌+◌, ◌-◌, length, take, drop, refl, ap, sym, ◌∙◌, arith}
use Rattle.fs_input.proofs.Words.{append_assoc, subst, nat_le, length-take, IsOctets, at_limit, window, with_part, octets_right, all_end, all_parts}
use Rattle.fs_input.proofs.Words.{all_step, limit_behind, window_behind, AllFrom, At, Fitting, ReadsText, Reader, Shrinks, SpellsText, at, judged}
use Rattle.fs_input.proofs.Words.{octets_before, parts_from, text_from, to_come}

-- where no part stands there are none, and the reader stays
pub parts_end : {S A : Type 0} (next : Reader S A) (now : At S) → next now ≡ None → parts_from next now ≡ ([], now)
unfolding parts_from
parts_end next now h = all_end octets_before next now h

-- where a part stands it is the first, and the others are those behind it
pub parts_step : {S A : Type 0} (next : Reader S A) → Shrinks next → (now : At S) (found : A × At S)
    → next now ≡ Some found → parts_from next now ≡ with_part found.0 (parts_from next found.1)
unfolding parts_from
parts_step next shrinks now found h = all_step octets_before next shrinks now found h

-- what holds where no part stands, and of a part and those behind it where it holds of these, holds of all parts
pub parts_all : {S A : Type 0} (next : Reader S A) → Shrinks next → (P : At S → List A × At S → Type 0)
    → ((now : At S) → next now ≡ None → P now ([], now))
    → ((now : At S) (found : A × At S) → next now ≡ Some found → P found.1 (parts_from next found.1)
    → P now (with_part found.0 (parts_from next found.1)))
    → (now : At S) → P now (parts_from next now)
unfolding parts_from
parts_all next shrinks P none more now = all_parts octets_before next shrinks P none more now

-- the state behind these parts
abbrev pub state_behind : {S A : Type 0} → (S → A → S) → S → List A → S
state_behind after state [] = state
state_behind after state (part ∷ parts) = state_behind after (after state part) parts

-- what was written of a list of parts is read back as that list
pub parts_spelled : {S A : Type 0} (next : Reader S A) (text : S → A → List ℕ) (Fits : S → A → Type 0) (after : S → A → S)
    → Shrinks next → ((state : S) → next (at state []) ≡ None) → ReadsText next text Fits after
    → (state : S) (items : List A) → AllFrom Fits after state items
    → parts_from next (at state (text_from text after state items)) ≡ (items, at (state_behind after state items) [])
parts_spelled next text Fits after shrinks none reads state [] all = parts_end next (at state []) (none state)
parts_spelled next text Fits after shrinks none reads state (item ∷ items) all =
    let rest = text_from text after (after state item) items in
    parts_step next shrinks (at state (text state item ++ rest)) (item, at (after state item) rest) (reads state item rest all.0)
    ∙ ap (with_part item) (parts_spelled next text Fits after shrinks none reads (after state item) items all.1)

-- the octets are the texts of these parts, each of which fits, and what is left
abbrev pub AreRead : {S A : Type 0} → (S → A → List ℕ) → (S → A → Type 0) → (S → A → S) → At S → List A × At S → Type 0
AreRead text Fits after now parts =
    (now.octets ≡ text_from text after now.state parts.0 ++ parts.1.octets) × AllFrom Fits after now.state parts.0

one_read : {S A : Type 0} (text : S → A → List ℕ) (Fits : S → A → Type 0) (after : S → A → S) (now : At S) (found : A × At S)
    (parts : List A × At S)
    → (now.octets ≡ text now.state found.0 ++ found.1.octets) × Fits now.state found.0 × (found.1.state ≡ after now.state found.0)
    → AreRead text Fits after found.1 parts → AreRead text Fits after now (with_part found.0 parts)
one_read text Fits after now found parts first later =
    let behind = subst
    (λ state. (found.1.octets ≡ text_from text after state parts.0 ++ parts.1.octets) × AllFrom Fits after state parts.0)
    first.2 later in (
      first.0 ∙ ap (λ rest. text now.state found.0 ++ rest) behind.0
          ∙ sym (append_assoc (text now.state found.0) (text_from text after (after now.state found.0) parts.0) parts.1.octets),
      (first.1, behind.1),
    )

-- octets are the texts of their parts, and what is left
pub parts_read : {S A : Type 0} (next : Reader S A) (text : S → A → List ℕ) (Fits : S → A → Type 0) (after : S → A → S)
    → Shrinks next → SpellsText next text Fits after → (now : At S) → IsOctets now.octets
    → AreRead text Fits after now (parts_from next now)
parts_read {S} {A} next text Fits after shrinks spells =
    parts_all next shrinks (λ now parts. IsOctets now.octets → AreRead text Fits after now parts) (λ now h are. (refl, tt))
    (λ now found h later are.
    let first = spells now found are h in
    one_read text Fits after now found (parts_from next found.1) first
    (later (octets_right (text now.state found.0) found.1.octets (subst IsOctets first.0 are))))

fit_step : {S A : Type 0} (Fits : S → A → Type 0) (after : S → A → S) (state : S) (part : A) (behind : S) (parts : List A)
    → Fits state part × (behind ≡ after state part) → AllFrom Fits after behind parts → AllFrom Fits after state (part ∷ parts)
fit_step Fits after state part behind parts first later = (first.0, subst (λ s. AllFrom Fits after s parts) first.1 later)

-- what holds of each part that is read holds of all of them, along the states
pub coming_fit : {S A E : Type 0} (next : Reader S A) (stop : Bool → ℕ → At S → E) (Fits : S → A → Type 0) (after : S → A → S)
    → Shrinks next → Fitting next Fits after
    → (limit taken : ℕ) (now : At S) → AllFrom Fits after now.state (to_come next stop limit taken now).0
unfolding to_come
coming_fit next stop Fits after shrinks fits limit taken now =
    parts_all next shrinks (λ now parts. AllFrom Fits after now.state parts.0) (λ now h. tt)
    (λ now found h later. fit_step Fits after now.state found.0 found.1.state (parts_from next found.1).0 (fits now found h) later)
    (judged limit taken now)

-- no part stands in what is judged: only the end is to come
pub to_come_end : {S A E : Type 0} (next : Reader S A) (stop : Bool → ℕ → At S → E) (limit taken : ℕ) (now : At S)
    → next (judged limit taken now) ≡ None
    → to_come next stop limit taken now ≡ ([], stop (at_limit limit taken now.octets) taken (judged limit taken now))
unfolding to_come
to_come_end next stop limit taken now h =
    let octets = window limit taken now.octets in
    let place : taken + length octets - length octets ≡ taken = omega arith in
    rw (parts_end next (judged limit taken now) h, place) refl

-- a part stands there, of `n` octets: it comes first, and then what is to come behind these octets
pub to_come_step : {S A E : Type 0} (next : Reader S A) (stop : Bool → ℕ → At S → E) → Shrinks next
    → (limit taken : ℕ) (now : At S) (part : A) (state : S) (n : ℕ)
    → n ≤ length (window limit taken now.octets)
    → next (judged limit taken now) ≡ Some (part, at state (drop n (window limit taken now.octets)))
    → to_come next stop limit taken now ≡ with_part part (to_come next stop limit (taken + n) (at state (drop n now.octets)))
unfolding to_come
to_come_step next stop shrinks limit taken now part state n a h =
    let left = now.octets in
    let within : n ≤ limit - taken = omega (arith, length-take (limit - taken) left) in
    let had : n ≤ length left = omega (arith, length-take (limit - taken) left) in
    let behind : take (limit - (taken + n)) (drop n left) ≡ drop n (take (limit - taken) left) = window_behind limit taken n left within in
    let limited : nat_le (limit - (taken + n)) (length (drop n left)) ≡ nat_le (limit - taken) (length left) =
    limit_behind limit taken n left within had in
    let place : taken + n + length (drop n (take (limit - taken) left)) ≡ taken + length (take (limit - taken) left) =
    omega (arith, length-drop n (take (limit - taken) left)) in
    rw (parts_step next shrinks (judged limit taken now) (part, at state (drop n (take (limit - taken) left))) h, behind, limited, place) refl
