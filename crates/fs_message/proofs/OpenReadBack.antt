-- Our own OPEN is read as what it says.
use Rattle.fs_message.proofs.Words.{◌≡◌, ◌≢◌, ℕ, ◌^◌, ◌<◌, ◌==◌, ◌||◌, ◌&&◌, Bool, true, false, not, nat_lt, List, [], ◌∷◌, ◌++◌, drop, get_or}
use Rattle.fs_message.proofs.Words.{length, ◌-◌, Option, Some, None, Result, Ok, Err, refl, ap, ◌∙◌, arith, if◌then◌else◌, flat_map, list_all}
use Rattle.fs_message.proofs.Words.{byte_at, nat_tests, big_number, big_bytes, big_number-reads_back, with_part, parts_of, parts_step, parts_end}
use Rattle.fs_message.proofs.Words.{MessageFault, Open, fault, Field, field, first_field, fields_of, is_capability, is_parameter, are_parameters}
use Rattle.fs_message.proofs.Words.{capabilities_of, fields_fault, opened, open_of, as_field, family_text, open_body}
use Rattle.fs_message.proofs.CapabilityLists.{field_shrinks, fields_chain, fields_right, tail}
use Rattle.fs_message.specs.Laws.{own_open}
use Rattle.fs_base.proofs.NumberTests.{eq_itself, not_zero}

-- the capabilities of our OPEN, with the octets of the AS
abbrev caps : ℕ → ℕ → ℕ → ℕ → List ℕ
caps a b c d = family_text 1 1 ++ (family_text 1 133 ++ (family_text 2 1 ++ (family_text 2 133 ++ (65 ∷ 4 ∷ a ∷ b ∷ c ∷ d ∷ []))))

abbrev own_fields : ℕ → ℕ → ℕ → ℕ → List Field
own_fields a b c d =
    field 1 (0 ∷ 1 ∷ 0 ∷ 1 ∷ []) ∷ field 1 (0 ∷ 1 ∷ 0 ∷ 133 ∷ []) ∷ field 1 (0 ∷ 2 ∷ 0 ∷ 1 ∷ []) ∷ field 1 (0 ∷ 2 ∷ 0 ∷ 133 ∷ [])
    ∷ field 65 (a ∷ b ∷ c ∷ d ∷ []) ∷ []

nothing_left : parts_of first_field [] ≡ ([], [])
nothing_left = parts_end first_field [] refl

one_field : (octets behind : List ℕ) (given : Field) (fields : List Field) → first_field octets ≡ Some (given, behind)
    → parts_of first_field behind ≡ (fields, [])
    → parts_of first_field octets ≡ (given ∷ fields, [])
one_field octets behind given fields h rest =
    parts_step first_field field_shrinks octets (given, behind) h ∙ ap (λ (parts : List Field × List ℕ). with_part given parts) rest

own_caps : (a b c d : ℕ) → parts_of first_field (caps a b c d) ≡ (own_fields a b c d, [])
own_caps a b c d =
    one_field _ _ (field 1 (0 ∷ 1 ∷ 0 ∷ 1 ∷ [])) _ refl
    (one_field _ _ (field 1 (0 ∷ 1 ∷ 0 ∷ 133 ∷ [])) _ refl
    (one_field _ _ (field 1 (0 ∷ 2 ∷ 0 ∷ 1 ∷ [])) _ refl
    (one_field _ _ (field 1 (0 ∷ 2 ∷ 0 ∷ 133 ∷ [])) _ refl
    (one_field _ _ (field 65 (a ∷ b ∷ c ∷ d ∷ [])) _ refl nothing_left))))

own_parameter : (a b c d : ℕ) → parts_of first_field (2 ∷ 30 ∷ caps a b c d) ≡ (field 2 (caps a b c d) ∷ [], [])
own_parameter a b c d = one_field _ _ (field 2 (caps a b c d)) _ refl nothing_left

are_own : (a b c d : ℕ) → are_parameters (2 ∷ 30 ∷ caps a b c d) ≡ true
are_own a b c d =
    ap (λ (parts : List Field × List ℕ). (length parts.1 == 0) && list_all is_parameter parts.0) (own_parameter a b c d)
    ∙ ap (λ (parts : List Field × List ℕ). ((length parts.1 == 0) && list_all is_capability parts.0) && true) (own_caps a b c d)

own_are : (a b c d : ℕ) → capabilities_of (2 ∷ 30 ∷ caps a b c d) ≡ own_fields a b c d
own_are a b c d =
    ap (λ (parts : List Field × List ℕ). flat_map (λ (parameter : Field). fields_of parameter.value) parts.0) (own_parameter a b c d)
    ∙ ap (λ (parts : List Field × List ℕ). parts.0 ++ []) (own_caps a b c d)

as_small : (asn : ℕ) → as_field asn < 256 ^ 2
as_small asn = at (nat_lt 65535 asn) refl
  where
    at : (b : Bool) → nat_lt 65535 asn ≡ b → (if b then 23456 else asn) < 256 ^ 2
    at true h = omega arith
    at false h = grind (arith, nat_tests)

as_some : (asn : ℕ) → 0 < asn → (as_field asn == 0) ≡ false
as_some asn some = at (nat_lt 65535 asn)
  where
    at : (b : Bool) → ((if b then 23456 else asn) == 0) ≡ false
    at true = refl
    at false = grind (arith, nat_tests)

small_is : (n : ℕ) → n ≢ 1 → n ≢ 2 → ((n == 1) || (n == 2)) ≡ false
small_is n one two = grind (arith, nat_tests)

unnamed_chain : (version asn hold id size : Bool) → version ≡ true → asn ≡ false → hold ≡ false → id ≡ true
    → fields_chain version asn hold id size ≡ Some (fault 2 3)
unnamed_chain version asn hold id size a b c d = rw (a, b, c, d) refl

module _ (asn hold_time id : ℕ) (small : asn < 2 ^ 32) (timed : hold_time < 2 ^ 16) (named : id < 2 ^ 32) where
  as_read : big_number 2 (drop 1 (open_body asn hold_time id)) ≡ as_field asn
  as_read = big_number-reads_back 2 (as_field asn) (drop 3 (open_body asn hold_time id)) (as_small asn)

  hold_read : big_number 2 (drop 3 (open_body asn hold_time id)) ≡ hold_time
  hold_read = big_number-reads_back 2 hold_time (drop 5 (open_body asn hold_time id)) (omega (arith, timed))

  id_read : big_number 4 (drop 5 (open_body asn hold_time id)) ≡ id
  id_read = big_number-reads_back 4 id (drop 9 (open_body asn hold_time id)) (omega (arith, named))

  asn_read : big_number 4 (big_bytes 4 asn) ≡ asn
  asn_read = big_number-reads_back 4 asn [] (omega (arith, small))

  abbrev answer : ℕ → ℕ → ℕ → Result Open MessageFault
  answer asn' hold_time' id' =
      if not (asn' == asn) then Err (fault 2 2)
      else Ok (record {
        asn = asn;
        hold_time = hold_time';
        id = id';
        four = true;
        v4_unicast = true;
        v4_flow = true;
        v6_unicast = true;
        v6_flow = true;
      })

  pub open_read : 0 < asn → hold_time ≢ 1 → hold_time ≢ 2 → 0 < id
      → open_of asn (open_body asn hold_time id) ≡ Ok (own_open asn hold_time id)
  open_read own one two some =
      let body : List ℕ = open_body asn hold_time id in
      let right : fields_fault body ≡ None =
      fields_right (get_or body 0 0 == 4) (big_number 2 (drop 1 body) == 0) ((big_number 2 (drop 3 body) == 1) || (big_number 2 (drop 3 body) == 2))
      (big_number 4 (drop 5 body) == 0) (get_or body 9 0 == length body - 10)
      refl (ap (λ (n : ℕ). n == 0) as_read ∙ as_some asn own) (ap (λ (n : ℕ). (n == 1) || (n == 2)) hold_read ∙ small_is hold_time one two)
      (ap (λ (n : ℕ). n == 0) id_read ∙ not_zero id some) refl in
      let a : ℕ = byte_at 3 asn in
      let b : ℕ = byte_at 2 asn in
      let c : ℕ = byte_at 1 asn in
      let d : ℕ = byte_at 0 asn in
      ap (λ (z : Option MessageFault). tail z (are_parameters (drop 10 body)) (opened asn body (capabilities_of (drop 10 body)))) right
      ∙ ap (λ (z : Bool). tail None z (opened asn body (capabilities_of (drop 10 body)))) (are_own a b c d)
      ∙ ap (λ (z : List Field). opened asn body z) (own_are a b c d)
      ∙ ap (λ (n : ℕ). answer n (big_number 2 (drop 3 body)) (big_number 4 (drop 5 body))) asn_read
      ∙ ap (λ (n : ℕ). answer asn n (big_number 4 (drop 5 body))) hold_read
      ∙ ap (λ (n : ℕ). answer asn hold_time n) id_read
      ∙ ap (λ (z : Bool). if not z then Err (fault 2 2) else Ok (own_open asn hold_time id)) (eq_itself asn)

  pub open_unnamed : 0 < asn → hold_time ≢ 1 → hold_time ≢ 2 → id ≡ 0
      → open_of asn (open_body asn hold_time id) ≡ Err (fault 2 3)
  open_unnamed own one two none =
      let body : List ℕ = open_body asn hold_time id in
      let wrong : fields_fault body ≡ Some (fault 2 3) =
      unnamed_chain (get_or body 0 0 == 4) (big_number 2 (drop 1 body) == 0) ((big_number 2 (drop 3 body) == 1) || (big_number 2 (drop 3 body) == 2))
      (big_number 4 (drop 5 body) == 0) (get_or body 9 0 == length body - 10)
      refl (ap (λ (n : ℕ). n == 0) as_read ∙ as_some asn own) (ap (λ (n : ℕ). (n == 1) || (n == 2)) hold_read ∙ small_is hold_time one two)
      (ap (λ (n : ℕ). n == 0) (id_read ∙ none)) in
      ap (λ (z : Option MessageFault). tail z (are_parameters (drop 10 body)) (opened asn body (capabilities_of (drop 10 body)))) wrong
