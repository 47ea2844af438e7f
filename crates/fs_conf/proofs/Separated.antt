-- The fields of a text, and the text that they make.
use Rattle.fs_conf.proofs.Words.{◌≡◌, ℕ, ◌<◌, ◌≤◌, ◌==◌, Bool, true, false, if◌then◌else◌, List, [], ◌∷◌, ◌++◌, length, refl, sym, ap, ◌∙◌, arith}
use Rattle.fs_conf.proofs.Words.{eqb-true, ne_eqb, eq-eqb, true≢false, digit_value, list_any, AllDigits, begin_field, fields_of}
use Rattle.fs_base.proofs.Bools.{or_false}

-- fields that each follow a separator
abbrev pub each_after : ℕ → List (List ℕ) → List ℕ
each_after separator [] = []
each_after separator (field ∷ fields) = separator ∷ (field ++ each_after separator fields)

-- fields with separators between them
abbrev pub joined : ℕ → List (List ℕ) → List ℕ
joined separator [] = []
joined separator (field ∷ fields) = field ++ each_after separator fields

each_after-joined : (separator : ℕ) (fields : List (List ℕ)) → 0 < length fields → each_after separator fields ≡ separator ∷ joined separator fields
each_after-joined separator [] some = absurd (omega arith)
each_after-joined separator (field ∷ fields) some = refl

joined-begin_field : (separator octet : ℕ) (fields : List (List ℕ)) → joined separator (begin_field octet fields) ≡ octet ∷ joined separator fields
joined-begin_field separator octet [] = refl
joined-begin_field separator octet (field ∷ fields) = refl

begin_field_some : (octet : ℕ) (fields : List (List ℕ)) → 0 < length (begin_field octet fields)
begin_field_some octet [] = omega arith
begin_field_some octet (field ∷ fields) = omega arith

some_by_test : (b : Bool) (octet : ℕ) (fields : List (List ℕ)) → 0 < length (if b then [] ∷ fields else begin_field octet fields)
some_by_test true octet fields = omega arith
some_by_test false octet fields = begin_field_some octet fields

-- a text has one field or more
pub fields_some : (separator : ℕ) (text : List ℕ) → 0 < length (fields_of separator text)
fields_some separator [] = omega arith
fields_some separator (octet ∷ text) = some_by_test (octet == separator) octet (fields_of separator text)

joined_by_test : (b : Bool) (separator octet : ℕ) (fields : List (List ℕ)) → 0 < length fields → (b ≡ true → octet ≡ separator)
    → joined separator (if b then [] ∷ fields else begin_field octet fields) ≡ octet ∷ joined separator fields
joined_by_test true separator octet fields some same = rw (same refl) (each_after-joined separator fields some)
joined_by_test false separator octet fields some same = joined-begin_field separator octet fields

-- the fields make the text again
pub joined-fields_of : (separator : ℕ) (text : List ℕ) → joined separator (fields_of separator text) ≡ text
joined-fields_of separator [] = refl
joined-fields_of separator (octet ∷ text) =
    joined_by_test (octet == separator) separator octet (fields_of separator text) (fields_some separator text) (eqb-true octet separator)
    ∙ ap (λ rest. octet ∷ rest) (joined-fields_of separator text)

-- the octet doesn't stand in the text
abbrev pub Lacks : ℕ → List ℕ → Type 0
Lacks separator [] = Unit {0}
Lacks separator (octet ∷ text) = ((octet == separator) ≡ false) × Lacks separator text

pub Lacks-not_among : (separator : ℕ) (front rest : List ℕ) → Lacks separator (front ++ separator ∷ rest) → ⊥
Lacks-not_among separator [] rest h = true≢false (sym (eq-eqb separator separator refl) ∙ h.0)
Lacks-not_among separator (octet ∷ front) rest h = Lacks-not_among separator front rest h.1

pub Lacks-back : (separator : ℕ) (front rest : List ℕ) → Lacks separator (front ++ rest) → Lacks separator rest
Lacks-back separator [] rest h = h
Lacks-back separator (octet ∷ front) rest h = Lacks-back separator front rest h.1

-- an octet that is no digit doesn't stand among digits
pub Lacks-AllDigits : (separator radix : ℕ) (text : List ℕ) → radix ≤ digit_value separator → AllDigits radix text → Lacks separator text
Lacks-AllDigits separator radix [] none digits = tt
Lacks-AllDigits separator radix (octet ∷ text) none digits =
    (ne_eqb octet separator (λ same. omega (arith, ap digit_value same, digits.0)), Lacks-AllDigits separator radix text none digits.1)

-- one field, and one before a separator
pub fields_of-end : (separator : ℕ) (field : List ℕ) → Lacks separator field → fields_of separator field ≡ field ∷ []
fields_of-end separator [] h = refl
fields_of-end separator (octet ∷ field) h = rw (h.0, fields_of-end separator field h.1)

pub fields_of-append : (separator : ℕ) (field rest : List ℕ) → Lacks separator field
    → fields_of separator (field ++ separator ∷ rest) ≡ field ∷ fields_of separator rest
fields_of-append separator [] rest h = rw (eq-eqb separator separator refl)
fields_of-append separator (octet ∷ field) rest h = rw (h.0, fields_of-append separator field rest h.1)

pub Lacks-front : (separator : ℕ) (front rest : List ℕ) → Lacks separator (front ++ rest) → Lacks separator front
Lacks-front separator [] rest h = tt
Lacks-front separator (octet ∷ front) rest h = (h.0, Lacks-front separator front rest h.1)

pub Lacks-from_list_any : (separator : ℕ) (text : List ℕ) → list_any (λ octet. octet == separator) text ≡ false → Lacks separator text
Lacks-from_list_any separator [] h = tt
Lacks-from_list_any separator (octet ∷ text) h =
    let (here, later) = or_false (octet == separator) (list_any (λ o. o == separator) text) h in
    (here, Lacks-from_list_any separator text later)
