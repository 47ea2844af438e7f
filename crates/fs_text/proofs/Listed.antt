-- Components by their names, and what is read of their words.
use Rattle.fs_text.proofs.Words.{◌≡◌, ℕ, ◌<◌, ◌≤◌, ◌==◌, zero, suc, List, [], ◌∷◌, Bool, true, false, Option, Some, None, Result, Ok, Err, refl, sym}
use Rattle.fs_text.proofs.Words.{ap, subst, ◌∙◌, arith, inr, option_map, IfOk, eqb-true, none-some, same_Some, nat_tests, Family, V4, V6, Kind}
use Rattle.fs_text.proofs.Words.{Numeric, Bitmask, IsNormal, Component, body_of, part_of, ListForm, form_of, fragment_bits, prefix_form, Body, V4Body}
use Rattle.fs_text.proofs.Words.{V6Body, ListBody, Part, part, IsNormalAt, IsNormalBody, list_text, body_text, component_name, list_kind, value_text}
use Rattle.fs_text.proofs.Words.{Reads}
use Rattle.fs_text.specs.Components.{Compared, HasType, IsPart, Loosely, Matched, last_type}
use Rattle.fs_nlri.specs.declared.component.PrefixForm.{PrefixForm}
use Rattle.fs_ops.specs.Fault.{all_widths}

-- a list of a type
pub record IsListed (kind : ℕ) (body : Body) : Type 0 where
  pub pairs : List (ℕ × ℕ)
  pub body_is : body ≡ ListBody pairs
  pub normal : IsNormal (list_kind kind) pairs
  pub low : 2 < kind
  pub high : kind ≤ 13

listed_at : (kind : ℕ) (k : Kind) (widths : List ℕ) (kept : Option ℕ) (body : Body) → list_kind kind ≡ k → 2 < kind → kind ≤ 13
    → IsNormalBody (ListForm k widths kept) body → IsListed kind body
listed_at kind k widths kept (V4Body family len bits) same low high is = absurd is
listed_at kind k widths kept (V6Body len offset pattern) same low high is = absurd is
listed_at kind k widths kept (ListBody pairs) same low high is = record {
  pairs = pairs;
  body_is = refl;
  normal = subst (λ (q : Kind). IsNormal q pairs) (sym same) is.0;
  low = low;
  high = high;
}

pub listed : (family : Family) (kind : ℕ) (body : Body) → IsNormalAt (form_of family kind) body → (kind ≡ 1 → ⊥) → (kind ≡ 2 → ⊥) → IsListed kind body
listed family zero body is no_first no_second = absurd is
listed family (suc zero) body is no_first no_second = absurd (no_first refl)
listed family (suc (suc zero)) body is no_first no_second = absurd (no_second refl)
listed family (suc (suc (suc zero))) body is no_first no_second = listed_at 3 Numeric all_widths None body refl (omega arith) (omega arith) is
listed family (suc (suc (suc (suc zero)))) body is no_first no_second = listed_at 4 Numeric all_widths None body refl (omega arith) (omega arith) is
listed family (suc (suc (suc (suc (suc zero))))) body is no_first no_second = listed_at 5 Numeric all_widths None body refl (omega arith) (omega arith) is
listed family (suc (suc (suc (suc (suc (suc zero)))))) body is no_first no_second = listed_at 6 Numeric all_widths None body refl (omega arith) (omega arith) is
listed family (suc (suc (suc (suc (suc (suc (suc zero))))))) body is no_first no_second =
    listed_at 7 Numeric all_widths None body refl (omega arith) (omega arith) is
listed family (suc (suc (suc (suc (suc (suc (suc (suc zero)))))))) body is no_first no_second =
    listed_at 8 Numeric all_widths None body refl (omega arith) (omega arith) is
listed family (suc (suc (suc (suc (suc (suc (suc (suc (suc zero))))))))) body is no_first no_second =
    listed_at 9 Bitmask (0 ∷ 1 ∷ []) None body refl (omega arith) (omega arith) is
listed family (suc (suc (suc (suc (suc (suc (suc (suc (suc (suc zero)))))))))) body is no_first no_second =
    listed_at 10 Numeric all_widths None body refl (omega arith) (omega arith) is
listed family (suc (suc (suc (suc (suc (suc (suc (suc (suc (suc (suc zero))))))))))) body is no_first no_second =
    listed_at 11 Numeric (0 ∷ []) (Some 0x3f) body refl (omega arith) (omega arith) is
listed family (suc (suc (suc (suc (suc (suc (suc (suc (suc (suc (suc (suc zero)))))))))))) body is no_first no_second =
    listed_at 12 Bitmask (0 ∷ []) (Some (fragment_bits family)) body refl (omega arith) (omega arith) is
listed V4 (suc (suc (suc (suc (suc (suc (suc (suc (suc (suc (suc (suc (suc zero))))))))))))) body is no_first no_second = absurd is
listed V6 (suc (suc (suc (suc (suc (suc (suc (suc (suc (suc (suc (suc (suc zero))))))))))))) body is no_first no_second =
    listed_at 13 Numeric all_widths None body refl (omega arith) (omega arith) is
listed V4 (suc (suc (suc (suc (suc (suc (suc (suc (suc (suc (suc (suc (suc (suc kind)))))))))))))) body is no_first no_second = absurd is
listed V6 (suc (suc (suc (suc (suc (suc (suc (suc (suc (suc (suc (suc (suc (suc kind)))))))))))))) body is no_first no_second = absurd is

-- what is matched is what is compared, where clearing changes nothing in normal form
pub compared_of : {E : Type 0} (family : Family) (name word : List ℕ) (given own : Part) (r : Result (Option Component) E)
    → IsNormalAt (form_of family own.kind) own.body → (IsNormalAt (form_of family given.kind) given.body → own ≡ given)
    → IfOk r (Matched name word own) → IfOk r (Compared family name word given)
compared_of family name word given own (Err error) normal same h = tt
compared_of family name word given own (Ok None) normal same h = λ is told.
    let e : own ≡ given = same is.normal in
    h (ap (λ (p : Part). component_name p.kind) e ∙ is.named) (told ∙ ap value_text (sym e))
compared_of family name word given own (Ok (Some component)) normal same h = (
  record {
    normal = subst (λ (p : Part). IsNormalAt (form_of family p.kind) p.body) (sym h.0) normal;
    named = ap (λ (p : Part). component_name p.kind) h.0 ∙ h.1;
  },
  h.2 ∙ ap value_text (sym h.0),
)

-- a list that is read loosely
pub listed_loosely : (family : Family) (kind : ℕ) (word : List ℕ) (read : Option Component) → 2 < kind
    → ((pairs : List (ℕ × ℕ)) → 2 < kind → kind ≤ 13 → IsNormal (list_kind kind) pairs → word ≡ list_text (list_kind kind) pairs
    → option_map part_of read ≡ Some (part kind (ListBody pairs)))
    → Loosely family kind word read
listed_loosely family kind word read above loose own same normal told =
    subst (λ (k : ℕ). Lists k → option_map part_of read ≡ Some own) same (
    λ lists.
    let l : IsListed own.kind own.body =
    listed family own.kind own.body normal (λ e. absurd (omega (arith, e, same, above))) (λ e. absurd (omega (arith, e, same, above))) in
    lists l.pairs l.low l.high l.normal (told ∙ ap (body_text own.kind) l.body_is)
    ∙ ap (λ (b : Body). let made : Option Part = Some (part own.kind b) in made) (sym l.body_is)
    ) loose
  where
    Lists : ℕ → Type 0
    Lists k =
        (pairs : List (ℕ × ℕ)) → 2 < k → k ≤ 13 → IsNormal (list_kind k) pairs → word ≡ list_text (list_kind k) pairs
        → option_map part_of read ≡ Some (part k (ListBody pairs))

pub lists_loosely : {E : Type 0} (family : Family) (kind : ℕ) (word : List ℕ) (r : Result (Option Component) E) → 2 < kind
    → IfOk r (λ read. (pairs : List (ℕ × ℕ)) → 2 < kind → kind ≤ 13 → IsNormal (list_kind kind) pairs → word ≡ list_text (list_kind kind) pairs
    → option_map part_of read ≡ Some (part kind (ListBody pairs)))
    → IfOk r (Loosely family kind word)
lists_loosely family kind word (Ok read) above loose = listed_loosely family kind word read above loose
lists_loosely family kind word (Err error) above loose = tt

pub prefix_normal : (family : Family) (kind : ℕ) (body : Body) → kind ≤ 2 → IsNormalAt (form_of family kind) body → IsNormalBody (prefix_form family) body
prefix_normal family zero body high is = absurd is
prefix_normal family (suc zero) body high is = is
prefix_normal family (suc (suc zero)) body high is = is
prefix_normal family (suc (suc (suc kind))) body high is = absurd (omega (arith, high))

pub prefix_text : (family : Family) (kind : ℕ) (body : Body) → IsNormalBody (prefix_form family) body → body_text kind body ≡ body_text 1 body
prefix_text V4 kind (V4Body f len bits) is = refl
prefix_text V4 kind (V6Body len offset pattern) is = refl
prefix_text V4 kind (ListBody pairs) is = absurd is
prefix_text V6 kind (V4Body f len bits) is = refl
prefix_text V6 kind (V6Body len offset pattern) is = refl
prefix_text V6 kind (ListBody pairs) is = absurd is

-- the same of a prefix
pub prefixed_loosely : (family : Family) (kind : ℕ) (word : List ℕ) (form : Option PrefixForm) (read : Option Component) → kind ≤ 2
    → ((body : Body) → IsNormalBody (prefix_form family) body → word ≡ body_text 1 body → option_map body_of form ≡ Some body)
    → ((body : Body) → option_map body_of form ≡ Some body → option_map part_of read ≡ Some (part kind body))
    → Loosely family kind word read
prefixed_loosely family kind word form read high loose made own same normal told =
    let is : IsNormalBody (prefix_form family) own.body = prefix_normal family own.kind own.body (omega (arith, high, same)) normal in
    made own.body (loose own.body is (told ∙ prefix_text family own.kind own.body is))
    ∙ ap (λ (k : ℕ). let whole : Option Part = Some (part k own.body) in whole) (sym same)

-- the types of the family
pub low_type : (family : Family) (kind : ℕ) (body : Body) → IsNormalAt (form_of family kind) body → 1 ≤ kind
low_type family zero body is = absurd is
low_type family (suc kind) body is = omega arith

pub at_most : (family : Family) (kind : ℕ) (body : Body) → IsNormalAt (form_of family kind) body → kind ≤ 13
at_most family zero body is = omega arith
at_most family (suc zero) body is = omega arith
at_most family (suc (suc zero)) body is = omega arith
at_most family (suc (suc (suc kind))) body is =
    let l : IsListed (suc (suc (suc kind))) body =
    listed family (suc (suc (suc kind))) body is (λ e. absurd (omega (arith, e))) (λ e. absurd (omega (arith, e))) in
    l.high

no_label : (kind : ℕ) (body : Body) → IsNormalAt (form_of V4 kind) body → kind ≡ 13 → ⊥
no_label kind body is e = let none : IsNormalAt (form_of V4 13) body = subst (λ (k : ℕ). IsNormalAt (form_of V4 k) body) e is in none

high_type : (family : Family) (kind : ℕ) (body : Body) → IsNormalAt (form_of family kind) body → kind ≤ last_type family
high_type V4 kind body is = by (kind == 13) refl
  where
    by : (b : Bool) → (kind == 13) ≡ b → kind ≤ 12
    by true e = absurd (no_label kind body is (eqb-true kind 13 e))
    by false e = let high : kind ≤ 13 = at_most V4 kind body is in grind (arith, nat_tests, e, high)
high_type V6 kind body is = at_most V6 kind body is

-- what may stand behind a type
record IsSome (family : Family) (kind : ℕ) : Type 0 where
  pub body : Body
  pub normal : IsNormalAt (form_of family kind) body

numbers : IsNormal Numeric ((129, 0) ∷ [])
numbers = record { normal = (record { clear = refl; fits = omega arith }, refl); first = refl }

masks : IsNormal Bitmask ((129, 0) ∷ [])
masks = record { normal = (record { clear = refl; fits = omega arith }, refl); first = refl }

some_of : (family : Family) (kind : ℕ) → 1 ≤ kind → kind ≤ last_type family → IsSome family kind
some_of family zero low high = absurd (omega (arith, low))
some_of V4 (suc zero) low high = record { body = V4Body V4 0 0; normal = (refl, omega arith, refl) }
some_of V4 (suc (suc zero)) low high = record { body = V4Body V4 0 0; normal = (refl, omega arith, refl) }
some_of V6 (suc zero) low high = record { body = V6Body 0 0 0; normal = ((omega arith, inr (refl, refl)), refl) }
some_of V6 (suc (suc zero)) low high = record { body = V6Body 0 0 0; normal = ((omega arith, inr (refl, refl)), refl) }
some_of family (suc (suc (suc zero))) low high = record { body = ListBody ((129, 0) ∷ []); normal = (numbers, refl, refl) }
some_of family (suc (suc (suc (suc zero)))) low high = record { body = ListBody ((129, 0) ∷ []); normal = (numbers, refl, refl) }
some_of family (suc (suc (suc (suc (suc zero))))) low high = record { body = ListBody ((129, 0) ∷ []); normal = (numbers, refl, refl) }
some_of family (suc (suc (suc (suc (suc (suc zero)))))) low high = record { body = ListBody ((129, 0) ∷ []); normal = (numbers, refl, refl) }
some_of family (suc (suc (suc (suc (suc (suc (suc zero))))))) low high = record { body = ListBody ((129, 0) ∷ []); normal = (numbers, refl, refl) }
some_of family (suc (suc (suc (suc (suc (suc (suc (suc zero)))))))) low high = record { body = ListBody ((129, 0) ∷ []); normal = (numbers, refl, refl) }
some_of family (suc (suc (suc (suc (suc (suc (suc (suc (suc zero))))))))) low high = record { body = ListBody ((129, 0) ∷ []); normal = (masks, refl, refl) }
some_of family (suc (suc (suc (suc (suc (suc (suc (suc (suc (suc zero)))))))))) low high =
    record { body = ListBody ((129, 0) ∷ []); normal = (numbers, refl, refl) }
some_of family (suc (suc (suc (suc (suc (suc (suc (suc (suc (suc (suc zero))))))))))) low high =
    record { body = ListBody ((129, 0) ∷ []); normal = (numbers, refl, refl) }
some_of V4 (suc (suc (suc (suc (suc (suc (suc (suc (suc (suc (suc (suc zero)))))))))))) low high =
    record { body = ListBody ((129, 0) ∷ []); normal = (masks, refl, refl) }
some_of V6 (suc (suc (suc (suc (suc (suc (suc (suc (suc (suc (suc (suc zero)))))))))))) low high =
    record { body = ListBody ((129, 0) ∷ []); normal = (masks, refl, refl) }
some_of V4 (suc (suc (suc (suc (suc (suc (suc (suc (suc (suc (suc (suc (suc kind))))))))))))) low high = absurd (omega (arith, high))
some_of V6 (suc (suc (suc (suc (suc (suc (suc (suc (suc (suc (suc (suc (suc zero))))))))))))) low high =
    record { body = ListBody ((129, 0) ∷ []); normal = (numbers, refl, refl) }
some_of V6 (suc (suc (suc (suc (suc (suc (suc (suc (suc (suc (suc (suc (suc (suc kind)))))))))))))) low high = absurd (omega (arith, high))

pub type_named : (family : Family) (name : List ℕ) (kind : ℕ) → 1 ≤ kind → kind ≤ last_type family → component_name kind ≡ name
    → ((k : ℕ) → 1 ≤ k → k ≤ 13 → component_name k ≡ name → kind ≡ k) → HasType family name kind
type_named family name kind low high named kinds =
    let some : IsSome family kind = some_of family kind low high in
    record {
      body = some.body;
      named = record { normal = some.normal; named = named };
      only = λ own is. sym (kinds own.kind (low_type family own.kind own.body is.normal) (at_most family own.kind own.body is.normal) is.named);
    }

-- no component has the name where the type of that name isn't the family's
pub not_named : (family : Family) (name : List ℕ) (kind : ℕ) → ((k : ℕ) → 1 ≤ k → k ≤ 13 → component_name k ≡ name → kind ≡ k)
    → (kind ≤ last_type family → component_name kind ≡ name → ⊥) → (own : Part) → IsPart family name own → ⊥
not_named family name kind kinds none own is =
    let same : kind ≡ own.kind = kinds own.kind (low_type family own.kind own.body is.normal) (at_most family own.kind own.body is.normal) is.named in
    none (subst (λ (k : ℕ). k ≤ last_type family) (sym same) (high_type family own.kind own.body is.normal)) (ap component_name same ∙ is.named)

-- the component of this name and word is the one that was read loosely
told : (family : Family) (name word : List ℕ) (kind : ℕ) (read : Option Component)
    → ((k : ℕ) → 1 ≤ k → k ≤ 13 → component_name k ≡ name → kind ≡ k) → Loosely family kind word read
    → (own : Part) → IsPart family name own → word ≡ value_text own → option_map part_of read ≡ Some own
told family name word kind read kinds loose own is word_is =
    loose own (sym (kinds own.kind (low_type family own.kind own.body is.normal) (at_most family own.kind own.body is.normal) is.named)) is.normal word_is

pub none_read : (family : Family) (name word : List ℕ) (kind : ℕ) (read : Option Component) → read ≡ None
    → ((k : ℕ) → 1 ≤ k → k ≤ 13 → component_name k ≡ name → kind ≡ k) → Loosely family kind word read
    → (own : Part) → IsPart family name own → word ≡ value_text own → ⊥
none_read family name word kind read none kinds loose own is word_is =
    let e : option_map part_of read ≡ Some own = told family name word kind read kinds loose own is word_is in
    let n : option_map part_of read ≡ None = ap (option_map part_of) none in
    none-some own (sym n ∙ e)

pub some_read : {E : Type 0} (family : Family) (name word : List ℕ) (kind : ℕ) (read : Option Component) (given : Component) (r : Result (Option Component) E)
    → read ≡ Some given → ((k : ℕ) → 1 ≤ k → k ≤ 13 → component_name k ≡ name → kind ≡ k) → Loosely family kind word read
    → IfOk r (Compared family name word (part_of given)) → IfOk r (λ q. Reads (IsPart family name) value_text word (option_map part_of q))
some_read family name word kind read given (Err error) some kinds loose h = tt
some_read family name word kind read given (Ok (Some own)) some kinds loose h = (
  h.0,
  h.1,
  λ other is word_is.
      same_Some _ _ (sym (told family name word kind read kinds loose other is word_is) ∙ told family name word kind read kinds loose (part_of own) h.0 h.1),
)
some_read family name word kind read given (Ok None) some kinds loose h = λ own is word_is.
    let e : option_map part_of read ≡ Some own = told family name word kind read kinds loose own is word_is in
    let g : option_map part_of read ≡ Some (part_of given) = ap (option_map part_of) some in
    let same : part_of given ≡ own = same_Some _ _ (sym g ∙ e) in
    h (subst (IsPart family name) (sym same) is) (word_is ∙ ap value_text (sym same))
