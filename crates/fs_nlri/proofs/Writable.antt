use Rattle.fs_nlri.proofs.Words.{◌≡◌, ℕ, zero, suc, ◌+◌, ◌-◌, ◌*◌, ◌/◌, ◌^◌, ◌<◌, ◌≤◌, List, [], ◌∷◌, ◌++◌, Option, Some, None, All, length, take}
use Rattle.fs_nlri.proofs.Words.{refl, ap, sym, subst, ◌∙◌, arith, length-append, div-lt_iff_lt-mul, pow-suc, pow-add, pow_pos, take_at, take-take}
use Rattle.fs_nlri.proofs.Words.{All-nil, All-cons, Family, block_of, block_below, Component, Form, V4Form, V6Form, form_of, Body, V4Body, V6Body}
use Rattle.fs_nlri.proofs.Words.{ListBody, part_of, parts_of, IsNormalBody, IsNormalAt, AreNormal, IsWritable}

-- That the components of a rule can be written, and what stays in front while they are.

writable_body : (form : Form) (body : Body) → IsNormalBody form body → IsWritable body
writable_body form (ListBody pairs) normal = tt
writable_body V4Form (V4Body family len bits) normal = (normal.1, block_below 32 len bits (block_of 32 len bits normal.1 normal.2))
writable_body V6Form (V6Body len offset pattern) normal = normal.0.0
writable_body _ _ normal = absurd normal

writable_at : (form : Option Form) (body : Body) → IsNormalAt form body → IsWritable body
writable_at None body normal = absurd normal
writable_at (Some form) body normal = writable_body form body normal

pub all_writable : (family : Family) (last : ℕ) (components : List Component) → AreNormal family last (parts_of components)
    → All (λ (component : Component). IsWritable (part_of component).body) components
all_writable family last [] normal = All-nil (λ (component : Component). IsWritable (part_of component).body)
all_writable family last (component ∷ components) normal =
    All-cons (λ (c : Component). IsWritable (part_of c).body) component components
    (writable_at (form_of family (part_of component).kind) (part_of component).body normal.1)
    (all_writable family (part_of component).kind components normal.2)

-- a count of octets and what it holds
pow_octets : (n : ℕ) → 256 ^ n ≡ 2 ^ (8 * n)
pow_octets zero = refl
pow_octets (suc n) =
    let more : 8 * suc n ≡ 8 * n + 8 = omega arith in
    let wide = pow-add 2 (8 * n) 8 in
    pow-suc 256 n ∙ ap (λ (k : ℕ). k * 256) (pow_octets n) ∙ sym wide ∙ ap (λ (k : ℕ). 2 ^ k) (sym more)

pub high_octets_fit : (number width count : ℕ) → 8 * count ≤ width → number < 2 ^ width → number / 2 ^ (width - 8 * count) < 256 ^ count
high_octets_fit number width count room fits =
    let whole : 8 * count + (width - 8 * count) ≡ width = omega arith in
    let split : 2 ^ width ≡ 256 ^ count * 2 ^ (width - 8 * count) =
    ap (λ (k : ℕ). 2 ^ k) (sym whole) ∙ pow-add 2 (8 * count) (width - 8 * count) ∙ ap (λ (k : ℕ). k * 2 ^ (width - 8 * count)) (sym (pow_octets count)) in
    (div-lt_iff_lt-mul (pow_pos (width - 8 * count))).1 (subst (λ (k : ℕ). number < k) split fits)

-- what stood in front still stands there
pub front_kept : (old middle new more : List ℕ) (n m : ℕ) → n ≡ length old → m ≡ length middle → middle ≡ old ++ more → take m new ≡ middle → take n new ≡ old
front_kept old middle new more n m sized counted grown kept =
    let le : n ≤ m = let size : length middle ≡ length old + length more = ap length grown ∙ length-append old more in omega arith in
    sym (take-take n m new le) ∙ ap (λ (l : List ℕ). take n l) (kept ∙ grown) ∙ take_at old more n (sym sized)
