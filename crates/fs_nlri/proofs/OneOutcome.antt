-- No octet list has two outcomes.
use Rattle.fs_nlri.proofs.Words.{◌≡◌, ℕ, suc, ◌+◌, ◌<◌, ◌≤◌, List, [], ◌∷◌, ◌++◌, Option, Some, None, IsSome, IsNone, Result, Ok, Err, length, take}
use Rattle.fs_nlri.proofs.Words.{drop, refl, ap, sym, subst, ◌∙◌, arith, ◌⊎◌, inl, inr, append_assoc, length-append, length-take, true, false, ◌==◌}
use Rattle.fs_nlri.proofs.Words.{if◌then◌else◌, append-nil, take-append-drop, take_at, take_all, take-take, length-take-le, cases_order, both_ways}
use Rattle.fs_nlri.proofs.Words.{Family, IsOctets, NoFront, IsCut, IsFirstFault, one_fault, cut_or_fault, append_same, overlap, octets_left}
use Rattle.fs_nlri.proofs.Words.{octets_right, Kind, text, behind, no_list, Reason, Cut, NoType, Order, PrefixLength, Offset, Width, Length, Form}
use Rattle.fs_nlri.proofs.Words.{V4Form, V6Form, ListForm, form_of, Part, Ruled, Spells, IsValue, IsFrame, IsTypePlace, IsBodyPlace, IsRole, HasRole}
use Rattle.fs_nlri.proofs.Words.{IsValueBad, IsOpen, IsBadFrame, IsFrameBad, IsBody, Frames, IsFrameOutcome, IsFieldOutcome}
use Rattle.fs_nlri.proofs.{Bodies.{no_empty_body}, Fronts.{whole_front, front_behind}, ValueFaults.{opening}}
use Rattle.fs_nlri.proofs.{Frames.{one_rule, same_frame, frame_no_fault}, Reading.{frame_some}}

-- Before the octet of a role no body ends

none_at_zero : (form : Form) (tail : List ℕ) (offset : ℕ) → offset ≡ 0 → NoFront (IsBody form) (take offset tail)
none_at_zero form tail offset is n body =
    let empty : take n (take offset tail) ≡ [] = ap (λ (k : ℕ). take n (take k tail)) is ∙ take_all n [] (omega arith) in
    no_empty_body form (subst (IsBody form) empty body)

none_at_one : (tail : List ℕ) (offset : ℕ) → offset ≡ 1 → NoFront (IsBody V6Form) (take offset tail)
none_at_one tail offset is n body =
    let split : take n (take offset tail) ≡ body.spells.len ∷ body.spells.offset ∷ body.spells.pattern = body.spells.split in
    let size : length (take n (take offset tail)) ≡ suc (suc (length body.spells.pattern)) = ap length split in
    absurd (omega (arith, size, is, length-take n (take offset tail), length-take offset tail))

none_at_operator : (kind : Kind) (widths : List ℕ) (bits : Option ℕ) (tail : List ℕ) (offset : ℕ)
    → IsRole Width (ListForm kind widths bits) tail offset → NoFront (IsBody (ListForm kind widths bits)) (take offset tail)
none_at_operator kind widths bits tail offset role n body =
    let list = body.spells.spells in
    let front : take offset tail ≡ text role.before =
    ap (λ (l : List ℕ). take offset l) role.split ∙ ap (λ (k : ℕ). take k (text role.before ++ role.operator ∷ role.tail)) role.here
    ∙ take_at (text role.before) (role.operator ∷ role.tail) (length (text role.before)) refl in
    let joined : text list.written ++ drop n (take offset tail) ≡ text role.before ++ [] =
    ap (λ (l : List ℕ). l ++ drop n (take offset tail)) list.spelled ∙ take-append-drop n (take offset tail) ∙ front ∙ sym (append-nil (text role.before)) in
    let found = behind widths role.before list.written [] (drop n (take offset tail)) role.middle list.whole joined in
    no_list widths found.written (drop n (take offset tail)) found.whole found.spelled

-- the one role that an octet can have in a body, by its offset
abbrev role_at : Form → ℕ → Reason
role_at V4Form offset = PrefixLength
role_at V6Form offset = if offset == 0 then PrefixLength else Offset
role_at (ListForm kind widths bits) offset = Width

role_is : (reason : Reason) (form : Form) (tail : List ℕ) (offset : ℕ) → IsRole reason form tail offset
    → (reason ≡ role_at form offset) × NoFront (IsBody form) (take offset tail)
role_is PrefixLength V4Form tail offset role = (refl, none_at_zero V4Form tail offset role)
role_is PrefixLength V6Form tail offset role = (sym (ap (λ (n : ℕ). role_at V6Form n) role), none_at_zero V6Form tail offset role)
role_is Offset V6Form tail offset role = (sym (ap (λ (n : ℕ). role_at V6Form n) role), none_at_one tail offset role)
role_is Width (ListForm kind widths bits) tail offset role = (refl, none_at_operator kind widths bits tail offset role)
role_is _ _ tail offset role = absurd role

-- Whole components don't end between a type and the octet of a role behind it

record Later (family : Family) (octets : List ℕ) (front : List ℕ) : Type 0 where
  tail : List ℕ
  split : octets ≡ front ++ tail
  parts : List Part
  whole : Spells family 0 front parts

no_later : (family : Family) (octets : List ℕ) (start kind : ℕ) (form : Form) (offset : ℕ) (at : IsTypePlace family octets start kind)
    (front : List ℕ) → form_of family kind ≡ Some form → NoFront (IsBody form) (take offset at.tail) → Later family octets front → start < length front
    → length front ≤ start + 1 + offset → ⊥
no_later family octets start kind form offset at front is none later above below =
    let joined : at.front ++ kind ∷ at.tail ≡ front ++ later.tail = sym at.split ∙ later.split in
    let place : start ≡ length at.front = at.here in
    let found = overlap at.front (kind ∷ at.tail) front later.tail joined (omega arith) in
    let sizes : length front ≡ length at.front + length found.between = ap length found.front ∙ length-append at.front found.between in
    within found.between found.front found.rest sizes
  where
    within : (between : List ℕ) → front ≡ at.front ++ between → kind ∷ at.tail ≡ between ++ later.tail → length front ≡ length at.front + length between → ⊥
    within [] fronts rests sizes = let place : start ≡ length at.front = at.here in absurd (omega arith)
    within (own ∷ inner) fronts rests sizes =
        let heads : kind ≡ own = cc in
        let tails : at.tail ≡ inner ++ later.tail = cc in
        let ends = whole_front family 0 at.front at.before at.whole in
        let whole : Spells family 0 (at.front ++ own ∷ inner) later.parts = subst (λ (l : List ℕ). Spells family 0 l later.parts) fronts later.whole in
        let found = front_behind family 0 ends.end at.front (own ∷ inner) at.before later.parts ends.had whole in
        let begun = opening family ends.end own inner (record { parts = found.after; spells = found.spells }) in
        let forms : Some form ≡ Some begun.form = sym is ∙ ap (form_of family) heads ∙ begun.form_is in
        let same : form ≡ begun.form = cc in
        let body : IsBody form begun.body = subst (λ (f : Form). IsBody f begun.body) (sym same) begun.whole in
        let place : start ≡ length at.front = at.here in
        let fits : length inner ≤ offset = omega arith in
        let sizes : length inner ≡ length begun.body + length begun.rest = ap length begun.split ∙ length-append begun.body begun.rest in
        let shown : take (length begun.body) (take offset at.tail) ≡ begun.body =
        take-take (length begun.body) offset at.tail (omega arith)
        ∙ ap (λ (l : List ℕ). take (length begun.body) l) (tails ∙ ap (λ (l : List ℕ). l ++ later.tail) begun.split
        ∙ append_assoc begun.body begun.rest later.tail)
        ∙ take_at begun.body (begun.rest ++ later.tail) (length begun.body) refl in
        none (length begun.body) (subst (IsBody form) (sym shown) body)

-- two types in one place are one
record SameType (k l : ℕ) (s t : List ℕ) : Type 0 where
  kind : k ≡ l
  tail : s ≡ t

same_type : (family : Family) (octets : List ℕ) (p q k l : ℕ) (one : IsTypePlace family octets p k) (other : IsTypePlace family octets q l) → p ≡ q
    → SameType k l one.tail other.tail
same_type family octets p q k l one other same =
    let sizes : length one.front ≡ length other.front = sym one.here ∙ same ∙ other.here in
    let found = append_same one.front (k ∷ one.tail) other.front (l ∷ other.tail) sizes (sym one.split ∙ other.split) in
    let rests : k ∷ one.tail ≡ l ∷ other.tail = found.1 in
    record { kind = cc; tail = cc }

later_of : (family : Family) (octets : List ℕ) (place kind : ℕ) (at : IsTypePlace family octets place kind) → Later family octets at.front
later_of family octets place kind at = record { tail = kind ∷ at.tail; split = at.split; parts = at.before; whole = at.whole }

-- the place of a type isn't one within a body
type_or_body : (family : Family) (octets : List ℕ) (place kind : ℕ) (reason : Reason) → IsTypePlace family octets place kind
    → IsBodyPlace reason family octets place → ⊥
type_or_body family octets place kind reason at body =
    let ends : place ≡ length at.front = at.here in
    let here : place ≡ body.start + 1 + body.offset = body.here in
    no_later family octets body.start body.kind body.form body.offset body.component at.front body.form_is
    (role_is reason body.form body.component.tail body.offset body.role).1
    (later_of family octets place kind at) (omega arith) (omega arith)

-- two octets of a role in one place have one role
one_body : (family : Family) (octets : List ℕ) (place : ℕ) (one other : Reason) → IsBodyPlace one family octets place
    → IsBodyPlace other family octets place → one ≡ other
one_body family octets place one other a b =
    let here : place ≡ a.start + 1 + a.offset = a.here in
    let there : place ≡ b.start + 1 + b.offset = b.here in
    let front_a : a.start ≡ length a.component.front = a.component.here in
    let front_b : b.start ≡ length b.component.front = b.component.here in
    elim (cases_order a.start b.start) [
      | inl same ↦
          let types = same_type family octets a.start b.start a.kind b.kind a.component b.component same in
          let forms : Some a.form ≡ Some b.form = sym a.form_is ∙ ap (form_of family) types.kind ∙ b.form_is in
          let form : a.form ≡ b.form = cc in
          let offsets : a.offset ≡ b.offset = omega arith in
          let moved : IsRole one b.form b.component.tail b.offset =
          subst (λ (offset : ℕ). IsRole one b.form b.component.tail offset) offsets
          (subst (λ (tail : List ℕ). IsRole one b.form tail a.offset) types.tail (subst (λ (f : Form). IsRole one f a.component.tail a.offset) form a.role)) in
          (role_is one b.form b.component.tail b.offset moved).0 ∙ sym (role_is other b.form b.component.tail b.offset b.role).0
      | inr apart ↦ elim apart [
        | inl before ↦ absurd (no_later family octets a.start a.kind a.form a.offset a.component b.component.front a.form_is
            (role_is one a.form a.component.tail a.offset a.role).1
            (later_of family octets b.start b.kind b.component) (omega arith) (omega arith))
        | inr after ↦ absurd (no_later family octets b.start b.kind b.form b.offset b.component a.component.front b.form_is
            (role_is other b.form b.component.tail b.offset b.role).1
            (later_of family octets a.start a.kind a.component) (omega arith) (omega arith))
      ]
    ]

-- the reason of an octet in the place of a type
abbrev type_reason : Option Form → Reason
type_reason None = NoType
type_reason (Some form) = Order

none_reason : (o : Option Form) → IsNone o → NoType ≡ type_reason o
none_reason None is = refl
none_reason (Some form) is = absurd (both_ways true is refl)

some_reason : (o : Option Form) → IsSome o → Order ≡ type_reason o
some_reason None is = absurd (both_ways false refl is)
some_reason (Some form) is = refl

record TypeRole (family : Family) (octets : List ℕ) (place : ℕ) (reason : Reason) : Type 0 where
  kind : ℕ
  at : IsTypePlace family octets place kind
  is : reason ≡ type_reason (form_of family kind)

where_is : (reason : Reason) (family : Family) (octets : List ℕ) (place : ℕ) → HasRole reason family octets place
    → TypeRole family octets place reason ⊎ IsBodyPlace reason family octets place
where_is Cut family octets place role = absurd role
where_is NoType family octets place role = inl (record { kind = role.0; at = role.1; is = none_reason (form_of family role.0) role.2 })
where_is Order family octets place role = inl (record { kind = role.0; at = role.1; is = some_reason (form_of family role.0) role.2 })
where_is Length family octets place role = absurd role
where_is _ family octets place role = inr role

one_reason : (one other : Reason) (family : Family) (octets : List ℕ) (place : ℕ) → HasRole one family octets place
    → HasRole other family octets place → one ≡ other
one_reason one other family octets place a b =
    elim (where_is one family octets place a) [
      | inl p ↦ elim (where_is other family octets place b) [
        | inl q ↦
            let kinds = same_type family octets place place p.kind q.kind p.at q.at refl in
            p.is ∙ ap (λ (kind : ℕ). type_reason (form_of family kind)) kinds.kind ∙ sym q.is
        | inr q ↦ absurd (type_or_body family octets place p.kind other p.at q)
      ]
      | inr p ↦ elim (where_is other family octets place b) [
        | inl q ↦ absurd (type_or_body family octets place q.kind one q.at p)
        | inr q ↦ one_body family octets place one other p q
      ]
    ]

-- a faulty value is cut, or an octet of some role is the first fault
record CutValue (family : Family) (octets : List ℕ) (reason : Reason) (place : ℕ) : Type 0 where
  is : reason ≡ Cut
  cut : IsCut (IsValue family 0) octets place

record FaultyValue (family : Family) (octets : List ℕ) (reason : Reason) (place : ℕ) : Type 0 where
  fault : IsFirstFault (IsValue family 0) octets place
  role : HasRole reason family octets place

bad_is : (family : Family) (octets : List ℕ) (reason : Reason) (place : ℕ) → IsValueBad family octets reason place
    → CutValue family octets reason place ⊎ FaultyValue family octets reason place
bad_is family octets Cut place bad = inl (record { is = refl; cut = bad.0 })
bad_is family octets Length place bad = absurd bad
bad_is family octets _ place bad = inr (record { fault = bad.0; role = bad.1 })

pub record SameFault (one other : Reason) (p q : ℕ) : Type 0 where
  pub reason : one ≡ other
  pub place : p ≡ q

pub one_bad : (family : Family) (octets : List ℕ) (one other : Reason) (p q : ℕ) → IsOctets octets → IsValueBad family octets one p
    → IsValueBad family octets other q → SameFault one other p q
one_bad family octets one other p q are a b =
    elim (bad_is family octets one p a) [
      | inl cut ↦ elim (bad_is family octets other q b) [
        | inl also ↦ record { reason = cut.is ∙ sym also.is; place = cut.cut.at_end ∙ sym also.cut.at_end }
        | inr fault ↦ absurd (cut_or_fault (IsValue family 0) octets p q are cut.cut fault.fault)
      ]
      | inr fault ↦ elim (bad_is family octets other q b) [
        | inl cut ↦ absurd (cut_or_fault (IsValue family 0) octets q p are cut.cut fault.fault)
        | inr also ↦
            let places : p ≡ q = one_fault (IsValue family 0) octets p q are fault.fault also.fault in
            record { reason = one_reason one other family octets q (subst (HasRole one family octets) places fault.role) also.role; place = places }
      ]
    ]

-- Frames

record OpenFrame (octets : List ℕ) (reason : Reason) (place : ℕ) : Type 0 where
  is : reason ≡ Length
  partial : IsOpen octets
  here : place ≡ length octets

frame_is : (family : Family) (octets : List ℕ) (reason : Reason) (place : ℕ) → IsFrameBad family octets reason place
    → OpenFrame octets reason place ⊎ IsBadFrame family octets reason place
frame_is family octets Length place bad = inl (record { is = refl; partial = bad.0; here = bad.1 })
frame_is family octets _ place bad = inr bad

pub one_frame_bad : (family : Family) (octets : List ℕ) (one other : Reason) (p q : ℕ) → IsOctets octets → IsFrameBad family octets one p
    → IsFrameBad family octets other q → SameFault one other p q
one_frame_bad family octets one other p q are a b =
    elim (frame_is family octets one p a) [
      | inl open_a ↦ elim (frame_is family octets other q b) [
        | inl open_b ↦ record { reason = open_a.is ∙ sym open_b.is; place = open_a.here ∙ sym open_b.here }
        | inr bad ↦ absurd (open_a.partial bad.head bad.value bad.rest bad.size bad.split)
      ]
      | inr bad ↦ elim (frame_is family octets other q b) [
        | inl open_b ↦ absurd (open_b.partial bad.head bad.value bad.rest bad.size bad.split)
        | inr also ↦
            let found = same_frame bad.head also.head bad.value also.value bad.rest also.rest bad.size also.size (sym bad.split ∙ also.split) in
            let inside : IsOctets bad.value = octets_left bad.value bad.rest (octets_right bad.head (bad.value ++ bad.rest) (subst IsOctets bad.split are)) in
            one_bad family bad.value one other p q inside bad.bad (subst (λ (value : List ℕ). IsValueBad family value other q) (sym found.value) also.bad)
      ]
    ]

bad_result : {A : Type 0} (one other : Reason) (p q : ℕ) → SameFault one other p q → ◌≡◌ {A = Result A (Reason × ℕ)} (Err (one, p)) (Err (other, q))
bad_result {A} one other p q same =
    ap (λ (reason : Reason). let result : Result A (Reason × ℕ) = Err (reason, p) in result) same.reason
    ∙ ap (λ (place : ℕ). let result : Result A (Reason × ℕ) = Err (other, place) in result) same.place

pub one_frame_outcome : (family : Family) (octets : List ℕ) (one other : Result (Ruled × ℕ) (Reason × ℕ)) → IsOctets octets
    → IsFrameOutcome family octets one → IsFrameOutcome family octets other → one ≡ other
one_frame_outcome family octets (Ok a) (Ok b) are first second =
    let found = one_rule a.0 b.0 (take a.1 octets) (take b.1 octets) (drop a.1 octets) (drop b.1 octets) (first.1 ∙ sym second.1) first.2 second.2
    (take-append-drop a.1 octets ∙ sym (take-append-drop b.1 octets)) in
    let sizes : a.1 ≡ b.1 = sym (length-take-le a.1 octets first.0) ∙ ap length found.frame ∙ length-take-le b.1 octets second.0 in
    ap (λ (rule : Ruled). let result : Result (Ruled × ℕ) (Reason × ℕ) = Ok (rule, a.1) in result) found.rule
    ∙ ap (λ (n : ℕ). let result : Result (Ruled × ℕ) (Reason × ℕ) = Ok (b.0, n) in result) sizes
one_frame_outcome family octets (Ok a) (Err bad) are first second =
    absurd (frame_no_fault family octets (take a.1 octets) (drop a.1 octets) a.0 bad.0 bad.1 are (sym (take-append-drop a.1 octets)) first.1 first.2 second)
one_frame_outcome family octets (Err bad) (Ok b) are first second =
    absurd (frame_no_fault family octets (take b.1 octets) (drop b.1 octets) b.0 bad.0 bad.1 are (sym (take-append-drop b.1 octets)) second.1 second.2 first)
one_frame_outcome family octets (Err bad) (Err also) are first second =
    bad_result bad.0 also.0 bad.1 also.1 (one_frame_bad family octets bad.0 also.0 bad.1 also.1 are first second)

-- Fields

-- what stands behind the frames: nothing, or octets with a fault
abbrev IsEnd : Family → List ℕ → Option (Reason × ℕ) → Type 0
IsEnd family rest None = rest ≡ []
IsEnd family rest (Some bad) = (rest ≡ [] → ⊥) × IsFrameBad family rest bad.0 bad.1

one_end : (family : Family) (rest : List ℕ) (one other : Option (Reason × ℕ)) → IsOctets rest → IsEnd family rest one → IsEnd family rest other → one ≡ other
one_end family rest None None are a b = refl
one_end family rest None (Some bad) are a b = absurd (b.0 a)
one_end family rest (Some bad) None are a b = absurd (a.0 b)
one_end family rest (Some bad) (Some also) are a b =
    let same = one_frame_bad family rest bad.0 also.0 bad.1 also.1 are a.1 b.1 in
    ap (λ (reason : Reason). let end : Option (Reason × ℕ) = Some (reason, bad.1) in end) same.reason
    ∙ ap (λ (place : ℕ). let end : Option (Reason × ℕ) = Some (also.0, place) in end) same.place

-- where a frame stands, the octets neither end nor have a fault
no_end : (family : Family) (rest frame more : List ℕ) (rule : Ruled) (end : Option (Reason × ℕ)) → IsOctets rest → IsEnd family rest end
    → rule.family ≡ family → IsFrame frame rule → rest ≡ frame ++ more → ⊥
no_end family rest frame more rule None are end families is split = frame_some frame rule is (front_empty frame more (sym split ∙ end)) where
  front_empty : (front more : List ℕ) → front ++ more ≡ [] → front ≡ []
  front_empty [] more none = refl
  front_empty (octet ∷ front) more none = cc
no_end family rest frame more rule (Some bad) are end families is split = frame_no_fault family rest frame more rule bad.0 bad.1 are split families is end.1

record SameField (a b : List Ruled) (one other : Option (Reason × ℕ)) : Type 0 where
  rules : a ≡ b
  end : one ≡ other

one_field : (family : Family) (f s g t : List ℕ) (a b : List Ruled) (one other : Option (Reason × ℕ)) → IsOctets (f ++ s) → Frames family f a
    → Frames family g b → IsEnd family s one → IsEnd family t other → f ++ s ≡ g ++ t → SameField a b one other
one_field family f s g t [] [] one other are frames also ends too same =
    let rests : s ≡ t = sym (ap (λ (l : List ℕ). l ++ s) frames) ∙ same ∙ ap (λ (l : List ℕ). l ++ t) also in
    record {
      rules = refl;
      end = one_end family t one other (subst IsOctets rests (octets_right f s are))
          (subst (λ (l : List ℕ). IsEnd family l one) rests ends) too;
    }
one_field family f s g t [] (rule ∷ b) one other are frames (frame, rest, split, families, is, also) ends too same =
    absurd (no_end family s frame (rest ++ t) rule one (octets_right f s are) ends families is
    (sym (ap (λ (l : List ℕ). l ++ s) frames) ∙ same ∙ ap (λ (l : List ℕ). l ++ t) split ∙ append_assoc frame rest t))
one_field family f s g t (rule ∷ a) [] one other are (frame, rest, split, families, is, frames) also ends too same =
    absurd (no_end family t frame (rest ++ s) rule other (octets_right g t (subst IsOctets same are)) too families is
    (sym (ap (λ (l : List ℕ). l ++ t) also) ∙ sym same ∙ ap (λ (l : List ℕ). l ++ s) split ∙ append_assoc frame rest s))
one_field family f s g t (rule ∷ a) (own ∷ b) one other are (frame, rest, split, families, is, frames) (
  first,
  more,
  own_split,
  own_families,
  own_is,
  also,
) ends too same =
    let left : f ++ s ≡ frame ++ (rest ++ s) = ap (λ (l : List ℕ). l ++ s) split ∙ append_assoc frame rest s in
    let right : g ++ t ≡ first ++ (more ++ t) = ap (λ (l : List ℕ). l ++ t) own_split ∙ append_assoc first more t in
    let found = one_rule rule own frame first (rest ++ s) (more ++ t) (families ∙ sym own_families) is own_is (sym left ∙ same ∙ right) in
    let later = one_field family rest s more t a b one other (octets_right frame (rest ++ s) (subst IsOctets left are)) frames also ends too found.rest in
    record { rules = ap (λ (r : Ruled). r ∷ a) found.rule ∙ ap (λ (l : List Ruled). own ∷ l) later.rules; end = later.end }

abbrev outcome_of : List Ruled → Option (Reason × ℕ) → Result (List Ruled) (Reason × ℕ)
outcome_of rules None = Ok rules
outcome_of rules (Some bad) = Err bad

-- an outcome as frames and an end
record Parted (family : Family) (octets : List ℕ) (outcome : Result (List Ruled) (Reason × ℕ)) : Type 0 where
  front : List ℕ
  rest : List ℕ
  rules : List Ruled
  end : Option (Reason × ℕ)
  frames : Frames family front rules
  ends : IsEnd family rest end
  split : octets ≡ front ++ rest
  is : outcome ≡ outcome_of rules end

parted : (family : Family) (octets : List ℕ) (outcome : Result (List Ruled) (Reason × ℕ)) → IsFieldOutcome family octets outcome → Parted family octets outcome
parted family octets (Ok rules) holds =
    record { front = octets; rest = []; rules = rules; end = None; frames = holds; ends = refl; split = sym (append-nil octets); is = refl }
parted family octets (Err bad) holds =
    record {
      front = holds.front;
      rest = holds.rest;
      rules = holds.rules;
      end = Some bad;
      frames = holds.frames;
      ends =
          (holds.some, holds.bad);
      split = holds.split;
      is = refl;
    }

pub one_field_outcome : (family : Family) (octets : List ℕ) (one other : Result (List Ruled) (Reason × ℕ)) → IsOctets octets
    → IsFieldOutcome family octets one → IsFieldOutcome family octets other → one ≡ other
one_field_outcome family octets one other are first second =
    let a = parted family octets one first in
    let b = parted family octets other second in
    let same = one_field family a.front a.rest b.front b.rest a.rules b.rules a.end b.end (subst IsOctets a.split are) a.frames b.frames a.ends b.ends
    (sym a.split ∙ b.split) in
    a.is ∙ ap (λ (rules : List Ruled). outcome_of rules a.end) same.rules ∙ ap (λ (end : Option (Reason × ℕ)). outcome_of b.rules end) same.end ∙ sym b.is

-- What the reader of a field has found: the rules of the frames before what is left
