-- Frames: one at most stands at the front of octets, and what its reader has found says what it answers.
use Rattle.fs_nlri.proofs.Words.{◌≡◌, ℕ, ◌+◌, ◌-◌, ◌*◌, ◌<◌, ◌≤◌, List, [], ◌∷◌, ◌++◌, Result, Ok, Err, IfOk, IfErr, length, take, drop, refl, ap}
use Rattle.fs_nlri.proofs.Words.{sym, subst, ◌∙◌, arith, append_assoc, append-nil, take-append-drop, take_rest, length-take-le, Family, IsOctets}
use Rattle.fs_nlri.proofs.Words.{fault_whole, append_same, octets_left, octets_right, octets_take, octets_drop, Reason, Cut, NoType, Order}
use Rattle.fs_nlri.proofs.Words.{PrefixLength, Offset, Width, Length, NlriFault, Bad, Memory, Part, Ruled, ruled, Spells, IsValue, IsLength, IsFrame}
use Rattle.fs_nlri.proofs.Words.{IsValueBad, IsValueFault, IsBadFrame, IsFrameBad, IsFrameFault, ReadsAs, IsRule, canonical_value}
use Rattle.fs_nlri.proofs.{Fronts.{whole_front, front_behind}, NormalForm.{kept_value}}
use Rattle.std.proofs.Math.Seq.{take-add}

-- a value spells one list of components at most
pub one_value : (family : Family) (last : ℕ) (octets : List ℕ) (one other : List Part) → Spells family last octets one
    → Spells family last octets other → one ≡ other
one_value family last octets one other spells also =
    let front = whole_front family last octets one spells in
    let found = front_behind family last front.end octets [] one other front.had
    (subst (λ (l : List ℕ). Spells family last l other) (sym (append-nil octets)) also) in
    let none : found.after ≡ [] = nothing_left front.end found.after found.spells in
    sym (found.split ∙ ap (λ (l : List Part). one ++ l) none ∙ append-nil one)
  where
    nothing_left : (end : ℕ) (after : List Part) → Spells family end [] after → after ≡ []
    nothing_left end [] spells = refl
    nothing_left end (part ∷ parts) (body, rest, split, rises, spelled, spells) = cc

-- two lengths at the front of one list are one
pub record SameHead (one other : List ℕ) (m n : ℕ) (s t : List ℕ) : Type 0 where
  pub head : one ≡ other
  pub size : m ≡ n
  pub rest : s ≡ t

pub same_head : (one other : List ℕ) (m n : ℕ) (s t : List ℕ) → IsLength one m → IsLength other n → one ++ s ≡ other ++ t → SameHead one other m n s t
same_head [] other m n s t is also same = absurd is
same_head (a ∷ []) [] m n s t is also same = absurd also
same_head (a ∷ []) (b ∷ []) m n s t is also same =
    let heads : a ≡ b = cc in
    let tails : s ≡ t = cc in
    record { head = ap (λ (x : ℕ). x ∷ []) heads; size = is.1 ∙ heads ∙ sym also.1; rest = tails }
same_head (a ∷ []) (b ∷ c ∷ []) m n s t is also same =
    let heads : a ≡ b = cc in
    let small : a < 240 = is.0 in
    let large : 240 ≤ b = also.0 in
    absurd (omega arith)
same_head (a ∷ []) (b ∷ c ∷ d ∷ more) m n s t is also same = absurd also
same_head (a ∷ b ∷ []) [] m n s t is also same = absurd also
same_head (a ∷ b ∷ []) (c ∷ []) m n s t is also same =
    let heads : a ≡ c = cc in
    let small : c < 240 = also.0 in
    let large : 240 ≤ a = is.0 in
    absurd (omega arith)
same_head (a ∷ b ∷ []) (c ∷ d ∷ []) m n s t is also same =
    let firsts : a ≡ c = cc in
    let seconds : b ≡ d = cc in
    let tails : s ≡ t = cc in
    record {
      head = ap (λ (x : ℕ). x ∷ b ∷ []) firsts ∙ ap (λ (y : ℕ). c ∷ y ∷ []) seconds;
      size = is.3 ∙ ap (λ (x : ℕ). (x - 240) * 256 + b) firsts ∙ ap (λ (y : ℕ). (c - 240) * 256 + y) seconds ∙ sym also.3;
      rest = tails;
    }
same_head (a ∷ b ∷ []) (c ∷ d ∷ e ∷ more) m n s t is also same = absurd also
same_head (a ∷ b ∷ c ∷ more) other m n s t is also same = absurd is

-- two frames at the front of one list have the same value
pub record SameFrame (one other v w s t : List ℕ) : Type 0 where
  pub head : one ≡ other
  pub value : v ≡ w
  pub rest : s ≡ t

pub same_frame : (one other v w s t : List ℕ) → IsLength one (length v) → IsLength other (length w) → one ++ (v ++ s) ≡ other ++ (w ++ t)
    → SameFrame one other v w s t
same_frame one other v w s t is also same =
    let heads = same_head one other (length v) (length w) (v ++ s) (w ++ t) is also same in
    let values = append_same v s w t heads.size heads.rest in
    record { head = heads.head; value = values.0; rest = values.1 }

-- a length says at most 4095
pub length_small : (head : List ℕ) (len : ℕ) → IsLength head len → len ≤ 4095
length_small [] len is = absurd is
length_small (a ∷ []) len is = let small : a < 240 = is.0 in let e : len ≡ a = is.1 in omega arith
length_small (a ∷ b ∷ []) len is =
    let first : a < 256 = is.1 in
    let second : b < 256 = is.2 in
    let e : len ≡ (a - 240) * 256 + b = is.3 in
    omega arith
length_small (a ∷ b ∷ c ∷ more) len is = absurd is

-- what spells a rule is no faulty value
pub bad_no_value : (family : Family) (octets : List ℕ) (reason : Reason) (place : ℕ) → IsOctets octets → IsValueBad family octets reason place
    → IsValue family 0 octets → ⊥
bad_no_value family octets Cut place are bad value = bad.1 value
bad_no_value family octets NoType place are bad value = fault_whole (IsValue family 0) octets place are bad.0 value
bad_no_value family octets Order place are bad value = fault_whole (IsValue family 0) octets place are bad.0 value
bad_no_value family octets PrefixLength place are bad value = fault_whole (IsValue family 0) octets place are bad.0 value
bad_no_value family octets Offset place are bad value = fault_whole (IsValue family 0) octets place are bad.0 value
bad_no_value family octets Width place are bad value = fault_whole (IsValue family 0) octets place are bad.0 value
bad_no_value family octets Length place are bad value = bad

-- The reader

-- what stands behind the head, as the code takes it
behind_head : (octets : List ℕ) (head len : ℕ) → take len (take (length octets - head) (drop head octets)) ≡ take len (drop head octets)
behind_head octets head len = ap (λ (l : List ℕ). take len l) (take_rest octets head)

value_length : (octets : List ℕ) (head len : ℕ) → len ≤ length (take (length octets - head) (drop head octets))
    → length (take len (take (length octets - head) (drop head octets))) ≡ len
value_length octets head len room = length-take-le len (take (length octets - head) (drop head octets)) room

pub frame_found : (family : Family) (octets : List ℕ) (head len : ℕ) (parts : List Part) → IsLength (take head octets) len
    → len ≤ length (take (length octets - head) (drop head octets)) → Spells family 0 (take len (take (length octets - head) (drop head octets))) parts
    → IsFrame (take (head + len) octets) (ruled family parts)
frame_found family octets head len parts is room spells = record {
  head = take head octets;
  value = take len (take (length octets - head) (drop head octets));
  split = take-add head len octets ∙ ap (λ (l : List ℕ). take head octets ++ l) (sym (behind_head octets head len));
  size = subst (λ (n : ℕ). IsLength (take head octets) n) (sym (value_length octets head len room)) is;
  spells = spells;
}

pub frame_bad : (family : Family) (octets : List ℕ) (head len : ℕ) (fault : NlriFault) → IsLength (take head octets) len
    → len ≤ length (take (length octets - head) (drop head octets))
    → IsValueFault family (take len (take (length octets - head) (drop head octets))) fault → IsFrameFault family octets fault
frame_bad family octets head len Memory is room bad = tt
frame_bad family octets head len (Bad reason place) is room bad = by_reason reason bad where
  behind : List ℕ
  behind = take (length octets - head) (drop head octets)

  bad_frame : (reason : Reason) → IsValueBad family (take len behind) reason place → IsBadFrame family octets reason place
  bad_frame reason bad = record {
    head = take head octets;
    value = take len behind;
    rest = drop len behind;
    split = sym (ap (λ (l : List ℕ). take head octets ++ l) (take-append-drop len behind ∙ take_rest octets head) ∙ take-append-drop head octets);
    size = subst (λ (n : ℕ). IsLength (take head octets) n) (sym (value_length octets head len room)) is;
    bad = bad;
  }

  by_reason : (reason : Reason) → IsValueBad family (take len behind) reason place → IsFrameBad family octets reason place
  by_reason Length bad = absurd bad
  by_reason reason bad = bad_frame reason bad

pub frame_rule : (family : Family) (octets : List ℕ) (head len : ℕ) (parts : List Part) → IsOctets octets → IsLength (take head octets) len
    → len ≤ length (take (length octets - head) (drop head octets)) → Spells family 0 (take len (take (length octets - head) (drop head octets))) parts
    → IsRule (ruled family parts)
frame_rule family octets head len parts are is room spells =
    let value = take len (take (length octets - head) (drop head octets)) in
    let kept = kept_value family 0 value parts
    (octets_take len (take (length octets - head) (drop head octets))
    (octets_take (length octets - head) (drop head octets) (octets_drop head octets are))) spells in
    let small : len ≤ 4095 = length_small (take head octets) len is in
    let size : length (canonical_value parts) ≡ len = kept.size ∙ value_length octets head len room in
    record { normal = kept.normal; fits = omega (arith, small, size) }

-- whatever follows, a frame of a rule is read as the rule

same_ruled : (a b : Ruled) → a.family ≡ b.family → a.parts ≡ b.parts → a ≡ b
same_ruled a b families parts = ap (λ (family : Family). ruled family a.parts) families ∙ ap (λ (l : List Part). ruled b.family l) parts

frame_text : (frame rest head value : List ℕ) → frame ≡ head ++ value → frame ++ rest ≡ head ++ (value ++ rest)
frame_text frame rest head value split = ap (λ (l : List ℕ). l ++ rest) split ∙ append_assoc head value rest

pub record SameRule (one other : Ruled) (f g s t : List ℕ) : Type 0 where
  pub rule : one ≡ other
  pub frame : f ≡ g
  pub rest : s ≡ t

-- one rule at most of a family has a frame at the front
pub one_rule : (one other : Ruled) (f g s t : List ℕ) → one.family ≡ other.family → IsFrame f one → IsFrame g other → f ++ s ≡ g ++ t
    → SameRule one other f g s t
one_rule one other f g s t families is also same =
    let found = same_frame is.head also.head is.value also.value s t is.size also.size
    (sym (frame_text f s is.head is.value is.split) ∙ same ∙ frame_text g t also.head also.value also.split) in
    let values : also.value ≡ is.value = sym found.value in
    let spells : Spells one.family 0 is.value other.parts =
    subst (λ (family : Family). Spells family 0 is.value other.parts) (sym families)
    (subst (λ (l : List ℕ). Spells other.family 0 l other.parts) values also.spells) in
    record {
      rule = same_ruled one other families (one_value one.family 0 is.value one.parts other.parts is.spells spells);
      frame = is.split ∙ ap (λ (l : List ℕ). l ++ is.value) found.head ∙ ap (λ (l : List ℕ). also.head ++ l) found.value ∙ sym also.split;
      rest = found.rest;
    }

-- octets that begin with a frame of a rule have no fault
pub frame_no_fault : (family : Family) (octets frame rest : List ℕ) (rule : Ruled) (reason : Reason) (place : ℕ) → IsOctets octets
    → octets ≡ frame ++ rest → rule.family ≡ family → IsFrame frame rule → IsFrameBad family octets reason place → ⊥
frame_no_fault family octets frame rest rule reason place are split families is bad = by_reason reason bad where
  text : octets ≡ is.head ++ (is.value ++ rest)
  text = split ∙ frame_text frame rest is.head is.value is.split

  not_bad : (reason : Reason) → IsBadFrame family octets reason place → ⊥
  not_bad reason bad =
      let found = same_frame bad.head is.head bad.value is.value bad.rest rest bad.size is.size (sym bad.split ∙ text) in
      let inside : IsOctets bad.value = octets_left bad.value bad.rest (octets_right bad.head (bad.value ++ bad.rest) (subst IsOctets bad.split are)) in
      bad_no_value family bad.value reason place inside bad.bad (record {
        parts = rule.parts;
        spells = subst (λ (own : Family). Spells own 0 bad.value rule.parts) families
            (subst (λ (l : List ℕ). Spells rule.family 0 l rule.parts) (sym found.value) is.spells);
      })

  by_reason : (reason : Reason) → IsFrameBad family octets reason place → ⊥
  by_reason Length bad = bad.0 is.head is.value rest is.size text
  by_reason reason bad = not_bad reason bad

abbrev pub IsRead : Family → List ℕ → Result (Ruled × ℕ) NlriFault → Type 0
IsRead family octets (Ok read) = (read.1 ≤ length octets) × (read.0.family ≡ family) × IsFrame (take read.1 octets) read.0
IsRead family octets (Err fault) = IsFrameFault family octets fault

pub is_read : (family : Family) (octets : List ℕ) (result : Result (Ruled × ℕ) NlriFault) → IfOk result (λ read. read.1 ≤ length octets)
    → IfOk result (λ read. read.0.family ≡ family) → IfOk result (λ read. IsFrame (take read.1 octets) read.0)
    → IfErr result (IsFrameFault family octets) → IsRead family octets result
is_read family octets (Ok read) taken same found fault = (taken, same, found)
is_read family octets (Err bad) taken same found fault = fault

pub only_read : (family : Family) (octets : List ℕ) (result : Result (Ruled × ℕ) NlriFault) → IsOctets octets → IsRead family octets result
    → (frame rest : List ℕ) (rule : Ruled) → octets ≡ frame ++ rest → rule.family ≡ family → IsFrame frame rule → ReadsAs frame rule result
only_read family octets (Ok read) are is frame rest rule split families whole =
    let found = one_rule read.0 rule (take read.1 octets) frame (drop read.1 octets) rest (is.1
    ∙ sym families) is.2 whole (take-append-drop read.1 octets ∙ split) in
    (found.rule, sym (length-take-le read.1 octets is.0) ∙ ap length found.frame)
only_read family octets (Err Memory) are is frame rest rule split families whole = tt
only_read family octets (Err (Bad reason place)) are is frame rest rule split families whole =
    frame_no_fault family octets frame rest rule reason place are split families whole is
