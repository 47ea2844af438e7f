-- How what is counted record by record is what is said of them all, and what is said of a dump.
use Rattle.std.specs.{Prelude.{filter, nat_lt, not, slice_index_or, slice_set}, List.{AllByRecursion, position_or_len}}
use Rattle.std.proofs.lemmas.Bool.Decides.{nat_tests}
use Rattle.fs_base.specs.declared.config.Address.{Address, TheVariants.{V4, V6}}
use Rattle.fs_input.specs.{Records.{limited, bad}, declared.fault.Fault.{Fault, TheVariants.{Read, Limit, Bad}}}
use Rattle.fs_mrt.specs.Notes.{NotedState, noted_none, notes_coming, notes_of, notes_to_come, same_note}
use Rattle.fs_mrt.specs.{Peers.{is_same}, declared.notes.Note.{Note, TheVariants.{Skipped, Spoke}}}
use Rattle.cmd_convert.proofs.Words.{◌≡◌, ◌≤◌, ◌<◌, ◌++◌, ◌∙◌, ◌∷◌, ◌+◌, ◌==◌, ℕ, Bool, true, false, if◌then◌else◌, List, [], Option, Some, None}
use Rattle.cmd_convert.proofs.Words.{Result, Ok, Err, inl, inr, length, refl, ap, sym, subst, arith, append-nil, append_assoc, End, done, DumpReason}
use Rattle.cmd_convert.proofs.Words.{Config, Refusal, Outside}
use Rattle.std.specs.Prelude.{◌&&◌, suc}
use Rattle.cmd_stages.specs.{Load.{Names, config_stage}, Refusal.{Found, Verdict, or_stop, verdict_with}, Said.{Says}, declared.said.Said.{Said}}
use Rattle.cmd_convert.specs.Survey.{Counts, SaysEnd, accepted_verdict, all_noted, content_verdict, count_of, counts_of, counts_text}
use Rattle.cmd_convert.specs.Survey.{dump_fault_line, dump_verdict, ended_verdict, has_note, is_other, note_count, note_place, notes_verdict}
use Rattle.cmd_convert.specs.Survey.{one_more, weight, with_note}
use Rattle.cmd_convert.specs.declared.counts.NoteCount.{NoteCount}

-- records of one peer, or of one type

number_trans : (a b c : ℕ) (t : Bool) → (a == b) ≡ true → (b == c) ≡ t → (a == c) ≡ t
number_trans a b c true e f = grind (arith, nat_tests, e, f)
number_trans a b c false e f = grind (arith, nat_tests, e, f)

number_sym : (a b : ℕ) (t : Bool) → (a == b) ≡ t → (b == a) ≡ t
number_sym a b true e = grind (arith, nat_tests, e)
number_sym a b false e = grind (arith, nat_tests, e)

-- two tests, of which the first is passed on as it is where both hold
both_trans : (a b x y z w : Bool) (t : Bool) → a && b ≡ true → x && y ≡ t → (a ≡ true → z ≡ x) → (b ≡ true → w ≡ y) → z && w ≡ t
both_trans true true x y z w t e f g h = (λ i. g refl i && h refl i) ∙ f
both_trans true false x y z w t e f g h = absurd cc
both_trans false b x y z w t e f g h = absurd cc

number_as : (a b c : ℕ) → (a == b) ≡ true → (a == c) ≡ (b == c)
number_as a b c e = number_trans a b c (b == c) e refl

address_as : (a b c : Address) → is_same a b ≡ true → is_same a c ≡ is_same b c
address_as (V4 a) (V4 b) (V4 c) e = number_as a b c e
address_as (V6 a) (V6 b) (V6 c) e = number_as a b c e
address_as (V4 a) (V4 b) (V6 c) e = refl
address_as (V6 a) (V6 b) (V4 c) e = refl
address_as (V4 a) (V6 b) c e = absurd cc
address_as (V6 a) (V4 b) c e = absurd cc

address_sym : (a b : Address) → is_same a b ≡ is_same b a
address_sym (V4 a) (V4 b) = sym (number_sym a b (a == b) refl)
address_sym (V6 a) (V6 b) = sym (number_sym a b (a == b) refl)
address_sym (V4 a) (V6 b) = refl
address_sym (V6 a) (V4 b) = refl

same_trans : (a b c : Note) (t : Bool) → same_note a b ≡ true → same_note b c ≡ t → same_note a c ≡ t
same_trans (Skipped a s) (Skipped b u) (Skipped c v) t e f =
    both_trans (a == b) (s == u) (b == c) (u == v) (a == c) (s == v) t e f (number_as a b c) (number_as s u v)
same_trans (Spoke a s m o) (Spoke b u n p) (Spoke c v k q) t e f =
    both_trans (is_same a b) (s == u) (is_same b c) (u == v) (is_same a c) (s == v) t e f (address_as a b c) (number_as s u v)
same_trans (Skipped a s) (Skipped b u) (Spoke c v k q) t e f = f
same_trans (Spoke a s m o) (Spoke b u n p) (Skipped c v) t e f = f
same_trans (Skipped a s) (Spoke b u n p) c t e f = absurd cc
same_trans (Spoke a s m o) (Skipped b u) c t e f = absurd cc

same_sym : (a b : Note) (t : Bool) → same_note a b ≡ t → same_note b a ≡ t
same_sym (Skipped a s) (Skipped b u) t e = (λ i. number_sym a b (a == b) refl i && number_sym s u (s == u) refl i) ∙ e
same_sym (Spoke a s m o) (Spoke b u n p) t e = (λ i. address_sym b a i && number_sym s u (s == u) refl i) ∙ e
same_sym (Skipped a s) (Spoke b u n p) t e = e
same_sym (Spoke a s m o) (Skipped b u) t e = e

weight_few : (note : Note) → weight note ≤ 1
weight_few (Skipped kind subtype) = omega arith
weight_few (Spoke address asn number is_message) = by is_message
  where
    by : (b : Bool) → (if b then 1 else 0) ≤ 1
    by true = omega arith
    by false = omega arith

-- counts

module _ (link other : Note) where
  same_not : (c : NoteCount) → same_note c.note other ≡ true → same_note other link ≡ true → is_other link c ≡ false
  same_not c e f = ap not (same_trans c.note other link true e f)

  dropped : (c : NoteCount) (cs : List NoteCount) (b : Bool) → same_note c.note other ≡ b → same_note other link ≡ true
      → filter (is_other link) (with_note other cs) ≡ filter (is_other link) cs
      → filter (is_other link) (if b then one_more other c ∷ cs else c ∷ with_note other cs) ≡ filter (is_other link) (c ∷ cs)
  dropped c cs true e f h = rw (same_not c e f) refl
  dropped c cs false e f h = ap (λ (l : List NoteCount). if is_other link c then c ∷ l else l) h

  dropped_all : same_note other link ≡ true → (cs : List NoteCount) → filter (is_other link) (with_note other cs) ≡ filter (is_other link) cs
  dropped_all f [] = rw f refl
  dropped_all f (c ∷ cs) = dropped c cs (same_note c.note other) refl f (dropped_all f cs)

  same_is : (c : NoteCount) → same_note c.note other ≡ true → same_note other link ≡ false → is_other link c ≡ true
  same_is c e f = ap not (same_trans c.note other link false e f)

  kept_by : (c : NoteCount) (cs : List NoteCount) (b t : Bool) → same_note c.note other ≡ b → is_other link c ≡ t → same_note other link ≡ false
      → filter (is_other link) (with_note other cs) ≡ with_note other (filter (is_other link) cs)
      → filter (is_other link) (if b then one_more other c ∷ cs else c ∷ with_note other cs)
      ≡ with_note other (if t then c ∷ filter (is_other link) cs else filter (is_other link) cs)
  kept_by c cs true true e s f h = rw (e, s) refl
  kept_by c cs true false e s f h = let wrong : true ≡ false = sym (same_is c e f) ∙ s in absurd cc
  kept_by c cs false true e s f h = rw (e, s) (ap (λ (l : List NoteCount). c ∷ l) h)
  kept_by c cs false false e s f h = rw s h

  kept_all : same_note other link ≡ false → (cs : List NoteCount) → filter (is_other link) (with_note other cs) ≡ with_note other (filter (is_other link) cs)
  kept_all f [] = rw f refl
  kept_all f (c ∷ cs) = kept_by c cs (same_note c.note other) (is_other link c) refl refl f (kept_all f cs)

count_snoc : (link : Note) (gone : List Note) (packet : Note)
    → count_of link (gone ++ packet ∷ []) ≡ count_of link gone + (if same_note packet link then weight packet else 0)
count_snoc link [] packet = omega arith
count_snoc link (p ∷ gone) packet = let h = count_snoc link gone packet in omega (arith, h)

links_by : (p : Note) (gone : List Note) (packet : Note) (b : Bool) → same_note p packet ≡ b
    → with_note packet (counts_of gone) ≡ counts_of (gone ++ packet ∷ [])
    → (if b then one_more packet (note_count p (weight p + count_of p gone)) ∷ filter (is_other p) (counts_of gone)
    else note_count p (weight p + count_of p gone) ∷ with_note packet (filter (is_other p) (counts_of gone)))
    ≡ counts_of (p ∷ (gone ++ packet ∷ []))
links_by p gone packet true e h =
    let back : same_note packet p ≡ true = same_sym p packet true e in
    let size : weight p + count_of p gone + weight packet ≡ weight p + count_of p (gone ++ packet ∷ []) =
    rw (count_snoc p gone packet) (rw back (let n : weight p + count_of p gone + weight packet ≡ weight p + (count_of p gone + weight packet) =
    omega arith in n)) in
    ap (λ (n : ℕ). note_count p n ∷ filter (is_other p) (counts_of gone)) size
    ∙ ap (λ (l : List NoteCount). note_count p (weight p + count_of p (gone ++ packet ∷ [])) ∷ l)
    (sym (dropped_all p packet back (counts_of gone)) ∙ ap (filter (is_other p)) h)
links_by p gone packet false e h =
    let back : same_note packet p ≡ false = same_sym p packet false e in
    let size : weight p + count_of p gone ≡ weight p + count_of p (gone ++ packet ∷ []) =
    rw (count_snoc p gone packet) (rw back (let n : weight p + count_of p gone ≡ weight p + (count_of p gone + 0) = omega arith in n)) in
    ap (λ (n : ℕ). note_count p n ∷ with_note packet (filter (is_other p) (counts_of gone))) size
    ∙ ap (λ (l : List NoteCount). note_count p (weight p + count_of p (gone ++ packet ∷ [])) ∷ l)
    (sym (kept_all p packet back (counts_of gone)) ∙ ap (filter (is_other p)) h)

links_snoc : (gone : List Note) (packet : Note) → with_note packet (counts_of gone) ≡ counts_of (gone ++ packet ∷ [])
links_snoc [] packet = ap (λ (n : ℕ). note_count packet n ∷ []) (let n : weight packet ≡ weight packet + 0 = omega arith in n)
links_snoc (p ∷ gone) packet = links_by p gone packet (same_note p packet) refl (links_snoc gone packet)

-- where a count stands

abbrev place_at : Bool → ℕ → ℕ → Option ℕ
place_at found k n = if found then Some 0 else (if nat_lt k n then Some (1 + k) else None)

place_step : (link : Note) (c : NoteCount) (cs : List NoteCount) (b : Bool) → has_note link c ≡ b
    → note_place link (c ∷ cs) ≡ place_at b (position_or_len (has_note link) cs) (length cs)
place_step link c cs true e =
    let first : nat_lt 0 (suc (length cs)) ≡ true = grind (arith, nat_tests) in
    rw e (rw first refl)
place_step link c cs false e = rw e (by (position_or_len (has_note link) cs) (length cs))
  where
    by : (k n : ℕ) → (if nat_lt (1 + k) (suc n) then Some (1 + k) else None) ≡ place_at false k n
    by k n =
        let same : nat_lt (1 + k) (suc n) ≡ nat_lt k n = grind (arith, nat_tests) in
        ap (λ (b : Bool). if b then Some (1 + k) else None) same

some_none : {A B : Type 0} (a : A) → Some a ≡ None → B
some_none a e = absurd cc

pub place_none : (link : Note) (cs : List NoteCount) → note_place link cs ≡ None → cs ++ note_count link (weight link) ∷ [] ≡ with_note link cs
place_none link [] h = refl
place_none link (c ∷ cs) h = by (has_note link c) refl (nat_lt (position_or_len (has_note link) cs) (length cs)) refl (place_none link cs)
  where
    by : (b : Bool) → has_note link c ≡ b → (l : Bool) → nat_lt (position_or_len (has_note link) cs) (length cs) ≡ l
        → (note_place link cs ≡ None → cs ++ note_count link (weight link) ∷ [] ≡ with_note link cs)
        → c ∷ (cs ++ note_count link (weight link) ∷ []) ≡ (if b then one_more link c ∷ cs else c ∷ with_note link cs)
    by true e l f others = some_none 0 (sym (place_step link c cs true e) ∙ h)
    by false e true f others =
        let at : place_at false (position_or_len (has_note link) cs) (length cs) ≡ Some (1 + position_or_len (has_note link) cs) =
        ap (λ (b : Bool). if b then Some (1 + position_or_len (has_note link) cs) else None) f in
        some_none (1 + position_or_len (has_note link) cs) (sym at ∙ sym (place_step link c cs false e) ∙ h)
    by false e false f others =
        ap (λ (l : List NoteCount). c ∷ l)
        (others (ap (λ (b : Bool). if b then Some (position_or_len (has_note link) cs) else None) f))

pub place_some : (link : Note) (cs : List NoteCount) (i : ℕ) (it : NoteCount) → note_place link cs ≡ Some i → it ≡ slice_index_or cs i it
    → slice_set cs i (one_more link it) ≡ with_note link cs
place_some link [] i it h at = absurd cc
place_some link (c ∷ cs) i it h at = by (has_note link c) refl (nat_lt (position_or_len (has_note link) cs) (length cs)) refl (λ k. place_some link cs k it)
  where
    by : (b : Bool) → has_note link c ≡ b → (l : Bool) → nat_lt (position_or_len (has_note link) cs) (length cs) ≡ l
        → ((k : ℕ) → note_place link cs ≡ Some k → it ≡ slice_index_or cs k it → slice_set cs k (one_more link it) ≡ with_note link cs)
        → slice_set (c ∷ cs) i (one_more link it) ≡ (if b then one_more link c ∷ cs else c ∷ with_note link cs)
    by true e l f others =
        let some : Some 0 ≡ Some i = sym (place_step link c cs true e) ∙ h in
        let zero : 0 ≡ i = cc in
        let same : it ≡ c = subst (λ (n : ℕ). it ≡ slice_index_or (c ∷ cs) n it) (sym zero) at in
        subst (λ (n : ℕ). slice_set (c ∷ cs) n (one_more link it) ≡ one_more link c ∷ cs) zero (ap (λ (x : NoteCount). one_more link x ∷ cs) same)
    by false e true f others =
        let k = position_or_len (has_note link) cs in
        let found : place_at false k (length cs) ≡ Some (1 + k) = ap (λ (b : Bool). if b then Some (1 + k) else None) f in
        let some : Some (1 + k) ≡ Some i = sym found ∙ sym (place_step link c cs false e) ∙ h in
        let first : 1 + k ≡ i = cc in
        let more : suc k ≡ i = omega (arith, first) in
        let same : it ≡ slice_index_or cs k it = subst (λ (n : ℕ). it ≡ slice_index_or (c ∷ cs) n it) (sym more) at in
        let there : note_place link cs ≡ Some k = ap (λ (b : Bool). if b then Some k else None) f in
        subst (λ (n : ℕ). slice_set (c ∷ cs) n (one_more link it) ≡ c ∷ with_note link cs) more
        (ap (λ (l : List NoteCount). c ∷ l) (others k there same))
    by false e false f others =
        let gone : place_at false (position_or_len (has_note link) cs) (length cs) ≡ None =
        ap (λ (b : Bool). if b then Some (1 + position_or_len (has_note link) cs) else None) f in
        some_none i (sym h ∙ place_step link c cs false e ∙ gone)

-- no count passes the number of packets
still_few : (n m : ℕ) → n < m → (cs : List NoteCount) → AllByRecursion (λ (c : NoteCount). c.count ≤ n) cs → AllByRecursion (λ (c : NoteCount). c.count ≤ m) cs
still_few n m more [] all = tt
still_few n m more (c ∷ cs) all = let first = all.0 in (omega (arith, more, first), still_few n m more cs all.1)

one_few : (link : Note) (n m : ℕ) → n < m → (c : NoteCount) → c.count ≤ n → (one_more link c).count ≤ m
one_few link n m more c first = let few = weight_few link in omega (arith, more, first, few)

few_by : (link : Note) (n m : ℕ) → n < m → (b : Bool) (c : NoteCount) (cs rest : List NoteCount) → AllByRecursion (λ (c : NoteCount). c.count ≤ n) (c ∷ cs)
    → AllByRecursion (λ (c : NoteCount). c.count ≤ m) rest
    → AllByRecursion (λ (c : NoteCount). c.count ≤ m) (if b then one_more link c ∷ cs else c ∷ rest)
few_by link n m more true c cs rest all others = (one_few link n m more c all.0, still_few n m more cs all.1)
few_by link n m more false c cs rest all others = let first = all.0 in (omega (arith, more, first), others)

pub with_few : (link : Note) (n m : ℕ) → n < m → (cs : List NoteCount) → AllByRecursion (λ (c : NoteCount). c.count ≤ n) cs
    → AllByRecursion (λ (c : NoteCount). c.count ≤ m) (with_note link cs)
with_few link n m more [] all = let few = weight_few link in (omega (arith, more, few), tt)
with_few link n m more (c ∷ cs) all = few_by link n m more (same_note c.note link) c cs (with_note link cs) all (with_few link n m more cs all.1)

pub few_fit : (n m : ℕ) → n + 1 < m → (cs : List NoteCount) → AllByRecursion (λ (c : NoteCount). c.count ≤ n) cs
    → AllByRecursion (λ (c : NoteCount). c.count + 1 < m) cs
few_fit n m more [] all = tt
few_fit n m more (c ∷ cs) all = let first = all.0 in (omega (arith, more, first), few_fit n m more cs all.1)

noted_more : (gone rest : List Note) → all_noted (counts_of gone) rest ≡ counts_of (gone ++ rest)
noted_more gone [] = ap counts_of (sym (append-nil gone))
noted_more gone (note ∷ rest) =
    ap (λ (t : List NoteCount). all_noted t rest) (links_snoc gone note) ∙ noted_more (gone ++ note ∷ []) rest
    ∙ ap counts_of (append_assoc gone (note ∷ []) rest)

-- all records are counted
noted_all : (notes : List Note) → all_noted [] notes ≡ counts_of notes
noted_all notes = noted_more [] notes

-- what is said of a dump

pub verdict_done : (found : List Note × End DumpReason) (counts : List NoteCount) → found.1 ≡ done → counts ≡ all_noted [] found.0
    → verdict_with 0 (counts_text counts) ≡ notes_verdict found
verdict_done found counts ends is =
    ap (λ (l : List NoteCount). verdict_with 0 (counts_text l)) (is ∙ noted_all found.0) ∙ ap (ended_verdict found.0) (sym ends)

pub verdict_limited : (found : List Note × End DumpReason) → found.1 ≡ limited → verdict_with 7 [] ≡ notes_verdict found
verdict_limited found ends = ap (ended_verdict found.0) (sym ends)

pub verdict_bad : (found : List Note × End DumpReason) (counts : List NoteCount) (reason : DumpReason) (place : ℕ) → found.1 ≡ bad reason place
    → counts ≡ all_noted [] found.0
    → verdict_with 10 (counts_text counts ++ dump_fault_line reason place) ≡ notes_verdict found
verdict_bad found counts reason place ends is =
    ap (λ (l : List NoteCount). verdict_with 10 (counts_text l ++ dump_fault_line reason place)) (is ∙ noted_all found.0)
    ∙ ap (ended_verdict found.0) (sym ends)

-- of the configuration that is accepted, and of the dump that is opened

-- the dump of which nothing was read yet
pub from_start : (config : Config) (dump : NotedState) (limit limit' slot : ℕ) (back : List ℕ) (left : ℕ → List ℕ)
    → dump ≡ noted_none slot limit' back → limit' ≡ limit → back ≡ [] → slot ≡ 1
    → notes_coming config dump (left dump.slot) ≡ notes_of config limit (left 1)
from_start config dump limit limit' slot back left d l b s =
    (λ i. notes_coming config (d i) (left (d i).slot)) ∙ (λ i. notes_to_come config.peers (l i) 0 (record {}) (b i ++ left (s i)))

-- what is said of it is due
pub say_said : (found : List Note × End DumpReason) (counts : List NoteCount) (ended : Result Unit (Fault DumpReason))
    (result : Result Said Refusal) (due : Verdict) (failed wider : Type 0)
    → Counts [] counts found failed ended → SaysEnd counts ended result → notes_verdict found ≡ due → (failed → wider)
    → Says (λ verdict. verdict ≡ due) wider result
say_said found counts (Ok done_so) (Ok said) due failed wider h says is f = says ∙ verdict_done found counts h.0 h.1 ∙ is
say_said found counts (Ok done_so) (Err refusal) due failed wider h says is f = inr (inl says)
say_said found counts (Err Read) result due failed wider h says is f =
    subst (Says (λ verdict. verdict ≡ due) wider) (sym says) (inr (inr (refl, f h)))
say_said found counts (Err Limit) result due failed wider h says is f =
    subst (Says (λ verdict. verdict ≡ due) wider) (sym says) (inl (verdict_limited found h ∙ is))
say_said found counts (Err (Bad reason place)) (Ok said) due failed wider h says is f = says ∙ verdict_bad found counts reason place h.0 h.1 ∙ is
say_said found counts (Err (Bad reason place)) (Err refusal) due failed wider h says is f = inr (inl says)

-- what is due under another name
pub due_as : (result : Result Said Refusal) (due other : Verdict) (failed wider : Type 0) → due ≡ other → (failed → wider)
    → Says (λ verdict. verdict ≡ due) failed result → Says (λ verdict. verdict ≡ other) wider result
due_as (Ok said) due other failed wider e f h = h ∙ e
due_as (Err refusal) due other failed wider e f (inl h) = inl (h ∙ e)
due_as (Err refusal) due other failed wider e f (inr (inl h)) = inr (inl h)
due_as (Err refusal) due other failed wider e f (inr (inr h)) = inr (inr (h.0, f h.1))

-- of a dump that is opened
pub content_found : (limit : ℕ) (holds : Names) (dump : List ℕ) (config : Config) (content : List ℕ) → holds dump ≡ Some content
    → notes_verdict (notes_of config limit content) ≡ content_verdict config limit (or_stop Outside (holds dump))
content_found limit holds dump config content d = ap (λ (o : Option (List ℕ)). content_verdict config limit (or_stop Outside o)) (sym d)

-- beside a configuration that is accepted
pub accepted_due : (limit : ℕ) (holds holds' : Names) (name dump : List ℕ) (config : Config) → config_stage limit holds name ≡ Found config → holds' ≡ holds
    → content_verdict config limit (or_stop Outside (holds' dump)) ≡ dump_verdict limit holds name dump
accepted_due limit holds holds' name dump config c h =
    ap (λ (held : Names). content_verdict config limit (or_stop Outside (held dump))) h ∙ ap (accepted_verdict limit holds dump) (sym c)
