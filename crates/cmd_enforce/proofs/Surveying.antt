-- How what is counted packet by packet is what is said of them all, and what is said of a capture.
use Rattle.std.specs.{Prelude.{filter, max, nat_lt, slice_index_or, slice_set}, Option.{unwrap_or}, List.{AllByRecursion, position_or_len}}
use Rattle.std.proofs.lemmas.Bool.Decides.{nat_tests}
use Rattle.fs_base.specs.declared.{counted.Counted.{Counted}, link.Link.{Link}}
use Rattle.fs_input.specs.declared.fault.Fault.{Fault, TheVariants.{Read, Limit, Bad}}
use Rattle.cmd_enforce.proofs.Words.{◌≡◌, ◌≤◌, ◌<◌, ◌++◌, ◌∙◌, ◌∷◌, ◌+◌, ℕ, Bool, true, false, if◌then◌else◌, List, [], Option, Some, None}
use Rattle.cmd_enforce.proofs.Words.{Ok, Err, length, refl, ap, sym, subst, suc, arith, append-nil, append_assoc, CaptureReason, CaptureState, Captured}
use Rattle.cmd_enforce.proofs.Words.{End, done, limited, bad, Names, Outside, captured_in, coming}
use Rattle.cmd_enforce.specs.Capture.{BeginsAs, link_in, own_link}
use Rattle.cmd_enforce.specs.Survey.{Tallied, count_of, fall_behind, first_time, greatest_time, is_other, last_time, link_count, links_of, same_link}
use Rattle.cmd_enforce.specs.Survey.{survey_in, survey_verdict, capture_fault_line, capture_verdict, content_verdict, tally_text, tallied}
use Rattle.cmd_enforce.specs.Counting.{Counts, Surveys}
use Rattle.cmd_enforce.specs.Survey.{Surveyed, all_noted, fall_with, has_link, link_place, noted, nothing_noted, one_more}
use Rattle.cmd_enforce.specs.Survey.{surveyed, with_packet}
use Rattle.cmd_enforce.specs.declared.{survey.Survey.{Survey}, tally.LinkCount.{LinkCount}}
use Rattle.cmd_stages.specs.Refusal.{Verdict, or_stop, verdict_with}

-- counts of link types

module _ (link other : Option Link) where
  same_not : (c : LinkCount) → same_link c.link other ≡ true → same_link other link ≡ true → is_other link c ≡ false
  same_not c e f = let g = e in let h = f in grind (arith, nat_tests)

  dropped : (c : LinkCount) (cs : List LinkCount) (b : Bool) → same_link c.link other ≡ b → same_link other link ≡ true
      → filter (is_other link) (with_packet other cs) ≡ filter (is_other link) cs
      → filter (is_other link) (if b then one_more c ∷ cs else c ∷ with_packet other cs) ≡ filter (is_other link) (c ∷ cs)
  dropped c cs true e f h = rw (same_not c e f) refl
  dropped c cs false e f h = ap (λ (l : List LinkCount). if is_other link c then c ∷ l else l) h

  dropped_all : same_link other link ≡ true → (cs : List LinkCount) → filter (is_other link) (with_packet other cs) ≡ filter (is_other link) cs
  dropped_all f [] = rw f refl
  dropped_all f (c ∷ cs) = dropped c cs (same_link c.link other) refl f (dropped_all f cs)

  same_is : (c : LinkCount) → same_link c.link other ≡ true → same_link other link ≡ false → is_other link c ≡ true
  same_is c e f = let g = e in let h = f in grind (arith, nat_tests)

  kept_by : (c : LinkCount) (cs : List LinkCount) (b t : Bool) → same_link c.link other ≡ b → is_other link c ≡ t → same_link other link ≡ false
      → filter (is_other link) (with_packet other cs) ≡ with_packet other (filter (is_other link) cs)
      → filter (is_other link) (if b then one_more c ∷ cs else c ∷ with_packet other cs)
      ≡ with_packet other (if t then c ∷ filter (is_other link) cs else filter (is_other link) cs)
  kept_by c cs true true e s f h = rw (e, s) refl
  kept_by c cs true false e s f h = let wrong : true ≡ false = sym (same_is c e f) ∙ s in absurd cc
  kept_by c cs false true e s f h = rw (e, s) (ap (λ (l : List LinkCount). c ∷ l) h)
  kept_by c cs false false e s f h = rw s h

  kept_all : same_link other link ≡ false → (cs : List LinkCount)
      → filter (is_other link) (with_packet other cs) ≡ with_packet other (filter (is_other link) cs)
  kept_all f [] = rw f refl
  kept_all f (c ∷ cs) = kept_by c cs (same_link c.link other) (is_other link c) refl refl f (kept_all f cs)

count_snoc : (link : Option Link) (gone : List Captured) (packet : Captured)
    → count_of link (gone ++ packet ∷ []) ≡ count_of link gone + (if same_link packet.link link then 1 else 0)
count_snoc link [] packet = omega arith
count_snoc link (p ∷ gone) packet = let h = count_snoc link gone packet in omega (arith, h)

same_sym : (one other : Option Link) (b : Bool) → same_link one other ≡ b → same_link other one ≡ b
same_sym one other true e = let h = e in grind (arith, nat_tests)
same_sym one other false e = let h = e in grind (arith, nat_tests)

links_by : (p : Captured) (gone : List Captured) (packet : Captured) (b : Bool) → same_link p.link packet.link ≡ b
    → with_packet packet.link (links_of gone) ≡ links_of (gone ++ packet ∷ [])
    → (if b then one_more (link_count p.link (1 + count_of p.link gone)) ∷ filter (is_other p.link) (links_of gone)
    else link_count p.link (1 + count_of p.link gone) ∷ with_packet packet.link (filter (is_other p.link) (links_of gone)))
    ≡ links_of (p ∷ (gone ++ packet ∷ []))
links_by p gone packet true e h =
    let back : same_link packet.link p.link ≡ true = same_sym p.link packet.link true e in
    let size : 1 + count_of p.link gone + 1 ≡ 1 + count_of p.link (gone ++ packet ∷ []) =
    rw (count_snoc p.link gone packet) (rw back (let n : 1 + count_of p.link gone + 1 ≡ 1 + (count_of p.link gone + 1) = omega arith in n)) in
    ap (λ (n : ℕ). link_count p.link n ∷ filter (is_other p.link) (links_of gone)) size
    ∙ ap (λ (l : List LinkCount). link_count p.link (1 + count_of p.link (gone ++ packet ∷ [])) ∷ l)
    (sym (dropped_all p.link packet.link back (links_of gone)) ∙ ap (filter (is_other p.link)) h)
links_by p gone packet false e h =
    let back : same_link packet.link p.link ≡ false = same_sym p.link packet.link false e in
    let size : 1 + count_of p.link gone ≡ 1 + count_of p.link (gone ++ packet ∷ []) =
    rw (count_snoc p.link gone packet) (rw back (let n : 1 + count_of p.link gone ≡ 1 + (count_of p.link gone + 0) = omega arith in n)) in
    ap (λ (n : ℕ). link_count p.link n ∷ with_packet packet.link (filter (is_other p.link) (links_of gone))) size
    ∙ ap (λ (l : List LinkCount). link_count p.link (1 + count_of p.link (gone ++ packet ∷ [])) ∷ l)
    (sym (kept_all p.link packet.link back (links_of gone)) ∙ ap (filter (is_other p.link)) h)

links_snoc : (gone : List Captured) (packet : Captured) → with_packet packet.link (links_of gone) ≡ links_of (gone ++ packet ∷ [])
links_snoc [] packet = refl
links_snoc (p ∷ gone) packet = links_by p gone packet (same_link p.link packet.link) refl (links_snoc gone packet)

-- where a count stands

abbrev place_at : Bool → ℕ → ℕ → Option ℕ
place_at found k n = if found then Some 0 else (if nat_lt k n then Some (1 + k) else None)

place_step : (link : Option Link) (c : LinkCount) (cs : List LinkCount) (b : Bool) → has_link link c ≡ b
    → link_place link (c ∷ cs) ≡ place_at b (position_or_len (has_link link) cs) (length cs)
place_step link c cs true e =
    let first : nat_lt 0 (suc (length cs)) ≡ true = grind (arith, nat_tests) in
    rw e (rw first refl)
place_step link c cs false e = rw e (by (position_or_len (has_link link) cs) (length cs))
  where
    by : (k n : ℕ) → (if nat_lt (1 + k) (suc n) then Some (1 + k) else None) ≡ place_at false k n
    by k n =
        let same : nat_lt (1 + k) (suc n) ≡ nat_lt k n = grind (arith, nat_tests) in
        ap (λ (b : Bool). if b then Some (1 + k) else None) same

some_none : {A B : Type 0} (a : A) → Some a ≡ None → B
some_none a e = absurd cc

pub place_none : (link : Option Link) (cs : List LinkCount) → link_place link cs ≡ None → cs ++ link_count link 1 ∷ [] ≡ with_packet link cs
place_none link [] h = refl
place_none link (c ∷ cs) h = by (has_link link c) refl (nat_lt (position_or_len (has_link link) cs) (length cs)) refl (place_none link cs)
  where
    by : (b : Bool) → has_link link c ≡ b → (l : Bool) → nat_lt (position_or_len (has_link link) cs) (length cs) ≡ l
        → (link_place link cs ≡ None → cs ++ link_count link 1 ∷ [] ≡ with_packet link cs)
        → c ∷ (cs ++ link_count link 1 ∷ []) ≡ (if b then one_more c ∷ cs else c ∷ with_packet link cs)
    by true e l f others = some_none 0 (sym (place_step link c cs true e) ∙ h)
    by false e true f others =
        let at : place_at false (position_or_len (has_link link) cs) (length cs) ≡ Some (1 + position_or_len (has_link link) cs) =
        ap (λ (b : Bool). if b then Some (1 + position_or_len (has_link link) cs) else None) f in
        some_none (1 + position_or_len (has_link link) cs) (sym at ∙ sym (place_step link c cs false e) ∙ h)
    by false e false f others =
        ap (λ (l : List LinkCount). c ∷ l)
        (others (ap (λ (b : Bool). if b then Some (position_or_len (has_link link) cs) else None) f))

pub place_some : (link : Option Link) (cs : List LinkCount) (i : ℕ) (it : LinkCount) → link_place link cs ≡ Some i → it ≡ slice_index_or cs i it
    → slice_set cs i (one_more it) ≡ with_packet link cs
place_some link [] i it h at = absurd cc
place_some link (c ∷ cs) i it h at = by (has_link link c) refl (nat_lt (position_or_len (has_link link) cs) (length cs)) refl (λ k. place_some link cs k it)
  where
    by : (b : Bool) → has_link link c ≡ b → (l : Bool) → nat_lt (position_or_len (has_link link) cs) (length cs) ≡ l
        → ((k : ℕ) → link_place link cs ≡ Some k → it ≡ slice_index_or cs k it → slice_set cs k (one_more it) ≡ with_packet link cs)
        → slice_set (c ∷ cs) i (one_more it) ≡ (if b then one_more c ∷ cs else c ∷ with_packet link cs)
    by true e l f others =
        let some : Some 0 ≡ Some i = sym (place_step link c cs true e) ∙ h in
        let zero : 0 ≡ i = cc in
        let same : it ≡ c = subst (λ (n : ℕ). it ≡ slice_index_or (c ∷ cs) n it) (sym zero) at in
        subst (λ (n : ℕ). slice_set (c ∷ cs) n (one_more it) ≡ one_more c ∷ cs) zero (ap (λ (x : LinkCount). one_more x ∷ cs) same)
    by false e true f others =
        let k = position_or_len (has_link link) cs in
        let found : place_at false k (length cs) ≡ Some (1 + k) = ap (λ (b : Bool). if b then Some (1 + k) else None) f in
        let some : Some (1 + k) ≡ Some i = sym found ∙ sym (place_step link c cs false e) ∙ h in
        let first : 1 + k ≡ i = cc in
        let more : suc k ≡ i = omega (arith, first) in
        let same : it ≡ slice_index_or cs k it = subst (λ (n : ℕ). it ≡ slice_index_or (c ∷ cs) n it) (sym more) at in
        let there : link_place link cs ≡ Some k = ap (λ (b : Bool). if b then Some k else None) f in
        subst (λ (n : ℕ). slice_set (c ∷ cs) n (one_more it) ≡ c ∷ with_packet link cs) more
        (ap (λ (l : List LinkCount). c ∷ l) (others k there same))
    by false e false f others =
        let gone : place_at false (position_or_len (has_link link) cs) (length cs) ≡ None =
        ap (λ (b : Bool). if b then Some (1 + position_or_len (has_link link) cs) else None) f in
        some_none i (sym h ∙ place_step link c cs false e ∙ gone)

-- no count passes the number of packets
still_few : (n m : ℕ) → n < m → (cs : List LinkCount) → AllByRecursion (λ (c : LinkCount). c.packets ≤ n) cs
    → AllByRecursion (λ (c : LinkCount). c.packets ≤ m) cs
still_few n m more [] all = tt
still_few n m more (c ∷ cs) all = let first = all.0 in (omega (arith, more, first), still_few n m more cs all.1)

one_few : (n m : ℕ) → n < m → (c : LinkCount) → c.packets ≤ n → (one_more c).packets ≤ m
one_few n m more c first = omega (arith, more, first)

few_by : (n m : ℕ) → n < m → (b : Bool) (c : LinkCount) (cs rest : List LinkCount) → AllByRecursion (λ (c : LinkCount). c.packets ≤ n) (c ∷ cs)
    → AllByRecursion (λ (c : LinkCount). c.packets ≤ m) rest
    → AllByRecursion (λ (c : LinkCount). c.packets ≤ m) (if b then one_more c ∷ cs else c ∷ rest)
few_by n m more true c cs rest all others = (one_few n m more c all.0, still_few n m more cs all.1)
few_by n m more false c cs rest all others = let first = all.0 in (omega (arith, more, first), others)

pub with_few : (link : Option Link) (n m : ℕ) → n < m → (cs : List LinkCount) → AllByRecursion (λ (c : LinkCount). c.packets ≤ n) cs
    → AllByRecursion (λ (c : LinkCount). c.packets ≤ m) (with_packet link cs)
with_few link n m more [] all = (omega (arith, more), tt)
with_few link n m more (c ∷ cs) all = few_by n m more (same_link c.link link) c cs (with_packet link cs) all (with_few link n m more cs all.1)

pub few_fit : (n m : ℕ) → n + 1 < m → (cs : List LinkCount) → AllByRecursion (λ (c : LinkCount). c.packets ≤ n) cs
    → AllByRecursion (λ (c : LinkCount). c.packets + 1 < m) cs
few_fit n m more [] all = tt
few_fit n m more (c ∷ cs) all = let first = all.0 in (omega (arith, more, first), few_fit n m more cs all.1)

-- times

first_snoc : (gone : List Captured) (packet : Captured) → Some (unwrap_or (first_time gone) packet.time) ≡ first_time (gone ++ packet ∷ [])
first_snoc [] packet = refl
first_snoc (p ∷ gone) packet = refl

greatest_snoc : (gone : List Captured) (packet : Captured) → max (greatest_time gone) packet.time ≡ greatest_time (gone ++ packet ∷ [])
greatest_snoc [] packet = omega arith
greatest_snoc (p ∷ gone) packet = let h = greatest_snoc gone packet in omega (arith, h)

last_snoc : (time : ℕ) (gone : List Captured) (packet : Captured) → packet.time ≡ last_time time (gone ++ packet ∷ [])
last_snoc time [] packet = refl
last_snoc time (p ∷ gone) packet = last_snoc p.time gone packet

-- the first fall, where one packet more comes behind so many
abbrev fall_then : Option ℕ → (last count time : ℕ) → Option ℕ
fall_then (Some number) last count time = Some number
fall_then None last count time = if nat_lt time last then Some (count + 1) else None

fall_snoc : (time count : ℕ) (gone : List Captured) (packet : Captured)
    → fall_then (fall_behind time count gone) (last_time time gone) (count + length gone) packet.time ≡ fall_behind time count (gone ++ packet ∷ [])
fall_snoc time count [] packet = ap (λ (n : ℕ). if nat_lt packet.time time then Some (n + 1) else None) (let n : count + 0 ≡ count = omega arith in n)
fall_snoc time count (p ∷ gone) packet = by (nat_lt p.time time) (fall_snoc p.time (count + 1) gone packet)
  where
    by : (b : Bool)
        → fall_then (fall_behind p.time (count + 1) gone) (last_time p.time gone) (count + 1 + length gone) packet.time
        ≡ fall_behind p.time (count + 1) (gone ++ packet ∷ [])
        → fall_then (if b then Some (count + 1) else fall_behind p.time (count + 1) gone) (last_time p.time gone) (count + suc (length gone)) packet.time
        ≡ (if b then Some (count + 1) else fall_behind p.time (count + 1) (gone ++ packet ∷ []))
    by true others = refl
    by false others =
        ap (λ (n : ℕ). fall_then (fall_behind p.time (count + 1) gone) (last_time p.time gone) n packet.time)
        (let n : count + suc (length gone) ≡ count + 1 + length gone = omega arith in n)
        ∙ others

fall_same : (now : Tallied) (time : ℕ) → fall_with now time ≡ fall_then now.fall now.last now.count time
fall_same now time = by now.fall
  where
    by : (o : Option ℕ)
        → elim o [ Some number ↦ Some number | None ↦ if nat_lt time now.last then Some (now.count + 1) else None ] ≡ fall_then o now.last now.count time
    by None = refl
    by (Some number) = refl

length_snoc : (gone : List Captured) (packet : Captured) → length gone + 1 ≡ length (gone ++ packet ∷ [])
length_snoc [] packet = refl
length_snoc (p ∷ gone) packet = let h = length_snoc gone packet in omega (arith, h)

-- one packet more is counted
noted_tallied : (gone : List Captured) (packet : Captured) → noted (tallied gone) packet.link packet.time ≡ tallied (gone ++ packet ∷ [])
noted_tallied gone packet =
    let count = length_snoc gone packet in
    let first = first_snoc gone packet in
    let greatest = greatest_snoc gone packet in
    let last = last_snoc 0 gone packet in
    let fall =
    fall_same (tallied gone) packet.time
    ∙ ap (λ (n : ℕ). fall_then (fall_behind 0 0 gone) (last_time 0 gone) n packet.time) (let n : length gone ≡ 0 + length gone = omega arith in n)
    ∙ fall_snoc 0 0 gone packet in
    let links = links_snoc gone packet in
    λ i. record { count = count i; first = first i; greatest = greatest i; last = last i; fall = fall i; links = links i }

noted_more : (gone rest : List Captured) → all_noted (tallied gone) rest ≡ tallied (gone ++ rest)
noted_more gone [] = ap tallied (sym (append-nil gone))
noted_more gone (packet ∷ rest) =
    ap (λ (t : Tallied). all_noted t rest) (noted_tallied gone packet) ∙ noted_more (gone ++ packet ∷ []) rest
    ∙ ap tallied (append_assoc gone (packet ∷ []) rest)

-- all packets are counted
pub noted_all : (packets : List Captured) → all_noted nothing_noted packets ≡ tallied packets
noted_all packets = noted_more [] packets

-- what is said of a capture

abbrev ended_verdict : Surveyed → End CaptureReason → Verdict
ended_verdict found done = verdict_with 0 (tally_text found.link (tallied found.packets))
ended_verdict found limited = verdict_with 7 []
ended_verdict found (bad reason place) = verdict_with 5 (capture_fault_line reason place)

ended_same : (found : Surveyed) (end : End CaptureReason) → found.end ≡ end → survey_verdict found ≡ ended_verdict found end
ended_same found end e = ap (λ (n : End CaptureReason). survey_verdict (record { link = found.link; packets = found.packets; end = n })) e ∙ by end
  where
    by : (n : End CaptureReason) → survey_verdict (record { link = found.link; packets = found.packets; end = n }) ≡ ended_verdict found n
    by done = refl
    by limited = refl
    by (bad reason place) = refl

pub verdict_done : (all : Surveyed) (survey : Survey) (text : List ℕ)
    → (all.end ≡ done) × (survey.link ≡ all.link) × (survey.tally ≡ all_noted nothing_noted all.packets)
    → text ≡ tally_text survey.link survey.tally → verdict_with 0 text ≡ survey_verdict all
verdict_done all survey text h is =
    ap (λ (t : List ℕ). verdict_with 0 t)
    (is ∙ ap (λ (l : Option Link). tally_text l survey.tally) h.1 ∙ ap (tally_text all.link) (h.2 ∙ noted_all all.packets))
    ∙ sym (ended_same all done h.0)

-- the capture of this content is the one that is opened
pub opened_verdict : (limit : ℕ) (holds : Names) (name left : List ℕ) → holds name ≡ Some left
    → survey_verdict (survey_in limit left) ≡ capture_verdict limit holds name
opened_verdict limit holds name left h = ap (λ (o : Option (List ℕ)). content_verdict limit (or_stop Outside o)) (sym h)

-- A capture is surveyed from what is counted of its slot, up to this limit.
module _ (limit : ℕ) (counted : Counted) (left : ℕ → List ℕ) (l : counted.limit ≡ limit) (b : counted.back ≡ []) (s : counted.slot ≡ 2) where
  all_is : survey_in counted.limit (counted.back ++ left counted.slot) ≡ survey_in limit (left 2)
  all_is = λ i. survey_in (l i) (b i ++ left (s i))

  -- the capture whose front was read
  pub begun : (left' : ℕ → List ℕ) (capture : CaptureState) → capture.slot ≡ counted.slot
      → BeginsAs (link_in counted.limit (counted.back ++ left counted.slot)) (captured_in counted.limit (counted.back ++ left counted.slot))
      (left' counted.slot) (Ok capture)
      → survey_in limit (left 2) ≡ surveyed (own_link capture.context) (coming capture (left' capture.slot))
  begun left' capture own h =
      sym all_is ∙ (λ i. surveyed (sym h.link_is i) (h.begins i)) ∙ ap (λ (n : ℕ). surveyed (own_link capture.context) (coming capture (left' n))) (sym own)

  -- or not
  pub surveys_unbegun : (left' : List ℕ) (fault : Fault CaptureReason) (failed : Type 0)
      → BeginsAs (link_in counted.limit (counted.back ++ left counted.slot)) (captured_in counted.limit (counted.back ++ left counted.slot)) left' (Err fault)
      → (fault ≡ Read → failed) → Surveys (survey_in limit (left 2)) failed (Err fault)
  surveys_unbegun left' Read failed h f = f refl
  surveys_unbegun left' Limit failed h f = ap (λ (all : Surveyed). all.end) (sym all_is) ∙ ap (λ (all : List Captured × End CaptureReason). all.1) h.begins
  surveys_unbegun left' (Bad reason place) failed h f =
      ap (λ (all : Surveyed). all.end) (sym all_is) ∙ ap (λ (all : List Captured × End CaptureReason). all.1) h.begins

-- what is counted behind its front
module _ (all : Surveyed) (capture : CaptureState) (left : List ℕ) (tally tally' : Tallied)
    (is : all ≡ surveyed (own_link capture.context) (coming capture left)) where
  pub surveys_from : (link : Option Link) → tally ≡ nothing_noted → link ≡ own_link capture.context
      → (coming capture left).1 ≡ done → tally' ≡ all_noted tally (coming capture left).0
      → (all.end ≡ done) × (link ≡ all.link) × (tally' ≡ all_noted nothing_noted all.packets)
  surveys_from link none own ends counted = (
    ap (λ (s : Surveyed). s.end) is ∙ ends,
    own ∙ ap (λ (s : Surveyed). s.link) (sym is),
    counted ∙ ap (λ (t : Tallied). all_noted t (coming capture left).0) none ∙ ap (λ (s : Surveyed). all_noted nothing_noted s.packets) (sym is),
  )

  pub surveys_fault : (fault : Fault CaptureReason) (failed wider : Type 0)
      → Counts tally tally' (coming capture left) failed (Err fault) → (failed → wider) → Surveys all wider (Err fault)
  surveys_fault Read failed wider h f = f h
  surveys_fault Limit failed wider h f = ap (λ (s : Surveyed). s.end) is ∙ h
  surveys_fault (Bad reason place) failed wider h f = ap (λ (s : Surveyed). s.end) is ∙ h
