-- A capture that is judged packet by packet, each under the routes held at its moment.
use Rattle.cmd_enforce.proofs.Words.{◌≡◌, ◌≢◌, ◌⊎◌, inl, inr, ◌≤◌, ◌<◌, ◌+◌, ◌^◌, ◌==◌, ℕ, List, [], ◌∷◌, ◌++◌, Bool, true, false, Option, Some, None}
use Rattle.cmd_enforce.proofs.Words.{length, refl, ap, sym, ◌∙◌, subst, append_assoc, append-nil, length-append, arith, IsErrAnd, Rose, with_part}
use Rattle.cmd_enforce.proofs.Words.{Config, End, done, Goes, Stops, goes_none, goes_then, goes_stops, goes_as, stops_as, Captured, CaptureState}
use Rattle.cmd_enforce.proofs.Words.{Recorded, coming, CaptureReason, Held, Item, Timed, Refusal, Outside, Memory, until, IsUnplayed, PlayerState}
use Rattle.cmd_enforce.proofs.Words.{Stands, due_item, answered, status_of, rose_earlier, AdmittedRules, Ceases, IsAtPacket, admitted_rules, always}
use Rattle.cmd_enforce.proofs.Words.{lines_from, output_of, packet_text, rules_by, status_at, BreaksBehind, BreaksOff, CameTo, Follows, HoldAt}
use Rattle.cmd_enforce.proofs.Words.{IsUnjudged, Judging, LeaveSameAt, Outcome, Progress, came_lines, outcome, progress}
use Rattle.std.{specs.{Option.{is_some}, Prelude.{Result, Ok, Err, if◌then◌else◌}}, proofs.lemmas.Bool.{eq-eqb, eqb-true}}
use Rattle.fs_base.proofs.Lists.{each_append}
use Rattle.fs_desk.specs.{Laws.{LeaveSame}, Leaves.{Leaves}}
use Rattle.fs_tape.specs.declared.item.TapeItem.{TapeItem}
use Rattle.cmd_stages.proofs.LookingAhead.{stands_later}

-- tapes that leave the same routes leave one list of held routes
abbrev pub OneList : Type 0
OneList =
    (config : Config) (items other : List Item) (held kept : Held)
    → LeaveSame config items other → Leaves config items held → Leaves config other kept → held ≡ kept

-- the lines of packets, and then of others
lines_append : (rules : ℕ → AdmittedRules) (n : ℕ) (xs ys : List Captured)
    → lines_from n rules (xs ++ ys) ≡ lines_from n rules xs ++ lines_from (n + length xs) rules ys
lines_append rules n [] ys = ap (λ (k : ℕ). lines_from k rules ys) (omega (arith))
lines_append rules n (x ∷ xs) ys =
    ap (λ (z : List ℕ). packet_text (n + 1) (rules x.moment) x.link x.octets ++ z) (lines_append rules (n + 1) xs ys)
    ∙ sym (append_assoc (packet_text (n + 1) (rules x.moment) x.link x.octets) (lines_from (n + 1) rules xs) (lines_from (n + 1 + length xs) rules ys))
    ∙ ap (λ (k : ℕ). (packet_text (n + 1) (rules x.moment) x.link x.octets ++ lines_from (n + 1) rules xs) ++ lines_from k rules ys) (omega (arith))

-- the lines take nothing of a tape but the routes that it holds at the packets' moments

lines_agree : OneList → (config : Config) (items other : List Timed) (held kept : ℕ → Held) (n : ℕ) (packets : List Captured)
    → LeaveSameAt config items other packets → HoldAt config items held packets → HoldAt config other kept packets
    → lines_from n (rules_by held) packets ≡ lines_from n (rules_by kept) packets
lines_agree one config items other held kept n [] same a b = refl
lines_agree one config items other held kept n (packet ∷ packets) same a b =
    let now : held packet.moment ≡ kept packet.moment =
    one config (until packet.moment items) (until packet.moment other) (held packet.moment) (kept packet.moment) same.0 a.0 b.0 in
    ap (λ (h : Held). packet_text (n + 1) (admitted_rules h) packet.link packet.octets ++ lines_from (n + 1) (rules_by held) packets) now
    ∙ ap (λ (more : List ℕ). packet_text (n + 1) (admitted_rules (kept packet.moment)) packet.link packet.octets ++ more)
    (lines_agree one config items other held kept (n + 1) packets same.1 a.1 b.1)

pub outputs_agree : OneList → (config : Config) (items other : List Timed) (held kept : ℕ → Held) (capture : Recorded)
    → LeaveSameAt config items other capture.packets → HoldAt config items held capture.packets → HoldAt config other kept capture.packets
    → output_of held capture ≡ output_of kept capture
outputs_agree one config items other held kept capture same a b = lines_agree one config items other held kept 0 capture.packets same a b

same_at : (config : Config) (items : List Timed) (packets : List Captured) → LeaveSameAt config items items packets
same_at config items [] = tt
same_at config items (packet ∷ packets) = (record { unicast = λ place. refl; flows = λ rule peer. refl }, same_at config items packets)

-- the routes of a table from a moment on: of that moment alone

abbrev with_table : (ℕ → Held) → ℕ → Held → ℕ → Held
with_table held m table t = if t == m then table else held t

holds_still : (config : Config) (items : List Timed) (held : ℕ → Held) (m : ℕ) (table : Held) (gone : List Captured)
    → HoldAt config items held gone → Leaves config (until m items) table → HoldAt config items (with_table held m table) gone
holds_still config items held m table [] all l = tt
holds_still config items held m table (packet ∷ gone) all l =
    (by (packet.moment == m) refl, holds_still config items held m table gone all.1 l)
  where
    by : (b : Bool) → (packet.moment == m) ≡ b → Leaves config (until packet.moment items) (if b then table else held packet.moment)
    by true e = subst (λ (t : ℕ). Leaves config (until t items) table) (sym (eqb-true packet.moment m e)) l
    by false e = all.0

-- one more packet, under a table of the routes held at its moment
pub record Extended (config : Config) (items : List Timed) (held : ℕ → Held) (gone : List Captured) (packet : Captured) (table : Held) : Type 0 where
  pub kept : ℕ → Held
  pub leaves : HoldAt config items kept (gone ++ packet ∷ [])
  pub lines : lines_from 0 (rules_by kept) (gone ++ packet ∷ [])
      ≡ lines_from 0 (rules_by held) gone ++ packet_text (length gone + 1) (admitted_rules table) packet.link packet.octets

extend : OneList → (config : Config) (items : List Timed) (held : ℕ → Held) (gone : List Captured) (packet : Captured) (table : Held)
    → HoldAt config items held gone → Leaves config (until packet.moment items) table → Extended config items held gone packet table
extend one config items held gone packet table a l =
    let kept : ℕ → Held = with_table held packet.moment table in
    let still : HoldAt config items kept gone = holds_still config items held packet.moment table gone a l in
    let here : kept packet.moment ≡ table = ap (λ (b : Bool). if b then table else held packet.moment) (eq-eqb packet.moment packet.moment refl) in
    let zero : 0 + length gone ≡ length gone = omega arith in
    record {
      kept = kept;
      leaves = each_append (λ (p : Captured). Leaves config (until p.moment items) (kept p.moment)) gone (packet ∷ []) still
          (subst (λ (h : Held). Leaves config (until packet.moment items) h) (sym here) l, tt);
      lines =
          lines_append (rules_by kept) 0 gone (packet ∷ [])
          ∙ ap (λ (front : List ℕ). front ++ lines_from (0 + length gone) (rules_by kept) (packet ∷ []))
          (lines_agree one config items items kept held 0 gone (same_at config items gone) still a)
          ∙ ap (λ (more : List ℕ). lines_from 0 (rules_by held) gone ++ more)
          (append-nil (packet_text (0 + length gone + 1) (admitted_rules (kept packet.moment)) packet.link packet.octets)
          ∙ ap (λ (k : ℕ). packet_text (k + 1) (admitted_rules (kept packet.moment)) packet.link packet.octets) zero
          ∙ ap (λ (h : Held). packet_text (length gone + 1) (admitted_rules h) packet.link packet.octets) here);
    }

-- no packet was judged
pub followed_first : (work : Judging) (table : Held) (number : ℕ) → number ≡ 0 → Follows work (progress work.all work.before work.pending number)
followed_first work table number zero = record {
  held = always table;
  gone = [];
  parts = refl;
  end_is = refl;
  count = zero;
  leaves = tt;
  goes = goes_none work.before work.pending;
}

-- one more packet was
pub followed_more : OneList → {work : Judging} {now : Progress} (next : Progress) (packet : Captured) (table : Held)
    → Follows work now → now.rest ≡ with_part packet next.rest → Leaves work.config (until packet.moment work.items) table
    → Goes now.written next.written now.pending next.pending (packet_text (now.number + 1) (admitted_rules table) packet.link packet.octets)
    → next.number ≡ now.number + 1 → Follows work next
followed_more one {work} {now} next packet table f e l g n =
    let more : Extended work.config work.items f.held f.gone packet table = extend one work.config work.items f.held f.gone packet table f.leaves l in
    record {
      held = more.kept;
      gone = f.gone ++ packet ∷ [];
      parts = f.parts ∙ ap (λ (r : List Captured × End CaptureReason). f.gone ++ r.0) e ∙ sym (append_assoc f.gone (packet ∷ []) next.rest.0);
      end_is = f.end_is ∙ ap (λ (r : List Captured × End CaptureReason). r.1) e;
      count = n ∙ ap (λ (k : ℕ). k + 1) f.count ∙ sym (length-append f.gone (packet ∷ []));
      leaves = more.leaves;
      goes = goes_as
          (ap (λ (k : ℕ). lines_from 0 (rules_by f.held) f.gone ++ packet_text (k + 1) (admitted_rules table) packet.link packet.octets) f.count
          ∙ sym more.lines)
          (goes_then f.goes g);
    }

-- the packets that judging came to
abbrev came_of : {work : Judging} {now : Progress} → Follows work now → CameTo work.config work.items work.all.0
came_of {now = now} f = record { held = f.held; judged = f.gone; rest = now.rest.0; parts = f.parts; leaves = f.leaves }

pub followed_done : {work : Judging} {now : Progress} → Follows work now → now.rest ≡ ([], done)
    → (came : CameTo work.config work.items work.all.0) × (came.rest ≡ []) × (work.all.1 ≡ done)
    × Goes work.before now.written work.pending now.pending (came_lines came)
followed_done f e = (came_of f, ap (λ (r : List Captured × End CaptureReason). r.0) e, f.end_is ∙ ap (λ (r : List Captured × End CaptureReason). r.1) e, f.goes)

-- a call on the files failed
files_failed : {work : Judging} {now : Progress} (left : List Captured) (failed : Type 0)
    → Follows work now → failed → BreaksOff work (outcome left now.written now.pending) failed Outside
files_failed left failed f h = (
  came_of f,
  inr (inr (
    refl,
    h,
    inl (record {
      front = lines_from 0 (rules_by f.held) f.gone;
      rest = [];
      parts = sym (append-nil (lines_from 0 (rules_by f.held) f.gone));
      goes = f.goes;
    }),
  )),
)

pub followed_ceased : {work : Judging} {now : Progress} (left : List Captured) (early mid after : ℕ) (other : Type 0) (cause : Refusal)
    → Follows work now → early ≤ mid → Ceases now.rest (Rose mid after) cause
    → BreaksOff work (outcome left now.written now.pending) (Rose early after ⊎ other) cause
followed_ceased left early mid after other cause f l (inl h) = (came_of f, inl (ap status_at f.end_is ∙ h.1, h.0, f.goes))
followed_ceased {work} {now} left early mid after other cause f l (inr h) =
    subst (BreaksOff work (outcome left now.written now.pending) (Rose early after ⊎ other)) (sym h.0)
    (files_failed left (Rose early after ⊎ other) f (inl (rose_earlier early mid after l h.1)))

-- memory was wanting
pub followed_wanting : {work : Judging} {now : Progress} (left : List Captured) (failed : Type 0)
    → Follows work now → IsUnjudged now.rest.0 left → BreaksOff work (outcome left now.written now.pending) failed Memory
followed_wanting left failed f u = (came_of f, inr (inl (refl, u, f.goes)))

-- the tape couldn't be played on
pub followed_unplayed : {work : Judging} {now : Progress} (left : List Captured) (early mid after : ℕ) (other : Type 0) (cause : Refusal)
    → Follows work now → IsUnjudged now.rest.0 left → early ≤ mid → IsUnplayed (Rose mid after) cause
    → BreaksOff work (outcome left now.written now.pending) (Rose early after ⊎ other) cause
followed_unplayed {work} {now} left early mid after other cause f u l (inl h) =
    subst (BreaksOff work (outcome left now.written now.pending) (Rose early after ⊎ other)) (sym h)
    (followed_wanting left (Rose early after ⊎ other) f u)
followed_unplayed {work} {now} left early mid after other cause f u l (inr h) =
    subst (BreaksOff work (outcome left now.written now.pending) (Rose early after ⊎ other)) (sym h.0)
    (files_failed left (Rose early after ⊎ other) f (inl (rose_earlier early mid after l h.1)))

-- the sink failed within the line of a packet
pub followed_stopped : OneList
    → {work : Judging} {now : Progress} (rest : List Captured × End CaptureReason) (written : Option (List ℕ)) (pending : List ℕ) (packet : Captured)
    (table : Held)
    (files : Type 0) (first after : ℕ) → Follows work now → now.rest ≡ with_part packet rest → Leaves work.config (until packet.moment work.items) table
    → Stops now.written written now.pending pending (packet_text (now.number + 1) (admitted_rules table) packet.link packet.octets)
    → Rose first after → BreaksOff work (outcome rest.0 written pending) (files ⊎ Rose first after) Outside
followed_stopped one {work} {now} rest written pending packet table files first after f e l stop rose =
    let more : Extended work.config work.items f.held f.gone packet table = extend one work.config work.items f.held f.gone packet table f.leaves l in (
      record {
        held = more.kept;
        judged = f.gone ++ packet ∷ [];
        rest = rest.0;
        parts = f.parts ∙ ap (λ (r : List Captured × End CaptureReason). f.gone ++ r.0) e ∙ sym (append_assoc f.gone (packet ∷ []) rest.0);
        leaves = more.leaves;
      },
      inr (inr (
        refl,
        inr rose,
        inr (stops_as
            (ap (λ (k : ℕ). lines_from 0 (rules_by f.held) f.gone ++ packet_text (k + 1) (admitted_rules table) packet.link packet.octets) f.count
            ∙ sym more.lines)
            (goes_stops f.goes stop)),
      )),
    )

-- what is to come was read on, or stands as it stood
pub followed_read : {work : Judging} {now : Progress} (rest : List Captured × End CaptureReason)
    → now.rest ≡ rest → Follows work now → Follows work (progress rest now.written now.pending now.number)
followed_read {work} {now} rest e f = subst (λ (r : List Captured × End CaptureReason). Follows work (progress r now.written now.pending now.number)) e f

-- the lines that were pending have left, or stand as they stood
pub followed_left : {work : Judging} {now : Progress} (written : Option (List ℕ)) (pending : List ℕ) (number : ℕ)
    → Follows work now → Goes now.written written now.pending pending [] → number ≡ now.number → Follows work (progress now.rest written pending number)
followed_left written pending number f g n = record {
  held = f.held;
  gone = f.gone;
  parts = f.parts;
  end_is = f.end_is;
  count = n ∙ f.count;
  leaves = f.leaves;
  goes = goes_as (append-nil (lines_from 0 (rules_by f.held) f.gone)) (goes_then f.goes g);
}

-- the sink failed while they left
pub followed_held : {work : Judging} {now : Progress} (left : List Captured) (written : Option (List ℕ)) (pending : List ℕ) (files : Type 0)
    (first mid after : ℕ)
    → Follows work now → Stops now.written written now.pending pending [] → first ≤ mid → Rose mid after
    → BreaksOff work (outcome left written pending) (files ⊎ Rose first after) Outside
followed_held left written pending files first mid after f stop l rose = (
  came_of f,
  inr (inr (
    refl,
    inr (rose_earlier first mid after l rose),
    inr (stops_as (append-nil (lines_from 0 (rules_by f.held) f.gone)) (goes_stops f.goes stop)),
  )),
)

-- the same routes are left under the same configuration
pub leaves_as : (config config' : Config) (items : List Item) (held : Held) → config ≡ config' → Leaves config' items held → Leaves config items held
leaves_as config config' items held e l = subst (λ (c : Config). Leaves c items held) (sym e) l

-- the number of one line more fits
pub number_fits : (number place limit whole : ℕ) → number < place → place ≤ limit → limit ≡ whole → whole < 2 ^ 64 → number + 1 < 2 ^ 64
number_fits number place limit whole a b e f = omega (arith, a, b, e, f)

-- what failed in a part failed in the whole

pub breaks_wider : (work : Judging) (now : Outcome) (failed other : Type 0) (refusal : Refusal)
    → (failed → other) → BreaksOff work now failed refusal → BreaksOff work now other refusal
breaks_wider work now failed other refusal f b = (b.0, by b.1)
  where
    by : BreaksBehind work now b.0 failed refusal → BreaksBehind work now b.0 other refusal
    by (inl h) = inl h
    by (inr (inl h)) = inr (inl h)
    by (inr (inr h)) = inr (inr (h.0, f h.1, h.2))

pub rose_back : (f f1 f2 s s1 s2 : ℕ) → f ≤ f1 → s ≤ s1 → Rose f1 f2 ⊎ Rose s1 s2 → Rose f f2 ⊎ Rose s s2
rose_back f f1 f2 s s1 s2 l m (inl r) = inl (rose_earlier f f1 f2 l r)
rose_back f f1 f2 s s1 s2 l m (inr r) = inr (rose_earlier s s1 s2 m r)

-- where nothing is ahead nothing is due
pub never_due : {A : Type 0} (ahead : Option TapeItem) (at moment : ℕ) → ahead ≡ None → is_some (due_item ahead at moment) ≡ true → A
never_due None at moment e h = absurd cc
never_due (Some item) at moment e h = absurd cc

-- the slots of the tape and of the capture are apart

not_same : (one two : ℕ) → one ≡ 1 → two ≡ 2 → one ≢ two
not_same one two e f g = let wrong : 1 ≡ 2 = sym e ∙ g ∙ f in absurd cc

-- after a read of the capture the tape stands where it stood, also for a later moment
pub awaits : (items : List Timed) (player : PlayerState) (t t' slot tape : ℕ) (left left' : ℕ → List ℕ)
    → slot ≡ 2 → tape ≡ 1 → ((other : ℕ) → other ≢ slot → left' other ≡ left other) → t ≤ t'
    → Stands items t player (left 1) → Stands items t' player (left' tape)
awaits items player t t' slot tape left left' two one kept l s =
    subst (Stands items t' player) (sym (kept 1 (not_same 1 slot refl two)) ∙ ap left' (sym one)) (stands_later items t t' player (left 1) l s)

-- the capture is read from its own slot
pub read_on : (capture capture' : CaptureState) (packet : Captured) (slot : ℕ) (left left' : ℕ → List ℕ)
    → slot ≡ 2 → coming capture (left slot) ≡ with_part packet (coming capture' (left' slot))
    → coming capture (left 2) ≡ with_part packet (coming capture' (left' 2))
read_on capture capture' packet slot left left' two e =
    subst (λ (n : ℕ). coming capture (left n) ≡ with_part packet (coming capture' (left' n))) two e

-- the same of equal moments and slots
pub stands_at : (items : List Timed) (t t' : ℕ) (player : PlayerState) (left : ℕ → List ℕ) (slot slot' : ℕ)
    → t ≡ t' → slot ≡ slot' → Stands items t player (left slot) → Stands items t' player (left slot')
stands_at items t t' player left slot slot' e one s =
    subst (λ (n : ℕ). Stands items n player (left slot')) e (subst (λ (n : ℕ). Stands items t player (left n)) one s)

pub capture_apart : (tape : ℕ) → tape ≡ 1 → 2 ≢ tape
capture_apart tape one same = not_same tape 2 one refl (sym same)

-- an error that a `?` hands on

pub six_of : {T : Type 0} (r : Result T Refusal) (cause : Refusal) → IsErrAnd r (λ e. e ≡ cause) → answered r ≡ 6 → status_of cause ≡ 6
six_of (Ok t) cause h six = absurd h
six_of (Err e) cause h six = ap status_of (sym h) ∙ six

-- a run that was refused so doesn't answer this
refused_not : {T A : Type 0} (status : ℕ) (r : Result T Refusal) (cause : Refusal) → IsErrAnd r (λ e. e ≡ cause) → status_of cause ≢ status
    → answered r ≡ status → A
refused_not status (Ok t) cause h never same = absurd h
refused_not status (Err e) cause h never same = absurd (never (ap status_of (sym h) ∙ same))

pub packet_no_tape : {T A : Type 0} (r : Result T Refusal) (cause : Refusal) → IsErrAnd r (λ e. e ≡ cause) → IsAtPacket (status_of cause) → answered r ≡ 4 → A
packet_no_tape r cause h at four = refused_not 4 r cause h at.0.1 four

-- nor does one of which the tape wasn't begun
pub unplayed_no_tape : {T A : Type 0} {failed : Type 0} (r : Result T Refusal) (cause : Refusal) → IsErrAnd r (λ e. e ≡ cause)
    → IsUnplayed failed cause → answered r ≡ 4 → A
unplayed_no_tape {failed = failed} r cause h unplayed four = refused_not 4 r cause h (by unplayed) four
  where
    by : IsUnplayed failed cause → status_of cause ≢ 4
    by (inl e) same = let at : 6 ≡ 4 = sym (ap status_of e) ∙ same in absurd cc
    by (inr e) same = let at : 1 ≡ 4 = sym (ap status_of e.0) ∙ same in absurd cc

pub packet_wants_none : {T A : Type 0} (r : Result T Refusal) (cause : Refusal) → IsErrAnd r (λ e. e ≡ cause) → IsAtPacket (status_of cause)
    → answered r ≡ 6 → A
packet_wants_none r cause h at six = refused_not 6 r cause h at.1 six
