-- How what is said of a tape follows from what is counted of it.
use Rattle.fs_cli.proofs.Words.{◌≡◌, inl, inr, ℕ, ◌==◌, Bool, true, false, if◌then◌else◌, List, [], ◌∷◌, ◌++◌, Option, refl, ap, sym, subst, ◌∙◌}
use Rattle.fs_cli.proofs.Words.{append-nil, length, arith, Config, Timed, Names, Stage, Found, config_stage, tape_stage, untimed}
use Rattle.fs_cli.proofs.Words.{verdict_with, Verdict}
use Rattle.std.specs.Prelude.{None}
use Rattle.std.proofs.Common.{◌+◌, append_assoc, get_or, replicate}
use Rattle.std.proofs.lemmas.{Bool.{cases_lt, Decides.{nat_tests}}, List.{get_or-replicate, get_or_past, length-append, length-replicate}}
use Rattle.fs_base.specs.Parts.{with_part}
use Rattle.fs_input.specs.Records.{End, done}
use Rattle.fs_tape.specs.{Tape.{Item, TapeState, coming, timed}, Magic.{version_number}, declared.{fault.TapeReason.{TapeReason}}}
use Rattle.cmd_stages.{specs.Play.{IsOpened}, proofs.Playing.{done_found, untimed_more}}
use Rattle.fs_cli.specs.FileCheck.{Due, IsDue, OfTape}
use Rattle.fs_cli.specs.TapeCheck.{CountsOf, CountsOn, CountsState, IsWithin, JudgesTape, TapeCounted, counted_text, no_tally, peer_of_item}
use Rattle.fs_cli.specs.TapeCheck.{span_behind, span_of, span_with, tally_at, tally_behind, tally_lines, tally_of, tally_with, tape_line, tape_text}
use Rattle.fs_cli.specs.declared.tallies.Tally.{Tally}

-- one item more

tally_more : (number : ℕ) (tally : Tally) (items : List Item) (item : Item)
    → tally_behind number tally (items ++ item ∷ [])
    ≡ (if peer_of_item item == number then tally_with item (tally_behind number tally items) else tally_behind number tally items)
tally_more number tally [] item = refl
tally_more number tally (first ∷ items) item = tally_more number (if peer_of_item first == number then tally_with first tally else tally) items item

span_more : (span : Option (ℕ × ℕ)) (items : List Timed) (last : Timed) → span_behind span (items ++ last ∷ []) ≡ span_with (span_behind span items) last.moment
span_more span [] last = refl
span_more span (first ∷ items) last = span_more (span_with span first.moment) items last

-- the tally of the item's peer is another, and no other's is
abbrev pub AddsTo : CountsState → CountsState → (moment : ℕ) → Item → Type 0
AddsTo old new moment item =
    (new.items ≡ old.items + 1) × (new.span ≡ span_with old.span moment)
    × ((number : ℕ) → tally_at new.by_number number
    ≡ (if number == peer_of_item item then tally_with item (tally_at old.by_number (peer_of_item item)) else tally_at old.by_number number))

pub counts_more : (old new : CountsState) (moment : ℕ) (item : Item) (gone : List Timed) → AddsTo old new moment item → CountsOf old gone
    → CountsOf new (gone ++ timed moment item ∷ [])
counts_more old new moment item gone adds of = record {
  items_are = adds.0 ∙ ap (λ n. n + 1) of.items_are ∙ sym (length-append gone (timed moment item ∷ []));
  span_is = adds.1 ∙ ap (λ span. span_with span moment) of.span_is ∙ sym (span_more _ gone (timed moment item));
  tallies_are = λ number.
      adds.2 number ∙ each number (number == peer_of_item item) refl
      ∙ sym (ap (tally_of number) (untimed_more gone (timed moment item ∷ [])) ∙ tally_more number _ (untimed gone) item);
}
  where
    each : (number : ℕ) (b : Bool) → (number == peer_of_item item) ≡ b
        → (if b then tally_with item (tally_at old.by_number (peer_of_item item)) else tally_at old.by_number number)
        ≡ (if peer_of_item item == number then tally_with item (tally_of number (untimed gone)) else tally_of number (untimed gone))
    each number true e =
        let same : number ≡ peer_of_item item = grind (arith, nat_tests, e) in
        let own : (peer_of_item item == number) ≡ true = grind (arith, nat_tests, same) in
        ap (tally_with item) (ap (tally_at old.by_number) (sym same) ∙ of.tallies_are number)
        ∙ sym (ap (λ c. if c then tally_with item (tally_of number (untimed gone)) else tally_of number (untimed gone)) own)
    each number false e =
        let other : (peer_of_item item == number) ≡ false = grind (arith, nat_tests, e) in
        of.tallies_are number ∙ sym (ap (λ c. if c then tally_with item (tally_of number (untimed gone)) else tally_of number (untimed gone)) other)

-- nothing is counted

at_none : (n : ℕ) (listed : List Tally) (number : ℕ) → listed ≡ replicate n no_tally → tally_at listed number ≡ no_tally
at_none n listed number e = ap (λ (l : List Tally). get_or l number no_tally) e ∙ elim (cases_lt number n) [
  | inl less ↦ get_or-replicate n number no_tally no_tally less
  | inr more ↦ get_or_past (replicate n no_tally) number no_tally (rw (length-replicate n no_tally) more)
]

pub fresh_within : (listed : List Tally) → listed ≡ replicate 65536 no_tally → (length listed ≡ 65536) × ((number : ℕ) → IsWithin 0 (tally_at listed number))
fresh_within listed e = (
  ap (λ (l : List Tally). length l) e ∙ length-replicate 65536 no_tally,
  λ number. subst (IsWithin 0) (sym (at_none 65536 listed number e)) (record { items_within = omega arith; octets_within = omega arith }),
)

pub fresh_counts : (listed : List Tally) → listed ≡ replicate 65536 no_tally → CountsOf (record { items = 0; span = None; by_number = listed }) []
fresh_counts listed e = record { items_are = refl; span_is = refl; tallies_are = λ number. at_none 65536 listed number e }

-- one item more keeps each tally within

-- of all items some were counted, and the rest is to come
pub record Counting (all rest : List Timed × End TapeReason) (old now : CountsState) : Type 0 where
  pub gone : List Timed
  pub parts : all.0 ≡ gone ++ rest.0
  pub end_is : all.1 ≡ rest.1
  pub counted : (before : List Timed) → CountsOf old before → CountsOf now (before ++ gone)

pub counting_more : (all rest rest' : List Timed × End TapeReason) (old now now' : CountsState) (next : Timed) → Counting all rest old now
    → rest ≡ with_part next rest'
    → ((gone : List Timed) → CountsOf now gone → CountsOf now' (gone ++ next ∷ [])) → Counting all rest' old now'
counting_more all rest rest' old now now' next p e f = record {
  gone = p.gone ++ next ∷ [];
  parts = p.parts ∙ ap (λ (r : List Timed × End TapeReason). p.gone ++ r.0) e ∙ sym (append_assoc p.gone (next ∷ []) rest'.0);
  end_is = p.end_is ∙ ap (λ (r : List Timed × End TapeReason). r.1) e;
  counted = λ before of. subst (CountsOf now') (append_assoc before p.gone (next ∷ [])) (f (before ++ p.gone) (p.counted before of));
}

pub counting_done : (all rest : List Timed × End TapeReason) (old now : CountsState) → Counting all rest old now → rest ≡ ([], done) → CountsOn all old now
counting_done all rest old now p e = record {
  done_is = p.end_is ∙ ap (λ (r : List Timed × End TapeReason). r.1) e;
  counts = λ before of. subst (λ (z : List Timed). CountsOf now (before ++ z))
      (sym (p.parts ∙ ap (λ (r : List Timed × End TapeReason). p.gone ++ r.0) e ∙ append-nil p.gone)) (p.counted before of);
}

pub tape_counted : (config : Config) (limit : ℕ) (holds : Names) (name left : List ℕ) (tape : TapeState) (version : ℕ) (nothing counts : CountsState)
    → IsOpened limit holds name left tape → version ≡ version_number tape.version → CountsOn (coming config tape left) nothing counts → CountsOf nothing []
    → TapeCounted config limit holds name version counts
tape_counted config limit holds name left tape version nothing counts o v on first = record {
  items = (coming config tape left).0;
  found = o.comes config ∙ done_found (coming config tape left) on.done_is;
  own = tape.version;
  has_version = o.has_version;
  version_is = v;
  counts_are = on.counts [] first;
}

-- the lines

lines_same : (numbers : List ℕ) (f g : ℕ → Tally) → ((number : ℕ) → f number ≡ g number) → tally_lines numbers f ≡ tally_lines numbers g
lines_same [] f g h = refl
lines_same (number ∷ numbers) f g h = rw (h number, lines_same numbers f g h) refl

text_is : (config : Config) (limit : ℕ) (holds : Names) (name : List ℕ) (version : ℕ) (counts : CountsState)
    (c : TapeCounted config limit holds name version counts)
    → counted_text config version counts ≡ tape_text config c.own c.items
text_is config limit holds name version counts c =
    rw (c.version_is, c.counts_are.items_are, c.counts_are.span_is)
    (ap (λ (lines : List ℕ). tape_line (version_number c.own) (length c.items) (span_of c.items) ++ lines)
    (lines_same _ _ _ c.counts_are.tallies_are))

-- what is due

abbrev DueOf : ℕ → Names → (tape : List ℕ) → Stage Config → Verdict → Type 0
DueOf limit holds tape stage verdict = Due (λ accepted. JudgesTape limit holds tape accepted (tape_stage accepted limit holds tape)) stage verdict

due_by : (limit : ℕ) (holds : Names) (config tape : List ℕ) (accepted : Config) (stage : Stage (List Timed)) (verdict : Verdict)
    → config_stage limit holds config ≡ Found accepted → tape_stage accepted limit holds tape ≡ stage → JudgesTape limit holds tape accepted stage verdict
    → IsDue limit holds (OfTape config tape) verdict
due_by limit holds config tape accepted stage verdict e found judges =
    subst (λ (s : Stage Config). DueOf limit holds tape s verdict) (sym e)
    (subst (λ (s : Stage (List Timed)). JudgesTape limit holds tape accepted s verdict) (sym found) judges)

pub tape_told : (limit : ℕ) (holds holds' : Names) (config tape : List ℕ) (accepted : Config) (version : ℕ) (counts : CountsState) (verdict : Verdict)
    → config_stage limit holds config ≡ Found accepted → holds' ≡ holds → TapeCounted accepted limit holds' tape version counts
    → verdict ≡ verdict_with 0 (counted_text accepted version counts) → IsDue limit holds (OfTape config tape) verdict
tape_told limit holds holds' config tape accepted version counts verdict e names counted is =
    by (subst (λ (n : Names). TapeCounted accepted limit n tape version counts) names counted)
  where
    by : TapeCounted accepted limit holds tape version counts → IsDue limit holds (OfTape config tape) verdict
    by c = due_by limit holds config tape accepted (Found c.items) verdict e c.found (
      c.own,
      c.has_version,
      is
          ∙ ap (λ (text : List ℕ). verdict_with 0 text) (text_is accepted limit holds tape version counts c),
    )
