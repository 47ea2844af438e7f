-- How what became of a text follows from what became of its parts.
use Rattle.fs_line.proofs.Words.{◌≡◌, inl, inr, ℕ, ◌+◌, ◌<◌, List, [], ◌∷◌, ◌++◌, length, take, drop, get_or, Option, Result, Ok, Err, OnOk, OnErr}
use Rattle.fs_line.proofs.Words.{IsErrAnd, ◌≤◌, arith, sym, ◌∙◌, ap, subst, append_assoc, append-nil, common_steps, take_more, take-append-drop, Goes}
use Rattle.fs_line.proofs.Words.{Partly, Stops, Sent}
use Rattle.fs_base.{specs.{Outside.{HasCause}, Sink.{Grew, GrewPart}}, proofs.Grew.{Grew-refl, Grew-trans, part_more, part_then}}
use Rattle.fs_base.specs.declared.Sink as sink

-- how many faults there were, what the sink has taken, and what is pending
pub record Moment : Type 0 where
  pub faults : ℕ
  pub written : Option (List ℕ)
  pub pending : List ℕ

abbrev pub moment : {S : Type 0} → sink.Ghosts S → S → List ℕ → Moment
moment of_sink now pending = record { faults = of_sink.faults now; written = of_sink.written now; pending = pending }

-- a text has gone on so far
pub record SentSo (before now : Moment) (text : List ℕ) : Type 0 where
  pub later : before.faults ≤ now.faults
  pub goes : Goes before.written now.written before.pending now.pending text

-- no text
pub goes_none : (a : Option (List ℕ)) (p : List ℕ) → Goes a a p p []
goes_none a p = record { flushed = []; grew = Grew-refl a; whole = append-nil p }

-- a text and then another
pub goes_then : {a b c : Option (List ℕ)} {p q r xs ys : List ℕ} → Goes a b p q xs → Goes b c q r ys → Goes a c p r (xs ++ ys)
goes_then {a} {b} {c} {p} {q} {r} {xs} {ys} first then =
    record {
      flushed = first.flushed ++ then.flushed;
      grew = Grew-trans a b c first.flushed then.flushed first.grew then.grew;
      whole = sym (append_assoc p xs ys) ∙ ap (λ front. front ++ ys) first.whole ∙ append_assoc first.flushed q ys
          ∙ ap (λ rest. first.flushed ++ rest) then.whole ∙ sym (append_assoc first.flushed then.flushed r);
    }

-- a text, and then a fault in the next
pub goes_stops : {a b c : Option (List ℕ)} {p q r xs ys : List ℕ} → Goes a b p q xs → Stops b c q r ys → Stops a c p r (xs ++ ys)
goes_stops {a} {b} {c} {p} {q} {r} {xs} {ys} first stop =
    let P : List ℕ → Type 0 = λ text. GrewPart a c text in
    let same : first.flushed ++ (q ++ ys) ≡ p ++ (xs ++ ys) =
    sym (append_assoc first.flushed q ys) ∙ ap (λ front. front ++ ys) (sym first.whole) ∙ append_assoc p xs ys in
    record { part = subst P same (part_then a b c first.flushed (q ++ ys) first.grew stop.part); empty = stop.empty }

-- a fault in the first part of a text
pub stops_more : {a b : Option (List ℕ)} {p q xs : List ℕ} (ys : List ℕ) → Stops a b p q xs → Stops a b p q (xs ++ ys)
stops_more {a} {b} {p} {q} {xs} ys stop =
    let P : List ℕ → Type 0 = λ text. GrewPart a b text in
    record { part = subst P (append_assoc p xs ys) (part_more a b (p ++ xs) ys stop.part); empty = stop.empty }

-- what is sent first and then
pub sends_then : {T U E F : Type 0} {f g h : ℕ} {a b c : Option (List ℕ)} {p q r xs ys : List ℕ} {value : T} {result : Result U F}
    → Sent {T = T} {E = E} f g a b p q xs (Ok value) → Sent g h b c q r ys result → Sent f h a c p r (xs ++ ys) result
sends_then {result = Ok value} first then =
    record { later = omega (arith, first.later, then.later); ok = goes_then first.ok then.ok; err = tt }
sends_then {result = Err error} first then =
    record { later = omega (arith, first.later, then.later); ok = tt; err = (goes_stops first.ok then.err.0, omega (arith, first.later, then.err.1)) }

-- the sink failed in the first part of a text, and the error is handed on
pub sends_stopped : {T U E F : Type 0} {f g : ℕ} {a b : Option (List ℕ)} {p q xs : List ℕ} {error : E} (ys : List ℕ) (R : F → Type 0) (result : Result U F)
    → IsErrAnd result R → Sent {T = T} {E = E} f g a b p q xs (Err error) → Sent f g a b p q (xs ++ ys) result
sends_stopped ys R (Ok value) on first = absurd on
sends_stopped ys R (Err error) on first = record { later = first.later; ok = tt; err = (stops_more ys first.err.0, first.err.1) }

-- the sink failed before a text
pub sends_none : {T E : Type 0} {f g : ℕ} {a b : Option (List ℕ)} {p q : List ℕ} {error : E} (xs : List ℕ)
    → Sent {T = T} {E = E} f g a b p q [] (Err error) → Sent {T = T} {E = E} f g a b p q xs (Err error)
sends_none xs room = record { later = room.later; ok = tt; err = (stops_more xs room.err.0, room.err.1) }

-- a text kept back where room was made for it
pub sends_kept : {T E : Type 0} {f g : ℕ} {a b : Option (List ℕ)} {p q r xs : List ℕ} {value : T}
    → Sent {T = T} {E = E} f g a b p q [] (Ok value) → r ≡ q ++ xs → Sent {T = T} {E = E} f g a b p r xs (Ok value)
sends_kept {p = p} {q = q} {xs = xs} room is = record {
  later = room.later;
  ok = record {
    flushed = room.ok.flushed;
    grew = room.ok.grew;
    whole = ap (λ (front : List ℕ). front ++ xs) (sym (append-nil p)) ∙ ap (λ (front : List ℕ). front ++ xs) room.ok.whole
        ∙ append_assoc room.ok.flushed q xs ∙ ap (λ (rest : List ℕ). room.ok.flushed ++ rest) (sym is);
  };
  err = tt;
}

-- a text that is equal
pub sends_as : {T E : Type 0} {f g : ℕ} {a b : Option (List ℕ)} {p q xs ys : List ℕ} {result : Result T E} → xs ≡ ys → Sent f g a b p q xs result
    → Sent f g a b p q ys result
sends_as {f = f} {g = g} {a = a} {b = b} {p = p} {q = q} {result = result} same sent =
    let P : List ℕ → Type 0 = λ text. Sent f g a b p q text result in subst P same sent

-- a text, and then what is pending written out
pub goes_flush : {a b : Option (List ℕ)} {p q xs : List ℕ} (c : Option (List ℕ)) → Goes a b p q xs → Grew b c q → Grew a c (p ++ xs)
goes_flush {a} {b} {p} {q} {xs} c first flushed =
    let P : List ℕ → Type 0 = λ text. Grew a c text in subst P (sym first.whole) (Grew-trans a b c first.flushed q first.grew flushed)

-- a text, and then a fault while what is pending is written out
pub goes_flush_part : {a b : Option (List ℕ)} {p q xs : List ℕ} (c : Option (List ℕ)) → Goes a b p q xs → GrewPart b c q → GrewPart a c (p ++ xs)
goes_flush_part {a} {b} {p} {q} {xs} c first part =
    let P : List ℕ → Type 0 = λ text. GrewPart a c text in subst P (sym first.whole) (part_then a b c first.flushed q first.grew part)

abbrev no_octets : List ℕ
no_octets = []

take_nothing : (n : ℕ) → take n no_octets ≡ []
take_nothing n = grind (arith, common_steps)

-- a front, and then nothing
part_nothing : (a b c : Option (List ℕ)) (xs : List ℕ) → GrewPart a b xs → GrewPart b c no_octets → GrewPart a c xs
part_nothing a b c xs part more =
    let grew : Grew b c [] = subst (λ (l : List ℕ). Grew b c l) (take_nothing more.0) more.1 in
    (part.0, subst (λ (l : List ℕ). Grew a c l) (append-nil (take part.0 xs)) (Grew-trans a b c (take part.0 xs) [] part.1 grew))

-- a text that went on in part, and then a front of what was pending was written out
pub partly_flushed : (before mid now : Option (List ℕ)) (pending text : List ℕ) → Partly before mid [] pending text → GrewPart mid now pending
    → GrewPart before now text
partly_flushed before mid now pending text (inl p) grew =
    subst (λ (l : List ℕ). GrewPart before now l) (sym p.parts) (part_more before now p.front p.rest (goes_flush_part now p.goes grew))
partly_flushed before mid now pending text (inr h) grew =
    part_nothing before mid now text h.part (subst (λ (l : List ℕ). GrewPart mid now l) h.empty grew)

-- a fault while what is pending is written out
pub flush_failed : {T U E F : Type 0} {f g : ℕ} {a b : Option (List ℕ)} {p q : List ℕ} {error : E} (xs : List ℕ) (R : F → Type 0) (result : Result U F)
    → IsErrAnd result R → GrewPart a b p → q ≡ [] → HasCause {T = T} f g (Err error) → Sent f g a b p q xs result
flush_failed xs R (Ok value) on part empty cause = absurd on
flush_failed {a = a} {b = b} {p = p} xs R (Err error) on part empty cause = record {
  later = cause.later;
  ok = tt;
  err = (record { part = part_more a b p xs part; empty = empty }, cause.failed);
}

-- what was pending written out, and then a text that is written as it is
pub sent_straight : {T E : Type 0} {f g h : ℕ} {a c : Option (List ℕ)} {p q xs : List ℕ} (b : Option (List ℕ)) (result : Result T E)
    → Grew a b p → q ≡ [] → f ≤ g → OnOk result (Grew b c xs) → OnErr result (GrewPart b c xs) → HasCause g h result → Sent f h a c p q xs result
sent_straight {a = a} {c = c} {p = p} {xs = xs} b (Ok value) flushed empty later ok err cause = record {
  later = omega (arith, later, cause.later);
  ok = record {
    flushed = p ++ xs;
    grew = Grew-trans a b c p xs flushed ok;
    whole = sym (append-nil (p ++ xs)) ∙ ap (λ rest. (p ++ xs) ++ rest) (sym empty);
  };
  err = tt;
}
sent_straight {a = a} {c = c} {p = p} {xs = xs} b (Err error) flushed empty later ok err cause = record {
  later = omega (arith, later, cause.later);
  ok = tt;
  err = (record { part = part_then a b c p xs flushed err; empty = empty }, omega (arith, later, cause.failed));
}

-- a text that is equal
pub goes_as : {a b : Option (List ℕ)} {p q xs ys : List ℕ} → xs ≡ ys → Goes a b p q xs → Goes a b p q ys
goes_as {a} {b} {p} {q} {xs} {ys} same goes = let P : List ℕ → Type 0 = λ text. Goes a b p q text in subst P same goes

pub stops_as : {a b : Option (List ℕ)} {p q xs ys : List ℕ} → xs ≡ ys → Stops a b p q xs → Stops a b p q ys
stops_as {a} {b} {p} {q} {xs} {ys} same stops = let P : List ℕ → Type 0 = λ text. Stops a b p q text in subst P same stops

-- an item of a list whose text is written item by item
pub record Item (X : Type 0) : Type 0 where
  pub text : List X → List ℕ
  pub adds : (xs ys : List X) → text (xs ++ ys) ≡ text xs ++ text ys
  pub all : List X
  pub place : ℕ
  pub other : X
  pub below : place < length all

abbrev pub item : {X : Type 0} (text : List X → List ℕ) → ((xs ys : List X) → text (xs ++ ys) ≡ text xs ++ text ys)
    → (all : List X) (place : ℕ) (other : X) → place < length all → Item X
item text adds all place other below = record { text = text; adds = adds; all = all; place = place; other = other; below = below }

-- the text of those before it, its own, and that of those up to it
abbrev pub front : {X : Type 0} → Item X → List ℕ
front k = k.text (take k.place k.all)

abbrev pub own : {X : Type 0} → Item X → List ℕ
own k = k.text (get_or k.all k.place k.other ∷ [])

abbrev pub up_to : {X : Type 0} → Item X → List ℕ
up_to k = k.text (take (k.place + 1) k.all)

abbrev rest : {X : Type 0} → Item X → List ℕ
rest k = k.text (drop (k.place + 1) k.all)

text_more : {X : Type 0} (k : Item X) → front k ++ own k ≡ up_to k
text_more k = sym (ap k.text (take_more k.all k.place k.other k.below) ∙ k.adds (take k.place k.all) (get_or k.all k.place k.other ∷ []))

text_whole : {X : Type 0} (k : Item X) → front k ++ (own k ++ rest k) ≡ k.text k.all
text_whole k =
    sym (append_assoc (front k) (own k) (rest k)) ∙ ap (λ front. front ++ rest k) (text_more k)
    ∙ sym (k.adds (take (k.place + 1) k.all) (drop (k.place + 1) k.all)) ∙ ap k.text (take-append-drop (k.place + 1) k.all)

-- one more item, behind those that were sent, of which none failed
pub sends_more : {X T E : Type 0} {before mid : Moment} {faults : ℕ} {written : Option (List ℕ)} {pending : List ℕ} {value : T} (k : Item X)
    → SentSo before mid (front k) → Sent {T = T} {E = E} mid.faults faults mid.written written mid.pending pending (own k) (Ok value)
    → SentSo before (record { faults = faults; written = written; pending = pending }) (up_to k)
sends_more k first then = record { later = omega (arith, first.later, then.later); goes = goes_as (text_more k) (goes_then first.goes then.ok) }

-- one more item, of which nothing is written
pub sends_nothing : {X : Type 0} {before now : Moment} (k : Item X) → [] ≡ own k → SentSo before now (front k) → SentSo before now (up_to k)
sends_nothing k none first = record {
  later = first.later;
  goes = goes_as (sym (append-nil (front k)) ∙ ap (λ (more : List ℕ). front k ++ more) none ∙ text_more k) first.goes;
}

-- the sink failed within one item, and the error is handed on
pub sends_within : {X T E : Type 0} {before mid : Moment} {faults : ℕ} {written : Option (List ℕ)} {pending : List ℕ} {error : E} (k : Item X)
    → (R : E → Type 0) (result : Result T E) → IsErrAnd result R → SentSo before mid (front k)
    → Sent {T = T} {E = E} mid.faults faults mid.written written mid.pending pending (own k) (Err error)
    → Sent before.faults faults before.written written before.pending pending (k.text k.all) result
sends_within k R (Ok value) on first then = absurd on
sends_within k R (Err error) on first then = record {
  later = omega (arith, first.later, then.later);
  ok = tt;
  err = (stops_as (text_whole k) (goes_stops first.goes (stops_more (rest k) then.err.0)), omega (arith, first.later, then.err.1));
}

-- one more item kept back, behind those that were
pub kept_more : {X : Type 0} (k : Item X) (p : List ℕ) {q r : List ℕ} → q ≡ p ++ front k → r ≡ q ++ own k → r ≡ p ++ up_to k
kept_more k p first then =
    then ∙ ap (λ (all : List ℕ). all ++ own k) first ∙ append_assoc p (front k) (own k) ∙ ap (λ (all : List ℕ). p ++ all) (text_more k)

-- one more item, of which nothing is kept back
pub kept_nothing : {X : Type 0} (k : Item X) (p : List ℕ) {q : List ℕ} → [] ≡ own k → q ≡ p ++ front k → q ≡ p ++ up_to k
kept_nothing k p {q} none first = kept_more k p first (sym (append-nil q) ∙ ap (λ (more : List ℕ). q ++ more) none)
