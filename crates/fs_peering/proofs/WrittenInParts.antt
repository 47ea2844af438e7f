-- Steps of a wire that may stop telling, and a piece that is written in parts.
use Rattle.fs_peering.proofs.Words.{TakesIn, Told, WireEnd, WireEnds, end_at, heard_end, other_than, wrote_end, ◌≡◌, ℕ, List, [], ◌++◌, Bool, true}
use Rattle.fs_peering.proofs.Words.{false, Option, Some, None, take, drop, refl, ap, sym, ◌∙◌, append_assoc, take-append-drop}
use Rattle.std.{specs.Prelude.{if◌then◌else◌}, proofs.lemmas.List.{append-nil}}

-- one step and then another are one step
pub told_and : (p q r : WireEnds → WireEnds → Type 0) → ((a b c : WireEnds) → p a b → q b c → r a c)
    → (before mid now : Option WireEnds) → Told p before mid → Told q mid now → Told r before now
told_and p q r join before mid None first later = tt
told_and p q r join before None (Some now) first later = absurd later
told_and p q r join None (Some mid) (Some now) first later = absurd first
told_and p q r join (Some before) (Some mid) (Some now) first later = join before mid now first later

pub told_as : (p q : WireEnds → WireEnds → Type 0) → ((a b : WireEnds) → p a b → q a b)
    → (before now : Option WireEnds) → Told p before now → Told q before now
told_as p q change before None step = tt
told_as p q change None (Some now) step = absurd step
told_as p q change (Some before) (Some now) step = change before now step

pub told_same : (p : WireEnds → WireEnds → Type 0) → ((a : WireEnds) → p a a) → (told : Option WireEnds) → Told p told told
told_same p same None = tt
told_same p same (Some ends) = same ends

pub wrote_then : (end : WireEnd) (xs ys : List ℕ) → wrote_end ys (wrote_end xs end) ≡ wrote_end (xs ++ ys) end
wrote_then end xs ys = ap (λ (octets : List ℕ). record end { written = octets }) (append_assoc end.written xs ys)

left_none : (b : Bool) (left : List ℕ) → (if b then left ++ [] else left) ≡ left
left_none true left = append-nil left
left_none false left = refl

pub heard_none : (end : WireEnd) → heard_end [] end ≡ end
heard_none end = ap (λ (octets : List ℕ). record end { left = octets }) (left_none _ _)

left_then : (b : Bool) (left xs ys : List ℕ)
    → (if b then (if b then left ++ xs else left) ++ ys else (if b then left ++ xs else left)) ≡ (if b then left ++ (xs ++ ys) else left)
left_then true left xs ys = append_assoc left xs ys
left_then false left xs ys = refl

pub heard_then : (end : WireEnd) (xs ys : List ℕ) → heard_end ys (heard_end xs end) ≡ heard_end (xs ++ ys) end
heard_then end xs ys = ap (λ (octets : List ℕ). record end { left = octets }) (left_then end.joined end.left xs ys)

takes_then : (place : ℕ) (xs ys : List ℕ) (a b c : WireEnds) → TakesIn place xs a b → TakesIn place ys b c → TakesIn place (xs ++ ys) a c
takes_then place xs ys a b c first later = record {
  wrote = later.wrote ∙ ap (wrote_end ys) first.wrote ∙ wrote_then (end_at place a) xs ys;
  other = later.other ∙ ap (heard_end ys) first.other ∙ heard_then (other_than place a) xs ys;
}

-- of a piece so much is written, and the rest is left
pub record Wrote (place : ℕ) (piece rest : List ℕ) (before now : Option WireEnds) : Type 0 where
  pub done : List ℕ
  pub split : piece ≡ done ++ rest
  pub told : Told (TakesIn place done) before now

pub wrote_more : (place : ℕ) (piece rest : List ℕ) (before now later : Option WireEnds) (n : ℕ)
    → Wrote place piece rest before now → Told (TakesIn place (take n rest)) now later → Wrote place piece (drop n rest) before later
wrote_more place piece rest before now later n w step = record {
  done = w.done ++ take n rest;
  split = w.split ∙ ap (λ octets. w.done ++ octets) (sym (take-append-drop n rest)) ∙ sym (append_assoc w.done (take n rest) (drop n rest));
  told = told_and _ _ _ (takes_then place w.done (take n rest)) _ _ _ w.told step;
}
