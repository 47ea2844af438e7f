-- A tape that is played item by item.
use Rattle.cmd_stages.proofs.Words.{◌≡◌, inl, inr, ◌≤◌, ℕ, List, [], ◌∷◌, ◌++◌, Option, Some, option_map, Result, Ok, Err, refl, ap, sym, ◌∙◌, subst}
use Rattle.cmd_stages.proofs.Words.{append_assoc, append-nil, drop, map-append, each_append, Rose, with_part, End, done, Config, IsBegun, Item}
use Rattle.cmd_stages.proofs.Words.{TapeState, Timed, coming, items_to_come, tape_of, version_of, TapeReason, IsTimed, Version, One, Two, Refusal}
use Rattle.cmd_stages.proofs.Words.{Outside, Stage, Found, and_then, or_stop, HasReason, MatchResult, Names, HaveNoMoments, IsOpened, IsPlayed}
use Rattle.cmd_stages.proofs.Words.{PlaysOn, played_to, tape_stage, untimed, Desked, Played, rose_earlier}

-- of all items some were played, and the rest is to come
pub record Playing (config : Config) (version : Version) (all rest : List Timed × End TapeReason) (now : Desked) : Type 0 where
  pub gone : List Timed
  pub parts : all.0 ≡ gone ++ rest.0
  pub end_is : all.1 ≡ rest.1
  pub moments : HaveNoMoments version gone
  pub played : Played config (untimed gone) now

-- an item of a tape of the first version has the moment 0
pub no_moment : (version : Version) (last moment : ℕ) → IsTimed version last moment → version ≡ One → moment ≡ 0
no_moment One last moment h e = h
no_moment Two last moment h e = absurd cc

pub untimed_more : (xs ys : List Timed) → untimed (xs ++ ys) ≡ untimed xs ++ untimed ys
untimed_more xs ys = map-append (λ (t : Timed). t.item) xs ys

pub playing_more : (config : Config) (version : Version) (all rest rest' : List Timed × End TapeReason) (now now' : Desked) (timed : Timed)
    → Playing config version all rest now → rest ≡ with_part timed rest' → (version ≡ One → timed.moment ≡ 0)
    → ((items : List Item) → Played config items now → Played config (items ++ timed.item ∷ []) now')
    → Playing config version all rest' now'
playing_more config version all rest rest' now now' timed p e m f = record {
  gone = p.gone ++ timed ∷ [];
  parts = p.parts ∙ ap (λ (r : List Timed × End TapeReason). p.gone ++ r.0) e ∙ sym (append_assoc p.gone (timed ∷ []) rest'.0);
  end_is = p.end_is ∙ ap (λ (r : List Timed × End TapeReason). r.1) e;
  moments = each_append (λ (t : Timed). version ≡ One → t.moment ≡ 0) p.gone (timed ∷ []) p.moments (m, tt);
  played = subst (λ (z : List Item). Played config z now') (sym (untimed_more p.gone (timed ∷ []))) (f (untimed p.gone) p.played);
}

pub playing_done : (config : Config) (version : Version) (all rest : List Timed × End TapeReason) (now : Desked)
    → Playing config version all rest now → rest ≡ ([], done) → PlaysOn config version all now
playing_done config version all rest now p e =
    let whole : all.0 ≡ p.gone = p.parts ∙ ap (λ (r : List Timed × End TapeReason). p.gone ++ r.0) e ∙ append-nil p.gone in
    record {
      done_is = p.end_is ∙ ap (λ (r : List Timed × End TapeReason). r.1) e;
      moments = subst (HaveNoMoments version) (sym whole) p.moments;
      played = subst (λ (z : List Timed). Played config (untimed z) now) (sym whole) p.played;
    }

-- a tape that is done gives its items
pub done_found : (all : List Timed × End TapeReason) → all.1 ≡ done → played_to all ≡ Found all.0
done_found all e = subst (λ (e : End TapeReason). played_to (all.0, e) ≡ Found all.0) (sym e) refl

-- what a tape of this content is to give, where it was opened so
abbrev pub opened_to : Config → ℕ → List ℕ → Result Version (End TapeReason) → List Timed × End TapeReason
opened_to config limit octets opened =
    elim opened as (λ _. List Timed × End TapeReason) [
      | Ok version ↦ items_to_come config version limit 8 0 (drop 8 octets)
      | Err end ↦ ([], end)
    ]

-- an opened tape's items are all to come
pub tape_opened : (config : Config) (limit : ℕ) (octets left : List ℕ) (tape : TapeState) (slot counted : ℕ)
    → counted ≡ limit → (version_of counted octets ≡ Ok tape.version) × (left ≡ drop 8 octets) → IsBegun slot counted tape
    → tape_of config limit octets ≡ coming config tape left
tape_opened config limit octets left tape slot counted l o begun =
    ap (λ (n : ℕ). tape_of config n octets) (sym l)
    ∙ ap (opened_to config counted octets) o.0
    ∙ (λ i. items_to_come config tape.version (sym begun.limit_is i) (sym begun.place_is i) (sym begun.moment_is i) (sym o.1 i))

-- read from a slot of the files
tape_read : (config : Config) (limit : ℕ) (holds : Names) (name : List ℕ) (before after : ℕ → List ℕ) (tape : TapeState) (slot counted : ℕ)
    → slot ≡ 1 → holds name ≡ Some (before 1) → counted ≡ limit
    → (version_of counted (before slot) ≡ Ok tape.version) × (after slot ≡ drop 8 (before slot)) → IsBegun slot counted tape
    → tape_stage config limit holds name ≡ played_to (coming config tape (after 1))
tape_read config limit holds name before after tape slot counted one h l o begun =
    ap (λ (content : Option (List ℕ)). and_then (or_stop Outside content) (λ z. played_to (tape_of config limit z))) (h
    ∙ ap (λ (n : ℕ). Some (before n)) (sym one))
    ∙ ap played_to
    (tape_opened config limit (before slot) (after 1) tape slot counted l (o.0, sym (ap after one) ∙ o.1) begun)

pub opened_so : (limit : ℕ) (holds : Names) (name : List ℕ) (before after : ℕ → List ℕ) (tape : TapeState) (slot counted : ℕ)
    → slot ≡ 1 → holds name ≡ Some (before 1) → counted ≡ limit
    → (version_of counted (before slot) ≡ Ok tape.version) × (after slot ≡ drop 8 (before slot)) → IsBegun slot counted tape
    → IsOpened limit holds name (after 1) tape
opened_so limit holds name before after tape slot counted one h l o begun = record {
  comes = λ config. tape_read config limit holds name before after tape slot counted one h l o begun;
  has_version =
      ap (option_map (version_of limit)) h
      ∙ ap (λ (n : ℕ). Some (version_of limit (before n))) (sym one)
      ∙ ap (λ (n : ℕ). Some (version_of n (before slot))) (sym l)
      ∙ ap Some o.0;
}

-- what the tape that was opened is to give decides its stage
pub comes_at : (config : Config) (limit : ℕ) (holds : Names) (name : List ℕ) (left : ℕ → List ℕ) (tape : TapeState)
    → IsOpened limit holds name (left 1) tape → tape.slot ≡ 1 → tape_stage config limit holds name ≡ played_to (coming config tape (left tape.slot))
comes_at config limit holds name left tape o one =
    subst (λ (n : ℕ). tape_stage config limit holds name ≡ played_to (coming config tape (left n))) (sym one) (o.comes config)

pub refused_whole : (stage : Stage (List Timed)) (all : List Timed × End TapeReason) (before mid after : ℕ) (refusal : Refusal)
    → stage ≡ played_to all → before ≤ mid → HasReason (played_to all) (Rose mid after) refusal → HasReason stage (Rose before after) refusal
refused_whole stage all before mid after refusal e l (inl h) = inl (e ∙ h)
refused_whole stage all before mid after refusal e l (inr (inl h)) = inr (inl h)
refused_whole stage all before mid after refusal e l (inr (inr h)) = inr (inr (h.0, rose_earlier before mid after l h.1))

-- the whole tape was played, or wasn't
pub played_whole : (config : Config) (version : Version) (stage : Stage (List Timed)) (all : List Timed × End TapeReason) (before mid after : ℕ)
    (result : Result Desked Refusal)
    → stage ≡ played_to all → before ≤ mid → MatchResult result (PlaysOn config version all) (HasReason (played_to all) (Rose mid after))
    → MatchResult result (IsPlayed config stage) (HasReason stage (Rose before after))
played_whole config version stage all before mid after (Ok desk) e l p =
    record { items = all.0; found = e ∙ done_found all p.done_is; played = p.played }
played_whole config version stage all before mid after (Err refusal) e l h = refused_whole stage all before mid after refusal e l h
