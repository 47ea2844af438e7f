-- Which actions can stand behind others.
use Rattle.fs_text.proofs.Words.{◌≡◌, inr, ℕ, ◌+◌, List, ◌∷◌, Option, Some, None, refl, sym, ap, subst, ◌∙◌, IfNone, IfSome, last_or, action_text}
use Rattle.fs_text.proofs.Words.{IsNamed, Reads, CanStand, FitsAbove, IsActionFault, IsGreatest, ReadsAbove, StandsBehind, Bad}
use Rattle.fs_text.proofs.{Greatest.{above_too}, Led.{head_is}}

pub none_stands : (actions : List (List ℕ)) (name greatest : List ℕ) → IsGreatest name greatest → (StandsBehind actions greatest → ⊥)
    → (action : List ℕ) → IsNamed name action → StandsBehind actions action → ⊥
none_stands actions name greatest is none action named above = none (above_too (last_or None actions) action greatest above (is.highest action named))

pub fits_of : (actions : List (List ℕ)) (name action : List ℕ) → IsNamed name action → StandsBehind actions action → FitsAbove actions action
fits_of actions name action named above = record { normal = named.normal; octets = named.octets; above = above }

pub can_stand : (actions : List (List ℕ)) (name greatest : List ℕ) → IsGreatest name greatest → StandsBehind actions greatest → CanStand actions name
can_stand actions name greatest is above = record { given = greatest; fits = fits_of actions name greatest is.named above; named = is.named.named }

pub said : (actions : List (List ℕ)) (name word action : List ℕ) (r : Option (List ℕ)) → Reads (IsNamed name) action_text word (Some action)
    → IfSome r (λ same. (same ≡ action) × StandsBehind actions action) → IfNone r (StandsBehind actions action → ⊥) → ReadsAbove actions name word r
said actions name word action None reads some none = λ other fits named told.
    let one : other ≡ action = reads.2 other (record { normal = fits.normal; octets = fits.octets; named = named }) told in
    none (subst (StandsBehind actions) one fits.above)
said actions name word action (Some same) reads some none = subst (λ (a : List ℕ). ReadsAbove actions name word (Some a)) (sym some.0) (
  fits_of actions name action reads.0 some.1,
  reads.0.named,
  reads.1,
  reads.2,
)

-- the name is good, and behind it stands no word of an action that has it and can stand there
pub bad_act_value : (actions : List (List ℕ)) (place : ℕ) (name value : List ℕ) (rest tail more : List (List ℕ)) → rest ≡ name ∷ tail → tail ≡ value ∷ more
    → CanStand actions name → ReadsAbove actions name value None → IsActionFault actions rest place (Bad (place + 1))
bad_act_value actions place name value rest tail more e behind stands none = inr (
  refl,
  record {
    item = stands.given;
    fits = stands.fits;
    tail = tail;
    split = e ∙ ap (λ (n : List ℕ). n ∷ tail) (sym stands.named);
    none = λ word after is other fits named told. none other fits (named ∙ stands.named) (head_is (sym behind ∙ is) ∙ told);
  },
)
