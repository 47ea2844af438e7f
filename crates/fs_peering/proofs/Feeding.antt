use Rattle.fs_peering.proofs.Words.{Announcing, Closed, FeedsEnd, FeedsOpen, HandsOver, Machine, Memory, StaysEnded, StaysOver, closed_after}
use Rattle.fs_peering.proofs.Words.{machine_in, with_line, without_update, ◌≡◌, ℕ, List, [], drop, Option, Some, None, Result, Ok, Err, IfSome, ap}
use Rattle.fs_peering.proofs.Words.{◌∙◌, refl, subst, Going, going_more, hands_all, hands_closed}

-- An announcing end that takes a piece message by message.

-- as of either end
pub stays_over : {A B : Type 0} (old new : Announcing) (result : Result A Closed) (other : Result B Closed) (out out' : List ℕ)
    → ((why : Closed) → result ≡ Err why → other ≡ Err why) → StaysEnded old new result out out' → StaysOver old.line new.line other out out'
stays_over old new result other out out' same stays = by old.line.closed stays
  where
    by : (c : Option Closed) → IfSome c (λ why. (result ≡ Err why) × (new ≡ old) × (out' ≡ out))
        → IfSome c (λ why. (other ≡ Err why) × (new.line ≡ old.line) × (out' ≡ out))
    by None k = tt
    by (Some why) k = (same why k.0, ap (λ (n : Announcing). n.line) k.1, k.2)

pub same_error : (result : Result ℕ Closed) (why : Closed) → result ≡ Err why → without_update result ≡ Err why
same_error result why e = ap without_update e

same_result : {A : Type 0} (result : Result A Closed) (why : Closed) → result ≡ Err why → result ≡ Err why
same_result result why e = e

pub fed_over : (old new : Announcing) (result : Result ℕ Closed) (out out' : List ℕ) → StaysEnded old new result out out'
    → StaysOver old.line new.line (without_update result) out out'
fed_over old new result out out' stays = stays_over _ _ _ _ _ _ (same_error result) stays

pub woke_over : (old new : Announcing) (result : Result (Unit {0}) Closed) (out out' : List ℕ) → StaysEnded old new result out out'
    → StaysOver old.line new.line result out out'
woke_over old new result out out' stays = stays_over _ _ _ _ _ _ (same_result result) stays

closed_without : (result : Result ℕ Closed) → closed_after result ≡ closed_after (without_update result)
closed_without (Ok count) = refl
closed_without (Err why) = refl

-- of a piece so much is taken by one call more, all of it, or up to a closing
module _ (a b c : Announcing) (moment : ℕ) (piece rest o0 o1 o2 : List ℕ) (result : Result ℕ Closed) (same : b ≡ with_line a b.line)
    (going : Going (machine_in a) moment a.line b.line piece rest [] [] o0 o1) (stays : StaysEnded b c result o1 o2)
    (feeds : FeedsEnd moment b c rest o1 o2 result)
    (shut : c.line.closed ≡ closed_after result) where
  feeds_a : FeedsOpen (machine_in a) moment b.line c.line rest o1 o2 (without_update result)
  feeds_a = subst (λ (m : Machine). FeedsOpen m moment b.line c.line rest o1 o2 (without_update result)) (ap machine_in same) feeds

  pub goes_more : (count : ℕ) → result ≡ Ok count → Going (machine_in a) moment a.line c.line piece (drop count rest) [] [] o0 o2
  goes_more count e =
      going_more (machine_in a) moment a.line b.line c.line piece rest [] [] o0 o1 o2 count None (without_update result) (ap without_update e) going
      (fed_over _ _ _ _ _ stays) feeds_a (shut ∙ closed_without _)

  pub ends_all : (count : ℕ) → result ≡ Ok count → drop count rest ≡ [] → HandsOver (machine_in a) moment a.line c.line piece [] [] o0 o2
  ends_all count e none =
      hands_all (machine_in a) moment a.line b.line c.line piece rest [] [] o0 o1 o2 count None (without_update result) (ap without_update e) going
      (fed_over _ _ _ _ _ stays) feeds_a (shut ∙ closed_without _) none

  pub ends_shut : (why : Closed) → result ≡ Err why → (why ≡ Memory → ⊥) → HandsOver (machine_in a) moment a.line c.line piece [] [] o0 o2
  ends_shut why e other =
      hands_closed (machine_in a) moment a.line b.line c.line piece rest [] [] o0 o1 o2 why (without_update result) (ap without_update e) other going
      (fed_over _ _ _ _ _ stays) feeds_a (shut ∙ closed_without _)
