-- A capture that is opened, as its first four octets tell.
use Rattle.cmd_enforce.proofs.Words.{◌≡◌, ◌≤◌, ◌++◌, ◌∙◌, ◌-◌, ℕ, List, Bool, Option, Result, length, take, drop, ap, sym, subst, arith, append_assoc}
use Rattle.cmd_enforce.proofs.Words.{take-append-drop, length-take, take-take, window, End, Captured, CaptureState, is_section, captured_by}
use Rattle.cmd_enforce.proofs.Words.{CaptureReason}
use Rattle.cmd_enforce.specs.Capture.{BeginsAs, captured_in, link_by, link_in}
use Rattle.fs_base.specs.{Filling.{Fills}, declared.{counted.Counted.{Counted}, link.Link.{Link}}}
use Rattle.fs_input.{specs.declared.fault.Fault.{Fault}, proofs.Records.{head_filled}}

-- what was filled and put back is what was left
put_back_whole : (limit taken : ℕ) (left left' into : List ℕ) (count : ℕ) → Fills (window limit taken left) left left' into count
    → take count into ++ left' ≡ left
put_back_whole limit taken left left' into count f =
    let size : length (window limit taken left) ≤ limit - taken = omega (arith, length-take (limit - taken) left) in
    let few : count ≤ limit - taken = omega (arith, f.count_is, size) in
    ap (λ (octets : List ℕ). take count into ++ octets) f.left
    ∙ ap (λ (octets : List ℕ). octets ++ drop count left) (f.filled ∙ take-take count (limit - taken) left few)
    ∙ take-append-drop count left

-- four octets were filled from an input's front, told this of its format, and were put back
pub record PutBack (old mid new : Counted) (left left' : ℕ → List ℕ) (into : List ℕ) (count : ℕ) (test : Bool) : Type 0 where
  pub limit : new.limit ≡ old.limit
  pub slot : new.slot ≡ old.slot
  pub start : old.taken ≡ 0
  pub filled : Fills (window old.limit old.taken (old.back ++ left old.slot)) (old.back ++ left old.slot) (mid.back ++ left' old.slot) into count
  pub four : length into ≡ 4
  pub back : new.back ≡ take count into ++ mid.back
  pub section : is_section (take count into) ≡ test

module _ (old mid new : Counted) (left left' : ℕ → List ℕ) {into : List ℕ} {count : ℕ} {test : Bool}
    (h : PutBack old mid new left left' into count test) where
  -- what is told by the format is told again
  told_again : {A : Type 0} (by : Bool → ℕ → List ℕ → A)
      → by test new.limit (new.back ++ left' new.slot)
      ≡ by (is_section (take 4 (window old.limit 0 (old.back ++ left old.slot)))) old.limit (old.back ++ left old.slot)
  told_again by =
      let content = old.back ++ left old.slot in
      let front = head_filled 4 (window old.limit old.taken content) content (mid.back ++ left' old.slot) into count h.filled h.four in
      let section : is_section (take 4 (window old.limit 0 content)) ≡ test =
      ap (λ (n : ℕ). is_section (take 4 (window old.limit n content))) (sym h.start) ∙ ap is_section (sym front) ∙ h.section in
      let same : new.back ++ left' new.slot ≡ content =
      (λ i. h.back i ++ left' (h.slot i)) ∙ append_assoc (take count into) mid.back (left' old.slot)
      ∙ put_back_whole old.limit old.taken content (mid.back ++ left' old.slot) into count h.filled in
      λ i. by (sym section i) (h.limit i) (same i)

  pub begins_as : (behind : ℕ → List ℕ) (result : Result CaptureState (Fault CaptureReason))
      → BeginsAs (link_by test new.limit (new.back ++ left' new.slot)) (captured_by test new.limit (new.back ++ left' new.slot)) (behind new.slot) result
      → BeginsAs (link_in old.limit (old.back ++ left old.slot)) (captured_in old.limit (old.back ++ left old.slot)) (behind old.slot) result
  begins_as behind result b =
      subst (λ (all : List Captured × End CaptureReason). BeginsAs (link_in old.limit (old.back ++ left old.slot)) all (behind old.slot) result)
      (told_again captured_by)
      (subst (λ (link : Option Link). BeginsAs link (captured_by test new.limit (new.back ++ left' new.slot)) (behind old.slot) result)
      (told_again link_by)
      (subst (λ (n : ℕ). BeginsAs (link_by test new.limit (new.back ++ left' new.slot)) (captured_by test new.limit (new.back ++ left' new.slot))
      (behind n) result) h.slot b))
