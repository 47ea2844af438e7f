-- Octets that are put back before others.
use Rattle.fs_base.proofs.Words.{◌≡◌, ◌≤◌, ◌+◌, ℕ, List, ◌++◌, length, take, drop, sym, ap, ◌∙◌, arith, length-append, length-drop, length-take}
use Rattle.fs_base.proofs.Words.{take-replicate, take-take, take-put_mid_below}
use borrow.Rule.Slice.PartMut.{put_mid}
use Rattle.fs_base.specs.Back.{IsBack}

pub put_is_back : (xs ys : List ℕ) (from to k : ℕ) → IsBack xs from → to + k ≡ from → length ys ≡ k → IsBack (put_mid to k xs ys) to
put_is_back xs ys from to k h place size =
    let rest = drop k (drop to xs) in
    let before : to ≤ from = omega (arith, place) in
    let room : to ≤ length xs = omega (arith, before, h.within, h.held) in
    record {
      within = omega (arith, before, h.within);
      held = omega (
        arith,
        place,
        size,
        h.within,
        h.held,
        length-append (take to xs) (ys ++ rest),
        length-append ys rest,
        length-take to xs,
        length-drop k (drop to xs),
        length-drop to xs,
      );
      zeros =
          take-put_mid_below to k xs ys to (omega arith) room
          ∙ sym (take-take to from xs before)
          ∙ ap (take to) h.zeros
          ∙ take-replicate to from 0 before;
    }
