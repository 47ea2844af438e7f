-- The loop that fills a buffer: so many octets stand in it, and the rest is left.
use Rattle.fs_base.proofs.Words.{◌≡◌, ℕ, List, [], ◌++◌, ◌<◌, ◌≤◌, ◌+◌, ◌-◌, length, take, drop, min, inl, inr, ap, sym, ◌∙◌, arith, append_assoc}
use Rattle.fs_base.proofs.Words.{length-append, take-append-add, drop_all, take-append-drop, take-append-le, length-take, length-drop, take-take}
use Rattle.fs_base.proofs.Words.{cases_lt, common_steps, window, Ok, IsTrue, PassesIn, Counted}
use Rattle.std.specs.Prelude.{◌⊎◌}
use borrow.Rule.Slice.PartMut.{put_mid}
use Rattle.fs_base.specs.Filling.{Fills, FillsFrom, FillsIn}
use Rattle.fs_outside.specs.declared.files.Files as files

-- the first `count` octets of the buffer, and then what is left now, are what was left at the start
pub record Filled (start now into : List ℕ) (count : ℕ) : Type 0 where
  pub room : count ≤ length into
  pub split : start ≡ take count into ++ now

-- the octets up to and with the first n of a piece that stands behind the first `count`
take_into : (into piece behind : List ℕ) (count n : ℕ) → count ≤ length into → n ≤ length piece
    → take (count + n) (take count into ++ (piece ++ behind)) ≡ take count into ++ take n piece
take_into into piece behind count n room within =
    let size : length (take count into) ≡ count = length-take count into ∙ omega arith in
    ap (λ k. take (k + n) (take count into ++ (piece ++ behind))) (sym size)
    ∙ take-append-add (take count into) (piece ++ behind) n
    ∙ ap (λ octets. take count into ++ octets) (take-append-le n piece behind within)

-- one more read into the rest of the buffer
pub filled_more : (start now later into piece : List ℕ) (count n : ℕ) → Filled start now into count
    → length piece ≡ length into - count
    → n ≤ length piece → now ≡ take n piece ++ later
    → Filled start later (put_mid count (length into - count) into piece) (count + n)
filled_more start now later into piece count n f size within takes =
    let room : count ≤ length into = f.room in
    let behind = drop (length into - count) (drop count into) in
    record {
      room = omega (arith, length-append (take count into) (piece ++ behind), length-append piece behind, length-take count into);
      split =
          f.split
          ∙ ap (λ octets. take count into ++ octets) takes
          ∙ sym (append_assoc (take count into) (take n piece) later)
          ∙ ap (λ octets. octets ++ later) (sym (take_into into piece behind count n room within));
    }

-- what was put back is given before anything else
pub dropped_more : (back now later : List ℕ) (count n : ℕ) → now ≡ drop count back → later ≡ drop n now → later ≡ drop (count + n) back
dropped_more back now later count n one two = two ∙ ap (drop n) one ∙ grind (arith, common_steps)

-- The buffer is full as far as it can be: nothing is left, the limit was reached, or it has no room.
pub fills_end : (start now into : List ℕ) (limit taken count : ℕ) → Filled start now into count → taken + count ≤ limit
    → (now ≡ []) ⊎ ((taken + count ≡ limit) ⊎ (count ≡ length into)) → Fills (window limit taken start) start now into count
fills_end start now into limit taken count f within why =
    let front : length (take count into) ≡ count = length-take count into ∙ omega (arith, f.room) in
    let total : length start ≡ count + length now = ap length f.split ∙ length-append (take count into) now ∙ omega (arith, front) in
    let judged : length (take (limit - taken) start) ≡ min (limit - taken) (length start) = length-take (limit - taken) start in
    record {
      count_is = full why total judged;
      filled = sym (take-take count (limit - taken) start (omega arith) ∙ ap (take count) f.split ∙ first front);
      left = sym (ap (drop count) f.split ∙ behind front);
    } where
      full : (now ≡ []) ⊎ ((taken + count ≡ limit) ⊎ (count ≡ length into)) → length start ≡ count + length now
          → length (take (limit - taken) start) ≡ min (limit - taken) (length start) → count ≡ min (length into) (length (take (limit - taken) start))
      full (inl none) total judged = let e : length now ≡ 0 = ap length none in omega (arith, total, judged, f.room)
      full (inr (inl all)) total judged = omega (arith, total, judged, f.room)
      full (inr (inr all)) total judged = omega (arith, total, judged, f.room)

      first : length (take count into) ≡ count → take count (take count into ++ now) ≡ take count into
      first front = grind (arith, common_steps)

      behind : length (take count into) ≡ count → drop count (take count into ++ now) ≡ now
      behind front = grind (arith, common_steps)

-- a last read that gave nothing
pub none_read : (start now later into piece : List ℕ) (limit taken count n : ℕ) → Filled start now into count → length piece ≡ length into - count
    → n ≡ 0 → now ≡ take n piece ++ later → taken + count ≤ limit
    → (later ≡ []) ⊎ ((taken + count ≡ limit) ⊎ (count ≡ length into))
    → Fills (window limit taken start) start later (put_mid count (length into - count) into piece) count
none_read start now later into piece limit taken count n f size none takes within why =
    let none_is : count + n ≡ count = omega (arith, none) in
    let more : Filled start later (put_mid count (length into - count) into piece) (count + n) =
    filled_more start now later into piece count n f size (omega (arith, none)) takes in
    let still : Filled start later (put_mid count (length into - count) into piece) count = rw none_is at more in
    fills_end start later (put_mid count (length into - count) into piece) limit taken count still within (room why) where
      room : (later ≡ []) ⊎ ((taken + count ≡ limit) ⊎ (count ≡ length into))
          → (later ≡ []) ⊎ ((taken + count ≡ limit) ⊎ (count ≡ length (put_mid count (length into - count) into piece)))
      room (inl e) = inl e
      room (inr (inl e)) = inr (inl e)
      room (inr (inr e)) =
          let behind = drop (length into - count) (drop count into) in
          let none_behind : length behind ≡ 0 = length-drop (length into - count) (drop count into) ∙ omega (arith, length-drop count into) in
          inr (inr (omega (
            arith,
            e,
            size,
            none_behind,
            length-take count into,
            length-append (take count into) (piece ++ behind),
            length-append piece behind,
          )))

-- a first read, and all that could be filled behind it
pub fills_more : (start now later into piece : List ℕ) (limit taken n m : ℕ) → Filled start now into n → length piece ≡ length into - n
    → taken + n ≤ limit → Fills (window limit (taken + n) now) now later piece m
    → Fills (window limit taken start) start later (put_mid n (length into - n) into piece) (n + m)
fills_more start now later into piece limit taken n m f size within more =
    let judged : length (window limit (taken + n) now) ≡ min (limit - (taken + n)) (length now) = length-take (limit - (taken + n)) now in
    let room : m ≤ length piece = omega (arith, more.count_is) in
    let most : m ≤ limit - (taken + n) = omega (arith, more.count_is, judged) in
    let takes : now ≡ take m piece ++ later =
    sym (ap (λ octets. octets ++ later) (more.filled ∙ take-take m (limit - (taken + n)) now most)
    ∙ ap (λ octets. take m now ++ octets) more.left ∙ take-append-drop m now) in
    let filled : Filled start later whole (n + m) = filled_more start now later into piece n m f size room takes in
    fills_end start later whole limit taken (n + m) filled (omega (arith, most, within))
    (why judged (cases_lt m (length piece)) (cases_lt m (limit - (taken + n)))) where
      whole : List ℕ
      whole = put_mid n (length into - n) into piece

      behind : List ℕ
      behind = drop (length into - n) (drop n into)

      why : length (window limit (taken + n) now) ≡ min (limit - (taken + n)) (length now)
          → ((m < length piece) ⊎ (length piece ≤ m)) → ((m < limit - (taken + n)) ⊎ (limit - (taken + n) ≤ m))
          → (later ≡ []) ⊎ ((taken + (n + m) ≡ limit) ⊎ (n + m ≡ length whole))
      why judged (inr all) _ =
          let none_behind : length behind ≡ 0 = length-drop (length into - n) (drop n into) ∙ omega (arith, length-drop n into) in
          inr (inr (omega (
            arith,
            all,
            more.count_is,
            size,
            f.room,
            none_behind,
            length-take n into,
            length-append (take n into) (piece ++ behind),
            length-append piece behind,
          )))
      why judged (inl short) (inr all) = inr (inl (omega (arith, all, more.count_is, judged, within)))
      why judged (inl short) (inl below) = inl (more.left ∙ drop_all m now (omega (arith, short, below, more.count_is, judged)))

-- nothing is left of what was put back
pub none_left : (back back' : List ℕ) (count : ℕ) → back ≡ [] → back' ≡ drop count back → back' ≡ []
none_left back back' count none later = later ∙ ap (drop count) none ∙ grind (arith, common_steps)

-- where nothing was put back, the slot alone was read
pub fills_straight : (back back' left left' into : List ℕ) (limit taken count : ℕ) → back ≡ [] → back' ≡ drop count back
    → Fills (window limit taken (back ++ left)) (back ++ left) (back' ++ left') into count → Fills (window limit taken left) left left' into count
fills_straight back back' left left' into limit taken count none later f =
    let none_later : back' ≡ [] = none_left back back' count none later in
    rw (none, none_later) at f

-- a call that fills, by the parts that search doesn't find
pub fills_in : {F E : Type 0} {of_files : files.Ghosts F} {old new : F} {before now : Counted} {into : List ℕ} {n : ℕ}
    → (n ≤ length into) × (now.taken ≡ before.taken + n) × (before.back ≡ [] → now.back ≡ []) → now.back ≡ drop n before.back
    → (IsTrue of_files.tells → FillsFrom of_files old new before now into n) → PassesIn of_files old new before now
    → FillsIn {E = E} of_files old new before now into (Ok n)
fills_in rest back filled passes =
    record { failed = tt; bound = rest.0; taken = rest.1; filled = filled; back = back; none = rest.2; passes = passes }
