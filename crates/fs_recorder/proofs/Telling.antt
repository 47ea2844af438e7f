-- What a record adds to a tape, and the desk beside it.
use Rattle.fs_recorder.proofs.Words.{ℕ, Bool, List, [], ◌∷◌, ◌++◌, Option, ◌≡◌, ◌≤◌, ◌<◌, ◌+◌, ◌^◌, length, drop, refl, ap, sym, subst, arith}
use Rattle.fs_recorder.proofs.Words.{length-append, length-drop, take, take_all, ◌-◌, append-nil, flat_map, Grew, GrewPart, Config, AllFrom, Fits}
use Rattle.fs_recorder.proofs.Words.{IsWritable, after, item_text, record_text, Item, Timed, stands, timed, Two, PlayedBut, Plays, expired_after}
use Rattle.fs_recorder.proofs.Words.{AgreesBut, Booked, Tells, TellsPart, text_now, items_in, last_of, longer_by}

-- a record of octets is as long as the buffer that has it
pub received_size : (buffer : List ℕ) (peer moment : ℕ) → 15 ≤ length buffer
    → length buffer ≡ length (record_text Two 2 peer moment (drop 15 buffer))
received_size buffer peer moment head = omega (arith, head, length-drop 15 buffer)

-- all that stands behind a record's head
pub payload_all : (buffer : List ℕ) → take (length buffer - 15) (drop 15 buffer) ≡ drop 15 buffer
payload_all buffer = take_all (length buffer - 15) (drop 15 buffer) (omega (arith, length-drop 15 buffer))

append_fits : (config : Config) (moment : ℕ) (told : List Timed) (one : Timed) → AllFrom Fits after (stands config Two moment) told
    → Fits (stands config Two (last_of moment told)) one → AllFrom Fits after (stands config Two moment) (told ++ one ∷ [])
append_fits config moment [] one all fits = (fits, tt)
append_fits config moment (first ∷ told) one all fits = (all.0, append_fits config first.moment told one all.1 fits)

last_append : (moment : ℕ) (told : List Timed) (one : Timed) → last_of moment (told ++ one ∷ []) ≡ one.moment
last_append moment [] one = refl
last_append moment (first ∷ told) one = last_append first.moment told one

items_append : (told : List Timed) (one : Timed) → items_in (told ++ one ∷ []) ≡ items_in told ++ one.item ∷ []
items_append [] one = refl
items_append (first ∷ told) one = ap (λ items. first.item ∷ items) (items_append told one)

texts_append : (told : List Timed) (one : Timed)
    → length (flat_map (item_text Two) (told ++ one ∷ [])) ≡ length (flat_map (item_text Two) told) + length (item_text Two one)
texts_append [] one = omega (arith, ap length (append-nil (item_text Two one)))
texts_append (first ∷ told) one =
    omega (
      arith,
      texts_append told one,
      length-append (item_text Two first) (flat_map (item_text Two) (told ++ one ∷ [])),
      length-append (item_text Two first) (flat_map (item_text Two) told),
    )

-- an item that was written and played stands on the tape, and the desk has played it
pub told_on : (item : Item) (old new : Booked) (before now : Option (List ℕ)) → Tells item old new before now
    → (expired : ℕ → Bool) (config : Config) (told : List Timed) → AgreesBut expired config told old
    → AgreesBut (expired_after item expired) config (told ++ timed old.scribe.moment item ∷ []) new
told_on item old new before now tells expired config told agrees =
    let one = timed old.scribe.moment item in
    let writable : IsWritable config item = subst (λ c. IsWritable c item) agrees.played.config_is tells.writable in
    let moment : new.scribe.moment ≡ old.scribe.moment = ap (λ s. s.moment) tells.scribe_is in
    let written : new.scribe.written ≡ old.scribe.written + length (text_now old item) = ap (λ s. s.written) tells.scribe_is in
    record {
      played = subst (λ items. PlayedBut (expired_after item expired) config items new.desk) (sym (items_append told one))
          (tells.plays expired config (items_in told) agrees.played);
      fit = append_fits config 0 told one agrees.fit (record { writable = writable; room = agrees.room; is_timed = agrees.risen });
      risen = (let last : last_of 0 (told ++ one ∷ []) ≡ old.scribe.moment = last_append 0 told one in omega (arith, last, moment));
      room = subst (λ m. m < 2 ^ 64) (sym moment) agrees.room;
      long = (omega (arith, written, agrees.long, texts_append told one));
      below = tells.below;
    }

-- so where the tape and the desk are seen as one
pub tells_as : (item : Item) (inside old new : Booked) (before now : Option (List ℕ)) → inside ≡ old → IsWritable old.desk.config item
    → Plays item inside.desk new.desk → new.desk.config ≡ inside.desk.config → new.scribe ≡ longer_by (length (text_now inside item)) inside.scribe
    → new.scribe.written < new.scribe.limit → Grew before now (text_now inside item) → Tells item old new before now
tells_as item inside old new before now same writable plays config_is scribe_is below grew =
    subst (λ books. Tells item books new before now) same
    (record {
      writable = subst (λ books. IsWritable books.desk.config item) (sym same) writable;
      plays = plays;
      config_is = config_is;
      scribe_is = scribe_is;
      below = below;
      grew = grew;
    })

pub part_as : {L : Type 0} → (item : Item) (inside old : Booked) (before now : Option (List ℕ)) → inside ≡ old → IsWritable old.desk.config item
    → GrewPart before now (text_now inside item) → (L → inside.scribe.limit ≤ inside.scribe.written + length (text_now inside item))
    → TellsPart L item old before now
part_as {L} item inside old before now same writable part full = record {
  writable = writable;
  part = subst (λ books. GrewPart before now (text_now books item)) same part;
  full = subst (λ (books : Booked). L → books.scribe.limit ≤ books.scribe.written + length (text_now books item)) same full;
}

-- so where the limit is named otherwise
pub part_where : {L M : Type 0} {item : Item} {old : Booked} {before now : Option (List ℕ)} → (M → L) → TellsPart L item old before now
    → TellsPart M item old before now
part_where named part = record { writable = part.writable; part = part.part; full = λ limited. part.full (named limited) }
