-- A dump that is converted record by record: the texts that are written, in their parts, and what of all records they are.
use Rattle.cmd_convert.proofs.Words.{◌≡◌, ℕ, Bool, Option, Result, Ok, Err, OnOk, subst, true, false, List, [], ◌∷◌, ◌++◌, length, refl, ap, sym, ◌∙◌}
use Rattle.cmd_convert.proofs.Words.{append_assoc, append-nil, ◌⊎◌, inr, ◌≤◌, arith, big_bytes, Config, Sent, Goes, Stops, DumpState, coming}
use Rattle.cmd_convert.proofs.Words.{said_from, change, message, Spoken, What, item_text_at, record_text, item_text, tape_text, Item, came_up}
use Rattle.cmd_convert.proofs.Words.{received, Timed, timed, Two, greeting, Life, Lives, has_width, with_life, asn_of, ended, is_taken, made_by}
use Rattle.cmd_convert.proofs.Words.{opening, text_at, items_from, made, timed_at, flat_map, Rose, End, goes_then, goes_stops, stops_more, goes_as}
use Rattle.cmd_convert.proofs.Words.{stops_as, DumpReason, Refusal, Outside, magic_of, Breaks}
use Rattle.std.proofs.lemmas.{Grind.{flat_map-append}, List.Folds.{flat_map-map}}
use Rattle.fs_mrt.specs.declared.heard.What.TheVariants.{Change}
use Rattle.fs_base.specs.Parts.{with_part}

-- a head and its payload
pub record_parts : (kind peer moment size : ℕ) (payload : List ℕ) → size ≡ length payload
    → (kind ∷ (big_bytes 2 peer ++ (big_bytes 8 moment ++ big_bytes 4 size))) ++ payload ≡ record_text Two kind peer moment payload
record_parts kind peer moment size payload e =
    ap (λ (n : ℕ). (kind ∷ (big_bytes 2 peer ++ (big_bytes 8 moment ++ big_bytes 4 n))) ++ payload) e
    ∙ ap (λ (text : List ℕ). kind ∷ text)
    (append_assoc (big_bytes 2 peer) (big_bytes 8 moment ++ big_bytes 4 (length payload)) payload
    ∙ ap (λ (text : List ℕ). big_bytes 2 peer ++ text) (append_assoc (big_bytes 8 moment) (big_bytes 4 (length payload)) payload))

-- the items of a life that begins
pub opening_text : (moment peer asn : ℕ) (wide : Bool) (life : Life)
    → text_at moment (ended peer life) ++ (item_text_at Two moment (came_up peer) ++ item_text_at Two moment (received peer (greeting asn wide)))
    ≡ text_at moment (opening peer asn wide life)
opening_text moment peer asn wide life =
    ap (λ (text : List ℕ). text_at moment (ended peer life) ++ (item_text_at Two moment (came_up peer) ++ text))
    (sym (append-nil (item_text_at Two moment (received peer (greeting asn wide)))))
    ∙ sym (flat_map-append (item_text_at Two moment) (ended peer life) (came_up peer ∷ received peer (greeting asn wide) ∷ []))

-- one item behind others
pub items_text : (moment : ℕ) (items : List Item) (item : Item) → text_at moment items ++ item_text_at Two moment item ≡ text_at moment (items ++ item ∷ [])
items_text moment items item =
    ap (λ (text : List ℕ). text_at moment items ++ text) (sym (append-nil (item_text_at Two moment item)))
    ∙ sym (flat_map-append (item_text_at Two moment) items (item ∷ []))

-- a message that begins a life
pub message_text : (moment : ℕ) (config : Config) (peer : ℕ) (wide : Bool) (octets : List ℕ) (life : Life)
    → is_taken octets ≡ true → has_width life wide ≡ false
    → text_at moment (opening peer (asn_of config peer) wide life) ++ item_text_at Two moment (received peer octets)
    ≡ text_at moment (made_by config peer wide (message octets) life).0
message_text moment config peer wide octets life taken other =
    items_text moment (opening peer (asn_of config peer) wide life) (received peer octets) ∙ rw (taken, other) refl

-- what was pending is the same
pub sends_from : {T E : Type 0} {f g : ℕ} {a b : Option (List ℕ)} {p p' q xs : List ℕ} {result : Result T E} → p ≡ p' → Sent f g a b p q xs result
    → Sent f g a b p' q xs result
sends_from {f = f} {g = g} {a = a} {b = b} {q = q} {xs = xs} {result = result} same sent =
    subst (λ (pending : List ℕ). Sent f g a b pending q xs result) same sent

-- the lives after a change of state
pub change_lives : {T E : Type 0} (result : Result T E) (now lives : Lives) (config : Config) (peer old new : ℕ) (what : What) (into : List ℕ)
    (wide : Bool) (life : Life)
    → what ≡ Change old new
    → OnOk result ((w : Bool) (other : ℕ) → now other ≡ with_life peer (made_by config peer w (change old new) life).1 lives other)
    → OnOk result ((other : ℕ) → now other ≡ with_life peer (made_by config peer wide (said_from what into) life).1 lives other)
change_lives (Ok value) now lives config peer old new what into wide life e h =
    λ other. h wide other ∙ ap (λ (w : What). with_life peer (made_by config peer wide (said_from w into) life).1 lives other) (sym e)
change_lives (Err error) now lives config peer old new what into wide life e h = tt

-- the tape of some items and of others behind them
tape_append : (xs ys : List Timed) → tape_text Two (xs ++ ys) ≡ tape_text Two xs ++ flat_map (item_text Two) ys
tape_append xs ys =
    ap (λ (text : List ℕ). magic_of Two ++ text) (flat_map-append (item_text Two) xs ys)
    ∙ sym (append_assoc (magic_of Two) (flat_map (item_text Two) xs) (flat_map (item_text Two) ys))

text_timed : (moment : ℕ) (items : List Item) → flat_map (item_text Two) (timed_at moment items) ≡ text_at moment items
text_timed moment items = flat_map-map (item_text Two) (timed moment) items

-- and of those at one moment
tape_more : (xs : List Timed) (moment : ℕ) (items : List Item)
    → tape_text Two (xs ++ timed_at moment items) ≡ tape_text Two xs ++ text_at moment items
tape_more xs moment items = tape_append xs (timed_at moment items) ∙ ap (λ (text : List ℕ). tape_text Two xs ++ text) (text_timed moment items)

-- of all records some were converted, and the rest is to come
pub record Doing (config : Config) (first lives : Lives) (all rest : List Spoken × End DumpReason) (before now : Option (List ℕ))
    (pending pending_now : List ℕ) : Type 0 where
  pub gone : List Timed
  pub parts : items_from config first all.0 ≡ gone ++ items_from config lives rest.0
  pub end_is : all.1 ≡ rest.1
  pub goes : Goes before now pending pending_now (tape_text Two gone)

module _ (config : Config) (first lives : Lives) (all rest : List Spoken × End DumpReason) (before now : Option (List ℕ)) (pending pending_now : List ℕ) where
  pub doing_more : (current : Config) (next : Lives) (rest' : List Spoken × End DumpReason) (now' : Option (List ℕ)) (pending' : List ℕ) (heard : Spoken)
      → current ≡ config
      → Doing config first lives all rest before now pending pending_now → rest ≡ with_part heard rest'
      → ((other : ℕ) → next other ≡ with_life heard.peer (made current heard (lives heard.peer)).1 lives other)
      → Goes now now' pending_now pending' (text_at heard.moment (made current heard (lives heard.peer)).0)
      → Doing config first next all rest' before now' pending pending'
  doing_more current next rest' now' pending' heard same p e alive goes = record {
    gone = p.gone ++ timed_at heard.moment (made config heard (lives heard.peer)).0;
    parts = p.parts
        ∙ ap (λ (r : List Spoken × End DumpReason). p.gone ++ items_from config lives r.0) e
        ∙ sym (append_assoc p.gone (timed_at heard.moment (made config heard (lives heard.peer)).0)
        (items_from config (with_life heard.peer (made config heard (lives heard.peer)).1 lives) rest'.0))
        ∙ ap (λ (l : Lives). (p.gone ++ timed_at heard.moment (made config heard (lives heard.peer)).0) ++ items_from config l rest'.0) (sym lives_are);
    end_is = p.end_is ∙ ap (λ (r : List Spoken × End DumpReason). r.1) e;
    goes = goes_as (sym (tape_more p.gone heard.moment (made config heard (lives heard.peer)).0))
        (goes_then p.goes (subst (λ (c : Config). Goes now now' pending_now pending' (text_at heard.moment (made c heard (lives heard.peer)).0)) same goes));
  }
    where
      told : (other : ℕ) → next other ≡ with_life heard.peer (made config heard (lives heard.peer)).1 lives other
      told other = alive other ∙ ap (λ (c : Config). with_life heard.peer (made c heard (lives heard.peer)).1 lives other) same

      lives_are : next ≡ with_life heard.peer (made config heard (lives heard.peer)).1 lives
      lives_are i other = told other i

  pub doing_stopped : (current : Config) (rest' : List Spoken × End DumpReason) (now' : Option (List ℕ)) (pending' : List ℕ) (heard : Spoken)
      (files : Type 0) (early mid late : ℕ) (refusal : Refusal)
      → current ≡ config
      → Doing config first lives all rest before now pending pending_now → rest ≡ with_part heard rest'
      → Stops now now' pending_now pending' (text_at heard.moment (made current heard (lives heard.peer)).0)
      → early ≤ mid → Rose mid late → refusal ≡ Outside
      → Breaks all.1 before now' pending pending' (tape_text Two (items_from config first all.0)) (files ⊎ Rose early late) refusal
  doing_stopped current rest' now' pending' heard files early mid late refusal same p e stop l rose s =
      inr (
        s,
        (
          inr (omega (arith, l, rose)),
          inr (stops_as (sym whole)
              (stops_more (flat_map (item_text Two) later)
              (goes_stops p.goes (subst (λ (c : Config).
              Stops now now' pending_now pending' (text_at heard.moment (made c heard (lives heard.peer)).0)) same stop)))),
        ),
      )
    where
      items : List Item
      items = (made config heard (lives heard.peer)).0

      later : List Timed
      later = items_from config (with_life heard.peer (made config heard (lives heard.peer)).1 lives) rest'.0

      whole : tape_text Two (items_from config first all.0) ≡ (tape_text Two p.gone ++ text_at heard.moment items) ++ flat_map (item_text Two) later
      whole =
          ap (tape_text Two) (p.parts
          ∙ ap (λ (r : List Spoken × End DumpReason). p.gone ++ items_from config lives r.0) e
          ∙ sym (append_assoc p.gone (timed_at heard.moment items) later))
          ∙ tape_append (p.gone ++ timed_at heard.moment items) later
          ∙ ap (λ (text : List ℕ). text ++ flat_map (item_text Two) later) (tape_more p.gone heard.moment items)

-- what a reading gives, by the configuration that the tape is made for, and from the slot as it is after it
pub gives_as : (config current : Config) (dump dump' : DumpState) (left left' : ℕ → List ℕ) (heard : Spoken) → current ≡ config → dump'.slot ≡ dump.slot
    → coming current dump (left dump.slot) ≡ with_part heard (coming current dump' (left' dump.slot))
    → coming config dump (left dump.slot) ≡ with_part heard (coming config dump' (left' dump'.slot))
gives_as config current dump dump' left left' heard same slot e =
    subst (λ (c : Config). coming c dump (left dump.slot) ≡ with_part heard (coming c dump' (left' dump'.slot))) same
    (subst (λ (n : ℕ). coming current dump (left dump.slot) ≡ with_part heard (coming current dump' (left' n))) (sym slot) e)

-- the sink failed within what a tape begins with
pub begun_stopped : (end : End DumpReason) (items : List Timed) (before now : Option (List ℕ)) (pending pending_now : List ℕ) (files : Type 0)
    (early late : ℕ) (refusal : Refusal)
    → Stops before now pending pending_now (magic_of Two) → Rose early late → refusal ≡ Outside
    → Breaks end before now pending pending_now (tape_text Two items) (files ⊎ Rose early late) refusal
begun_stopped end items before now pending pending_now files early late refusal stop rose s =
    inr (s, (inr rose, inr (stops_more (flat_map (item_text Two) items) stop)))
