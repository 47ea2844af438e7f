-- The lives by which a dump's items are made are those that these items tell a desk.
use Rattle.cmd_convert.proofs.Words.{◌≡◌, ◌==◌, ℕ, Bool, true, false, List, [], ◌∷◌, ◌++◌, Some, None, refl, ap, sym, ◌∙◌, append_assoc}
use Rattle.cmd_convert.proofs.Words.{if◌then◌else◌, Config, Said, Spoken, change, message, Item, Timed, came_up, received, was_lost, Life, Lives}
use Rattle.cmd_convert.proofs.Words.{has_width, no_lives, with_life, asn_of, ended, is_established, is_taken, items_from, made, made_by, opening}
use Rattle.cmd_convert.proofs.Words.{timed_at}
use Rattle.cmd_convert.specs.Laws.{KeepsLives}
use Rattle.std.{specs.{List.{list_any}, Option.{is_some}, Prelude.{◌||◌}}, proofs.lemmas.{Bool.{eq-eqb, eqb-true}, List.{map-append}}}
use Rattle.fs_desk.specs.Life.{begins_life, bounds_life, life, sent_by}
use Rattle.cmd_stages.specs.Play.{untimed}

-- whether a peer is up after these items, if so before them
abbrev is_up : ℕ → Bool → List Item → Bool
is_up peer up [] = up
is_up peer up (item ∷ items) = is_up peer (if bounds_life peer item then begins_life peer item else up) items

-- without a bound of a life nothing changes
unbound : (peer : ℕ) (items : List Item) (up : Bool) → list_any (bounds_life peer) items ≡ false → is_up peer up items ≡ up
unbound peer [] up none = refl
unbound peer (item ∷ items) up none = by (bounds_life peer item) refl none (unbound peer items up)
  where
    by : (b : Bool) → bounds_life peer item ≡ b → (b || list_any (bounds_life peer) items) ≡ false
        → (list_any (bounds_life peer) items ≡ false → is_up peer up items ≡ up)
        → is_up peer (if bounds_life peer item then begins_life peer item else up) items ≡ up
    by true e h on = absurd cc
    by false e h on = ap (λ (b : Bool). is_up peer (if b then begins_life peer item else up) items) e ∙ on h

-- with one it decides
bound : (peer : ℕ) (items : List Item) (one other : Bool) → list_any (bounds_life peer) items ≡ true → is_up peer one items ≡ is_up peer other items
bound peer [] one other some = absurd cc
bound peer (item ∷ items) one other some = by (bounds_life peer item) refl some (bound peer items one other)
  where
    by : (b : Bool) → bounds_life peer item ≡ b → (b || list_any (bounds_life peer) items) ≡ true
        → (list_any (bounds_life peer) items ≡ true → is_up peer one items ≡ is_up peer other items)
        → is_up peer (if bounds_life peer item then begins_life peer item else one) items
        ≡ is_up peer (if bounds_life peer item then begins_life peer item else other) items
    by true e h on =
        ap (λ (b : Bool). is_up peer (if b then begins_life peer item else one) items) e
        ∙ sym (ap (λ (b : Bool). is_up peer (if b then begins_life peer item else other) items) e)
    by false e h on =
        ap (λ (b : Bool). is_up peer (if b then begins_life peer item else one) items) e ∙ on h
        ∙ sym (ap (λ (b : Bool). is_up peer (if b then begins_life peer item else other) items) e)

started : (peer : ℕ) (octets : List ℕ) (item : Item)
    → is_some (if begins_life peer item then Some octets else None) ≡ (if bounds_life peer item then begins_life peer item else false)
started peer octets (came_up other) = by (other == peer)
  where
    by : (t : Bool) → is_some (if t then Some octets else None) ≡ (if t then t else false)
    by true = refl
    by false = refl
started peer octets (was_lost other) = by (other == peer)
  where
    by : (t : Bool) → false ≡ (if t then false else false)
    by true = refl
    by false = refl
started peer octets (received other more) = refl

-- so the desk has it
lives_up : (peer : ℕ) (items : List Item) → is_some (life peer items) ≡ is_up peer false items
lives_up peer [] = refl
lives_up peer (item ∷ items) = by (list_any (bounds_life peer) items) refl (lives_up peer items)
  where
    by : (b : Bool) → list_any (bounds_life peer) items ≡ b → is_some (life peer items) ≡ is_up peer false items
        → is_some (if b then life peer items else if begins_life peer item then Some (sent_by peer items) else None)
        ≡ is_up peer (if bounds_life peer item then begins_life peer item else false) items
    by true e on = on ∙ bound peer items false (if bounds_life peer item then begins_life peer item else false) e
    by false e on = started peer (sent_by peer items) item ∙ sym (unbound peer items (if bounds_life peer item then begins_life peer item else false) e)

up_then : (peer : ℕ) (up : Bool) (first later : List Item) → is_up peer up (first ++ later) ≡ is_up peer (is_up peer up first) later
up_then peer up [] later = refl
up_then peer up (item ∷ first) later = up_then peer (if bounds_life peer item then begins_life peer item else up) first later

untimed_at : (moment : ℕ) (items : List Item) → untimed (timed_at moment items) ≡ items
untimed_at moment [] = refl
untimed_at moment (item ∷ items) = ap (λ (z : List Item). item ∷ z) (untimed_at moment items)

-- what one record makes
module _ (config : Config) (p q : ℕ) (wide : Bool) (up t : Bool) (is : (p == q) ≡ t) where
  lost : is_up q up (was_lost p ∷ []) ≡ (if t then false else up)
  lost = ap (λ (b : Bool). if b then false else up) is

  taken : (octets : List ℕ) (kept : Life) (h : Bool) → has_width kept wide ≡ h → (t ≡ true → up ≡ is_some kept)
      → is_up q up ((if h then [] else opening p (asn_of config p) wide kept) ++ (received p octets ∷ [])) ≡ (if t then true else up)
  taken octets None true e same = absurd cc
  taken octets (Some told) true e same = by t same
    where
      by : (b : Bool) → (b ≡ true → up ≡ true) → up ≡ (if b then true else up)
      by true f = f refl
      by false f = refl
  taken octets None false e same = ap (λ (b : Bool). if b then b else up) is ∙ by t
    where
      by : (b : Bool) → (if b then b else up) ≡ (if b then true else up)
      by true = refl
      by false = refl
  taken octets (Some told) false e same = ap (λ (b : Bool). if b then b else if b then false else up) is ∙ by t
    where
      by : (b : Bool) → (if b then b else if b then false else up) ≡ (if b then true else up)
      by true = refl
      by false = refl

  idle : (kept : Life) → (t ≡ true → up ≡ is_some kept) → up ≡ (if t then is_some kept else up)
  idle kept same = by t same
    where
      by : (b : Bool) → (b ≡ true → up ≡ is_some kept) → up ≡ (if b then is_some kept else up)
      by true f = f refl
      by false f = refl

  ends : (kept : Life) → (t ≡ true → up ≡ is_some kept) → is_up q up (ended p kept) ≡ (if t then false else up)
  ends None same = idle None same
  ends (Some told) same = lost

  abbrev Made : Type 0
  Made = List Item × Life

  -- it left the peer with this life
  abbrev Leaves : Made → Type 0
  Leaves m = is_up q up m.0 ≡ (if t then is_some m.1 else up)

  chosen : (b : Bool) (first second : Made) → (b ≡ true → Leaves first) → (b ≡ false → Leaves second) → Leaves (if b then first else second)
  chosen true first second one other = one refl
  chosen false first second one other = other refl

  made_up : (said : Said) (kept : Life) → (t ≡ true → up ≡ is_some kept) → Leaves (made_by config p wide said kept)
  made_up (message octets) kept same =
      chosen (is_taken octets) ((if has_width kept wide then [] else opening p (asn_of config p) wide kept) ++ (received p octets ∷ []), Some wide) ([], kept)
      (λ e. taken octets kept (has_width kept wide) refl same) (λ e. idle kept same)
  made_up (change old new) kept same = chosen (is_established old new) (ended p kept, None) ([], kept) (λ e. ends kept same) (λ e. idle kept same)

-- after it the peer's life is the one that it left, and that of another peer is as it was
left_as : (config : Config) (lives : Lives) (heard : Spoken) (peer : ℕ)
    → is_up peer (is_some (lives peer)) (made config heard (lives heard.peer)).0
    ≡ is_some (with_life heard.peer (made config heard (lives heard.peer)).1 lives peer)
left_as config lives heard peer = by (heard.peer == peer) (peer == heard.peer) refl refl
  where
    by : (t s : Bool) → (heard.peer == peer) ≡ t → (peer == heard.peer) ≡ s
        → is_up peer (is_some (lives peer)) (made config heard (lives heard.peer)).0
        ≡ is_some (if s then (made config heard (lives heard.peer)).1 else lives peer)
    by true true e f =
        made_up config heard.peer peer heard.wide (is_some (lives peer)) true e heard.said (lives heard.peer)
        (λ same. ap (λ (n : ℕ). is_some (lives n)) (sym (eqb-true heard.peer peer e)))
    by false false e f = made_up config heard.peer peer heard.wide (is_some (lives peer)) false e heard.said (lives heard.peer) (λ same. absurd cc)
    by true false e f = absurd (never (sym (eq-eqb peer heard.peer (sym (eqb-true heard.peer peer e))) ∙ f))
      where
        never : true ≡ false → ⊥
        never h = cc
    by false true e f = absurd (never (sym e ∙ eq-eqb heard.peer peer (sym (eqb-true peer heard.peer f))))
      where
        never : false ≡ true → ⊥
        never h = cc

-- and so on
goes_on : (config : Config) (begun : Lives) (first rest : List Spoken)
    → (lives : Lives) × ((items_from config begun (first ++ rest) ≡ items_from config begun first ++ items_from config lives rest)
    × ((peer : ℕ) → is_some (lives peer) ≡ is_up peer (is_some (begun peer)) (untimed (items_from config begun first))))
goes_on config begun [] rest = (begun, (refl, λ peer. refl))
goes_on config begun (heard ∷ first) rest =
    let one : List Item = (made config heard (begun heard.peer)).0 in
    let next : Lives = with_life heard.peer (made config heard (begun heard.peer)).1 begun in
    let on = goes_on config next first rest in (
      on.0,
      (
        ap (λ (z : List Timed). timed_at heard.moment one ++ z) on.1.0
            ∙ sym (append_assoc (timed_at heard.moment one) (items_from config next first) (items_from config on.0 rest)),
        λ peer.
            on.1.1 peer
            ∙ sym (ap (λ (b : Bool). is_up peer b (untimed (items_from config next first))) (left_as config begun heard peer))
            ∙ sym (up_then peer (is_some (begun peer)) one (untimed (items_from config next first)))
            ∙ sym (ap (λ (z : List Item). is_up peer (is_some (begun peer)) (z ++ untimed (items_from config next first))) (untimed_at heard.moment one))
            ∙ sym (ap (is_up peer (is_some (begun peer))) (map-append (λ (t : Timed). t.item) (timed_at heard.moment one) (items_from config next first))),
      ),
    )

pub keeps_lives : KeepsLives
keeps_lives config first rest =
    let on = goes_on config no_lives first rest in
    (on.0, (on.1.0, λ peer. on.1.1 peer ∙ sym (lives_up peer (untimed (items_from config no_lives first)))))
