-- How `keep` begins, and why it ends.
use Rattle.cmd_wire.proofs.Words.{◌≡◌, ◌≤◌, ◌⊎◌, ◌∙◌, ℕ, suc, true, false, List, [], ◌∷◌, Option, Some, None, Ok, Err, refl, sym, ap, subst, inl, inr}
use Rattle.cmd_wire.proofs.Words.{Grew, Grew-trans, Rose, rose_earlier, Result, IsErrAnd}
use Rattle.cmd_wire.proofs.Kept.{rereads_took}
use Rattle.std.specs.{Prelude.{take}, Result.{IsErrOf}}
use Rattle.fs_base.specs.Gate.{Content, Turn, absent, content_from, read, too_long, unread, whole}
use Rattle.fs_base.specs.declared.Found.{Found as HasFound, TheVariants.{Whole, Absent, Failed as Unread, TooLong as Long}}
use Rattle.fs_base.proofs.Grew.{Grew-refl}
use Rattle.fs_recorder.specs.declared.stop.Stop.{Stop, TheVariants.{Failed}}
use Rattle.cmd_wire.specs.Shelf.{Shelf}
use Rattle.cmd_wire.specs.Keeping.{Begins, Breaks, BreaksShelving, IsMissing, IsThere, IsUnbegun}
use Rattle.cmd_wire.specs.Keeping.{Order, Reread, Shelves, StandsAt, Stationed, Step, Took, at_first, is_done, is_missing, reread_of}
use Rattle.cmd_wire.specs.Keeping.{rereads, shelves, starts, starts_by}

-- The first reading.

pub unbegun : (order : Order) (t t' : Option (List Turn)) (w : Option (List ℕ)) → Grew t t' [] → IsUnbegun order t t' w w
unbegun order t t' w none = record { first = None; right = tt; asked = 0; gate = none; told = 0; lines = Grew-refl w }

pub missed : (order : Order) (moment time : ℕ) (found : HasFound) (octets : List ℕ) (t t' : Option (List Turn)) (w : Option (List ℕ)) → is_missing found ≡ true
    → Grew t t' (read moment time order.rules (content_from found octets) ∷ []) → IsUnbegun order t t' w w
missed order moment time Whole octets t t' w missing told = absurd cc
missed order moment time Long octets t t' w missing told = absurd cc
missed order moment time Absent octets t t' w missing told =
    record { first = Some (reread_of moment time absent None); right = tt; asked = 1; gate = told; told = 0; lines = Grew-refl w }
missed order moment time Unread octets t t' w missing told =
    record { first = Some (reread_of moment time unread None); right = tt; asked = 1; gate = told; told = 0; lines = Grew-refl w }

-- it wasn't there, or a fault rose
pub missing_why : {S G : Type 0} (rules : List ℕ) (moment time : ℕ) (found : HasFound) (octets : List ℕ) (t t' : Option (List Turn)) → is_missing found ≡ true
    → (found ≡ Unread → G) → Grew t t' (read moment time rules (content_from found octets) ∷ []) → (S ⊎ G) ⊎ IsMissing rules t t'
missing_why rules moment time Whole octets t t' missing rose told = absurd cc
missing_why rules moment time Long octets t t' missing rose told = absurd cc
missing_why rules moment time Absent octets t t' missing rose told = inr (record { moment = moment; time = time; gate = told })
missing_why rules moment time Unread octets t t' missing rose told = inl (inr (rose refl))

pub found_there : (found : HasFound) (octets : List ℕ) → is_missing found ≡ false → IsThere (content_from found octets)
found_there Whole octets there = tt
found_there Long octets there = tt
found_there Absent octets there = absurd cc
found_there Unread octets there = absurd cc

-- where a call failed whose error is handed on
pub handed_failed : {T U : Type 0} → (stop : Stop) (result : Result T Stop) → IsErrAnd result (λ e. e ≡ stop) → IsErrOf result Failed
    → IsErrOf {T = U} {E = Stop} (Err stop) Failed
handed_failed stop (Ok value) same failed = absurd same
handed_failed stop (Err error) same failed = (let is : error ≡ Failed = cc in ap Err (sym same ∙ is))

pub missing_so : {R : Type 0} (order order' : Order) (t t' : Option (List Turn)) → order ≡ order' → R ⊎ IsMissing order.rules t t'
    → R ⊎ IsMissing order'.rules t t'
missing_so {R} order order' t t' same why = subst (λ (o : Order). R ⊎ IsMissing o.rules t t') same why

pub started : (order : Order) (reread : Reread) (content : Content) → IsThere content → starts_by order reread content ≡ rereads order reread at_first
started order reread (whole octets) there = refl
started order reread too_long there = refl
started order reread absent there = absurd there
started order reread unread there = absurd there

module _ (moment time : ℕ) (content : Content) (old : Stationed) (t t1 t2 : Option (List Turn)) (w w' : Option (List ℕ)) (there : IsThere content)
    (s : StandsAt at_first old)
    (told : Grew t t1 (read moment time old.order.rules content ∷ [])) where
  pub begins_took : (new : Stationed) → Shelves moment time content old new t1 t2 w w' → Begins old new t t2 w w'
  begins_took new b =
      let reread : Reread = reread_of moment time content b.judged in
      let k : Took (rereads old.order reread at_first) old new t t2 w w' =
      rereads_took moment time content b.judged old new t t1 t2 w w' told b.took at_first s in
      record {
        first = reread;
        is_first = record {
          there = there;
          done = subst (λ (shelf : Shelf). is_done shelf reread ≡ true) s.shelf_is b.done;
          right = b.right;
        };
        took = subst (λ (step : Step). Took step old new t t2 w w') (sym (started old.order reread content there)) k;
      }

  pub begins_broke : BreaksShelving moment time content old t1 t2 w w' → IsUnbegun old.order t t2 w w'
  begins_broke b =
      let reread : Reread = reread_of moment time content b.judged in
      let k : Breaks (shelves old.order reread at_first) t1 t2 w w' = b.breaks at_first s in
      let broken : Breaks (rereads old.order reread at_first) t t2 w w' = record {
        asked = suc k.asked;
        gate = Grew-trans t t1 t2 (read moment time old.order.rules content ∷ []) (take k.asked (shelves old.order reread at_first).turns) told k.gate;
        told = k.told;
        lines = k.lines;
      } in
      let all : Breaks (starts old.order reread) t t2 w w' =
      subst (λ (step : Step). Breaks step t t2 w w') (sym (started old.order reread content there)) broken in
      record { first = Some reread; right = b.right; asked = all.asked; gate = all.gate; told = all.told; lines = all.lines }

-- of an order that is the same
pub begun_so : (order order' : Order) (t t' : Option (List Turn)) (w w' : Option (List ℕ)) → order ≡ order' → IsUnbegun order t t' w w'
    → IsUnbegun order' t t' w w'
begun_so order order' t t' w w' same u = subst (λ (o : Order). IsUnbegun o t t' w w') same u

-- a fault of the sink or the gate is one of the outside
pub some_failed : {F S G M : Type 0} → (S ⊎ G) ⊎ M → (F ⊎ (S ⊎ G)) ⊎ M
some_failed (inl r) = inl (inr r)
some_failed (inr m) = inr m

-- behind calls of which none lowers a count
pub rose_behind : (s s1 s2 g g1 g2 : ℕ) → s ≤ s1 → g ≤ g1 → Rose s1 s2 ⊎ Rose g1 g2 → Rose s s2 ⊎ Rose g g2
rose_behind s s1 s2 g g1 g2 sinks gates (inl r) = inl (rose_earlier s s1 s2 sinks r)
rose_behind s s1 s2 g g1 g2 sinks gates (inr r) = inr (rose_earlier g g1 g2 gates r)
