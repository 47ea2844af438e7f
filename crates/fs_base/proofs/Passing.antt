-- Calls one behind the other: what they do to the files, and to the slot that they read.
use Rattle.fs_base.proofs.Words.{◌≡◌, ℕ, List, [], Bool, Option, refl, ◌∙◌, subst, arith, le_trans, Counted, Calls, Draws, Passed, Passes, PassesOn}
use Rattle.fs_base.proofs.Drawing.{draws_more, draws_straight, passed_none, passed_then}

-- what was taken, told in another way
pub passes_as : {One Other : Type 0} {told : Bool} {calls calls' : Calls} {left left' : ℕ → List ℕ} {holds holds' : List ℕ → Option (List ℕ)}
    {old new : Counted} → (One → Other) → Passes told calls calls' left left' holds holds' One old new
    → Passes told calls calls' left left' holds holds' Other old new
passes_as told_so h = record {
  later = h.later;
  slot = h.slot;
  limit = h.limit;
  others = h.others;
  took = λ tells_so. told_so (h.took tells_so);
  opened = h.opened;
}

-- one call, and then another
pub passes_more : {One More All : Type 0} {told : Bool} {calls mid late : Calls} {left left' left'' : ℕ → List ℕ}
    {holds holds' holds'' : List ℕ → Option (List ℕ)} {old now new : Counted} → (One → More → All)
    → Passes told calls mid left left' holds holds' One old now → Passes told mid late left' left'' holds' holds'' More now new
    → Passes told calls late left left'' holds holds'' All old new
passes_more took one more = record {
  later = le_trans one.later more.later;
  slot = more.slot ∙ one.slot;
  limit = more.limit ∙ one.limit;
  others = λ tells_so. record {
    others = λ other apart.
        (more.others tells_so).others other (λ same. apart (same ∙ one.slot)) ∙ (one.others tells_so).others other apart;
    names = (more.others tells_so).names ∙ (one.others tells_so).names;
  };
  took = λ tells_so. took (one.took tells_so) (more.took tells_so);
  opened = more.opened ∙ one.opened;
}

pub passes_then : {told : Bool} {calls mid late : Calls} {left left' left'' : ℕ → List ℕ} {holds holds' holds'' : List ℕ → Option (List ℕ)}
    {old now new : Counted} → PassesOn told calls mid left left' holds holds' old now → PassesOn told mid late left' left'' holds' holds'' now new
    → PassesOn told calls late left left'' holds holds'' old new
passes_then {left = left} {left' = left'} {left'' = left''} {old = old} {now = now} {new = new} one more =
    passes_more
    (λ first last. passed_then old.limit old.taken now.taken new.taken (left old.slot) (left' old.slot) (left'' old.slot) first
    (subst (λ slot. Passed old.limit now.taken new.taken (left' slot) (left'' slot)) one.slot
    (subst (λ limit. Passed limit now.taken new.taken (left' now.slot) (left'' now.slot)) one.limit last)))
    one more

pub passes_in : {told : Bool} {calls mid late : Calls} {left left' left'' : ℕ → List ℕ} {holds holds' holds'' : List ℕ → Option (List ℕ)}
    {old now new : Counted} → Passes told calls mid left left' holds holds' (Draws old now (left old.slot) (left' old.slot)) old now
    → Passes told mid late left' left'' holds' holds'' (Draws now new (left' now.slot) (left'' now.slot)) now new
    → Passes told calls late left left'' holds holds'' (Draws old new (left old.slot) (left'' old.slot)) old new
passes_in {left = left} {left' = left'} {left'' = left''} one more =
    passes_more (draws_more _ _ _ left left' left'' one.slot one.limit) one more

-- where nothing was put back the slot alone was read
pub passes_straight : {told : Bool} {calls calls' : Calls} {left left' : ℕ → List ℕ} {holds holds' : List ℕ → Option (List ℕ)} {old new : Counted}
    → old.back ≡ [] → Passes told calls calls' left left' holds holds' (Draws old new (left old.slot) (left' old.slot)) old new
    → PassesOn told calls calls' left left' holds holds' old new
passes_straight none h = passes_as (draws_straight _ _ _ _ none) h

-- nothing was done
pub passes_none : {told : Bool} {calls : Calls} {left : ℕ → List ℕ} {holds : List ℕ → Option (List ℕ)} {now : Counted}
    → PassesOn told calls calls left left holds holds now now
passes_none {left = left} {now = now} = record {
  later = omega arith;
  slot = refl;
  limit = refl;
  others = λ tells_so. record { others = λ other apart. refl; names = refl };
  took = λ tells_so. passed_none now.limit now.taken (left now.slot) now.within;
  opened = refl;
}
