-- A tape that is read up to its end, whatever that is, and played item by item.
use Rattle.cmd_stages.proofs.Words.{◌≡◌, inl, inr, ℕ, List, [], Option, Some, Ok, Err, refl, ap, sym, ◌∙◌, subst, drop, End, limited, bad, Config}
use Rattle.cmd_stages.proofs.Words.{IsBegun, Item, TapeState, Timed, coming, tape_of, version_of, TapeReason, Refusal, Outside, Stage, Found, Stopped}
use Rattle.cmd_stages.proofs.Words.{and_then, or_stop, HasReason, Names, played_to, Ceases, GivesNone, read_stage, Desked, Played, Leaves, Noted}
use Rattle.cmd_stages.proofs.Words.{Plays, IsStrictlySortedBy}
use Rattle.cmd_stages.proofs.Playing.{opened_to, tape_opened}
use Rattle.fs_base.specs.declared.prefix.Family.{Family}
use Rattle.fs_desk.{specs.{Desk.{PlayedBut}, Laws.{LeaveSame}}, proofs.Leaves.{played_leaves}}
use Rattle.fs_input.specs.{NextRecord.{Advances}, Opening.{Opens}, declared.fault.Fault.{Fault, TheVariants.{Read, Limit, Bad}}}
use Rattle.fs_rules.specs.Table.{Held, admitted}
use Rattle.cmd_stages.specs.Play.{refused_by}

-- the file of this name was opened in the first slot, and is read up to the limit
pub record OpenedFile : Type 0 where
  pub limit : ℕ
  pub holds : Names
  pub name : List ℕ
  pub before : ℕ → List ℕ
  pub slot : ℕ
  pub counted : ℕ
  pub slot_is : slot ≡ 1
  pub there : holds name ≡ Some (before 1)
  pub counted_is : counted ≡ limit

abbrev pub opened_file : (limit : ℕ) (holds : Names) (name : List ℕ) (before : ℕ → List ℕ) (slot counted : ℕ)
    → slot ≡ 1 → holds name ≡ Some (before 1) → counted ≡ limit → OpenedFile
opened_file limit holds name before slot counted one h l =
    record { limit = limit; holds = holds; name = name; before = before; slot = slot; counted = counted; slot_is = one; there = h; counted_is = l }

-- what is read of a tape that is there
read_there : (config : Config) (file : OpenedFile)
    → read_stage config file.limit file.holds file.name ≡ Found (tape_of config file.limit (file.before file.slot))
read_there config file =
    ap (λ (content : Option (List ℕ)). and_then (or_stop Outside content) (λ z. Found (tape_of config file.limit z)))
    (file.there ∙ ap (λ (n : ℕ). Some (file.before n)) (sym file.slot_is))

-- an opened tape's items are all to come
pub read_so : (config : Config) (file : OpenedFile) (after : ℕ → List ℕ) (tape : TapeState)
    → (version_of file.counted (file.before file.slot) ≡ Ok tape.version) × (after file.slot ≡ drop 8 (file.before file.slot))
    → IsBegun file.slot file.counted tape → read_stage config file.limit file.holds file.name ≡ Found (coming config tape (after 1))
read_so config file after tape o begun =
    read_there config file
    ∙ ap Found (tape_opened config file.limit (file.before file.slot) (after 1) tape file.slot file.counted file.counted_is
    (o.0, sym (ap after file.slot_is) ∙ o.1) begun)

-- it isn't opened
pub unopened : (config : Config) (limit : ℕ) (holds : Names) (name : List ℕ) (failed : Type 0) (refusal : Refusal)
    → HasReason (or_stop Outside (holds name)) failed refusal → Ceases (read_stage config limit holds name) failed refusal
unopened config limit holds name failed refusal (inl h) =
    inl (subst (λ (s : Stage (List ℕ)). GivesNone (and_then s (λ z. Found (tape_of config limit z))) refusal) (sym h) refl)
unopened config limit holds name failed refusal (inr h) = inr h

-- it ends before its items
none_given : (config : Config) (file : OpenedFile) (end : End TapeReason) (refusal : Refusal)
    → version_of file.counted (file.before file.slot) ≡ Err end → played_to ([], end) ≡ Stopped refusal
    → GivesNone (read_stage config file.limit file.holds file.name) refusal
none_given config file end refusal e stops =
    subst (λ (s : Stage (List Timed × End TapeReason)). GivesNone s refusal)
    (sym (read_there config file
    ∙ ap Found (ap (λ (n : ℕ). tape_of config n (file.before file.slot)) (sym file.counted_is)
    ∙ ap (opened_to config file.counted (file.before file.slot)) e)))
    (refl, stops)

pub unbegun_tape : (config : Config) (file : OpenedFile) (behind left : List ℕ) (fault : Fault TapeReason) (refusal : Refusal) (failed : Type 0)
    → Opens (λ (tape : TapeState). tape.version) (version_of file.counted (file.before file.slot)) behind left (Err fault)
    → (fault ≡ Read → failed) → refusal ≡ refused_by fault → Ceases (read_stage config file.limit file.holds file.name) failed refusal
unbegun_tape config file behind left Read refusal failed o f same = inr (inr (same, f refl))
unbegun_tape config file behind left Limit refusal failed o f same = inl (none_given config file limited refusal o (ap Stopped (sym same)))
unbegun_tape config file behind left (Bad reason place) refusal failed o f same =
    inl (none_given config file (bad reason place) refusal o (ap Stopped (sym same)))

-- no further item is given
pub ceased : {T : Type 0} (before : List Timed × End TapeReason) (behind : T → List Timed × End TapeReason) (fault : Fault TapeReason)
    (refusal : Refusal) (failed : Type 0)
    → Advances before behind (Err fault) → (fault ≡ Read → failed) → refusal ≡ refused_by fault → Ceases (Found before) failed refusal
ceased before behind Read refusal failed a f same = inr (inr (same, f refl))
ceased before behind Limit refusal failed a f same =
    inl (subst (λ (all : List Timed × End TapeReason). GivesNone (Found all) refusal) (sym a) (refl, ap Stopped (sym same)))
ceased before behind (Bad reason place) refusal failed a f same =
    inl (subst (λ (all : List Timed × End TapeReason). GivesNone (Found all) refusal) (sym a) (refl, ap Stopped (sym same)))

-- no item leaves no route, and so no rule that is admitted

abbrev empty_held : Config → Held
empty_held config = record { config = config; unicast = []; flows = [] }

leaves_none : (config : Config) → Leaves config [] (empty_held config)
unfolding IsStrictlySortedBy
leaves_none config = record {
  config_is = refl;
  listed = record { unicast = tt; flows = tt };
  unicast = λ place. refl;
  flows = λ rule peer. refl;
}

pub none_admitted : ((config : Config) (items other : List Item) (held kept : Held) → LeaveSame config items other → Leaves config items held
    → Leaves config other kept → held ≡ kept)
    → (config : Config) (desk : Desked) (family : Family) → Played config [] desk → admitted family desk.held ≡ []
none_admitted one config desk family p =
    ap (admitted family)
    (one config [] [] desk.held (empty_held config) (record { unicast = λ place. refl; flows = λ rule peer. refl }) (played_leaves config [] desk p)
    (leaves_none config))

-- whatever the desk notes
pub plays_noted : (item : Item) (old watched new : Desked) (noted : Noted) → watched ≡ record old { changes = noted } → Plays item watched new
    → Plays item old new
plays_noted item old watched new noted e plays expired config items p =
    plays expired config items (subst (λ (d : Desked). PlayedBut expired config items d) (sym e)
    (record { config_is = p.config_is; held_is = p.held_is; listed = p.listed; sessions = p.sessions; each = p.each }))
