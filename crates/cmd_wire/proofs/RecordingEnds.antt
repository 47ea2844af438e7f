-- Why `record` ends, and what it did until then.
use Rattle.cmd_wire.proofs.Words.{◌≡◌, ◌≢◌, ◌⊎◌, ◌≤◌, ◌∙◌, ℕ, List, [], Option, refl, sym, ap, subst, inl, inr, Grew, Grew-trans, Rose, rose_earlier}
use Rattle.cmd_wire.proofs.Words.{Config, Found, HasReason, Stage, status_of, Result, IsErrAnd, answered, answered_err}
use Rattle.cmd_wire.proofs.Words.{Refusal, Capture, Dump, Limit, Memory, Outside, Rejected, Session, Tape}
use Rattle.cmd_wire.proofs.Statuses.{same_found}
use Rattle.fs_base.{specs.{Gate.{Turn}, Sink.{GrewPart}}, proofs.Grew.{Grew-refl, part_none}}
use Rattle.fs_tape.specs.{Magic.{magic_of}, declared.magic.Version.TheVariants.{Two}}
use Rattle.fs_recorder.specs.declared.stop.Stop.{Stop, TheVariants.{Failed, Memory as NoMemory, Limit as TooLong}}
use Rattle.cmd_stages.specs.Refusal.{IsOfFile}
use Rattle.cmd_wire.specs.Recording.{EndsBy, Fills, IsOfRecording, RecordsAll, refusal_by}

-- the statuses

pub config_status : (refusal : Refusal) → IsOfFile (status_of refusal) → IsOfRecording (status_of refusal)
config_status Outside h = inl refl
config_status Rejected h = inr (inl refl)
config_status (Tape reason place) h = absurd (h.0 refl)
config_status Capture h = absurd (h.1 refl)
config_status Dump h = absurd (h.3 refl)
config_status Memory h = inr (inr (inl refl))
config_status Limit h = inr (inr (inr refl))
config_status Session h = absurd (h.2 refl)

pub stop_status : (stop : Stop) → IsOfRecording (status_of (refusal_by stop))
stop_status Failed = inl refl
stop_status NoMemory = inr (inr (inl refl))
stop_status TooLong = inr (inr (inr refl))

pub never_three : (stop : Stop) → status_of (refusal_by stop) ≢ 3
never_three Failed e = absurd cc
never_three NoMemory e = absurd cc
never_three TooLong e = absurd cc

-- why it ended

module _ {stage : Stage Config} {failed : Type 0} {full : Config → Type 0} where
  ends_config : {fails : Type 0} (refusal : Refusal) → HasReason stage fails refusal → (fails → failed) → EndsBy stage failed full (status_of refusal)
  ends_config refusal (inl h) f = inl (refusal, h, refl)
  ends_config refusal (inr (inl h)) f = inr (inl (ap status_of h))
  ends_config refusal (inr (inr h)) f = inr (inr (inl (ap status_of h.0, f h.1)))

  -- for what a `?` hands on
  pub ends_unread : {T fails : Type 0} (r : Result T Refusal) (refusal : Refusal) → IsErrAnd r (λ e. e ≡ refusal) → HasReason stage fails refusal
      → (fails → failed) → EndsBy stage failed full (answered r)
  ends_unread r refusal same reason f = answered_err (EndsBy stage failed full) r refusal same (ends_config refusal reason f)

  pub ends_stop : (accepted : Config) (stop : Stop) → stage ≡ Found accepted → (stop ≡ Failed → failed) → (stop ≡ TooLong → full accepted)
      → EndsBy stage failed full (status_of (refusal_by stop))
  ends_stop accepted Failed found f filled = inr (inr (inl (refl, f refl)))
  ends_stop accepted NoMemory found f filled = inr (inl refl)
  ends_stop accepted TooLong found f filled = inr (inr (inr (accepted, found, refl, filled refl)))

-- of the configuration that was accepted
pub accepted_so : {stage : Stage Config} (P : Config → Type 0) (accepted : Config) → stage ≡ Found accepted → P accepted
    → (other : Config) → stage ≡ Found other → P other
accepted_so P accepted found all other same = subst P (same_found (sym found ∙ same)) all

-- a gate that was opened in between
pub some_failed : (s s' g g1 g2 : ℕ) (files : Type 0) → g ≤ g1 → Rose s s' ⊎ Rose g1 g2 → files ⊎ (Rose s s' ⊎ Rose g g2)
some_failed s s' g g1 g2 files later (inl r) = inr (inl r)
some_failed s s' g g1 g2 files later (inr r) = inr (inr (rose_earlier g g1 g2 later r))

-- what it did

pub unbegun : (config : Config) (t t' : Option (List Turn)) (w : Option (List ℕ)) → Grew t t' [] → RecordsAll config t t' w w
unbegun config t t' w grew = inl (record { gate = grew; tape = part_none w w (magic_of Two) (Grew-refl w) })

pub magic_broken : (config : Config) (t : Option (List Turn)) (w w' : Option (List ℕ)) → GrewPart w w' (magic_of Two) → RecordsAll config t t w w'
magic_broken config t w w' part = inl (record { gate = Grew-refl t; tape = part })

-- behind the opening of the gate, which tells nothing
pub opened_first : (config : Config) (t t1 t2 : Option (List Turn)) (w w' : Option (List ℕ)) → Grew t t1 [] → RecordsAll config t1 t2 w w'
    → RecordsAll config t t2 w w'
opened_first config t t1 t2 w w' opened (inl u) = inl (record { gate = Grew-trans t t1 t2 [] [] opened u.gate; tape = u.tape })
opened_first config t t1 t2 w w' opened (inr r) = inr (record {
  earlier = r.earlier;
  last = r.last;
  asked = r.asked;
  gate = Grew-trans t t1 t2 [] _ opened r.gate;
  read_back = r.read_back;
  told = r.told;
  tape = r.tape;
})

pub opened_full : (limit : ℕ) (config : Config) (t t1 t2 : Option (List Turn)) → Grew t t1 [] → Fills limit config t1 t2 → Fills limit config t t2
opened_full limit config t t1 t2 opened f = record {
  earlier = f.earlier;
  last = f.last;
  asked = f.asked;
  gate = Grew-trans t t1 t2 [] _ opened f.gate;
  full = f.full;
}
