-- What a run beside a gate promises, by what its words ask for.
use Rattle.fs_cli.proofs.Words.{◌≡◌, ◌∙◌, ℕ, List, Some, None, sym, subst}
use Rattle.cmd_stages.specs.{Load.{OpensFront, config_alone, config_stage}, Refusal.{Stopped}, declared.refusal.Refusal.{Refusal}}
use Rattle.cmd_wire.specs.{Keeping.{EndsKeeping, IsOfKeeping, KeepsSo}, Recording.{EndsRecording, IsOfRecording, RecordsSo}}
use Rattle.fs_cli.specs.Live.{GateKept, Keep, KeepPromises, LiveForm, LiveObjects, LivePromises, Record, RecordPromises, StayPromises, gate_in}
use Rattle.fs_cli.specs.Live.{live_form_of}
use Rattle.fs_cli.specs.Program.{AreTold, ClockKept, Promises, SinkKept, WireKept, happened_in, names_in}

never_both : (form : LiveForm) → Some form ≡ None → ⊥
never_both form e = absurd cc

same_config : (config address config' address' : List ℕ) → Some (Record config address) ≡ Some (Record config' address') → config ≡ config'
same_config config address config' address' e = cc

never_keeps : (config address config' rules address' : List ℕ) → Some (Record config address) ≡ Some (Keep config' rules address') → ⊥
never_keeps config address config' rules address' e = absurd cc

same_keep : (config rules address config' rules' address' : List ℕ) → Some (Keep config rules address) ≡ Some (Keep config' rules' address')
    → (config ≡ config') × ((rules ≡ rules') × (address ≡ address'))
same_keep config rules address config' rules' address' e = (cc, (cc, cc))

module _ {F S W C G : Type 0} (limit : ℕ) (w : LiveObjects F S W C G) where
  -- of a status that is answered
  stays_of : (IsOfIt : ℕ → Type 0) (config : List ℕ) (answer done : ℕ) → answer ≡ done → IsOfIt done
      → OpensFront (config_alone config) (w.of_run.of_files.opened w.of_run.files_before) (w.of_run.of_files.opened w.of_run.files_behind) done
      → WireKept w.of_run → ClockKept w.of_run → (done ≡ 3 → SinkKept w.of_run × GateKept w)
      → (AreTold w.of_run → (refusal : Refusal) → config_stage limit (names_in w.of_run) config ≡ Stopped refusal → SinkKept w.of_run × GateKept w)
      → StayPromises IsOfIt limit w config answer
  stays_of IsOfIt config answer done same possible opens wire clock three stopped =
      subst (StayPromises IsOfIt limit w config) (sym same) (record {
        possible = possible;
        opens = opens;
        wire_unused = (wire, clock);
        config_writes_nothing = three;
        stopped_unused = stopped;
      })

  pub record_of : (config : List ℕ) (answer done : ℕ) → answer ≡ done → IsOfRecording done
      → OpensFront (config_alone config) (w.of_run.of_files.opened w.of_run.files_before) (w.of_run.of_files.opened w.of_run.files_behind) done
      → WireKept w.of_run → ClockKept w.of_run → (done ≡ 3 → SinkKept w.of_run × GateKept w)
      → (AreTold w.of_run → (refusal : Refusal) → config_stage limit (names_in w.of_run) config ≡ Stopped refusal → SinkKept w.of_run × GateKept w)
      → (AreTold w.of_run → EndsRecording limit (names_in w.of_run) config (happened_in w.of_run) (gate_in w) done)
      → (AreTold w.of_run → RecordsSo limit (names_in w.of_run) config (happened_in w.of_run) (gate_in w))
      → RecordPromises limit w config answer
  record_of config answer done same possible opens wire clock three stopped ends records = record {
    stays = stays_of IsOfRecording config answer done same possible opens wire clock three stopped;
    causes = λ told. subst (EndsRecording limit (names_in w.of_run) config (happened_in w.of_run) (gate_in w)) (sym same) (ends told);
    records = records;
  }

  pub keep_of : (config rules address : List ℕ) (answer done : ℕ) → answer ≡ done → IsOfKeeping done
      → OpensFront (config_alone config) (w.of_run.of_files.opened w.of_run.files_before) (w.of_run.of_files.opened w.of_run.files_behind) done
      → WireKept w.of_run → ClockKept w.of_run → (done ≡ 3 → SinkKept w.of_run × GateKept w)
      → (AreTold w.of_run → (refusal : Refusal) → config_stage limit (names_in w.of_run) config ≡ Stopped refusal → SinkKept w.of_run × GateKept w)
      → (AreTold w.of_run → EndsKeeping limit (names_in w.of_run) config rules address (happened_in w.of_run) (gate_in w) done)
      → (AreTold w.of_run → KeepsSo limit (names_in w.of_run) config rules address (happened_in w.of_run) (gate_in w))
      → KeepPromises limit w config rules address answer
  keep_of config rules address answer done same possible opens wire clock three stopped ends kept = record {
    stays = stays_of IsOfKeeping config answer done same possible opens wire clock three stopped;
    causes = λ told. subst (EndsKeeping limit (names_in w.of_run) config rules address (happened_in w.of_run) (gate_in w)) (sym same) (ends told);
    kept = kept;
  }

  pub record_only : (words : List (List ℕ)) (answer : ℕ) (config address : List ℕ) → Some (Record config address) ≡ live_form_of words
      → RecordPromises limit w config answer → LivePromises limit w words answer
  record_only words answer config address is p = record {
    others = λ none. absurd (never_both (Record config address) (is ∙ none));
    recorded = λ config' address' other.
        subst (λ (c : List ℕ). RecordPromises limit w c answer) (same_config config address config' address' (is ∙ other)) p;
    keeping = λ config' rules' address' other. absurd (never_keeps config address config' rules' address' (is ∙ other));
  }

  pub keep_only : (words : List (List ℕ)) (answer : ℕ) (config rules address : List ℕ) → Some (Keep config rules address) ≡ live_form_of words
      → KeepPromises limit w config rules address answer → LivePromises limit w words answer
  keep_only words answer config rules address is p = record {
    others = λ none. absurd (never_both (Keep config rules address) (is ∙ none));
    recorded = λ config' address' other. absurd (never_keeps config' address' config rules address (sym (is ∙ other)));
    keeping = λ config' rules' address' other.
        let same = same_keep config rules address config' rules' address' (is ∙ other) in
        subst (λ (c : List ℕ). KeepPromises limit w c rules' address' answer) same.0
        (subst (λ (r : List ℕ). KeepPromises limit w config r address' answer) same.1.0
        (subst (λ (a : List ℕ). KeepPromises limit w config rules a answer) same.1.1 p));
  }

  pub others_only : (words : List (List ℕ)) (answer : ℕ) → None ≡ live_form_of words → Promises limit w.of_run words answer → GateKept w
      → LivePromises limit w words answer
  others_only words answer is p kept = record {
    others = λ none. (p, kept);
    recorded = λ config address other. absurd (never_both (Record config address) (sym other ∙ sym is));
    keeping = λ config rules address other. absurd (never_both (Keep config rules address) (sym other ∙ sym is));
  }
