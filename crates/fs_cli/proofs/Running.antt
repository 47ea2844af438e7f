-- What the clauses of a run say follows from what it does.
use Rattle.fs_cli.proofs.Words.{◌≡◌, ◌≢◌, ◌⊎◌, ◌++◌, append-nil, inl, inr, ◌<◌, ◌∙◌, ◌==◌, ℕ, List, [], ◌∷◌, Option, Some, None, Result, Ok, Err}
use Rattle.fs_cli.proofs.Words.{IsTrue, refl, ap, sym, subst, arith, true, false, Bool, not, if◌then◌else◌, filter, length, nat_le, Happened}
use Rattle.fs_cli.proofs.Words.{happened, with_wire, FilesStood, SinkStood, WireStood, Grew, Grew-refl, Config, Timed, tape_of, Conversation}
use Rattle.fs_cli.proofs.Words.{conversation, ChecksSo, Does, IsOneOf, Runs, HasNoMoments, HasStatus, HasCauses, Completes, Promises, objects}
use Rattle.fs_cli.proofs.Words.{FailedOver, OutsideFailed, WireServed, Objects, AreTold, FilesKept, SinkKept, WireKept, ClockKept, names_in}
use Rattle.fs_cli.proofs.Words.{happened_in, shown_in, talk_in, speaks, statuses, StopsSo, EnforcesSo, Enforced, Unopened, Wants, Inputs, inputs}
use Rattle.fs_cli.proofs.Words.{inputs_stage, status_for, HoldsConfig, Names, fetch, config_stage, Form, Enforce, Surveys, Changes, Converts, Check}
use Rattle.fs_cli.proofs.Words.{Gen, form_of, Announce, Listen, Pair, Text, ListsSo, Surveyed, TellsSo, Changed, tells_changes, listed_status}
use Rattle.fs_cli.proofs.Words.{text_for, HasVersion, HoldsTape, accepted_stage, tape_stage, Answers, answered, Stage, Found, Stopped, Verdict}
use Rattle.fs_cli.proofs.Words.{and_then, or_stop, status_of, Refusal, Outside, Rejected, Tape, Capture, Dump, Memory, Limit, Session, Caused}
use Rattle.fs_cli.proofs.Words.{due_status, early_status, late_status, never_early, never_zero, not_rose, same_found, sending_stage, Opened}
use Rattle.fs_cli.proofs.Words.{OpensFront, Openings, openings, CheckFile}
use Rattle.std.{specs.{List.{AllByRecursion}, Prelude.{⊤}}, proofs.lemmas.Bool.Decides.{nat_tests}}
use Rattle.fs_base.specs.declared.Files as files
use Rattle.fs_base.specs.declared.Sink as sink
use Rattle.fs_base.specs.declared.Wire as wire
use Rattle.fs_base.specs.declared.Clock as clock
use Rattle.fs_input.specs.Records.{End, done, limited, bad}
use Rattle.fs_conf.specs.Config.{config_of}
use Rattle.cmd_enforce.specs.{Capture.{Captured, Recorded, capture_of}, declared.fault.CaptureReason.{CaptureReason}}
use Rattle.cmd_enforce.specs.{Judge.{capture_stage, lines_from, rules_by, status_at}, Moments.{AnswersAt, HoldAt, verdict_at}}
use Rattle.fs_rules.specs.Table.{Held}
use Rattle.cmd_wire.specs.{Announcing.{Announced, IsOfSession}, Listening.{Heard, hearing_stage}, Pairing.{Carries}}
use Rattle.cmd_wire.proofs.{Concluding.{session_status}, Statuses.{none_failed as none_of_three}, Promising.{announce_promises, pair_promises}}
use Rattle.cmd_wire.proofs.{PromisingHearing.{listen_promises}, Accepted.{some_found, then_found}}
use Rattle.cmd_gen.specs.Command.{GeneratesSo, Generated}
use Rattle.fs_mrt.specs.declared.fault.DumpReason.{DumpReason}
use Rattle.cmd_convert.specs.Command.{Converted, ConvertsSo, convert_status, dump_stage, status_for as status_by, status_at as dump_status}
use Rattle.cmd_convert.specs.Command.{verdict_of}
use Rattle.cmd_convert.specs.Making.{remade}
use Rattle.cmd_convert.proofs.Fitting.{reads_back_converted}
use Rattle.fs_cli.specs.declared.{command.Subject.{Subject}, survey.Survey.{Survey}}
use Rattle.fs_tape.specs.declared.magic.Version.TheVariants.{Two}
use Rattle.cmd_stages.proofs.LookingAhead.{found_items}
use Rattle.fs_cli.specs.FileCheck.{ChecksFileSo, FileChecked, FileForm}
use Rattle.fs_cli.proofs.Telling.{change_status, changed_well}

-- the status

-- the one that is due, where what failed in a part failed in the whole
caused_in : {failed other By : Type 0} {status answer : ℕ} → (answer ≡ status → By) → (failed → other) → Caused failed status answer
    → By ⊎ (answer ≡ 6) ⊎ ((answer ≡ 1) × other)
caused_in due wider (inl h) = inl (due h)
caused_in due wider (inr (inl h)) = inr (inl h)
caused_in due wider (inr (inr h)) = inr (inr (h.0, wider h.1))

abbrev with_capture : Config × List Timed → Recorded → Stage Inputs
with_capture accepted found = Found (inputs accepted.0 accepted.1 found)

capture_status : (held : ℕ → Held) (judged : List Captured) (stage : Stage Recorded) (accepted : Config × List Timed)
    → (verdict_at held judged stage).status ≡ status_for (and_then stage (with_capture accepted))
capture_status held judged (Found capture) accepted = refl
capture_status held judged (Stopped refusal) accepted = refl

enforce_status : (limit : ℕ) (holds : Names) (config tape capture : List ℕ) (failed : Type 0) (before now : Option (List ℕ)) (answer : ℕ)
    → EnforcesSo limit holds config tape capture failed before now answer
    → Caused failed (status_for (inputs_stage limit holds config tape capture)) answer
enforce_status limit holds config tape capture failed before now answer (inl early) =
    early_status (accepted_stage limit holds config tape) failed answer
    (λ s. answer ≡ status_for (and_then s (λ accepted. and_then (capture_stage limit holds capture) (with_capture accepted)))) (λ refusal h. h) early.reason
enforce_status limit holds config tape capture failed before now answer (inr judged) =
    let came = judged.judged.came in
    let due = verdict_at came.held came.judged (capture_stage limit holds capture) in
    late_status failed due.status answer (answer ≡ status_for (inputs_stage limit holds config tape capture))
    (λ h. h
    ∙ capture_status came.held came.judged (capture_stage limit holds capture) (judged.accepted, judged.items)
    ∙ sym (ap (λ (s : Stage (Config × List Timed)).
    status_for (and_then s (λ accepted. and_then (capture_stage limit holds capture) (with_capture accepted)))) judged.found))
    judged.judged.answers.status_is

check_status : (limit : ℕ) (holds : Names) (subject : Subject) (word : List ℕ) (files sink : Type 0) (before now : Option (List ℕ))
    (talk : Conversation) (answer : ℕ)
    → ChecksSo subject word sink before now answer
    → HasStatus limit holds (Check subject word) talk answer ⊎ (answer ≡ 6) ⊎ ((answer ≡ 1) × (files ⊎ sink))
check_status limit holds subject word files sink before now talk answer (inl none) = inr (inl none.0)
check_status limit holds subject word files sink before now talk answer (inr says) =
    caused_in {By = HasStatus limit holds (Check subject word) talk answer} (λ h. (says.accepted, says.text, says.reports, h))
    (λ f. inr f) says.answers.status_is

survey_status : (survey : Text) (limit : ℕ) (holds : Names) (config tape : List ℕ) (failed : Type 0) (before now : Option (List ℕ)) (answer : ℕ)
    → ListsSo survey limit holds config tape failed before now answer → Caused failed (listed_status (accepted_stage limit holds config tape)) answer
survey_status survey limit holds config tape failed before now answer (inl ends) =
    late_status failed (status_of ends.0) answer (answer ≡ listed_status (accepted_stage limit holds config tape)) (λ h. h
    ∙ sym (ap listed_status ends.1)) ends.2.status_is
survey_status survey limit holds config tape failed before now answer (inr (inl early)) = inr early.0
survey_status survey limit holds config tape failed before now answer (inr (inr shows)) =
    late_status failed 0 answer (answer ≡ listed_status (accepted_stage limit holds config tape)) (λ h. h
    ∙ sym (ap listed_status shows.found)) shows.answers.status_is

dump_caused : (limit : ℕ) (holds : Names) (config dump : List ℕ) (failed : Type 0) (before now : Option (List ℕ)) (answer : ℕ)
    → ConvertsSo limit holds config dump failed before now answer → Caused failed (convert_status limit holds config dump) answer
dump_caused limit holds config dump failed before now answer (inl early) =
    early_status (config_stage limit holds config) failed answer (λ s. answer ≡ status_by limit (dump_stage holds dump) s) (λ refusal h. h) early.reason
dump_caused limit holds config dump failed before now answer (inr makes) =
    late_status failed (verdict_of makes.accepted limit (dump_stage holds dump)).status answer (answer ≡ convert_status limit holds config dump)
    (λ h. h ∙ sym (ap (status_by limit (dump_stage holds dump)) makes.found)) makes.answers.status_is

file_status : (limit : ℕ) (holds : Names) (file : FileForm) (failed : Type 0) (before now : Option (List ℕ)) (talk : Conversation) (answer : ℕ)
    → ChecksFileSo limit holds file failed before now answer → HasStatus limit holds (CheckFile file) talk answer ⊎ (answer ≡ 6) ⊎ ((answer ≡ 1) × failed)
file_status limit holds file failed before now talk answer (inl early) = inr early.0
file_status limit holds file failed before now talk answer (inr due) =
    caused_in {By = HasStatus limit holds (CheckFile file) talk answer} (λ h. (due.0, due.1, h)) (λ f. f) due.2.status_is

gen_status : (count : ℕ) (files sink : Type 0) (before now : Option (List ℕ)) (answer : ℕ)
    → GeneratesSo count sink before now answer → Caused (files ⊎ sink) 0 answer
gen_status count files sink before now answer (inl none) = inr (inl none.0)
gen_status count files sink before now answer (inr counts) = caused_in (λ h. h) (λ f. inr f) counts.answers.status_is

causes_of : (tells : Bool) (limit : ℕ) (holds : Names) (form : Form) (call : Happened) (talk : Conversation) (answer : ℕ)
    → IsTrue tells → Does tells limit holds form call talk answer → HasStatus limit holds form talk answer ⊎ (answer ≡ 6)
    ⊎ ((answer ≡ 1) × OutsideFailed form call)
causes_of tells limit holds (Enforce config tape capture) call talk answer told d = enforce_status limit holds config tape capture _ _ _ answer (d told)
causes_of tells limit holds (Surveys survey config tape) call talk answer told d = survey_status (text_for survey) limit holds config tape _ _ _ answer (d told)
causes_of tells limit holds (Changes config tape) call talk answer told d = change_status limit holds config tape _ _ _ answer (d told)
causes_of tells limit holds (Converts config dump) call talk answer told d = dump_caused limit holds config dump _ _ _ answer (d told)
causes_of tells limit holds (Check subject word) call talk answer told d = check_status limit holds subject word _ _ _ _ talk answer d
causes_of tells limit holds (CheckFile file) call talk answer told d = file_status limit holds file _ _ _ talk answer (d told)
causes_of tells limit holds (Gen count) call talk answer told d = gen_status count _ _ _ _ answer d
causes_of tells limit holds (Announce config rules address) call talk answer told d =
    session_status (sending_stage limit holds config rules) (Announced limit talk) call answer (d told)
causes_of tells limit holds (Listen config address) call talk answer told d =
    session_status (hearing_stage limit holds config) (Heard limit talk) call answer (d told)
causes_of tells limit holds (Pair config rules) call talk answer told d =
    session_status (sending_stage limit holds config rules) (Carries limit talk) call answer (d told)

-- completeness

none_failed : (form : Form) (call : Happened) → FilesStood call → SinkStood call → (IsTrue (speaks form) → WireStood call) → OutsideFailed form call → ⊥
none_failed form call f s w failed = by (speaks form) refl failed
  where
    by : (b : Bool) → speaks form ≡ b → FailedOver b call → ⊥
    by true e any = none_of_three call f s (w e) any
    by false e (inl r) = not_rose call.before.file_faults call.now.file_faults f r
    by false e (inr r) = not_rose call.before.sink_faults call.now.sink_faults s r

pub causes_complete : (limit : ℕ) (holds : Names) (form : Option Form) (call : Happened) (talk : Conversation) (answer : ℕ)
    → FilesStood call → SinkStood call → WireServed form call → HasCauses limit holds form call talk answer → Completes limit holds form talk answer
causes_complete limit holds None call talk answer f s w h = tt
causes_complete limit holds (Some form) call talk answer f s w (inl h) = inl h
causes_complete limit holds (Some form) call talk answer f s w (inr (inl h)) = inr h
causes_complete limit holds (Some form) call talk answer f s w (inr (inr h)) = absurd (none_failed form call f s w h.1)

-- what a command wrote that answered 0

-- the status that is due is 0
due_zero : (failed : Type 0) (status answer : ℕ) → answer ≡ 0 → Caused failed status answer → status ≡ 0
due_zero failed status answer zero caused = sym (due_status failed status answer 0 zero (λ e. absurd cc) (λ e. absurd cc) caused) ∙ zero

-- and the whole text was written
whole_zero : (verdict : Verdict) (failed : Type 0) (before now : Option (List ℕ)) (answer : ℕ) → answer ≡ 0 → Answers verdict failed before now answer
    → Grew before now verdict.text
whole_zero verdict failed before now answer zero a = a.whole (λ e. absurd cc) (λ e. absurd cc)

-- where stages are passed, each gave its value
within_found : {A : Type 0} (b : Bool) (x a : A) → (if b then Stopped Limit else Found x) ≡ Found a → (b ≡ false) × (x ≡ a)
within_found true x a e = absurd cc
within_found false x a e = (refl, cc)

below_limit : (limit size : ℕ) → nat_le limit size ≡ false → size < limit
below_limit limit size h = grind (arith, nat_tests, h)

config_held : (limit : ℕ) (holds : Names) (name : List ℕ) (config : Config) → config_stage limit holds name ≡ Found config → HoldsConfig limit holds name config
config_held limit holds name config found =
    let read = then_found (fetch limit holds name) _ config found in
    let fetched = then_found (or_stop Outside (holds name)) _ read.0 read.1.0 in
    let within = within_found (nat_le limit (length fetched.0)) fetched.0 read.0 fetched.1.1 in
    record {
      octets = read.0;
      there = some_found Outside (holds name) fetched.0 fetched.1.0 ∙ ap Some within.1;
      within = below_limit limit (length read.0) (subst (λ (o : List ℕ). nat_le limit (length o) ≡ false) within.1 within.0);
      accepted = some_found Rejected (config_of read.0) config read.1.1;
    }

tape_held : (limit : ℕ) (holds : Names) (name : List ℕ) (config : Config) (items : List Timed) → tape_stage config limit holds name ≡ Found items
    → HoldsTape limit holds name config items
tape_held limit holds name config items found =
    let opened = then_found (or_stop Outside (holds name)) _ items found in
    record {
      octets = opened.0;
      there = some_found Outside (holds name) opened.0 opened.1.0;
      read = found_items (tape_of config limit opened.0) items opened.1.1;
    }

both_found : (limit : ℕ) (holds : Names) (config tape : List ℕ) (accepted : Config) (items : List Timed)
    → accepted_stage limit holds config tape ≡ Found (accepted, items)
    → HoldsConfig limit holds config accepted × HoldsTape limit holds tape accepted items
both_found limit holds config tape accepted items found =
    let whole = then_found (config_stage limit holds config) _ (accepted, items) found in
    let played = then_found (tape_stage whole.0 limit holds tape) _ (accepted, items) whole.1.1 in
    let both : ◌≡◌ {A = Config × List Timed} (whole.0, played.0) (accepted, items) = same_found played.1.1 in (
      subst (λ (p : Config × List Timed). HoldsConfig limit holds config p.0) both (config_held limit holds config whole.0 whole.1.0),
      subst (λ (p : Config × List Timed). HoldsTape limit holds tape p.0 p.1) both (tape_held limit holds tape whole.0 played.0 played.1.0),
    )

ended_well : (end : End CaptureReason) → status_at end ≡ 0 → end ≡ done
ended_well done e = refl
ended_well limited e = absurd cc
ended_well (bad reason place) e = absurd cc

enforced_well : (limit : ℕ) (holds : Names) (config tape capture : List ℕ) (failed : Type 0) (call : Happened) (answer : ℕ)
    → EnforcesSo limit holds config tape capture failed call.before.written call.now.written answer → answer ≡ 0 → Enforced limit holds config tape capture call
enforced_well limit holds config tape capture failed call answer (inl early) zero =
    absurd (never_early (accepted_stage limit holds config tape) failed answer 0 zero (λ e. absurd cc) (λ e. absurd cc)
    (λ refusal h e. never_zero refusal e) early.reason)
enforced_well limit holds config tape capture failed call answer (inr judged) zero = by (holds capture) refl judged.judged
  where
    by : (content : Option (List ℕ)) → holds capture ≡ content
        → AnswersAt judged.accepted judged.items (and_then (or_stop Outside content) (λ o. Found (capture_of limit o))) failed call.before.written
        call.now.written answer
        → Enforced limit holds config tape capture call
    by None e a = absurd (never_zero Outside (due_zero failed (status_of Outside) answer zero a.answers.status_is))
    by (Some octets) e a =
        let files = both_found limit holds config tape judged.accepted judged.items judged.found in
        let all : a.came.judged ≡ (capture_of limit octets).packets =
        sym (a.came.parts ∙ ap (λ (rest : List Captured). a.came.judged ++ rest) (a.all (λ e. absurd cc) (λ e. absurd cc)) ∙ append-nil a.came.judged) in
        record {
          accepted = judged.accepted;
          items = judged.items;
          config_is = files.0;
          tape_is = files.1;
          capture_octets = octets;
          capture_is = e;
          capture_done = ended_well (capture_of limit octets).end (due_zero failed (status_at (capture_of limit octets).end) answer zero a.answers.status_is);
          held = a.came.held;
          leaves = subst (HoldAt judged.accepted judged.items a.came.held) all a.came.leaves;
          wrote = subst (λ (packets : List Captured). Grew call.before.written call.now.written (lines_from 0 (rules_by a.came.held) packets)) all
              (whole_zero _ failed _ _ answer zero a.answers);
        }

listed_well : (survey : Text) (limit : ℕ) (holds : Names) (config tape : List ℕ) (failed : Type 0) (call : Happened) (answer : ℕ)
    → ListsSo survey limit holds config tape failed call.before.written call.now.written answer → answer ≡ 0 → Surveyed survey limit holds config tape call
listed_well survey limit holds config tape failed call answer (inl ends) zero =
    absurd (never_zero ends.0 (due_zero failed (status_of ends.0) answer zero ends.2.status_is))
listed_well survey limit holds config tape failed call answer (inr (inl early)) zero =
    absurd (never_zero Memory (due_zero failed (status_of Memory) answer zero (inr early.0)))
listed_well survey limit holds config tape failed call answer (inr (inr shows)) zero =
    let files = both_found limit holds config tape shows.accepted shows.items shows.found in
    record {
      accepted = shows.accepted;
      items = shows.items;
      config_is = files.0;
      tape_is = files.1;
      held = shows.held;
      leaves = shows.leaves;
      wrote = whole_zero _ failed _ _ answer zero shows.answers;
    }

changes_well : (limit : ℕ) (holds : Names) (config tape : List ℕ) (failed : Type 0) (call : Happened) (answer : ℕ)
    → TellsSo limit holds config tape failed call.before.written call.now.written answer → answer ≡ 0 → Changed limit holds config tape call
changes_well limit holds config tape failed call answer tells zero =
    let told = changed_well limit holds config tape failed call.before.written call.now.written answer tells zero in
    let files = both_found limit holds config tape told.accepted told.items told.found in
    record {
      accepted = told.accepted;
      items = told.items;
      config_is = files.0;
      tape_is = files.1;
      held = told.held;
      holds_after =
          told.holds_after;
      wrote = told.wrote;
    }

dump_done : (end : End DumpReason) → dump_status end ≡ 0 → end ≡ done
dump_done done e = refl
dump_done limited e = absurd cc
dump_done (bad reason place) e = absurd cc

converted_well : (limit : ℕ) (holds : Names) (config dump : List ℕ) (failed : Type 0) (call : Happened) (answer : ℕ)
    → ConvertsSo limit holds config dump failed call.before.written call.now.written answer → answer ≡ 0 → Converted limit holds config dump call
converted_well limit holds config dump failed call answer (inl early) zero =
    absurd (never_early (config_stage limit holds config) failed answer 0 zero (λ e. absurd cc) (λ e. absurd cc)
    (λ refusal h e. never_zero refusal e) early.reason)
converted_well limit holds config dump failed call answer (inr makes) zero = by (holds dump) refl makes.answers
  where
    by : (content : Option (List ℕ)) → holds dump ≡ content
        → Answers (verdict_of makes.accepted limit (or_stop Outside content)) failed call.before.written call.now.written answer
        → Converted limit holds config dump call
    by None e a = absurd (never_zero Outside (due_zero failed (status_of Outside) answer zero a.status_is))
    by (Some octets) e a =
        let file = config_held limit holds config makes.accepted makes.found in
        let made = remade makes.accepted limit octets in
        let ended = dump_done made.1 (due_zero failed (dump_status made.1) answer zero a.status_is) in
        record {
          accepted = makes.accepted;
          config_is = file;
          dump_octets = octets;
          dump_is = e;
          items = made.0;
          items_are = λ i. (made.0, ended i);
          wrote = whole_zero _ failed _ _ answer zero a;
          read_back = λ tape_limit are. reads_back_converted file.octets makes.accepted limit tape_limit octets file.accepted are;
        }

-- what `check` wrote of a file, but at want of memory and where a call failed
file_checked : (limit : ℕ) (holds : Names) (file : FileForm) (failed : Type 0) (call : Happened) (answer : ℕ)
    → ChecksFileSo limit holds file failed call.before.written call.now.written answer → answer ≢ 1 → answer ≢ 6 → FileChecked limit holds file call answer
file_checked limit holds file failed call answer (inl (inl six, none)) one_not six_not = absurd (six_not six)
file_checked limit holds file failed call answer (inl (inr one, none)) one_not six_not = absurd (one_not one.0)
file_checked limit holds file failed call answer (inr due) one_not six_not = record {
  verdict = due.0;
  due = due.1;
  status_is = by due.2.status_is;
  wrote = due.2.whole six_not one_not;
}
  where
    by : (answer ≡ due.0.status) ⊎ (answer ≡ 6) ⊎ ((answer ≡ 1) × failed) → answer ≡ due.0.status
    by (inl h) = h
    by (inr (inl h)) = absurd (six_not h)
    by (inr (inr h)) = absurd (one_not h.0)

generated_well : (count : ℕ) (failed : Type 0) (call : Happened) (answer : ℕ)
    → GeneratesSo count failed call.before.written call.now.written answer → answer ≡ 0 → Generated count call
generated_well count failed call answer (inl none) zero = let six : answer ≡ 6 = none.0 in absurd cc
generated_well count failed call answer (inr counts) zero =
    record { held = counts.held; leaves = counts.leaves; wrote = whole_zero _ failed _ _ answer zero counts.answers }

-- what a command did, as what is answered
pub runs_as : (tells : Bool) (limit : ℕ) (holds : Names) {form other : Form} (call : Happened) (talk : Conversation) {status answer : ℕ}
    → form ≡ other → answer ≡ status → IsOneOf (statuses other) status → Does tells limit holds other call talk status
    → Runs tells limit holds (Some form) call talk answer
runs_as tells limit holds {other = other} call talk {answer = answer} e a one d =
    subst (λ (f : Form). Runs tells limit holds (Some f) call talk answer) (sym e)
    (subst (λ (n : ℕ). Runs tells limit holds (Some other) call talk n) (sym a) (one, d))

-- the statuses of refusals, without some

abbrev pub every : List ℕ
every = 0 ∷ 1 ∷ 3 ∷ 4 ∷ 5 ∷ 6 ∷ 7 ∷ 8 ∷ 10 ∷ []

every_one : {T : Type 0} (r : Result T Refusal) → IsOneOf every (answered r)
every_one (Ok t) = inl refl
every_one (Err Outside) = inr (inl refl)
every_one (Err Rejected) = inr (inr (inl refl))
every_one (Err (Tape reason place)) = inr (inr (inr (inl refl)))
every_one (Err Capture) = inr (inr (inr (inr (inl refl))))
every_one (Err Memory) = inr (inr (inr (inr (inr (inl refl)))))
every_one (Err Limit) = inr (inr (inr (inr (inr (inr (inl refl))))))
every_one (Err Session) = inr (inr (inr (inr (inr (inr (inr (inl refl)))))))
every_one (Err Dump) = inr (inr (inr (inr (inr (inr (inr (inr (inl refl))))))))

kept : (s x : ℕ) (b : Bool) (xs : List ℕ) (n : ℕ) → (x == s) ≡ b → n ≢ s → (n ≡ x) ⊎ IsOneOf xs n → IsOneOf (if not b then x ∷ xs else xs) n
kept s x true xs n e other (inl h) = let same : x ≡ s = grind (arith, nat_tests, e) in absurd (other (h ∙ same))
kept s x true xs n e other (inr h) = h
kept s x false xs n e other h = h

without : (s : ℕ) (xs : List ℕ) (n : ℕ) → n ≢ s → IsOneOf xs n → IsOneOf (filter (λ x. not (x == s)) xs) n
without s [] n other h = h
without s (x ∷ xs) n other (inl h) = kept s x (x == s) (filter (λ z. not (z == s)) xs) n refl other (inl h)
without s (x ∷ xs) n other (inr h) = kept s x (x == s) (filter (λ z. not (z == s)) xs) n refl other (inr (without s xs n other h))

abbrev pub but : List ℕ → List ℕ
but [] = every
but (s ∷ others) = filter (λ x. not (x == s)) (but others)

pub one_but : {T : Type 0} (r : Result T Refusal) (others : List ℕ) → AllByRecursion (λ s. answered r ≢ s) others → IsOneOf (but others) (answered r)
one_but r [] all = every_one r
one_but r (s ∷ others) all = without s (but others) (answered r) all.0 (one_but r others all.1)

pub one_of_session : {T : Type 0} (r : Result T Refusal) → IsOfSession (answered r) → IsOneOf (but (4 ∷ 5 ∷ 10 ∷ [])) (answered r)
one_of_session r p = one_but r (4 ∷ 5 ∷ 10 ∷ []) (p.0, (p.1, (p.2, tt)))

-- at want of memory nothing is written, over a tape that isn't of the second version
pub wants_enforce : {S T : Type 0} {tells : Bool} (limit : ℕ) (holds : Names)
    (result : Result T Refusal) {form : Form} {config tape capture : List ℕ} {old new : S} {answer : ℕ}
    → form ≡ Enforce config tape capture → answer ≡ answered result
    → (IsTrue tells → answered result ≡ 6 → (HasVersion limit holds tape Two → ⊥) → new ≡ old)
    → answer ≡ 6 → tells_changes form ≡ false → HasNoMoments tells limit holds form → new ≡ old
wants_enforce limit holds result {config = config} {tape = tape} {capture = capture} e a kept six other none =
    let premise = none config tape capture e in kept premise.0 (sym a ∙ six) premise.1

-- and `changes` is another command
pub wants_changes : {S : Type 0} {form : Form} {config tape : List ℕ} {old new : S} → form ≡ Changes config tape → tells_changes form ≡ false → new ≡ old
wants_changes e h = let wrong : true ≡ false = sym (ap tells_changes e) ∙ h in absurd cc

-- what is said of the files of `enforce`
pub enforce_as : (Says : List ℕ → List ℕ → List ℕ → Type 0) {form : Form} {config tape capture config' tape' capture' : List ℕ}
    → form ≡ Enforce config tape capture → form ≡ Enforce config' tape' capture' → Says config tape capture → Says config' tape' capture'
enforce_as Says e asked p = subst of (sym e ∙ asked) p
  where
    of : Form → Type 0
    of (Enforce a b d) = Says a b d
    of _ = ⊤

-- and of a survey, whose status is answered
-- what the command of this form opened, at the status that its answer has
pub opens_as : {form shown : Form} {before now : Option (List Opened)} {status answer : ℕ}
    → shown ≡ form → answer ≡ status → OpensFront (openings form) before now status → OpensFront (openings shown) before now answer
opens_as {before = before} {now = now} {answer = answer} shown same p =
    subst (λ (f : Form). OpensFront (openings f) before now answer) (sym shown) (subst (OpensFront _ before now) (sym same) p)

-- a command that opens no file
pub opens_none : {form shown : Form} (before : Option (List Opened)) (answer : ℕ) → shown ≡ form
    → openings form ≡ record { files = []; judged = 1; due = 0 } → OpensFront (openings shown) before before answer
opens_none before answer shown none =
    subst (λ (o : Openings). OpensFront o before before answer) (sym (ap openings shown ∙ none))
    (record { count = 1; front = Grew-refl before; some = omega (arith); few = λ three. omega (arith); all = λ zero. omega (arith) })

-- the promises of a run, whose words ask for no command

pub promises_none : {F S W C : Type 0} (limit : ℕ) (of_files : files.Ghosts F) (of_sink : sink.Ghosts S) (of_wire : wire.Ghosts W)
    (of_clock : clock.Ghosts C) (files : F) (sink : S) (wire : W) (clock : C)
    (words : List (List ℕ)) → None ≡ form_of words
    → Promises limit (objects of_files of_sink of_wire of_clock files files sink sink wire wire clock clock) words 2
promises_none limit of_files of_sink of_wire of_clock files sink wire clock words e =
    let call : Happened = with_wire of_wire wire wire (happened of_files of_sink files files sink sink) in
    let talk : Conversation = conversation of_wire of_clock wire wire clock clock in
    record {
      runs = subst (λ (f : Option Form). Runs of_files.tells limit (of_files.holds files) f call talk 2) e (refl, Grew-refl (of_sink.written sink));
      no_command = (λ two. sym e, λ none. refl);
      possible = λ asked is. not_asked asked (form_of words) e is;
      nothing_done = λ none. (refl, refl, refl, refl);
      check_opens_nothing = λ subject word asked. refl;
      gen_opens_nothing = λ count asked. refl;
      opens = λ asked is. not_asked asked (form_of words) e is;
      wire_unused = λ form asked silent. (refl, refl);
      config_writes_nothing = λ three. (refl, refl, refl);
      limit_writes_nothing = λ seven survey config tape asked. refl;
      tape_writes_nothing = λ told four config tape capture asked. refl;
      stopped_unspoken = λ told form asked refusal stops. (refl, refl);
      tape_opens_nothing = λ told four. absurd cc;
      memory_writes_nothing = λ six form asked tells none. refl;
      memory_keeps_judged = λ told six. absurd cc;
      causes = λ told. subst (λ (f : Option Form). HasCauses limit (of_files.holds files) f call talk 2) e tt;
      complete = λ told stood sink_stood served. subst (λ (f : Option Form). Completes limit (of_files.holds files) f talk 2) e tt;
      headline = λ told zero config tape capture asked. absurd cc;
      listed = λ told zero survey config tape asked. absurd cc;
      checked_file = λ told one_not six_not file asked. not_asked (CheckFile file) (form_of words) e asked;
      changed = λ told zero config tape asked. absurd cc;
      converted = λ told zero config dump asked. absurd cc;
      announced = λ told config rules address asked. not_asked (Announce config rules address) (form_of words) e asked;
      listened = λ told config address asked. not_asked (Listen config address) (form_of words) e asked;
      paired = λ told config rules asked. not_asked (Pair config rules) (form_of words) e asked;
      generator = λ zero count asked. absurd cc;
    }
  where
    not_asked : {A : Type 0} (form : Form) (o : Option Form) → None ≡ o → o ≡ Some form → A
    not_asked form o n asked = let at : None ≡ Some form = n ∙ asked in absurd cc

no_form : {A : Type 0} (form : Form) (o : Option Form) → Some form ≡ o → o ≡ None → A
no_form form None e n = absurd cc
no_form form (Some other) e n = absurd cc

some_form : (form other : Form) (o : Option Form) → Some form ≡ o → o ≡ Some other → form ≡ other
some_form form other o e asked = let same : Some form ≡ Some other = e ∙ asked in cc

-- of a command that was run

pub promises_some : {F S W C : Type 0} (limit : ℕ) (w : Objects F S W C) (words : List (List ℕ)) (form : Form) (answer : ℕ)
    → Some form ≡ form_of words
    → Runs w.of_files.tells limit (names_in w) (Some form) (happened_in w) (talk_in w) answer
    → answer ≢ 2
    → (answer ≡ 3 → SinkKept w × WireKept w × ClockKept w)
    → (answer ≡ 6 → tells_changes form ≡ false → HasNoMoments w.of_files.tells limit (names_in w) form → SinkKept w)
    → (answer ≡ 7 → (survey : Survey) (config tape : List ℕ) → form ≡ Surveys survey config tape → SinkKept w)
    → (AreTold w → answer ≡ 4 → (config tape capture : List ℕ) → form ≡ Enforce config tape capture → SinkKept w)
    → (AreTold w → answer ≡ 4 → (config tape capture : List ℕ) → form ≡ Enforce config tape capture
    → Unopened config tape capture (w.of_files.opened w.files_before) (w.of_files.opened w.files_behind))
    → (AreTold w → (refusal : Refusal) → StopsSo limit (names_in w) form refusal → WireKept w × ClockKept w)
    → (AreTold w → answer ≡ 6 → (config tape capture : List ℕ) → form ≡ Enforce config tape capture
    → Wants limit (names_in w) config tape capture (shown_in w) (happened_in w))
    → ((subject : Subject) (word : List ℕ) → form ≡ Check subject word → FilesKept w)
    → ((count : ℕ) → form ≡ Gen count → FilesKept w)
    → OpensFront (openings form) (w.of_files.opened w.files_before) (w.of_files.opened w.files_behind) answer
    → (speaks form ≡ false → WireKept w × ClockKept w)
    → Promises limit w words answer
promises_some limit w words form answer e run known quiet wanting bounded still early stopped unfinished unopened generates opens silent =
    let call : Happened = happened_in w in
    let talk : Conversation = talk_in w in
    let holds : Names = names_in w in
    let tells : Bool = w.of_files.tells in
    let the : (other : Form) → form_of words ≡ Some other → form ≡ other = λ other asked. some_form form other (form_of words) e asked in
    let does : (other : Form) → form_of words ≡ Some other → Does tells limit holds other call talk answer =
    λ other asked. subst (λ (f : Form). Does tells limit holds f call talk answer) (the other asked) run.1 in
    let causes : AreTold w → HasCauses limit holds (form_of words) call talk answer =
    λ told. subst (λ (f : Option Form). HasCauses limit holds f call talk answer) e (causes_of tells limit holds form call talk answer told run.1) in
    record {
      runs = subst (λ (f : Option Form). Runs tells limit holds f call talk answer) e run;
      no_command = (λ two. absurd (known two), λ none. no_form form (form_of words) e none);
      possible = λ asked is. subst (λ (f : Form). IsOneOf (statuses f) answer) (the asked is) run.0;
      nothing_done = λ none. no_form form (form_of words) e none;
      check_opens_nothing = λ subject word asked. unopened subject word (the (Check subject word) asked);
      gen_opens_nothing = λ count asked. generates count (the (Gen count) asked);
      opens = λ asked is. subst (λ (f : Form). OpensFront (openings f) (w.of_files.opened w.files_before) (w.of_files.opened w.files_behind) answer)
          (the asked is) opens;
      wire_unused = λ asked is unspoken. silent (ap speaks (the asked is) ∙ unspoken);
      config_writes_nothing = quiet;
      limit_writes_nothing = λ seven survey config tape asked. bounded seven survey config tape (the (Surveys survey config tape) asked);
      tape_writes_nothing = λ told four config tape capture asked. still told four config tape capture (the (Enforce config tape capture) asked);
      stopped_unspoken = λ told asked is refusal stops. stopped told refusal (subst (λ (f : Form). StopsSo limit holds f refusal) (sym (the asked is)) stops);
      tape_opens_nothing = λ told four config tape capture asked. early told four config tape capture (the (Enforce config tape capture) asked);
      memory_writes_nothing = λ six asked is untold none. wanting six (ap tells_changes (the asked is)
          ∙ untold) (subst (HasNoMoments tells limit holds) (sym (the asked is)) none);
      memory_keeps_judged = λ told six config tape capture asked. unfinished told six config tape capture (the (Enforce config tape capture) asked);
      causes = causes;
      complete = λ told stood sink_stood served. causes_complete limit holds (form_of words) call talk answer stood sink_stood served (causes told);
      headline = λ told zero config tape capture asked.
          enforced_well limit holds config tape capture _ call answer (does (Enforce config tape capture) asked told) zero;
      listed = λ told zero survey config tape asked. listed_well (text_for survey) limit holds config tape _ call answer
          (does (Surveys survey config tape) asked told) zero;
      checked_file = λ told one_not six_not file asked. file_checked limit holds file _ call answer (does (CheckFile file) asked told) one_not six_not;
      changed = λ told zero config tape asked. changes_well limit holds config tape _ call answer (does (Changes config tape) asked told) zero;
      converted = λ told zero config dump asked. converted_well limit holds config dump _ call answer (does (Converts config dump) asked told) zero;
      announced = λ told config rules address asked. announce_promises limit holds config rules call talk answer
          (does (Announce config rules address) asked told);
      listened = λ told config address asked. listen_promises limit holds config call talk answer (does (Listen config address) asked told);
      paired = λ told config rules asked. pair_promises limit holds config rules call talk answer (does (Pair config rules) asked told);
      generator = λ zero count asked. generated_well count _ call answer (does (Gen count) asked) zero;
    }
