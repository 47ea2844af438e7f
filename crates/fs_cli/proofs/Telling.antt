-- How the answer of the command follows that tells what changes along a tape.
use Rattle.fs_cli.proofs.Words.{◌≡◌, ◌≢◌, ◌⊎◌, inl, inr, ◌∙◌, ◌++◌, ◌≤◌, Rose, rose_earlier, ℕ, List, [], ◌∷◌, Option, Some, None, Result, Ok, Err}
use Rattle.fs_cli.proofs.Words.{refl, ap, sym, subst, arith, append-nil, Grew, GrewPart, Config, Grew-refl, Grew-trans, Timed, Names, config_stage}
use Rattle.fs_cli.proofs.Words.{tape_stage, accepted_stage, answered, Stage, Found, Stopped, and_then, or_stop, status_of, HasReason, Fails, Refusal}
use Rattle.fs_cli.proofs.Words.{Outside, Rejected, Tape, Capture, Dump, Memory, Limit, Session, Caused, never_early, never_zero, listed_status}
use Rattle.fs_cli.proofs.Words.{stopped_text, SaysOf, tape_of}
use Rattle.std.specs.{Prelude.{⊤}, Result.{IsErrAnd}}
use Rattle.fs_base.proofs.Grew.{part_more, part_then}
use Rattle.fs_changes.specs.Tape.{HoldAfter, changes_of}
use Rattle.fs_rules.specs.Table.{Held}
use Rattle.fs_input.specs.Records.{End, done, limited, bad}
use Rattle.fs_tape.specs.declared.fault.TapeReason.{TapeReason}
use Rattle.cmd_stages.{proofs.Stages.{either_rose, reason_then, rose_later}, specs.{Items.{Ceases, read_stage}, Play.{played_to}}}
use Rattle.fs_cli.proofs.Surveying.{nothing_said}
use Rattle.fs_cli.specs.Changes.{CameTo, FollowsItems, FollowsTape, StopsTo, TellsSo, WritesTo, came_lines, end_text, opened_stage, status_at}
use Rattle.fs_cli.specs.Changes.{text_to}

-- what goes beside the configuration
abbrev with_items : Config → List Timed → Stage (Config × List Timed)
with_items config items = Found (config, items)

abbrev with_all : Config → List Timed × End TapeReason → Stage (Config × (List Timed × End TapeReason))
with_all config all = Found (config, all)

-- a tape that ends so stops whatever items it gave
stopped_on : (items others : List Timed) (end : End TapeReason) (refusal : Refusal) → played_to (items, end) ≡ Stopped refusal
    → played_to (others, end) ≡ Stopped refusal
stopped_on items others done refusal h = absurd cc
stopped_on items others limited refusal h = h
stopped_on items others (bad reason place) refusal h = h

-- what failed in a part failed in the whole
items_wider : {T : Type 0} (config : Config) (all : List Timed × End TapeReason) (failed other : Type 0) (before now : Option (List ℕ))
    (result : Result T Refusal)
    → (failed → other) → FollowsItems config all failed before now result → FollowsItems config all other before now result
items_wider config all failed other before now (Ok value) f h = h
items_wider config all failed other before now (Err refusal) f (came, inl h) = (came, inl h)
items_wider config all failed other before now (Err refusal) f (came, inr (inl h)) = (came, inr (inl h))
items_wider config all failed other before now (Err refusal) f (came, inr (inr h)) = (came, inr (inr (h.0, f h.1, h.2)))

-- the stage of configuration and tape, where the configuration is accepted and the tape is there
opened_with : (limit : ℕ) (holds : Names) (config tape : List ℕ) (accepted : Config) → config_stage limit holds config ≡ Found accepted
    → opened_stage limit holds config tape ≡ and_then (read_stage accepted limit holds tape) (with_all accepted)
opened_with limit holds config tape accepted e =
    ap (λ (s : Stage Config). and_then s (λ accepted. and_then (read_stage accepted limit holds tape) (with_all accepted))) e

opened_found : (limit : ℕ) (holds : Names) (config tape : List ℕ) (accepted : Config) (all : List Timed × End TapeReason)
    → config_stage limit holds config ≡ Found accepted
    → read_stage accepted limit holds tape ≡ Found all → opened_stage limit holds config tape ≡ Found (accepted, all)
opened_found limit holds config tape accepted all e h =
    opened_with limit holds config tape accepted e ∙ ap (λ (s : Stage (List Timed × End TapeReason)). and_then s (with_all accepted)) h

-- a run that ended before the first item
early_so : (limit : ℕ) (holds : Names) (config tape : List ℕ) (failed other : Type 0) (before now : Option (List ℕ)) (refusal : Refusal)
    → HasReason (opened_stage limit holds config tape) failed refusal → (failed → other) → Grew before now []
    → TellsSo limit holds config tape other before now (status_of refusal)
early_so limit holds config tape failed other before now refusal h f none = inl (record { reason = why h; nothing = none })
  where
    why : HasReason (opened_stage limit holds config tape) failed refusal
        → ((cause : Refusal) × (opened_stage limit holds config tape ≡ Stopped cause) × (status_of refusal ≡ status_of cause))
        ⊎ (status_of refusal ≡ 6) ⊎ ((status_of refusal ≡ 1) × other)
    why (inl e) = inl (refusal, e, refl)
    why (inr (inl e)) = inr (inl (ap status_of e))
    why (inr (inr e)) = inr (inr (ap status_of e.0, f e.1))

-- the configuration ended it
pub config_untold : (limit : ℕ) (holds : Names) (config tape : List ℕ) (failed other : Type 0) (a : Option (List ℕ)) (refusal : Refusal)
    → HasReason (config_stage limit holds config) failed refusal → (failed → other) → TellsSo limit holds config tape other a a (status_of refusal)
config_untold limit holds config tape failed other a refusal h f =
    early_so limit holds config tape failed other a a refusal
    (reason_then (config_stage limit holds config) (λ accepted. and_then (read_stage accepted limit holds tape) (with_all accepted)) failed refusal h)
    f (Grew-refl a)

-- no item was come to
abbrev none_came : (config : Config) → CameTo config []
none_came config = record {
  held = λ n. record { config = config; unicast = []; flows = [] };
  played = [];
  rest = [];
  parts = refl;
  holds =
      λ k below. absurd (omega (arith, below));
}

-- the tape gave no item
pub untold : {T : Type 0} (config : Config) (stage : Stage (List Timed × End TapeReason)) (failed other : Type 0) (a : Option (List ℕ))
    (refusal : Refusal) (result : Result T Refusal)
    → Ceases stage failed refusal → IsErrAnd result (λ e. e ≡ refusal) → FollowsTape config stage (failed ⊎ other) a a result
unfolding none_came
untold config stage failed other a refusal (Ok value) h is = absurd is
untold {T} config stage failed other a refusal (Err cause) h is =
    subst (λ (r : Refusal). FollowsTape {T = T} config stage (failed ⊎ other) a a (Err r)) (sym is) (by stage h)
  where
    by : (s : Stage (List Timed × End TapeReason)) → Ceases s failed refusal → FollowsTape {T = T} config s (failed ⊎ other) a a (Err refusal)
    by s (inr (inl memory)) = inl (inr (inl memory), Grew-refl a)
    by s (inr (inr h)) = inl (inr (inr (h.0, inl h.1)), Grew-refl a)
    by (Stopped stopped) (inl h) = inl (inl (ap Stopped h), Grew-refl a)
    by (Found (items, end)) (inl h) =
        let none : [] ≡ items = sym h.0 in
        subst (λ (z : List Timed). FollowsTape {T = T} config (Found (z, end)) (failed ⊎ other) a a (Err refusal)) none
        (inr (([], end), refl, (none_came config, inl (refl, stopped_on items [] end refusal h.1, Grew-refl a))))

-- the items of an opened tape were followed
pub begun_follows : {T : Type 0} (config : Config) (stage : Stage (List Timed × End TapeReason)) (config' : Config) (all : List Timed × End TapeReason)
    (early mid after sink sink_after : ℕ) (before now : Option (List ℕ)) (result : Result T Refusal)
    → stage ≡ Found all → config' ≡ config → early ≤ mid → FollowsItems config' all (Rose mid after ⊎ Rose sink sink_after) before now result
    → FollowsTape config stage (Rose early after ⊎ Rose sink sink_after) before now result
begun_follows config stage config' all early mid after sink sink_after before now result e same l h =
    inr (
      all,
      e,
      items_wider config all _ _ before now result (either_rose early mid after (Rose sink sink_after) l)
          (subst (λ (c : Config). FollowsItems c all (Rose mid after ⊎ Rose sink sink_after) before now result) same h),
    )

-- all of it was told
pub all_told : (limit : ℕ) (holds holds' : Names) (config tape : List ℕ) (accepted : Config) (other : Type 0) (before now : Option (List ℕ))
    → config_stage limit holds config ≡ Found accepted → holds' ≡ holds
    → FollowsTape {T = ⊤} accepted (read_stage accepted limit holds' tape) ⊤ before now (Ok tt)
    → TellsSo limit holds config tape other before now 0
all_told limit holds holds' config tape accepted other before now e same (inl h) = absurd h
all_told limit holds holds' config tape accepted other before now e same (inr (all, found, (came, (rest, end_is, grew)))) =
    inr (
      accepted,
      all,
      opened_found limit holds config tape accepted all e (subst (λ (names : Names). read_stage accepted limit names tape ≡ Found all) same found),
      (
        came,
        inl (
          rest,
          sym (ap status_at end_is),
          subst (λ (text : List ℕ). Grew before now text) (sym (append-nil (came_lines came))
              ∙ ap (λ (end : End TapeReason). came_lines came ++ end_text end) (sym end_is)) grew,
        ),
      ),
    )

-- what a tape ends by: its status, and what is said of it
ended_by : (items : List Timed) (end : End TapeReason) (refusal : Refusal) → played_to (items, end) ≡ Stopped refusal
    → (status_of refusal ≡ status_at end) × (stopped_text refusal ≡ end_text end)
ended_by items done refusal h = absurd cc
ended_by items limited refusal h = let same : Limit ≡ refusal = cc in (ap status_of (sym same), ap stopped_text (sym same))
ended_by items (bad reason place) refusal h = let same : Tape reason place ≡ refusal = cc in (ap status_of (sym same), ap stopped_text (sym same))

-- a front of the lines is one of the whole text
part_to : (before now : Option (List ℕ)) (lines : List ℕ) (rest : List Timed) (end : End TapeReason) → GrewPart before now lines
    → GrewPart before now (text_to lines rest end)
part_to before now lines [] end part = part_more before now lines (end_text end) part
part_to before now lines (t ∷ ts) end part = part

-- it ended with no fault of the tape, of which nothing is said
other_told : (limit : ℕ) (holds : Names) (config tape : List ℕ) (accepted : Config) (failed other : Type 0) (before now : Option (List ℕ)) (refusal : Refusal)
    → config_stage limit holds config ≡ Found accepted → status_of refusal ≢ 4 → (failed → other)
    → FollowsTape {T = ⊤} accepted (read_stage accepted limit holds tape) failed before now (Err refusal)
    → TellsSo limit holds config tape other before now (status_of refusal)
other_told limit holds config tape accepted failed other before now refusal e four f (inl h) =
    early_so limit holds config tape failed other before now refusal
    (subst (λ (s : Stage (Config × (List Timed × End TapeReason))). HasReason s failed refusal) (sym (opened_with limit holds config tape accepted e))
    (reason_then (read_stage accepted limit holds tape) (with_all accepted) failed refusal h.0))
    f h.1
other_told limit holds config tape accepted failed other before now refusal e four f (inr (all, found, (came, stops))) =
    inr (accepted, all, opened_found limit holds config tape accepted all e found, (came, by stops))
  where
    by : StopsTo came all.1 failed before now refusal → WritesTo came all.1 other before now (status_of refusal)
    by (inl (rest, stopped, grew)) =
        let ended = ended_by all.0 all.1 refusal stopped in
        let none : [] ≡ end_text all.1 = sym (nothing_said refusal four) ∙ ended.1 in
        inl (
          rest,
          ended.0,
          subst (λ (text : List ℕ). Grew before now text) (sym (append-nil (came_lines came))
              ∙ ap (λ (text : List ℕ). came_lines came ++ text) none) grew,
        )
    by (inr (inl (memory, grew))) = inr (inl (ap status_of memory, grew))
    by (inr (inr (outside, failing, part))) = inr (inr (ap status_of outside, f failing, part_to before now (came_lines came) came.rest all.1 part))

-- a tape that isn't there is no fault of it
absent : (config : Config) (limit : ℕ) (holds : Names) (tape : List ℕ) (refusal : Refusal) → read_stage config limit holds tape ≡ Stopped refusal
    → refusal ≡ Outside
absent config limit holds tape refusal h = by (holds tape) h
  where
    by : (content : Option (List ℕ)) → and_then (or_stop Outside content) (λ octets. Found (tape_of config limit octets)) ≡ Stopped refusal → refusal ≡ Outside
    by None h = cc
    by (Some octets) h = absurd cc

-- the fault of the tape that ended it was said
fault_told : {U : Type 0} (limit : ℕ) (holds : Names) (config tape : List ℕ) (accepted : Config) (failed sink other : Type 0)
    (before mid now : Option (List ℕ)) (reason : TapeReason) (place : ℕ) (result : Result U Refusal)
    → config_stage limit holds config ≡ Found accepted → (sink → other)
    → FollowsTape {T = ⊤} accepted (read_stage accepted limit holds tape) failed before mid (Err (Tape reason place))
    → SaysOf (Tape reason place) sink mid now result → TellsSo limit holds config tape other before now (answered result)
fault_told limit holds config tape accepted failed sink other before mid now reason place (Ok value) e f follows said = absurd said
fault_told limit holds config tape accepted failed sink other before mid now reason place (Err cause) e f (inl (inl h, none)) said =
    let wrong : Tape reason place ≡ Outside = absent accepted limit holds tape (Tape reason place) h in absurd cc
fault_told limit holds config tape accepted failed sink other before mid now reason place (Err cause) e f (inl (inr (inl h), none)) said = absurd cc
fault_told limit holds config tape accepted failed sink other before mid now reason place (Err cause) e f (inl (inr (inr h), none)) said =
    let wrong : Tape reason place ≡ Outside = h.0 in absurd cc
fault_told limit holds config tape accepted failed sink other before mid now reason place (Err cause) e f (inr (all, found, (came, inr (inl h)))) said =
    let wrong : Tape reason place ≡ Memory = h.0 in absurd cc
fault_told limit holds config tape accepted failed sink other before mid now reason place (Err cause) e f (inr (all, found, (came, inr (inr h)))) said =
    let wrong : Tape reason place ≡ Outside = h.0 in absurd cc
fault_told limit holds config tape accepted failed sink other before mid now reason place (Err cause) e f
    (inr (all, found, (came, inl (rest, stopped, grew)))) said =
    inr (accepted, all, opened_found limit holds config tape accepted all e found, (came, by said))
  where
    text : stopped_text (Tape reason place) ≡ end_text all.1
    text = (ended_by all.0 all.1 (Tape reason place) stopped).1

    whole : List Timed → List ℕ
    whole items = text_to (came_lines came) items all.1

    by : ((cause ≡ Tape reason place) × Grew mid now (stopped_text (Tape reason place))) ⊎ Fails (stopped_text (Tape reason place)) sink mid now cause
        → WritesTo came all.1 other before now (status_of cause)
    by (inl (same, said)) =
        inl (
          rest,
          ap status_of same ∙ (ended_by all.0 all.1 (Tape reason place) stopped).0,
          subst (λ (t : List ℕ). Grew before now (came_lines came ++ t)) text (Grew-trans before mid now _ _ grew said),
        )
    by (inr (inl (memory, none))) =
        inr (inl (ap status_of memory, subst (λ (t : List ℕ). Grew before now t) (append-nil (came_lines came)) (Grew-trans before mid now _ _ grew none)))
    by (inr (inr (outside, failing, part))) =
        inr (inr (
          ap status_of outside,
          f failing,
          subst (λ (items : List Timed). GrewPart before now (whole items)) (sym rest)
              (subst (λ (t : List ℕ). GrewPart before now (came_lines came ++ t)) text (part_then before mid now _ _ grew part)),
        ))

-- what failed in a part failed in the whole
pub either_on : (before mid after sink sink_mid sink_after : ℕ) → before ≤ mid → sink_mid ≤ sink_after → Rose mid after ⊎ Rose sink sink_mid
    → Rose before after ⊎ Rose sink sink_after
either_on before mid after sink sink_mid sink_after l m (inl r) = inl (rose_earlier before mid after l r)
either_on before mid after sink sink_mid sink_after l m (inr r) = inr (rose_later sink sink_mid sink_after r m)

-- it ended, and what is said of that was
pub end_told : {U : Type 0} (limit : ℕ) (holds holds' : Names) (config tape : List ℕ) (accepted : Config) (failed sink other : Type 0)
    (before mid now : Option (List ℕ)) (refusal : Refusal) (result : Result U Refusal)
    → config_stage limit holds config ≡ Found accepted → holds' ≡ holds → (failed → other) → (sink → other)
    → FollowsTape {T = ⊤} accepted (read_stage accepted limit holds' tape) failed before mid (Err refusal)
    → SaysOf refusal sink mid now result → (status_of refusal ≢ 4 → (answered result ≡ status_of refusal) × (now ≡ mid))
    → TellsSo limit holds config tape other before now (answered result)
end_told limit holds holds' config tape accepted failed sink other before mid now refusal result e same f g follows said kept =
    by refusal refl
  where
    follows_here : FollowsTape {T = ⊤} accepted (read_stage accepted limit holds tape) failed before mid (Err refusal)
    follows_here = subst (λ (names : Names). FollowsTape {T = ⊤} accepted (read_stage accepted limit names tape) failed before mid (Err refusal)) same follows

    no_fault : status_of refusal ≢ 4 → TellsSo limit holds config tape other before now (answered result)
    no_fault n =
        subst (λ (answer : ℕ). TellsSo limit holds config tape other before now answer) (sym (kept n).0)
        (subst (λ (text : Option (List ℕ)). TellsSo limit holds config tape other before text (status_of refusal)) (sym (kept n).1)
        (other_told limit holds config tape accepted failed other before mid refusal e n f follows_here))

    unlike : (n : ℕ) → refusal ≡ refusal → (status_of refusal ≡ n) → n ≢ 4 → status_of refusal ≢ 4
    unlike n r is other four = other (sym is ∙ four)

    by : (r : Refusal) → refusal ≡ r → TellsSo limit holds config tape other before now (answered result)
    by (Tape reason place) is =
        fault_told limit holds config tape accepted failed sink other before mid now reason place result e g
        (subst (λ (r : Refusal). FollowsTape {T = ⊤} accepted (read_stage accepted limit holds tape) failed before mid (Err r)) is follows_here)
        (subst (λ (r : Refusal). SaysOf r sink mid now result) is said)
    by Outside is = no_fault (unlike 1 refl (ap status_of is) (λ wrong. absurd cc))
    by Rejected is = no_fault (unlike 3 refl (ap status_of is) (λ wrong. absurd cc))
    by Capture is = no_fault (unlike 5 refl (ap status_of is) (λ wrong. absurd cc))
    by Dump is = no_fault (unlike 10 refl (ap status_of is) (λ wrong. absurd cc))
    by Memory is = no_fault (unlike 6 refl (ap status_of is) (λ wrong. absurd cc))
    by Limit is = no_fault (unlike 7 refl (ap status_of is) (λ wrong. absurd cc))
    by Session is = no_fault (unlike 8 refl (ap status_of is) (λ wrong. absurd cc))

-- the status that is due

-- a tape's end and what it is played to have one status
due_so : (limit : ℕ) (holds : Names) (config tape : List ℕ) (accepted : Config) (all : List Timed × End TapeReason)
    → opened_stage limit holds config tape ≡ Found (accepted, all) → status_at all.1 ≡ listed_status (accepted_stage limit holds config tape)
due_so limit holds config tape accepted all found = by_config (config_stage limit holds config) refl found
  where
    one : (end : End TapeReason) (config : Config) (items : List Timed) → status_at end ≡ listed_status (and_then (played_to (items, end)) (with_items config))
    one done config items = refl
    one limited config items = refl
    one (bad reason place) config items = refl

    by_tape : (config : Config) (content : Option (List ℕ))
        → and_then (and_then (or_stop Outside content) (λ octets. Found (tape_of config limit octets))) (with_all config) ≡ Found (accepted, all)
        → status_at all.1 ≡ listed_status
        (and_then (and_then (or_stop Outside content) (λ octets. played_to (tape_of config limit octets))) (with_items config))
    by_tape config None h = absurd cc
    by_tape config (Some octets) h =
        let same : ◌≡◌ {A = Config × (List Timed × End TapeReason)} (config, tape_of config limit octets) (accepted, all) = cc in
        subst (λ (p : Config × (List Timed × End TapeReason)). status_at p.1.1
        ≡ listed_status (and_then (played_to (tape_of config limit octets)) (with_items config))) same
        (one (tape_of config limit octets).1 config (tape_of config limit octets).0)

    by_config : (stage : Stage Config) → config_stage limit holds config ≡ stage
        → and_then stage (λ accepted. and_then (read_stage accepted limit holds tape) (with_all accepted)) ≡ Found (accepted, all)
        → status_at all.1 ≡ listed_status (and_then stage (λ accepted. and_then (tape_stage accepted limit holds tape) (with_items accepted)))
    by_config (Stopped refusal) is h = absurd cc
    by_config (Found config) is h = by_tape config (holds tape) h

-- a run that ends before the first item ends the survey so
early_due : (limit : ℕ) (holds : Names) (config tape : List ℕ) (refusal : Refusal) → opened_stage limit holds config tape ≡ Stopped refusal
    → status_of refusal ≡ listed_status (accepted_stage limit holds config tape)
early_due limit holds config tape refusal h = by_config (config_stage limit holds config) h
  where
    by_tape : (config : Config) (content : Option (List ℕ))
        → and_then (and_then (or_stop Outside content) (λ octets. Found (tape_of config limit octets))) (with_all config) ≡ Stopped refusal
        → status_of refusal ≡ listed_status
        (and_then (and_then (or_stop Outside content) (λ octets. played_to (tape_of config limit octets))) (with_items config))
    by_tape config None h = let same : Outside ≡ refusal = cc in ap status_of (sym same)
    by_tape config (Some octets) h = absurd cc

    by_config : (stage : Stage Config)
        → and_then stage (λ accepted. and_then (read_stage accepted limit holds tape) (with_all accepted)) ≡ Stopped refusal
        → status_of refusal ≡ listed_status (and_then stage (λ accepted. and_then (tape_stage accepted limit holds tape) (with_items accepted)))
    by_config (Stopped other) h = let same : other ≡ refusal = cc in ap status_of (sym same)
    by_config (Found config) h = by_tape config (holds tape) h

pub change_status : (limit : ℕ) (holds : Names) (config tape : List ℕ) (failed : Type 0) (before now : Option (List ℕ)) (answer : ℕ)
    → TellsSo limit holds config tape failed before now answer → Caused failed (listed_status (accepted_stage limit holds config tape)) answer
change_status limit holds config tape failed before now answer (inl early) = by early.reason
  where
    by : ((refusal : Refusal) × (opened_stage limit holds config tape ≡ Stopped refusal) × (answer ≡ status_of refusal)) ⊎ (answer ≡ 6)
        ⊎ ((answer ≡ 1) × failed)
        → Caused failed (listed_status (accepted_stage limit holds config tape)) answer
    by (inl (refusal, stopped, is)) = inl (is ∙ early_due limit holds config tape refusal stopped)
    by (inr h) = inr h
change_status limit holds config tape failed before now answer (inr (accepted, all, found, (came, inl h))) =
    inl (h.1 ∙ due_so limit holds config tape accepted all found)
change_status limit holds config tape failed before now answer (inr (accepted, all, found, (came, inr (inl h)))) = inr (inl h.0)
change_status limit holds config tape failed before now answer (inr (accepted, all, found, (came, inr (inr h)))) = inr (inr (h.0, h.1))

-- at 0 all was told, of both files without a fault
pub record ChangedSo (limit : ℕ) (holds : Names) (config tape : List ℕ) (before now : Option (List ℕ)) : Type 0 where
  pub accepted : Config
  pub items : List Timed
  pub found : accepted_stage limit holds config tape ≡ Found (accepted, items)
  pub held : ℕ → Held
  pub holds_after : HoldAfter accepted items held
  pub wrote : Grew before now (changes_of held items)

done_is : (end : End TapeReason) → status_at end ≡ 0 → end ≡ done
done_is done e = refl
done_is limited e = absurd cc
done_is (bad reason place) e = absurd cc

found_done : (limit : ℕ) (holds : Names) (config tape : List ℕ) (accepted : Config) (all : List Timed × End TapeReason)
    → opened_stage limit holds config tape ≡ Found (accepted, all) → all.1 ≡ done
    → accepted_stage limit holds config tape ≡ Found (accepted, all.0)
found_done limit holds config tape accepted all found e = by_config (config_stage limit holds config) found
  where
    by_tape : (config : Config) (content : Option (List ℕ))
        → and_then (and_then (or_stop Outside content) (λ octets. Found (tape_of config limit octets))) (with_all config) ≡ Found (accepted, all)
        → and_then (and_then (or_stop Outside content) (λ octets. played_to (tape_of config limit octets))) (with_items config) ≡ Found (accepted, all.0)
    by_tape config None h = absurd cc
    by_tape config (Some octets) h =
        let same : ◌≡◌ {A = Config × (List Timed × End TapeReason)} (config, tape_of config limit octets) (accepted, all) = cc in
        ap (λ (p : Config × (List Timed × End TapeReason)). and_then (played_to p.1) (with_items p.0)) same
        ∙ ap (λ (end : End TapeReason). and_then (played_to (all.0, end)) (with_items accepted)) e

    by_config : (stage : Stage Config)
        → and_then stage (λ accepted. and_then (read_stage accepted limit holds tape) (with_all accepted)) ≡ Found (accepted, all)
        → and_then stage (λ accepted. and_then (tape_stage accepted limit holds tape) (with_items accepted)) ≡ Found (accepted, all.0)
    by_config (Stopped refusal) h = absurd cc
    by_config (Found config) h = by_tape config (holds tape) h

pub changed_well : (limit : ℕ) (holds : Names) (config tape : List ℕ) (failed : Type 0) (before now : Option (List ℕ)) (answer : ℕ)
    → TellsSo limit holds config tape failed before now answer → answer ≡ 0 → ChangedSo limit holds config tape before now
changed_well limit holds config tape failed before now answer (inl early) zero =
    absurd (never_early (opened_stage limit holds config tape) failed answer 0 zero (λ e. absurd cc) (λ e. absurd cc)
    (λ refusal h e. never_zero refusal e) early.reason)
changed_well limit holds config tape failed before now answer (inr (accepted, all, found, (came, inl (rest, is, grew)))) zero =
    let end : all.1 ≡ done = done_is all.1 (sym is ∙ zero) in
    let items : came.played ≡ all.0 = sym (came.parts ∙ ap (λ (z : List Timed). came.played ++ z) rest ∙ append-nil came.played) in
    record {
      accepted = accepted;
      items = all.0;
      found = found_done limit holds config tape accepted all found end;
      held = came.held;
      holds_after = subst (λ (z : List Timed). HoldAfter accepted z came.held) items came.holds;
      wrote = subst (λ (z : List Timed). Grew before now (changes_of came.held z)) items
          (subst (λ (text : List ℕ). Grew before now text) (ap (λ (x : End TapeReason). came_lines came ++ end_text x) end
          ∙ append-nil (came_lines came)) grew);
    }
changed_well limit holds config tape failed before now answer (inr (accepted, all, found, (came, inr (inl h)))) zero = let six : answer ≡ 6 = h.0 in absurd cc
changed_well limit holds config tape failed before now answer (inr (accepted, all, found, (came, inr (inr h)))) zero = let one : answer ≡ 1 = h.0 in absurd cc
