-- What is accepted of a rules file may be kept.
use Rattle.std.proofs.Common.{Err, IfOk, List, [], Ok, Option, Result, Some, None, refl, subst, sym, true, ℕ, ◌≡◌}
use Rattle.std.proofs.NetLemmas.Options.{and_then_some, cond_some}
use Rattle.std.specs.Prelude.{codes, option_and_then}
use Rattle.toml.specs.Data.{Data, Members, as_array, get_member}
use Rattle.fs_base.specs.{Gate.{Content, absent, too_long, unread, whole}, declared.{config.{Config.{Config}, Peer.{Peer}}}}
use Rattle.fs_speaker.specs.{Sending.{is_sending, sender_of}, declared.{Sending.{Sending}, Sent.{Sent}}}
use Rattle.fs_conf.proofs.Found.{cond_within}
use Rattle.fs_conf.specs.{Address.{ipv4_of}, Config.{kept_if, written}, Document.{document_of, each_item}, Fields.{keys_among}}
use Rattle.fs_conf.specs.Rules.{are_single, as_path_in, file_keys, rules_in, rules_of, sendable, sending_of_document, sending_of_members}
use Rattle.fs_conf.specs.Sent.{sent_of_data}
use Rattle.cmd_stages.proofs.Sendable.{rules_sendable}
use Rattle.cmd_wire.specs.{Judged.{IsJudged, Judged, MayBeKept, accepted, judged_as, refused}, declared.judged.Judged.{Judged as Verdict}}

-- the rules that stand at a key
single_in : (found : Option Data) (rules : List Sent) → rules_in found ≡ Some rules → are_single rules ≡ true
single_in None rules e = let same : [] ≡ rules = cc in subst (λ (r : List Sent). are_single r ≡ true) same refl
single_in (Some value) rules e =
    and_then_some (kept_if are_single) (option_and_then (each_item sent_of_data) (as_array value)) rules e λ read is kept.
    let (test, same) = cond_some (are_single read) read rules kept in
    subst (λ (r : List Sent). are_single r ≡ true) same test

-- what may be sent is what was read
same_sending : (config : Config) (sending found : Sending) → sendable config sending ≡ Some found → sending ≡ found
same_sending config sending found e = by (sender_of config.peers) e
  where
    by : (o : Option Peer) → (elim o [ None ↦ None | Some peer ↦ kept_if (is_sending config peer) sending ]) ≡ Some found → sending ≡ found
    by None h = absurd cc
    by (Some peer) h = (cond_some (is_sending config peer sending) sending found h).1

single_of_members : (config : Config) (members : Members) (found : Sending) → sending_of_members config members ≡ Some found → are_single found.rules ≡ true
single_of_members config members found e =
    and_then_some _ (written ipv4_of (get_member (codes "id") members)) found e λ id id_is e.
    and_then_some _ (as_path_in (get_member (codes "as_path") members)) found e λ as_path path_is e.
    and_then_some _ (rules_in (get_member (codes "rule") members)) found e λ rules rules_are e.
    subst (λ (s : Sending). are_single s.rules ≡ true) (same_sending config (record { id = id; as_path = as_path; rules = rules }) found e)
    (single_in (get_member (codes "rule") members) rules rules_are)

-- no two rules of a rules file are one
pub rules_single : (config : Config) (octets : List ℕ) (found : Sending) → rules_of config octets ≡ Some found → are_single found.rules ≡ true
rules_single config octets found e =
    and_then_some (sending_of_document config) (document_of octets) found e λ members is read.
    single_of_members config members found (cond_within (keys_among file_keys members) (sending_of_members config members) found read).1

pub judged_kept : (config : Config) (content : Content) (judged : Judged) → IsJudged config content judged → MayBeKept config judged
judged_kept config (whole octets) (accepted rules) e = (rules_sendable config octets rules e, rules_single config octets rules e)
judged_kept config (whole octets) (refused reason) e = tt
judged_kept config absent judged e = subst (MayBeKept config) (sym e) tt
judged_kept config unread judged e = subst (MayBeKept config) (sym e) tt
judged_kept config too_long judged e = subst (MayBeKept config) (sym e) tt

-- so of what a call answers
pub answer_kept : {E : Type 0} (config : Config) (content : Content) (answer : Result Verdict E)
    → IfOk answer (λ judged. IsJudged config content (judged_as judged))
    → IfOk answer (λ judged. MayBeKept config (judged_as judged))
answer_kept config content (Ok judged) h = judged_kept config content (judged_as judged) h
answer_kept config content (Err e) h = tt
