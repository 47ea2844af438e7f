-- What a rules file gives may be sent for the peer with the lowest number.
use Rattle.std.proofs.Common.{if◌then◌else◌}
use Rattle.cmd_stages.proofs.Words.{◌≡◌, ℕ, List, Bool, true, false, Option, Some, None, IsTrue, refl, subst, codes, option_and_then, Config}
use Rattle.toml.specs.Data.{Members, get_member}
use Rattle.fs_base.specs.declared.config.Peer.{Peer}
use Rattle.fs_speaker.specs.{Announcer.{CanSend}, Sending.{is_sending, sender_of}, declared.Sending.{Sending}}
use Rattle.fs_conf.specs.{Address.{ipv4_of}, Config.{kept_if, written}, Document.{document_of}, Fields.{keys_among}}
use Rattle.fs_conf.specs.Rules.{as_path_in, file_keys, rules_in, rules_of, sendable, sending_of_document, sending_of_members}

then_some : {A B : Type 0} (o : Option A) (f : A → Option B) (b : B) → option_and_then f o ≡ Some b → (a : A) × (f a ≡ Some b)
then_some (Some a) f b e = (a, e)
then_some None f b e = absurd cc

kept : (test : Sending → Bool) (value found : Sending) → kept_if test value ≡ Some found → IsTrue (test found)
kept test value found e = by (test value) refl e
  where
    same : Some value ≡ Some found → value ≡ found
    same h = cc

    by : (b : Bool) → test value ≡ b → (if b then Some value else None) ≡ Some found → IsTrue (test found)
    by true t h = subst (λ (s : Sending). IsTrue (test s)) (same h) t
    by false t h = absurd cc

kept_for : (config : Config) (sending found : Sending) → sendable config sending ≡ Some found → CanSend config (sender_of config.peers) found
kept_for config sending found e = by (sender_of config.peers) e
  where
    by : (o : Option Peer) → (elim o [ None ↦ None | Some peer ↦ kept_if (is_sending config peer) sending ]) ≡ Some found → CanSend config o found
    by None h = absurd cc
    by (Some peer) h = kept (is_sending config peer) sending found h

then_if : {A : Type 0} (b : Bool) (o : Option A) (a : A) → (if b then o else None) ≡ Some a → o ≡ Some a
then_if true o a e = e
then_if false o a e = absurd cc

of_members : (config : Config) (members : Members) (found : Sending) → sending_of_members config members ≡ Some found
    → CanSend config (sender_of config.peers) found
of_members config members found e =
    let id = then_some (written ipv4_of (get_member (codes "id") members)) _ found e in
    let as_path = then_some (as_path_in (get_member (codes "as_path") members)) _ found id.1 in
    let rules = then_some (rules_in (get_member (codes "rule") members)) _ found as_path.1 in
    kept_for config (record { id = id.0; as_path = as_path.0; rules = rules.0 }) found rules.1

pub rules_sendable : (config : Config) (octets : List ℕ) (found : Sending) → rules_of config octets ≡ Some found → CanSend config (sender_of config.peers) found
rules_sendable config octets found e =
    let document = then_some (document_of octets) (sending_of_document config) found e in
    of_members config document.0 found (then_if (keys_among file_keys document.0) (sending_of_members config document.0) found document.1)
