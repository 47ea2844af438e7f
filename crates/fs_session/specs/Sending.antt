-- What an announcing end is to send: the rules of a file, under one path, to the peer that it speaks for.
use Rattle.std.specs.Prelude.{ℕ, ◌+◌, ◌*◌, ◌==◌, Bool, true, false, ◌&&◌, nat_le, nat_lt, if◌then◌else◌, List, [], ◌∷◌, length, find, Option, Some, None}
use Rattle.std.specs.List.{list_all, list_any}
use Rattle.fs_base.specs.{declared.{config.{Config.{Config}, Peer.{Peer}}, path.{Path.{Path}, Segment.{Segment}}}, Bits.{afi_of}}
use Rattle.fs_message.specs.Write.{message_text}
use Rattle.fs_attrs.specs.{declared.update.{Terms.{Terms}, Update.{Update}, Routes.TheVariants.{Flow}}, Segments.{as_width, segment}, Write.{update_text}}
use Rattle.fs_session.specs.{declared.{sending.{Sent.{Sent}, Sending.{Sending}}, side.Needs.{Needs}}, Transition.{terms_of}}

-- The peer that rules are sent for: the one with the lowest number.
abbrev pub is_lowest : List Peer → Peer → Bool
is_lowest peers peer = list_all (λ other. nat_le peer.number other.number) peers

abbrev pub sender_of : List Peer → Option Peer
sender_of peers = find (is_lowest peers) peers

-- The numbers as one AS_SEQUENCE, or no segment where there are none.
abbrev pub segments_sent : List ℕ → List Segment
segments_sent numbers = if length numbers == 0 then [] else segment 2 numbers ∷ []

-- ORIGIN is IGP and LOCAL_PREF 100.
abbrev pub path_by : Terms → List ℕ → Path
path_by terms numbers = record {
  origin = 0;
  segments = segments_sent numbers;
  local_pref = 100;
  originator = None;
  external = terms.external;
}

-- The update that announces one rule, on these terms and under these AS numbers.
abbrev pub update_by : Terms → List ℕ → Sent → Update
update_by terms numbers sent = record {
  classic_out = [];
  unreach = None;
  reach = Some (Flow sent.rule.family (sent.rule ∷ []));
  classic_in = [];
  path = Some (path_by terms numbers);
  actions = sent.actions;
  as_withdraw = false;
}

-- its body and its message
unfoldable pub body_by : Terms → List ℕ → Sent → List ℕ
body_by terms numbers sent = update_text terms (update_by terms numbers sent)

abbrev pub text_by : Terms → List ℕ → Sent → List ℕ
text_by terms numbers sent = message_text 2 (body_by terms numbers sent)

-- The octets of an attribute, by those of its value, and those of the numbers as one AS_SEQUENCE.
abbrev pub attribute_size : ℕ → ℕ
attribute_size len = if nat_lt 255 len then 4 + len else 3 + len

abbrev pub path_size : Bool → ℕ → ℕ
path_size four count = if count == 0 then 0 else 2 + as_width four * count

-- It fits the 4096 octets of a message.
abbrev pub is_short : Terms → List ℕ → Sent → Bool
is_short terms numbers sent = nat_le (19 + length (body_by terms numbers sent)) 4096

-- What is sent for a peer: the update of one rule, and its message, by whether AS numbers have four octets.
abbrev pub update_sent : Config → Peer → Sending → Sent → Update
update_sent config peer sending sent = update_by (terms_of config peer true) sending.as_path sent

abbrev pub text_sent : Config → Peer → Bool → Sending → Sent → List ℕ
text_sent config peer four sending sent = text_by (terms_of config peer four) sending.as_path sent

-- What may be sent for the peer: at most 255 AS numbers, and none of them is 0; and each rule's UPDATE fits the 4096
-- octets of a message, with AS numbers of four octets.
abbrev pub is_sending : Config → Peer → Sending → Bool
is_sending config peer sending =
    (nat_le (length sending.as_path) 255 && list_all (λ asn. nat_lt 0 asn) sending.as_path)
    && list_all (is_short (terms_of config peer true) sending.as_path) sending.rules

-- The families of the rules.
abbrev pub has_family : ℕ → List Sent → Bool
has_family afi rules = list_any (λ sent. afi_of sent.rule.family == afi) rules

abbrev pub needs_of : List Sent → Needs
needs_of rules = record { v4 = has_family 1 rules; v6 = has_family 2 rules }
