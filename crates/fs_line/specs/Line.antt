-- The lines that `enforce` writes for the packets of a capture.
use Rattle.std.specs.Prelude.{◌≡◌, true, ℕ, List, [], ◌∷◌, ◌++◌, map, flat_map, filter_map, if◌then◌else◌, codes, decimal}
use Rattle.std.specs.{Option.{option_map_or}, List.{join_with_byte, list_any}, Int.{to_be_bytes, w32}}
use Rattle.hex.specs.Hex.{encode_lower}
use Rattle.fs_actions.specs.Actions.{first_of}
use Rattle.fs_actions.specs.Community.{has_flag, is_discard, limit_of, mark_of, redirect_of}
use Rattle.fs_actions.specs.declared.community.{Rate.{Rate, TheVariants.{Bytes, Packets}}, Redirect.{Redirect, TheVariants.{As2, Ip4, As4}}}
use Rattle.fs_line.specs.Walked.{actions_walked, numbers_walked}

-- a packet passes unless a rate lets nothing pass (RFC 8955 sections 7.1 and 7.2)
abbrev pub verdict_text : List (List ℕ) → List ℕ
verdict_text actions = if list_any is_discard actions then codes " discard" else codes " pass"

-- a word, and a number directly after it
abbrev pub numbered : List ℕ → ℕ → List ℕ
numbered word number = word ++ decimal number

-- the numbers of the rules walked after the first
abbrev pub others_text : List ℕ → List ℕ
others_text numbers = flat_map (numbered (codes ",")) numbers

-- the numbers of the rules walked, with commas between them
abbrev pub numbers_text : List ℕ → List ℕ
numbers_text [] = []
numbers_text (first ∷ others) = numbered (codes " rules ") first ++ others_text others

-- a DSCP value, in decimal (RFC 8955 section 7.5)
abbrev pub mark_text : ℕ → List ℕ
mark_text mark = numbered (codes " mark ") mark

-- an IPv4 address, its four octets in decimal with dots between them
abbrev pub address_text : ℕ → List ℕ
address_text address = join_with_byte 46 (map decimal (to_be_bytes w32 address))

-- a route target, by the form of its community (RFC 8955 section 7.4)
abbrev pub target_text : Redirect → List ℕ
target_text (As2 asn number) = numbered (codes "as2:") asn ++ numbered (codes ":") number
target_text (Ip4 address number) = (codes "ip4:" ++ address_text address) ++ numbered (codes ":") number
target_text (As4 asn number) = numbered (codes "as4:") asn ++ numbered (codes ":") number

abbrev pub redirect_text : Redirect → List ℕ
redirect_text target = codes " redirect " ++ target_text target

-- a rate that lets something pass, by its four octets, in bytes or in packets (RFC 8955 sections 7.1 and 7.2)
abbrev pub rate_text : Rate → List ℕ
rate_text (Bytes figure) = codes " bytes " ++ encode_lower (to_be_bytes w32 figure)
rate_text (Packets figure) = codes " packets " ++ encode_lower (to_be_bytes w32 figure)

-- the rates among some actions that let something pass
abbrev pub rates_text : List (List ℕ) → List ℕ
rates_text actions = flat_map rate_text (filter_map limit_of actions)

-- the word for sampling, by the S bit of any traffic-action (RFC 8955 section 7.3)
abbrev pub sample_text : List (List ℕ) → List ℕ
sample_text actions = if list_any (has_flag 2) actions then codes " sample" else []

-- what the actions of a walk say beside the verdict: the first marking, the first redirect, sampling, and each
-- rate that lets something pass
abbrev pub effects_text : List (List ℕ) → List ℕ
effects_text actions =
    option_map_or mark_text (first_of mark_of actions) []
    ++ (option_map_or redirect_text (first_of redirect_of actions) []
    ++ (sample_text actions ++ rates_text actions))

-- the line of a packet that was judged: the record's number, from 1, and the rules walked
abbrev pub line_of : ℕ → List (ℕ × List (List ℕ)) → List ℕ
line_of number rules =
    decimal number
    ++ (verdict_text (actions_walked rules)
    ++ (numbers_text (numbers_walked rules)
    ++ (effects_text (actions_walked rules) ++ codes "\n")))

-- the actions discard the packet, and say no more
pub record SaysDiscard (actions : List (List ℕ)) : Type 0 where
  pub discards : list_any is_discard actions ≡ true
  pub silent : effects_text actions ≡ []

-- the line of a packet that walked one rule whose actions do so
abbrev pub discarded_line : (number rule : ℕ) → List ℕ
discarded_line number rule = decimal number ++ (codes " discard rules " ++ (decimal rule ++ codes "\n"))

-- the line of a packet that can't be judged, with the number of the reason
abbrev pub unread_line_of : ℕ → ℕ → List ℕ
unread_line_of number reason = decimal number ++ (numbered (codes " unread ") reason ++ codes "\n")
