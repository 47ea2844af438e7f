use Rattle.cmd_convert.proofs.Words.{◌≡◌, ◌∙◌, ap, sym, rules}
use Rattle.std.specs.{Prelude.{string_bytes}, Int.{to_be_bytes, w128}, Net.{Addr.{ipv6_segments, segments_of}, Text.{ipv6_text}}}
use Rattle.cmd_convert.specs.Survey.{address_text}
use Rattle.cmd_convert.proofs.survey_text.address_text.Goals as goal

pub returns-in_ok-format-in-V6 : goal.returns-in_ok-format-in-V6
returns-in_ok-format-in-V6 c =
    let text : string_bytes c.in_ok-format-in-V6.field-0 ≡ ipv6_text (ipv6_segments c.from_octets-address-in-V6.result) = search rules in
    let segments : ipv6_segments c.from_octets-address-in-V6.result ≡ segments_of (to_be_bytes w128 c.in-V6.address) =
    c.from_octets-address-in-V6.ensures ∙ ap segments_of c.to_be_bytes-in-V6.ensures in
    text ∙ ap ipv6_text segments ∙ ap address_text (sym c.in-V6.is)
