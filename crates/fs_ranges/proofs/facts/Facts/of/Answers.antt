use Rattle.fs_ranges.proofs.Words.{ℕ, ◌^◌, ◌<◌, ◌∙◌, [], ◌∷◌, refl, sym, subst, ap, arith, family_of, IsSmallAddress, IsSmallField, address_number}
use Rattle.fs_ranges.proofs.Words.{field_number, syn_number}
use Rattle.fs_ranges.proofs.facts.Facts.of.Goals as goal

pub returns : goal.returns
returns c = record {
  same = refl;
  numbers = λ i.
      0
      ∷ (c.address_number.ensures.value ∙ ap address_number c.requires.value) i
      ∷ (c.address_number-2.ensures.value ∙ ap address_number c.source-source.ensures.value) i
      ∷ (c.octet.ensures.value ∙ ap field_number c.protocol.ensures) i
      ∷ 2 ^ 32
      ∷ (c.port.ensures.value ∙ ap field_number c.destination_port.ensures) i
      ∷ (c.port-2.ensures.value ∙ ap field_number c.source_port.ensures) i
      ∷ (c.octet-2.ensures.value ∙ ap field_number c.icmp_type.ensures) i
      ∷ (c.octet-3.ensures.value ∙ ap field_number c.icmp_code.ensures) i
      ∷ (c.syn.ensures ∙ ap syn_number c.tcp_octets.ensures) i
      ∷ (c.into.ensures ∙ c.length.ensures) i
      ∷ (c.into-2.ensures ∙ c.dscp.ensures) i
      ∷ 2 ^ 32
      ∷ (c.label.ensures.value ∙ ap field_number c.flow_label.ensures) i
      ∷ 2 ^ 32
      ∷ 2 ^ 32
      ∷ [];
  small = record {
    destination = subst IsSmallAddress c.requires.value c.address_number.ensures.small;
    source = subst IsSmallAddress c.source-source.ensures.value c.address_number-2.ensures.small;
    protocol = subst IsSmallField c.protocol.ensures c.octet.ensures.small;
    icmp_type = subst IsSmallField c.icmp_type.ensures c.octet-2.ensures.small;
    icmp_code = subst IsSmallField c.icmp_code.ensures c.octet-3.ensures.small;
    source_port = subst IsSmallField c.source_port.ensures c.port-2.ensures.small;
    destination_port = subst IsSmallField c.destination_port.ensures c.port.ensures.small;
    flow_label = subst IsSmallField c.flow_label.ensures c.label.ensures.small;
    length = subst (λ (n : ℕ). n < 2 ^ 32) c.length.ensures c.length.type_inv;
    dscp = (let low : c.dscp.result < 2 ^ 32 = omega arith in subst (λ (n : ℕ). n < 2 ^ 32) c.dscp.ensures low);
  };
  same_family = sym (ap family_of c.requires.value) ∙ c.requires.family;
}
