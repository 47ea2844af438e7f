use Rattle.fs_attrs.proofs.{Words.{◌≡◌, length, attributes_of, are_attributes, lent_values}, AttributeScans.{SoFar}}
use Rattle.fs_attrs.proofs.attributes.read_values.Given as goal

abbrev pub invariant-loop-attribute : goal.invariant-loop-attribute
invariant-loop-attribute l = record {
  whole : are_attributes l.rest ≡ are_attributes l.octets;
  found : SoFar (lent_values l.values) (attributes_of l.rest) (attributes_of l.octets);
}

abbrev pub decreases-loop-attribute : goal.decreases-loop-attribute
decreases-loop-attribute l = length l.rest
