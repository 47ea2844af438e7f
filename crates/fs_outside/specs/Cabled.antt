-- What an end in memory has left, and what it shows.
use Rattle.std.specs.Prelude.{ℕ, List, [], Bool, true, false, drop}
use Rattle.fs_outside.specs.{Wire.{WireEnd}, declared.cable.{Origin.{Origin, TheVariants.{Nothing, Own, Other}}, MemEnd.{MemEnd}}}

-- what the end's octets are taken from: what it is to receive, or what was written through the other end
abbrev pub source_of : Origin → List ℕ → List ℕ → List ℕ
source_of Nothing own others = []
source_of Own own others = own
source_of Other own others = others

abbrev pub is_other : Origin → Bool
is_other Nothing = false
is_other Own = false
is_other Other = true

-- an end, beside what was written through the other
abbrev pub end_of : MemEnd → List ℕ → WireEnd
end_of end others = record {
  to_receive = end.to_receive.items;
  left = drop end.taken (source_of end.origin end.to_receive.items others);
  written = end.written.octets.items;
  joined = is_other end.origin;
}
