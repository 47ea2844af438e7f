-- What lists of addresses and nodes of either width hold.
use Rattle.std.specs.Prelude.{ℕ, List}
use Rattle.fs_base.specs.declared.config.Address.{Address, TheVariants.{V4, V6}}
use Rattle.fs_buckets.specs.declared.addresses.Addresses.{Addresses, TheVariants.{V4 as V4Addresses, V6 as V6Addresses}}
use Rattle.fs_buckets.specs.declared.nodes.{Node.{Node}, Nodes.{Nodes, TheVariants.{V4 as V4Nodes, V6 as V6Nodes}}}

-- how many bits an address of a list has
abbrev pub width_in : Addresses → ℕ
width_in (V4Addresses items) = 32
width_in (V6Addresses items) = 128

abbrev pub node_width : Nodes → ℕ
node_width (V4Nodes items) = 32
node_width (V6Nodes items) = 128

abbrev pub numbers_in : Addresses → List ℕ
numbers_in (V4Addresses items) = items.items
numbers_in (V6Addresses items) = items.items

abbrev pub nodes_in : Nodes → List (Node ℕ)
nodes_in (V4Nodes items) = items.items
nodes_in (V6Nodes items) = items.items

-- an address as a number
abbrev pub number_of : Address → ℕ
number_of (V4 address) = address
number_of (V6 address) = address
