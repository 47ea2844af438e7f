-- The order of components as one comparison (RFC 8955 section 5.1, RFC 8956 section 4).
use Rattle.std.specs.{Prelude.{ℕ, ◌+◌, ◌-◌, ◌^◌, List, []}, declared.cmp.Ordering.{Ordering}, Ordering.{nat_cmp, on, then_cmp, flip_args}}
use Rattle.std.specs.Cmp.Lexicographic.{slice_cmp}
use Rattle.fs_ops.specs.OperatorList.{canonical}
use Rattle.fs_nlri.specs.Parts.{Body, V4Body, V6Body, ListBody, Part}

-- lists by the first place where they differ, the end of a list above every element
abbrev pub ended_cmp : {A : Type 0} → (A → A → Ordering) → List A → List A → Ordering
ended_cmp cmp = flip_args (slice_cmp (flip_args cmp))

-- prefixes of IPv4, patterns of IPv6 and lists are three kinds; a type has one of them in a family
abbrev pub kind_of : Body → ℕ
kind_of (V4Body family len bits) = 0
kind_of (V6Body len offset pattern) = 1
kind_of (ListBody pairs) = 2

abbrev pub offset_of : Body → ℕ
offset_of (V4Body family len bits) = 0
offset_of (V6Body len offset pattern) = offset
offset_of (ListBody pairs) = 0

-- the highest number that begins with the bits of a prefix or of a pattern
abbrev pub last_of : Body → ℕ
last_of (V4Body family len bits) = bits + 2 ^ (32 - len) - 1
last_of (V6Body len offset pattern) = pattern + 2 ^ (128 - (len - offset)) - 1
last_of (ListBody pairs) = 0

abbrev pub length_of : Body → ℕ
length_of (V4Body family len bits) = len
length_of (V6Body len offset pattern) = len - offset
length_of (ListBody pairs) = 0

abbrev pub octets_of : Body → List ℕ
octets_of (V4Body family len bits) = []
octets_of (V6Body len offset pattern) = []
octets_of (ListBody pairs) = canonical pairs

-- the lower offset, then the lower highest number, then the longer first; of lists the lower octets, their end above every octet
abbrev pub body_cmp : Body → Body → Ordering
body_cmp =
    then_cmp (on kind_of nat_cmp) (then_cmp (on offset_of nat_cmp)
    (then_cmp (on last_of nat_cmp) (then_cmp (flip_args (on length_of nat_cmp)) (on octets_of (ended_cmp nat_cmp)))))

abbrev pub part_cmp : Part → Part → Ordering
part_cmp = then_cmp (on (λ p. p.kind) nat_cmp) (on (λ p. p.body) body_cmp)
