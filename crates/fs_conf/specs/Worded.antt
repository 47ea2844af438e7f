-- Rules in words: a text says the rule and the actions whose text it is. They are sought among all that octets can say,
-- so that nothing is said here of how a text is read; the law in `WordedLaw` says the same without the search.
use Rattle.std.specs.{Prelude.{ℕ, zero, suc, Bool, List, [], ◌∷◌, map}, List.{flat_map, range_with_len}, Str.{bytes_eq}}
use Rattle.fs_nlri.specs.Parts.{Ruled}
use Rattle.fs_speaker.specs.declared.Sent.{Sent}
use Rattle.fs_text.specs.Printed.{text_of}

-- the lists of at most so many numbers, each below a bound
unfoldable pub lists_below : (bound most : ℕ) → List (List ℕ)
lists_below bound zero = [] ∷ []
lists_below bound (suc most) = [] ∷ flat_map (λ list. map (λ first. first ∷ list) (range_with_len 0 bound)) (lists_below bound most)

-- the lists of at most so many octets
abbrev pub octet_lists : ℕ → List (List ℕ)
octet_lists most = lists_below 256 most

abbrev pub sent : Ruled → List (List ℕ) → Sent
sent rule actions = record { rule = rule; actions = actions }

-- each of these rules with each of these lists of actions
abbrev pub with_each : List (List (List ℕ)) → List Ruled → List Sent
with_each lists rules = flat_map (λ rule. map (sent rule) lists) rules

abbrev pub has_text : List ℕ → Sent → Bool
has_text text given = bytes_eq (text_of given.rule given.actions) text
