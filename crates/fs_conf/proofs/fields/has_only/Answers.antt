-- The map's keys are the members' keys.
use Rattle.fs_conf.proofs.Words.{◌≡◌, ℕ, ◌∙◌, ap, ◌||◌, List, [], ◌∷◌, map, String, Global, string_bytes, Bor, refl, list_all, list_any, bytes_eq}
use Rattle.fs_conf.proofs.Words.{members_view, Value, keys_among}
use Rattle.std.specs.Map.{keys_of}
use Rattle.fs_conf.proofs.fields.has_only.Goals as goal

any_now : (names : List (Bor (List ℕ))) (key : List ℕ)
    → list_any (λ (name : Bor (List ℕ)). bytes_eq name.now key) names
    ≡ list_any (λ name. bytes_eq name key) (map (λ (name : Bor (List ℕ)). name.now) names)
any_now [] key = refl
any_now (name ∷ names) key = ap (λ b. bytes_eq name.now key || b) (any_now names key)

among : (names : List (Bor (List ℕ))) (entries : List (String Global × Value))
    → list_all (λ key. list_any (λ (name : Bor (List ℕ)). bytes_eq name.now (string_bytes key)) names) (keys_of entries)
    ≡ keys_among (map (λ (name : Bor (List ℕ)). name.now) names) (members_view entries)
among names [] = refl
among names (entry ∷ entries) = rw (any_now names (string_bytes entry.0), among names entries)

pub returns : goal.returns
returns c = c.each_key_among.ensures ∙ among c.args.names.now c.args.table.now.entries
