use Rattle.fs_conf.proofs.Words.{◌≡◌, ℕ, ◌+◌, ◌<◌, get_or, sym, ap, ◌∙◌, List, [], ◌∷◌, ◌++◌, length, drop, Option, Some, None, option_map, refl}
use Rattle.fs_conf.proofs.Words.{append_assoc, Data, Items, item, Value, view, items_view, items_view-drop, each_item}

-- The items of an array, read one after the other.

joined : {A : Type 0} (read : List A) (found : A) (more : Option (List A))
    → option_map (λ m. read ++ m) (option_map (λ m. found ∷ m) more) ≡ option_map (λ m. (read ++ found ∷ []) ++ m) more
joined read found None = refl
joined read found (Some rest) = ap Some (sym (append_assoc read (found ∷ []) rest))

one_more : {A : Type 0} (reads : Data → Option A) (read : List A) (found : A) (value : Data) (rest : Items) → reads value ≡ Some found
    → option_map (λ m. read ++ m) (each_item reads (item value rest)) ≡ option_map (λ m. (read ++ found ∷ []) ++ m) (each_item reads rest)
one_more reads read found value rest e = rw e (joined read found (each_item reads rest))

-- one more item read
pub item_read : {A : Type 0} (reads : Data → Option A) (items : List Value) (i : ℕ) (value : Value) (read next : List A) (found : A) → i < length items
    → value ≡ get_or items i value → reads (view value) ≡ Some found → next ≡ read ++ found ∷ []
    → option_map (λ m. read ++ m) (each_item reads (items_view (drop i items)))
    ≡ option_map (λ m. next ++ m) (each_item reads (items_view (drop (i + 1) items)))
item_read reads items i value read next found inside is e kept =
    let rest : Items = items_view (drop (i + 1) items) in
    ap (λ left. option_map (λ m. read ++ m) (each_item reads left)) (items_view-drop items i value inside ∙ ap (λ v. item (view v) rest) (sym is))
    ∙ one_more reads read found (view value) rest e
    ∙ ap (λ all. option_map (λ m. all ++ m) (each_item reads rest)) (sym kept)
