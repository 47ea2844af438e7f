use Rattle.fs_attrs.proofs.Words.{List, [], ◌∷◌, All-from_recursion, map, AllByRecursion, Prefix, shown, IsPrefix}
use Rattle.fs_attrs.proofs.lists.PrefixList.as_slice.Goals as goal

all_prefixes : (prefixes : List Prefix) → AllByRecursion IsPrefix (map shown prefixes)
all_prefixes [] = tt
all_prefixes (prefix ∷ prefixes) = (record { short = prefix.short; clear = prefix.clear }, all_prefixes prefixes)

pub returns-clause-prefixes : goal.returns-clause-prefixes
returns-clause-prefixes c = rw (← c.self.view_is) (All-from_recursion IsPrefix (map shown c.self.inside.items.items) (all_prefixes c.self.inside.items.items))
