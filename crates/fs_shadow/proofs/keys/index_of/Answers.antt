use Rattle.fs_shadow.proofs.Words.{ℕ, sym, ap, ◌∙◌, rules, list_any, IsNonDecreasingBy-from_sort_by_key, list_any-IsPermutation, is_entry, rank}
use Rattle.fs_shadow.proofs.keys.index_of.Goals as goal

pub returns : goal.returns
returns c = record {
  rising = IsNonDecreasingBy-from_sort_by_key (λ (e : ℕ × ℕ). rank e.0 e.1) c.sort_unstable_by_key.new.self.items
      c.sort_unstable_by_key.ensures.sorted (λ a r q k. search rules);
  has = λ key place. sym (list_any-IsPermutation (is_entry key place) c.in_ok-index.index.items c.sort_unstable_by_key.new.self.items
      c.sort_unstable_by_key.ensures.permutation) ∙ ap (list_any (is_entry key place)) c.in_ok-index.ensures;
}
