use Rattle.fs_reports.proofs.Words.{◌≡◌, ℕ, ◌<◌, List, Contains, eqb, map, take_all, ap, sym, subst, ◌∙◌, Contains-dedup_nat, Contains-from_dedup}
use Rattle.fs_reports.proofs.Words.{All-permutation, Contains-permutation, IsPermutation-sym, IsStrictlyIncreasing-dedup}
use Rattle.fs_reports.proofs.Words.{sorted_from_strictly_increasing, dedup}
use Rattle.fs_reports.proofs.Numbers.{number_of, numbers_are}
use Rattle.std.proofs.lemmas.List.Filters.{dedup_is, All-dedup}
use Rattle.fs_reports.proofs.peers.peer_numbers.Goals as goal

pub returns : goal.returns
returns c =
    let all : c.loop-peer.numbers.items ≡ map number_of c.args.peers.now = c.loop-peer.invariant.numbers
    ∙ ap (map number_of) (take_all _ c.args.peers.now c.loop-peer-test.false) in
    let sorted : List ℕ = c.sort_unstable.new.self.items in
    let moved = c.sort_unstable.ensures.permutation in
    rw (dedup_is _ _ _ c.dedup.ensures.filtered)
    (numbers_are (dedup eqb sorted) 65536 c.args.peers.now
    (sorted_from_strictly_increasing _ (IsStrictlyIncreasing-dedup sorted c.sort_unstable.ensures.sorted))
    (All-dedup eqb (λ n. n < 65536) sorted (All-permutation (λ n. n < 65536) _ sorted moved c.loop-peer.invariant.below))
    (λ n h. subst (λ (l : List ℕ). Contains l n) all (Contains-permutation sorted _ n (IsPermutation-sym _ sorted moved) (Contains-from_dedup eqb sorted n h)))
    (λ n h. Contains-dedup_nat sorted n (Contains-permutation _ sorted n moved (subst (λ (l : List ℕ). Contains l n) (sym all) h))))
