-- How `gen` counts.
use Rattle.cmd_gen.proofs.Words.{◌≡◌, ◌≤◌, ◌+◌, ◌∙◌, ℕ, suc, List, [], ◌∷◌, ◌++◌, Bool, true, false, cond, refl, ap, sym, subst, arith, length}
use Rattle.cmd_gen.proofs.Words.{append_assoc, append-nil, Config, Desked, Played, behind_pair, behind_pairs, pair_behind, pair_of, packet_of}
use Rattle.cmd_gen.proofs.Words.{packets, packets_of_seed, peer_of, step_of, steps, update_of, Held, admitted, Item, received, dropped_of, gen_line}
use Rattle.cmd_gen.proofs.Words.{gen_text, one_if, passed_of, admitted_rules}
use Rattle.cmd_gen.specs.declared.pair.Pair.{Pair}
use Rattle.std.{specs.List.{count_by}, proofs.lemmas.List.Sums.{sum_by_push}}
use Rattle.fs_base.specs.declared.prefix.Family.TheVariants.{V4}

-- one pair of draws more, and none

after : (n : ℕ) → n + 1 ≡ suc n
after n = omega arith

pub state_none : (seed : ℕ) → behind_pairs seed 0 ≡ seed
unfolding behind_pairs
state_none seed = refl

pub state_more : (seed count : ℕ) → behind_pairs seed (count + 1) ≡ behind_pair (behind_pairs seed count)
unfolding behind_pairs
state_more seed count = ap (behind_pairs seed) (after count)

steps_none : (seed : ℕ) → steps seed 0 ≡ []
unfolding steps
steps_none seed = refl

steps_more : (seed count : ℕ) → steps seed (count + 1) ≡ steps seed count ++ step_of (pair_behind seed count) ∷ []
unfolding steps
steps_more seed count = ap (steps seed) (after count)

packets_none : (seed : ℕ) → packets seed 0 ≡ []
unfolding packets
packets_none seed = refl

packets_more : (seed count : ℕ) → packets seed (count + 1) ≡ packets seed count ++ packet_of (pair_behind seed (seed + count)) ∷ []
unfolding packets
packets_more seed count = ap (packets seed) (after count)

pub packet_state : (seed count : ℕ) → behind_pairs seed (seed + (count + 1)) ≡ behind_pair (behind_pairs seed (seed + count))
packet_state seed count = let same : seed + (count + 1) ≡ (seed + count) + 1 = omega arith in ap (behind_pairs seed) same ∙ state_more seed (seed + count)

counted_more : {X : Type 0} (p : X → Bool) (xs : List X) (y : X) → count_by p (xs ++ y ∷ []) ≡ count_by p xs + one_if (p y)
counted_more p xs y = sum_by_push (λ x. cond (p x) 1 0) xs y

-- what is drawn makes this step, and this packet

pub step_is : (pair : Pair) (peer : ℕ) (octets : List ℕ) (state seed count : ℕ) → peer ≡ peer_of pair → octets ≡ update_of pair
    → pair ≡ pair_of state → state ≡ behind_pairs seed count → received peer octets ≡ step_of (pair_behind seed count)
step_is pair peer octets state seed count p o d s =
    ap (λ (n : ℕ). received n octets) p ∙ ap (λ (list : List ℕ). received (peer_of pair) list) o ∙ ap step_of (d ∙ ap pair_of s)

pub packet_is : (pair : Pair) (octets : List ℕ) (state seed count : ℕ) → octets ≡ packet_of pair → pair ≡ pair_of state
    → state ≡ behind_pairs seed (seed + count) → octets ≡ packet_of (pair_behind seed (seed + count))
packet_is pair octets state seed count o d s = o ∙ ap packet_of (d ∙ ap pair_of s)

-- no packet was counted yet, and one more

pub counted_none : (p : List ℕ → Bool) (seed : ℕ) → 0 ≡ count_by p (packets seed 0)
counted_none p seed = sym (ap (count_by p) (packets_none seed))

pub counted_after : (p : List ℕ → Bool) (seed count before after : ℕ) (octets : List ℕ) → octets ≡ packet_of (pair_behind seed (seed + count))
    → before ≡ count_by p (packets seed count) → after ≡ before + one_if (p octets) → after ≡ count_by p (packets seed (count + 1))
counted_after p seed count before after octets o b a =
    a
    ∙ ap (λ (m : ℕ). m + one_if (p octets)) b
    ∙ ap (λ (t : List ℕ). count_by p (packets seed count) + one_if (p t)) o
    ∙ sym (ap (count_by p) (packets_more seed count) ∙ counted_more p (packets seed count) (packet_of (pair_behind seed (seed + count))))

pub few_more : (b : Bool) (before now counter : ℕ) → before ≤ counter → now ≡ before + one_if b → now ≤ counter + 1
few_more true before now counter f e = omega (arith, f, e)
few_more false before now counter f e = omega (arith, f, e)

-- the line by what was counted
pub line_is : (count rules passed dropped : ℕ) (held : Held) → rules ≡ length (admitted V4 held)
    → passed ≡ passed_of (admitted_rules held) (packets_of_seed count) → dropped ≡ dropped_of (admitted_rules held) (packets_of_seed count)
    → gen_line count rules passed dropped ≡ gen_text count held
line_is count rules passed dropped held r p d =
    ap (λ (n : ℕ). gen_line count n passed dropped) r
    ∙ ap (λ (n : ℕ). gen_line count (length (admitted V4 held)) n dropped) p
    ∙ ap (λ (n : ℕ). gen_line count (length (admitted V4 held)) (passed_of (admitted_rules held) (packets_of_seed count)) n) d

-- no step was played yet
pub played_none : (config : Config) (items : List Item) (seed : ℕ) (desk : Desked) → Played config items desk → Played config (items ++ steps seed 0) desk
played_none config items seed desk p =
    subst (λ (all : List Item). Played config all desk) (sym (ap (λ (more : List Item). items ++ more) (steps_none seed) ∙ append-nil items)) p

-- one more step was played
pub played_more : (config : Config) (items : List Item) (seed count : ℕ) (desk : Desked)
    → Played config ((items ++ steps seed count) ++ step_of (pair_behind seed count) ∷ []) desk → Played config (items ++ steps seed (count + 1)) desk
played_more config items seed count desk p =
    subst (λ (all : List Item). Played config all desk)
    (append_assoc items (steps seed count) (step_of (pair_behind seed count) ∷ []) ∙ ap (λ (more : List Item). items ++ more) (sym (steps_more seed count))) p

-- three items more
pub opened : (config : Config) (items : List Item) (a b c : Item) (desk : Desked)
    → Played config (((items ++ a ∷ []) ++ b ∷ []) ++ c ∷ []) desk → Played config (items ++ a ∷ b ∷ c ∷ []) desk
opened config items a b c desk p =
    subst (λ (all : List Item). Played config all desk)
    (append_assoc (items ++ a ∷ []) (b ∷ []) (c ∷ []) ∙ append_assoc items (a ∷ []) (b ∷ c ∷ [])) p
