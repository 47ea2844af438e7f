-- The octets of a list of actions, and the list that they are read back as.
use Rattle.fs_actions.proofs.Words.{◌≡◌, ℕ, ◌+◌, ◌*◌, ◌/◌, ◌<◌, List, [], ◌∷◌, ◌++◌, length, take, drop, get_or, refl, sym, ap, ◌∙◌, subst, arith}
use Rattle.fs_actions.proofs.Words.{append_assoc, append-nil, filter_map, ◌&&◌, ◌==◌, ◌%◌, nat_lt, Less, Greater, AllByRecursion, concat}
use Rattle.fs_actions.proofs.Words.{IsStrictlySortedBy, take-append_seam, drop-append_seam, IsAction, normal_form, IsActions, actions_of}
use Rattle.fs_actions.proofs.Words.{are_communities, communities, with_action, with_actions}
use Rattle.fs_actions.proofs.Insertion.{by_octets, with_step, reversed}
use Rattle.std.{specs.Simd.{first_chunks}, proofs.lemmas.{List.{length-append, take_more}, Bool.Decides.{nat_tests}}}
use Rattle.fs_base.proofs.Octets.{each_at}

concat-push : (xs : List (List ℕ)) (y : List ℕ) → concat (xs ++ y ∷ []) ≡ concat xs ++ y
concat-push [] y = append-nil y
concat-push (x ∷ xs) y = ap (λ (rest : List ℕ). x ++ rest) (concat-push xs y) ∙ sym (append_assoc x (concat xs) y)

-- one action more was appended
pub joined_more : (actions : List (List ℕ)) (index : ℕ) (d old new : List ℕ) → index < length actions → new ≡ old ++ concat (take index actions)
    → new ++ get_or actions index d ≡ old ++ concat (take (index + 1) actions)
joined_more actions index d old new l e =
    ap (λ (front : List ℕ). front ++ get_or actions index d) e
    ∙ append_assoc old (concat (take index actions)) (get_or actions index d)
    ∙ ap (λ (more : List ℕ). old ++ more) (sym (concat-push (take index actions) (get_or actions index d)) ∙ ap concat (sym (take_more actions index d l)))

pub each_length : (xs : List (List ℕ)) → AllByRecursion IsAction xs → length (concat xs) ≡ 8 * length xs
each_length [] h = refl
each_length (x ∷ xs) h = simp length-append (omega (arith, h.0.eight, each_length xs h.1))

chunks_joined : (xs : List (List ℕ)) → AllByRecursion IsAction xs → first_chunks 8 (length xs) (concat xs) ≡ xs
chunks_joined [] h = refl
chunks_joined (x ∷ xs) h =
    let front : take 8 (x ++ concat xs) ≡ x = rw (← h.0.eight) (take-append_seam x (concat xs)) in
    let back : drop 8 (x ++ concat xs) ≡ concat xs = rw (← h.0.eight) (drop-append_seam x (concat xs)) in
    rw (front, back, chunks_joined xs h.1) refl

pub communities_joined : (xs : List (List ℕ)) → AllByRecursion IsAction xs → communities (concat xs) ≡ xs
communities_joined xs h =
    let count : length (concat xs) / 8 ≡ length xs = omega (arith, each_length xs h) in
    rw count (chunks_joined xs h)

normal_joined : (xs : List (List ℕ)) → AllByRecursion IsAction xs → filter_map normal_form xs ≡ xs
normal_joined [] h = refl
normal_joined (x ∷ xs) h = rw (h.0.normal, normal_joined xs h.1) refl

with_last : (a : List ℕ) (done : List (List ℕ)) → AllByRecursion (λ y. by_octets y a ≡ Less) done → with_action a done ≡ done ++ a ∷ []
with_last a [] h = refl
with_last a (x ∷ xs) h = with_step a x xs Greater (reversed x a Less h.0) ∙ ap (λ (l : List (List ℕ)). x ∷ l) (with_last a xs h.1)

all_before : (done : List (List ℕ)) (x : List ℕ) (xs : List (List ℕ)) → IsStrictlySortedBy by_octets (done ++ x ∷ xs)
    → AllByRecursion (λ y. by_octets y x ≡ Less) done
unfolding IsStrictlySortedBy
all_before [] x xs s = tt
all_before (y ∷ ys) x xs s = (each_at (λ z. by_octets y z ≡ Less) ys x xs s.0, all_before ys x xs s.1)

with_rising : (xs done : List (List ℕ)) → IsStrictlySortedBy by_octets (done ++ xs) → with_actions xs done ≡ done ++ xs
with_rising [] done s = sym (append-nil done)
with_rising (x ∷ xs) done s =
    let moved : (done ++ x ∷ []) ++ xs ≡ done ++ x ∷ xs = append_assoc done (x ∷ []) xs in
    let P : List (List ℕ) → Type 0 = λ l. IsStrictlySortedBy by_octets l in
    ap (with_actions xs) (with_last x done (all_before done x xs s)) ∙ with_rising xs (done ++ x ∷ []) (subst P (sym moved) s) ∙ moved

-- what was written is read back
pub read_back : (actions : List (List ℕ)) → IsActions actions → actions_of (concat actions) ≡ actions
read_back actions h =
    ap (λ (list : List (List ℕ)). with_actions (filter_map normal_form list) []) (communities_joined actions h.each)
    ∙ ap (λ (list : List (List ℕ)). with_actions list []) (normal_joined actions h.each)
    ∙ with_rising actions [] h.rising

pub whole_joined : (actions : List (List ℕ)) → IsActions actions → are_communities (concat actions) ≡ nat_lt 0 (length actions)
whole_joined actions h = at (length actions) (length (concat actions)) (each_length actions h.each)
  where
    at : (n m : ℕ) → m ≡ 8 * n → (nat_lt 0 m && (m % 8 == 0)) ≡ nat_lt 0 n
    at n m e = grind (arith, nat_tests)
