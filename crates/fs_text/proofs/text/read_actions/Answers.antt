use Rattle.fs_text.proofs.{Words.{Bor, List, ℕ, map, subst, sym, arith, drop-drop, IsWhole}, Wholly.{all_parts, drop_end, drop_some, then_acts}}
use Rattle.fs_text.proofs.text.read_actions.Goals as goal

pub returns-then-place-words-clause-found : goal.returns-then-place-words-clause-found
returns-then-place-words-clause-found c = λ family parts all.
    subst (λ (l : List (List ℕ)). IsWhole (map (λ (w : Bor (List ℕ)). w.now) c.args.words.now) family parts l) (sym c.none.ensures)
    (all_parts (map (λ (w : Bor (List ℕ)). w.now) c.args.words.now) family parts c.args.place all
    (drop_end (λ (w : Bor (List ℕ)). w.now) c.args.words.now c.args.place c.if-place-words.true))

pub returns-clause-found : goal.returns-clause-found
returns-clause-found c = λ family parts all.
    c.read_some_actions.ensures.found family parts
    (then_acts (map (λ (w : Bor (List ℕ)). w.now) c.args.words.now) family parts c.args.place all
    (drop_some (λ (w : Bor (List ℕ)). w.now) c.args.words.now c.args.place (grind (arith, c.requires, c.if-place-words.false)))
    (drop-drop 1 c.args.place (map (λ (w : Bor (List ℕ)). w.now) c.args.words.now)))

pub returns-clause-fault : goal.returns-clause-fault
returns-clause-fault c = λ family parts all.
    c.read_some_actions.ensures.fault family parts
    (then_acts (map (λ (w : Bor (List ℕ)). w.now) c.args.words.now) family parts c.args.place all
    (drop_some (λ (w : Bor (List ℕ)). w.now) c.args.words.now c.args.place (grind (arith, c.requires, c.if-place-words.false)))
    (drop-drop 1 c.args.place (map (λ (w : Bor (List ℕ)). w.now) c.args.words.now)))
