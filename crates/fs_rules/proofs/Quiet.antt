-- Where no validity changes nothing is noted.
use Rattle.fs_rules.proofs.Words.{ℕ, ◌≡◌, refl, sym, subst, ◌∙◌, List, [], ◌∷◌, AllByRecursion, Config, Prefix, each_both, each_of_map, Route}
use Rattle.fs_rules.proofs.Words.{validity, FlowRoute, Kept, Held, Noted, IsRight, IsRightAt, AreRight, routes_of, without_path, ValiditiesStay}
use Rattle.fs_rules.proofs.Words.{StayAlong, StayThroughout}
use Rattle.fs_rules.proofs.Chosen.{held_of}

-- what was right over the earlier unicast routes is so over the later ones
pub stay_right : (p : Prefix) (config : Config) (unicast other : List Route) (ks : List Kept) (flows : List FlowRoute) (old : Held)
    → held_of config unicast (routes_of ks) ≡ old → AreRight unicast config ks
    → ValiditiesStay old (held_of config other flows) → AllByRecursion (IsRightAt p other config) ks
stay_right p config unicast other ks flows old view right stay =
    each_both (IsRight unicast config) (λ k. validity other config k.route ≡ validity unicast config k.route) (IsRightAt p other config) (λ k r s _. r
    ∙ sym s) ks right
    (each_of_map (λ k. k.route) (λ r. validity other config r ≡ validity unicast config r) ks
    (subst (λ held. ValiditiesStay held (held_of config other flows)) (sym view) stay))

-- while a peer's unicast routes go: no validity changes from here on, and nothing was noted
pub record IsQuiet (peer : ℕ) (now : Held) (first noted : Noted) : Type 0 where
  pub stay : StayThroughout peer now
  pub same : noted ≡ first

pub quiet_starts : (peer : ℕ) (now : Held) (noted : Noted) → StayThroughout peer now → IsQuiet peer now noted noted
quiet_starts peer now noted stay = record { stay = stay; same = refl }

-- one route more
pub quiet_more : (peer : ℕ) (p : Prefix) (old new : Held) (first noted more : Noted) → new ≡ without_path peer p old
    → (ValiditiesStay old new → more ≡ noted) → IsQuiet peer old first noted → IsQuiet peer new first more
quiet_more peer p old new first noted more e quiet q = record {
  stay = λ ps. subst (StayAlong peer ps) (sym e) (q.stay (p ∷ ps)).1;
  same = quiet (subst (ValiditiesStay old) (sym e) (q.stay (p ∷ [])).0) ∙ q.same;
}
