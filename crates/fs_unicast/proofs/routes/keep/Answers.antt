use Rattle.fs_unicast.proofs.Words.{inl, inr, ◌∙◌, sym, ap, subst, true≢false, option_map, insert_entry, place_cmp, IsParted, entry_now, is_alike}
use Rattle.fs_unicast.proofs.{Parting.{put_again, put_changes, parted_beside, parted_replaced}, Swaps.{swap_put}}
use Rattle.fs_unicast.proofs.routes.keep.Goals.{else-taken-via-then-taken+else-has_path, else-taken-via-else-taken, then-idle, else-idle}
use Rattle.fs_unicast.proofs.routes.keep.Goals as goal

-- The path was there.
pub returns-then-has_path-clause-ok : goal.returns-then-has_path-clause-ok
returns-then-has_path-clause-ok c = let held = c.args.paths.now.entries in let next = c.first_from-next.result in let z = c.args.place in
    sym (put_again held z c.args.path (option_map entry_now next) (sym c.first_from-next.ensures.found) (sym c.stands_at-taken.ensures
    ∙ c.if-taken.true) (c.has_path.ensures.0 c.if-has_path.true))

-- A path of the same neighbouring AS was there.
pub returns-then-is_alike-clause-parted : goal.returns-then-is_alike-clause-parted
returns-then-is_alike-clause-parted c = let held = c.args.paths.now.entries in let next = c.first_from-next.result in let z = c.args.place in
    subst (IsParted c.args.turns.now.places.keys) (sym c.in_ok-old.ensures.entries)
    (parted_replaced c.args.turns.now.places.keys held z c.args.path (option_map entry_now next) (sym c.first_from-next.ensures.found)
    (sym c.stands_at-taken.ensures ∙ c.if-taken-2.true)
    (ap (λ a. is_alike a (option_map entry_now next)) (sym c.neighbour-asn.ensures) ∙ sym c.is_alike.ensures ∙ c.if-is_alike.true) c.requires)

pub returns-then-is_alike-clause-told : goal.returns-then-is_alike-clause-told
returns-then-is_alike-clause-told c = let held = c.args.paths.now.entries in let next = c.first_from-next.result in let z = c.args.place in
    put_changes c.in_ok-old.old held c.insert.new.self.entries z c.args.path (option_map entry_now next) c.first_from-next.ensures.found
    c.in_ok-old.ensures.entries (elim c.else-taken.branch [
      | else-taken-via-then-taken+else-has_path w ↦ inr (λ k. true≢false (sym (w.has_path.ensures.1 k) ∙ w.if-has_path.false))
      | else-taken-via-else-taken w ↦ inl (sym c.stands_at-taken.ensures ∙ w.if-taken.false)
    ])

pub returns-then-is_alike-clause-swap : goal.returns-then-is_alike-clause-swap
returns-then-is_alike-clause-swap c =
    swap_put c.args.place c.args.path c.in_ok-old.old c.args.paths.now.entries c.insert.new.self.entries c.first_from-next.ensures.ordered
    c.insert.ensures.ordered
    c.in_ok-old.ensures.entries c.in_ok-old.ensures.old

pub returns-clause-swap : goal.returns-clause-swap
returns-clause-swap c = swap_put c.args.place c.args.path c.in_ok-old-2.old c.args.paths.now.entries c.insert-2.new.self.entries
    c.first_from-next.ensures.ordered c.insert-2.ensures.ordered
    (c.in_ok-old-2.ensures.entries ∙ ap (insert_entry place_cmp c.args.paths.now.entries c.args.place) c.in_ok-shared.ensures) c.in_ok-old-2.ensures.old

pub returns-clause-told : goal.returns-clause-told
returns-clause-told c = let held = c.args.paths.now.entries in let next = c.first_from-next.result in let z = c.args.place in
    put_changes c.in_ok-old-2.old held c.insert-2.new.self.entries z c.args.path (option_map entry_now next) c.first_from-next.ensures.found
    (c.in_ok-old-2.ensures.entries ∙ ap (insert_entry place_cmp held z) c.in_ok-shared.ensures) (elim c.else-taken.branch [
      | else-taken-via-then-taken+else-has_path w ↦ inr (λ k. true≢false (sym (w.has_path.ensures.1 k) ∙ w.if-has_path.false))
      | else-taken-via-else-taken w ↦ inl (sym c.stands_at-taken.ensures ∙ w.if-taken.false)
    ])

-- Another path comes, with its turns.
pub tidy-requires : goal.tidy-requires
tidy-requires c = parted_beside c.part.new.self.places.keys c.args.paths.now.entries c.insert-2.new.self.entries c.args.place c.args.path
    c.neighbour-asn.result c.of-beside.result c.of-beside.ensures c.neighbour-asn.ensures
    (c.in_ok-old-2.ensures.entries ∙ ap (insert_entry place_cmp c.args.paths.now.entries c.args.place) c.in_ok-shared.ensures)
    c.in_ok-idle.ensures.parted c.in_ok-idle.ensures.around

pub returns-clause-parted : goal.returns-clause-parted
returns-clause-parted c = elim c.if-idle.branch [
  | then-idle w ↦ rw w.turns-is w.tidy.ensures
  | else-idle w ↦ rw w.turns-is (parted_beside c.part.new.self.places.keys c.args.paths.now.entries c.insert-2.new.self.entries c.args.place c.args.path
      c.neighbour-asn.result c.of-beside.result c.of-beside.ensures c.neighbour-asn.ensures
      (c.in_ok-old-2.ensures.entries ∙ ap (insert_entry place_cmp c.args.paths.now.entries c.args.place) c.in_ok-shared.ensures)
      c.in_ok-idle.ensures.parted c.in_ok-idle.ensures.around)
]
