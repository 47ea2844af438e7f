use Rattle.fs_flows.proofs.Words.{◌≡◌, Some, None, sym, ◌∙◌, ap, subst, ContainsKey, get, get_key, insert_entry, is_at, lookup, prefix_cmp, AreSorted}
use Rattle.fs_flows.proofs.Words.{routes_of, put_kept}
use Rattle.fs_flows.proofs.{Apart.{ok_weaker, err_weaker}, PuttingInGroups.{put_found, put_new, insert_found, each_lookup}}
use Rattle.std.{specs.BTreeMap.Entry.{entry_key, entry_map_ref, entry_value, map_with_value, MatchEntry}, proofs.lemmas.Map.Steps.{set_value_same}}
use Rattle.fs_flows.proofs.groups.put_at.Goals as goal

pub put-requires : goal.put-requires
put-requires c = each_lookup (λ ks. AreSorted (routes_of ks)) (is_at (prefix_cmp c.args.destination)) c.args.groups.now.entries c.into_mut.result.now c.requires
    (sym c.in_ok-entry.ensures.value ∙ ap entry_value c.in-Occupied.is ∙ c.into_mut.ensures.value)

pub returns-in-Occupied-clause-ok : goal.returns-in-Occupied-clause-ok
returns-in-Occupied-clause-ok c =
    ok_weaker _ _ c.put.result (λ e. ap (λ m. m.entries)
    (c.groups-in-Occupied-2-1.given.1 (sym c.in_ok-entry.ensures.same_map ∙ ap (λ x. (entry_map_ref x).ghost_name) c.in-Occupied.is))
    ∙ ap (λ x. (map_with_value x c.put.new.self).entries) (sym c.in-Occupied.is) ∙ c.in_ok-entry.ensures.update.1 c.put.new.self
    ∙ ap (insert_entry prefix_cmp c.args.groups.now.entries c.args.destination) e
    ∙ put_found c.args.destination c.args.k c.args.groups.now.entries c.into_mut.result.now c.in_ok-entry.ensures.ordered
    (sym c.in_ok-entry.ensures.value ∙ ap entry_value c.in-Occupied.is ∙ c.into_mut.ensures.value)) c.put.ensures.ok

pub returns-in-Occupied-clause-err : goal.returns-in-Occupied-clause-err
returns-in-Occupied-clause-err c =
    err_weaker _ _ c.put.result (λ e. ap (λ m. m.entries)
    (c.groups-in-Occupied-2-1.given.1 (sym c.in_ok-entry.ensures.same_map ∙ ap (λ x. (entry_map_ref x).ghost_name) c.in-Occupied.is))
    ∙ ap (λ x. (map_with_value x c.put.new.self).entries) (sym c.in-Occupied.is) ∙ c.in_ok-entry.ensures.update.1 c.put.new.self
    ∙ ap (insert_entry prefix_cmp c.args.groups.now.entries c.args.destination) e
    ∙ insert_found c.args.destination c.into_mut.result.now c.args.groups.now.entries c.into_mut.result.now c.in_ok-entry.ensures.ordered found
    ∙ set_value_same (is_at (prefix_cmp c.args.destination)) c.args.groups.now.entries c.into_mut.result.now found) c.put.ensures.err where
      found : lookup (is_at (prefix_cmp c.args.destination)) c.args.groups.now.entries ≡ Some c.into_mut.result.now
      found = sym c.in_ok-entry.ensures.value ∙ ap entry_value c.in-Occupied.is ∙ c.into_mut.ensures.value

pub returns-in_ok-put-in-Vacant-clause-ok : goal.returns-in_ok-put-in-Vacant-clause-ok
returns-in_ok-put-in-Vacant-clause-ok c =
    ap (λ m. m.entries) (c.groups-in-Vacant-2-1.given.1 (sym c.in_ok-entry.ensures.same_map ∙ ap (λ x. (entry_map_ref x).ghost_name) c.in-Vacant.is))
    ∙ ap (λ x. (map_with_value x c.insert.result.now).entries) (sym c.in-Vacant.is) ∙ c.in_ok-entry.ensures.update.1 c.insert.result.now
    ∙ ap (insert_entry prefix_cmp c.args.groups.now.entries c.args.destination) (c.insert.ensures.value ∙ c.in_ok-put-in-Vacant.ensures.ok
    ∙ ap (put_kept c.args.k) c.new-group.ensures)
    ∙ put_new c.args.destination c.args.k c.args.groups.now.entries
    (subst (λ x. MatchEntry x (ContainsKey prefix_cmp c.args.groups.now c.args.destination
    × (get_key prefix_cmp c.args.groups.now c.args.destination ≡ Some (entry_key c.in_ok-entry.field-0)))
    (get prefix_cmp c.args.groups.now c.args.destination ≡ None)) c.in-Vacant.is c.in_ok-entry.ensures.found)
