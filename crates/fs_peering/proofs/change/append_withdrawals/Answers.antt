use Rattle.std.proofs.lemmas.List.{nil_from_length}
use Rattle.fs_base.specs.Bits.{afi_of}
use Rattle.fs_nlri.specs.Parts.{Ruled}
use Rattle.fs_attrs.specs.Writable.{are_rules_of}
use Rattle.fs_peering.specs.{Change.{fits_alone}, Keeper.{withdrawal_text}}
use Rattle.fs_peering.proofs.Words.{List, arith, list_all, true, ◌-◌, ◌==◌, ◌≡◌, subst, sym}
use Rattle.fs_peering.proofs.ChangeParts.{all_dropped, all_packed, all_taken, headed, pack_fits, packs_behind}
use Rattle.fs_peering.proofs.change.append_withdrawals.Goals as goal

pub append_withdrawal-requires-clause-of_family : goal.append_withdrawal-requires-clause-of_family
append_withdrawal-requires-clause-of_family c =
    subst (λ (l : List Ruled). are_rules_of c.args.family l ≡ true) (sym c.split_at.ensures.front)
    (all_taken (λ (rule : Ruled). afi_of rule.family == afi_of c.args.family) c.in_ok-count.count c.loop-rest.rest.now c.loop-rest.invariant.of_family)

pub append_withdrawal-requires-clause-room : goal.append_withdrawal-requires-clause-room
append_withdrawal-requires-clause-room c =
    let rest : List Ruled = c.loop-rest.rest.now in
    pack_fits _ _ _ _ _
    (headed _ _ c.in-len1-up.len_at_least c.first-item.is) c.in_ok-count.ensures.size c.split_at.ensures.front c.loop-rest.invariant.fit

pub loop-rest-preserved : goal.loop-rest-preserved
loop-rest-preserved c =
    let rest : List Ruled = c.loop-rest.rest.now in
    record {
      of_family =
          subst (λ (l : List Ruled). are_rules_of c.args.family l ≡ true) (sym c.split_at.ensures.back)
          (all_dropped (λ (rule : Ruled). afi_of rule.family == afi_of c.args.family) c.in_ok-count.count rest c.loop-rest.invariant.of_family);
      fit =
          subst (λ (l : List Ruled). list_all fits_alone l ≡ true) (sym c.split_at.ensures.back)
          (all_dropped fits_alone c.in_ok-count.count rest c.loop-rest.invariant.fit);
      text =
          packs_behind (withdrawal_text c.args.terms.now c.args.family) _ _ _ _
          _ _ _ _ _ (headed _ _ c.in-len1-up.len_at_least c.first-item.is)
          c.in_ok-count.ensures.size c.split_at.ensures.front c.split_at.ensures.back c.in_ok-append_withdrawal.ensures c.loop-rest.invariant.text;
    }

pub returns : goal.returns
returns c =
    all_packed (withdrawal_text c.args.terms.now c.args.family) _ _ _
    (nil_from_length c.loop-rest.rest.now (omega (arith, c.in_default.len_below))) c.loop-rest.invariant.text
