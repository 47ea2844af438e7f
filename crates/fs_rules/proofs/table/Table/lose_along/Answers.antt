use Rattle.fs_rules.proofs.Words.{◌≡◌, ◌+◌, sym, ap, subst, ◌∙◌, List, [], ◌∷◌, drop, arith, IsStrictlySortedBy, keys_of, drop_all, Prefix}
use Rattle.fs_rules.proofs.Words.{place_total, place_cmp, AreAmong, Held}
use Rattle.fs_rules.proofs.{Entries.{sorted-remove_entry}, Losing.{is_place, losing_starts, losing_ends}}
use Rattle.fs_rules.proofs.{Prefixes.{among_more, none_among, along_more}, Quiet.{quiet_starts, quiet_more}, Stepping.{rest_is}}
use Rattle.fs_rules.proofs.table.Table.lose_along.Goals as goal

pub loop-key-init : goal.loop-key-init
loop-key-init g c = record {
  losing = losing_starts c.args.peer c.args.self.now c.args.steps.now;
  among = c.requires.among;
  ordered = c.requires.ordered;
  covers = λ base h. h;
  quiet = λ stay. quiet_starts c.args.peer c.args.self.now c.args.changes.now stay;
}

pub loop-key-preserved : goal.loop-key-preserved
loop-key-preserved g c = record {
  losing = along_more c.args.peer c.args.self.now c.loop-key.self c.withdraw_unicast_telling.new.self c.args.steps.now c.loop-key.steps
      c.withdraw_unicast_telling.new.steps c.prefix.result c.loop-key.invariant.losing
      c.withdraw_unicast_telling.ensures.removed c.withdraw_unicast_telling.ensures.later c.withdraw_unicast_telling.ensures.steps
      c.withdraw_unicast_telling.ensures.idle;
  among = among_more c.args.peer c.prefix.result rest c.loop-key.self c.withdraw_unicast_telling.new.self c.loop-key.invariant.ordered
      c.withdraw_unicast_telling.ensures.removed
      (subst (λ (ds : List Prefix). AreAmong c.args.peer ds c.loop-key.self.unicast) first c.loop-key.invariant.among);
  ordered = subst (λ (held : Held). IsStrictlySortedBy place_cmp (keys_of held.unicast)) (sym c.withdraw_unicast_telling.ensures.removed)
      (sorted-remove_entry place_cmp place_total (is_place c.prefix.result c.args.peer) c.loop-key.self.unicast c.loop-key.invariant.ordered);
  covers = λ base h. c.withdraw_unicast_telling.ensures.covers base (c.loop-key.invariant.covers base h);
  quiet = λ stay. quiet_more c.args.peer c.prefix.result c.loop-key.self c.withdraw_unicast_telling.new.self c.args.changes.now c.loop-key.changes
      c.withdraw_unicast_telling.new.changes c.withdraw_unicast_telling.ensures.removed c.withdraw_unicast_telling.ensures.quiet
      (c.loop-key.invariant.quiet stay);
} where
  rest : List Prefix
  rest = drop (c.loop-key.key-index + 1) c.args.prefixes.now

  first : drop c.loop-key.key-index c.args.prefixes.now ≡ c.prefix.result ∷ rest
  first = rest_is c.args.prefixes.now c.loop-key.key-index c.key-item.result c.loop-key-test.true c.key-item.is
      ∙ ap (λ (d : Prefix). d ∷ rest) (sym c.prefix.ensures)

pub returns-clause-removed : goal.returns-clause-removed
returns-clause-removed g c = losing_ends c.args.peer c.args.self.now c.loop-key.self c.args.steps.now c.loop-key.steps c.loop-key.invariant.losing
    (none_among c.args.peer c.loop-key.self.unicast
    (subst (λ (ds : List Prefix). AreAmong c.args.peer ds c.loop-key.self.unicast) none c.loop-key.invariant.among)) where
      none : drop c.loop-key.key-index c.args.prefixes.now ≡ []
      none = drop_all c.loop-key.key-index c.args.prefixes.now (omega (arith, c.loop-key-test.false))

pub returns-clause-quiet : goal.returns-clause-quiet
returns-clause-quiet g c = λ stay. (c.loop-key.invariant.quiet stay).same
