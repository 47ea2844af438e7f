use Rattle.fs_desk.proofs.Words.{◌++◌, Option, Some, ap, sym, ◌∙◌, subst, unicast_in, flows_in, Announces, same}
use Rattle.fs_desk.proofs.{Idle.{both_none}, ChangesJoined.{on_ok, given_join}}
use Rattle.fs_attrs.specs.declared.update.Routes.{Routes}
use Rattle.fs_desk.proofs.apply.give.Goals as goal

pub returns-in-Some-Unicast-clause-changes : goal.returns-in-Some-Unicast-clause-changes
returns-in-Some-Unicast-clause-changes g c =
    on_ok c.give_prefixes-in-Some-Unicast.result
    (λ gave. subst (λ (routes : Option Routes). Announces c.args.peer (c.args.prefixes ++ unicast_in routes)
    (flows_in routes) c.args.given.path c.args.given.actions c.args.watched.now.table c.give_prefixes-in-Some-Unicast.new.watched.table)
    (sym (c.in-Some-Unicast.is ∙ ap Some c.in-Some-Unicast.field-0-is))
    (given_join c.args.peer c.args.given.path c.args.prefixes c.in-Some-Unicast.more same c.args.watched.now.table c.give_prefixes.new.watched.table
    c.give_prefixes-in-Some-Unicast.new.watched.table c.in_ok-give_prefixes.ensures.changes gave))
    c.give_prefixes-in-Some-Unicast.ensures.changes

pub returns-in-Some-Unicast-clause-told : goal.returns-in-Some-Unicast-clause-told
returns-in-Some-Unicast-clause-told g c =
    on_ok c.give_prefixes-in-Some-Unicast.result (λ told base h. told base (c.in_ok-give_prefixes.ensures.told base h))
    c.give_prefixes-in-Some-Unicast.ensures.told

pub returns-in-Some-Flow-clause-told : goal.returns-in-Some-Flow-clause-told
returns-in-Some-Flow-clause-told g c =
    on_ok c.give_rules.result (λ told base h. told base (c.in_ok-give_prefixes.ensures.told base h)) c.give_rules.ensures.told

pub returns-in-Some-Unicast-clause-idle : goal.returns-in-Some-Unicast-clause-idle
returns-in-Some-Unicast-clause-idle g c = λ none no_rule.
    let each = both_none c.args.prefixes (unicast_in c.args.routes) none in
    on_ok c.give_prefixes-in-Some-Unicast.result (λ same. same ∙ c.in_ok-give_prefixes.ensures.idle each.0)
    (c.give_prefixes-in-Some-Unicast.ensures.idle (sym (ap unicast_in (c.in-Some-Unicast.is ∙ ap Some c.in-Some-Unicast.field-0-is)) ∙ each.1))
