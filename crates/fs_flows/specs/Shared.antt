-- A flow route as the table keeps it.
use Rattle.fs_validate.specs.declared.route.FlowRoute.{FlowRoute}
use Rattle.fs_flows.specs.declared.route.SharedRoute.{SharedRoute}

-- it is the flow route of the same peer, rule, path and actions
abbrev pub flow_of : SharedRoute → FlowRoute
flow_of r = record { peer = r.peer; rule = r.rule; path = r.path; actions = r.actions }
