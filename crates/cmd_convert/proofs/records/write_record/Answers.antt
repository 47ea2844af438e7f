use Rattle.cmd_convert.proofs.{Words.{rules, sends_as, sends_stopped, sends_then}, Converting.{record_parts}}
use Rattle.cmd_convert.proofs.records.write_record.Goals as goal

pub returns-in_err-put : goal.returns-in_err-put
returns-in_err-put g c =
    sends_as (record_parts c.args.kind c.args.stamp.peer c.args.stamp.moment _ c.args.payload.now (search rules))
    (sends_stopped c.args.payload.now _ c.from_residual.result c.from_residual.ensures.1 (sends_as c.head_octets.ensures c.in_err-put.ensures.sends))

pub returns : goal.returns
returns g c =
    sends_as (record_parts c.args.kind c.args.stamp.peer c.args.stamp.moment _ c.args.payload.now (search rules))
    (sends_then (sends_as c.head_octets.ensures c.in_ok-put.ensures.sends) c.put-2.ensures.sends)
