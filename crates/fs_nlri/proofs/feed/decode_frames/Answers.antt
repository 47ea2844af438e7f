use Rattle.fs_nlri.proofs.Fed.{none_taken, one_more}
use Rattle.fs_nlri.proofs.feed.decode_frames.Goals as goal

pub frames-init : goal.frames-init
frames-init c = none_taken c.args.family c.args.octets.now c.args.out.now.items

pub frames-preserved : goal.frames-preserved
frames-preserved c =
    one_more c.args.family c.args.octets.now c.frames.rest.now c.args.out.now.items c.frames.out.items c.push.new.self.items c.in-Ok.rule
    c.in-Ok.count c.frames.invariant c.in-Ok.ensures.family
    c.in-Ok.ensures.found c.in_ok-push-in-Ok.ensures.items
