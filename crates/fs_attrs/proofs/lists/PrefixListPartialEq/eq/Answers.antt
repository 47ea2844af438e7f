use Rattle.fs_attrs.proofs.Alike.{equal_prefixes}
use Rattle.fs_attrs.proofs.lists.PrefixListPartialEq.eq.Goals as goal

pub returns : goal.returns
returns c = equal_prefixes c.self.inside.items.items c.other.inside.items.items c.args.self.now c.args.other.now c.eq.result c.self.view_is
    c.other.view_is c.eq.ensures
