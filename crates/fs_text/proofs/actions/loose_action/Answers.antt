use Rattle.fs_text.proofs.{Words.{map, as_part}, Found.{found}}
use Rattle.fs_text.proofs.actions.loose_action.Goals as goal

pub returns : goal.returns
returns c = λ action is parts.
    found c.args.name.now action (map as_part c.args.parts.now) c.loose_octets.result is parts (record {
      bytes = c.loose_octets.ensures.bytes;
      packets = c.loose_octets.ensures.packets;
      control = c.loose_octets.ensures.control;
      mark = c.loose_octets.ensures.mark;
      as2 = c.loose_octets.ensures.as2;
      ip4 = c.loose_octets.ensures.ip4;
      as4 = c.loose_octets.ensures.as4;
    })
