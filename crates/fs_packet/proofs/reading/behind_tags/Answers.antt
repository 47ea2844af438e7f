use Rattle.fs_packet.proofs.{Words.{ap, sym, ◌∙◌, arith, is_tag}, Tags.{tagged_more, tagged_type}}
use Rattle.fs_packet.proofs.reading.behind_tags.Goals as goal

pub loop-tags-preserved : goal.loop-tags-preserved
loop-tags-preserved c =
    tagged_more c.args.octets.now c.loop-tags.tags c.loop-tags.place (omega arith) (omega arith) (ap is_tag (sym c.number_at.ensures)
    ∙ sym c.if-not-is_tag.ensures) c.loop-tags.invariant

pub returns-then-not-is_tag : goal.returns-then-not-is_tag
returns-then-not-is_tag c =
    c.behind_type.ensures ∙ tagged_type c.args.octets.now c.loop-tags.tags c.loop-tags.place (omega arith) (omega arith)
    (ap is_tag (sym c.number_at.ensures) ∙ sym c.if-not-is_tag.ensures) c.loop-tags.invariant
