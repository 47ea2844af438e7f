use Rattle.cmd_convert.proofs.Words.{◌∙◌, ap, sym, List, ℕ, Bool, sends_as, item_text_at, received, Two, greeting}
use Rattle.cmd_convert.proofs.making.write_greeting.Goals as goal

pub returns-then-wide : goal.returns-then-wide
returns-then-wide g c =
    sends_as (ap (λ (octets : List ℕ). item_text_at Two c.args.stamp.moment (received c.args.stamp.peer octets))
    (c.wide_greeting.ensures ∙ ap (λ (b : Bool). greeting c.args.asn b) (sym c.if-wide.true))) c.write_record.ensures

pub returns-else-wide : goal.returns-else-wide
returns-else-wide g c =
    sends_as (ap (λ (octets : List ℕ). item_text_at Two c.args.stamp.moment (received c.args.stamp.peer octets))
    (c.narrow_greeting.ensures ∙ ap (λ (b : Bool). greeting c.args.asn b) (sym c.if-wide.false))) c.write_record-else-wide.ensures
