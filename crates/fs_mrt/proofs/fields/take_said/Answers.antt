use Rattle.fs_mrt.proofs.{Words.{rules, ◌≡◌, ◌≤◌, ap, drop, sym, ◌∙◌, big_number}, Messages.{behind_first, message_ends, message_reads}}
use Rattle.fs_mrt.proofs.fields.take_said.Goals as goal

pub returns-in-Err-take_part-2-clause-reads : goal.returns-in-Err-take_part-2-clause-reads
returns-in-Err-take_part-2-clause-reads g c =
    let some : 19 ≤ c.args.size = search rules in
    let says : big_number 2 (drop 16 c.take_part-2.new.into) ≡ c.args.size =
    ap (λ l. big_number 2 l) (sym (behind_first 16 c.take_part-2.new.into)) ∙ sym c.read_u16.ensures ∙ (search rules) in
    message_ends {change = c.args.change} (search rules) c.args.size c.take_part-2.new.into c.take_part-3.new.into some says
    c.in_default-take_part.ensures.reads c.in-Err-take_part-2.ensures.reads

pub returns-clause-reads : goal.returns-clause-reads
returns-clause-reads g c =
    let some : 19 ≤ c.args.size = search rules in
    let says : big_number 2 (drop 16 c.take_part-2.new.into) ≡ c.args.size =
    ap (λ l. big_number 2 l) (sym (behind_first 16 c.take_part-2.new.into)) ∙ sym c.read_u16.ensures ∙ (search rules) in
    message_reads {change = c.args.change} (search rules) c.args.size c.take_part-2.new.into c.take_part-3.new.into some says
    c.in_default-take_part.ensures.reads c.in_default-take_part-2.ensures.front c.in_default-take_part-2.ensures.reads
