use Rattle.fs_conf.proofs.{Words.{◌≡◌, true, false, refl, sym, subst, ◌∙◌, table_view}, Documents.{never_utf8, not_utf8, of_document, unparsed}}
use Rattle.fs_conf.specs.Fault.{IsUnread}
use Rattle.fs_conf.proofs.faults.read_table.Goals as goal

pub returns-in-Err-clause-unread : goal.returns-in-Err-clause-unread
returns-in-Err-clause-unread c =
    subst (IsUnread c.args.octets.now) (sym c.broken_at.ensures.fault) (record {
      place = c.valid_up_to.result;
      within = c.broken_at.ensures.within;
      utf8 = λ no_text. c.valid_up_to.ensures ∙ c.in-Err.ensures.valid_len;
      position_is = refl;
      none = not_utf8 c.args.octets.now c.in-Err.ensures.cases.0;
    })

pub returns-in-Ok-table_from_str-clause-ok : goal.returns-in-Ok-table_from_str-clause-ok
returns-in-Ok-table_from_str-clause-ok c =
    let read = c.in-Ok.ensures.cases in
    of_document c.args.octets.now c.in-Ok.text.now (table_view c.in-Ok-table_from_str.table) read.0 read.1 c.in-Ok-table_from_str.ensures.ok

pub returns-in-Some-clause-unread : goal.returns-in-Some-clause-unread
returns-in-Some-clause-unread c =
    let read = c.in-Ok.ensures.cases in
    subst (IsUnread c.args.octets.now) (sym c.broken_at-in-Some.ensures.fault) (record {
      place = c.in-Some.span.start;
      within = c.broken_at-in-Some.ensures.within;
      utf8 = λ no_text. absurd (never_utf8 c.args.octets.now read.1 no_text);
      position_is = refl;
      none = unparsed c.args.octets.now c.in-Ok.text.now read.0 read.1
          (c.in-Err-table_from_str.ensures.refused (λ memory. let both : true ≡ false = c.in-Some.ensures.none.1 memory in absurd cc));
    })
