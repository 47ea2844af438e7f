use Rattle.fs_ops.proofs.Words.{◌≡◌, ◌-◌, [], ◌∷◌, true, length, take, drop, get_or, refl, sym, subst, ◌∙◌, Contains, width_of}
use Rattle.fs_ops.proofs.Found.{HasRead, said_at, first_and_tail, next_found, ends_here}
use Rattle.fs_ops.proofs.reading.read_single.Goals as goal

pub returns-clause-found : goal.returns-clause-found
returns-clause-found c =
    let octets = c.args.octets.now in
    let operator = get_or octets 0 0 in
    let tail = take (length octets - 1) (drop 1 octets) in
    let whole = first_and_tail octets c.in-len1-up.len_at_least in
    let allowed = subst (Contains c.args.widths.now) c.width_code_of.ensures.value (c.allows.ensures.0 c.if-not-allows.false) in
    let read : HasRead c.args.kind c.args.widths.now octets (operator ∷ tail) [] = record { before = []; middle = tt; split = whole; means = refl } in
    let found = next_found c.args.kind c.args.widths.now octets [] operator tail read allowed (rw (← c.width_of-len.ensures.value) c.if-tail-len.false) in
    let next : drop (width_of operator) tail ≡ c.split_at.result.1.now = cc in
    let said : said_at c.args.kind true operator tail ≡ (c.clear_ignored-operator.result, c.read_number-number.result) = cc in
    ends_here c.args.kind c.args.widths.now octets c.split_at.result.1.now _ operator (rw (next, said) at found) (sym c.is_last.ensures
    ∙ c.if-not-is_last.false)
