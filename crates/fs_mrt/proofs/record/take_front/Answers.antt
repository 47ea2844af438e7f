use Rattle.fs_mrt.proofs.Words.{rules, ◌≡◌, ◌≤◌, ◌+◌, Some, take, drop, subst, ap, sym, ◌∙◌, Ok, big_number, Reads, moment, whole, field, ends_size}
use Rattle.fs_mrt.proofs.Words.{family_of, front_size, states_size, Cut}
use Rattle.fs_mrt.proofs.{Bodies.{front_reads}, Messages.{behind_first}}
use Rattle.fs_mrt.proofs.record.take_front.Goals as goal

pub returns-clause-reads : goal.returns-clause-reads
returns-clause-reads g c =
    let octets = c.take_part.new.into in
    let first : c.front_size-first.result ≡ front_size c.args.shape = c.front_size-first.ensures.exact in
    let says : family_of (big_number 2 (drop c.front_size-first.result octets)) ≡ Some c.in-Some.family =
    ap (λ l. family_of (big_number 2 l)) (sym (behind_first c.front_size-first.result octets)) ∙ (search rules) in
    let four : 4 ≤ front_size c.args.shape + 2 = search rules in
    let some : front_size c.args.shape + 2 ≤ c.args.head.size = search rules in
    let most : c.args.head.size ≤ 65536 = search rules in
    let room : ends_size c.args.shape c.in-Some.family + states_size c.args.shape ≤ c.args.head.size = search rules in
    front_reads c.args.head.spot c.args.head.seconds c.args.head.size c.args.shape octets c.in-Some.family c.time_of.result c.asn_of.result four some most
    (subst (λ n. family_of (big_number 2 (drop n octets)) ≡ Some c.in-Some.family) first says) room c.time_of.ensures c.asn_of.ensures
    (subst
    (λ n. Reads g.F.Files.tells (moment g.F.Files c.args.files.now c.args.counted.now) (moment g.F.Files c.take_part.new.files c.take_part.new.counted)
    (field (n + 2) whole) Cut (λ _. take (n + 2) octets) (Ok c.in_default.field-0))
    first c.in_default.ensures.reads)
