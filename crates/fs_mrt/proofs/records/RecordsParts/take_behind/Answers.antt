use Rattle.fs_mrt.proofs.Words.{rules, arith, ◌≡◌, ◌+◌, ◌-◌, ◌≤◌, ap, ◌∙◌, option_map, gives, reads_as, reads_ends, spoken_from, head_of, headed_in}
use Rattle.fs_mrt.proofs.Words.{moment_behind, record_behind}
use Rattle.fs_mrt.proofs.records.RecordsParts.take_behind.Goals as goal

pub returns-in-Err-clause-reads : goal.returns-in-Err-clause-reads
returns-in-Err-clause-reads g c =
    let octets = c.args.octets.now in
    let taken = c.args.counted.now.taken in
    let before = c.self.inside.moment in
    let held : 12 ≤ taken = c.requires.place in
    let spot : taken - 4 ≡ taken - 12 + 8 = omega (arith, held) in
    let head : c.read_head-head.result ≡ head_of (taken - 12 + 8) octets =
    c.read_head-head.ensures ∙ ap (λ n. head_of n octets) spot in
    let peers : c.as_slice.result.now ≡ c.args.config.now.peers = search rules in
    let moment : before ≡ c.args.self.now = search rules in
    reads_as (record_behind c.args.config.now.peers c.args.self.now (taken - 12) octets)
    (λ rest i. headed_in (peers i) (moment i) (head i) taken rest)
    (reads_ends (λ heard. gives (heard, moment_behind before heard))
    (λ told. (option_map (λ heard. spoken_from heard c.take_body.new.into) told, c.args.self.now)) c.in-Err.ensures.reads)
