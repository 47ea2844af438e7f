use Rattle.fs_pcapng.proofs.Words.{◌≡◌, ◌≤◌, ◌+◌, take, drop, length, refl, ap, sym, ◌∙◌, subst, arith, take_all, number, reads_as, reads_then}
use Rattle.fs_pcapng.proofs.Words.{option_behind, option_in, padded}
use Rattle.fs_pcapng.proofs.Fitting.{behind_all, value_fits}
use Rattle.fs_pcapng.proofs.options.take_option.Goals as goal

pub returns-clause-reads : goal.returns-clause-reads
returns-clause-reads g c =
    let order = c.args.order in
    let start = c.args.counted.now.taken in
    let head = c.take_front.new.into in
    let four : length head ≡ 4 = c.take_front.ensures.room in
    let front : take 4 head ≡ head = take_all 4 head (omega (arith, four)) in
    let code : c.read_u16-code.result ≡ number order 2 (take 4 head) = c.read_u16-code.ensures ∙ ap (λ l. number order 2 l) (sym front) in
    let size : c.read_u16-size.result ≡ number order 2 (drop 2 (take 4 head)) =
    c.read_u16-size.ensures ∙ ap (λ l. number order 2 l) (behind_all 2 2 head (omega (arith, four))) ∙ ap (λ l. number order 2 (drop 2 l)) (sym front) in
    let low : 4 + c.padded.result ≤ c.args.now.left = omega (arith, c.if-padded-now.false) in
    let room : 4 + padded c.read_u16-size.result ≤ c.args.now.left = subst (λ n. 4 + n ≤ c.args.now.left) c.padded.ensures low in
    reads_as (option_in order c.args.now) (λ octets. refl)
    (reads_then (option_behind order c.args.now start) (λ later. later) c.in_default.ensures.reads
    (reads_as (option_behind order c.args.now start (take 4 head))
    (value_fits order c.args.now start c.read_u16-code.result c.read_u16-size.result (take 4 head) code size room c.take_front.new.counted.taken)
    c.take_value.ensures.reads))
