use Rattle.fs_pcapng.proofs.Words.{◌≡◌, take, drop, length, ap, sym, ◌∙◌, arith, take_all, number, and, gives, gives_for, reads_ends, reads_then}
use Rattle.fs_pcapng.proofs.Words.{close_in, described_behind, Interface}
use Rattle.fs_pcapng.proofs.{Bodies.{interface_of}, Fitting.{behind_all}}
use Rattle.fs_pcapng.proofs.packets.take_described.Goals as goal

pub returns-in-Ok-close_block-clause-reads : goal.returns-in-Ok-close_block-clause-reads
returns-in-Ok-close_block-clause-reads g c =
    let frame = c.args.frame in
    let head = c.take_front.new.into in
    let unit = c.in-Ok.unit in
    let eight : length head ≡ 8 = c.take_front.ensures.room in
    let front : take 8 head ≡ head = take_all 8 head (omega (arith, eight)) in
    let link : c.read_u16.result ≡ number frame.order 2 (take 8 head) = c.read_u16.ensures ∙ ap (λ l. number frame.order 2 l) (sym front) in
    let snap : c.read_u32.result ≡ number frame.order 4 (drop 4 (take 8 head)) =
    c.read_u32.ensures ∙ ap (λ l. number frame.order 4 l) (behind_all 4 4 head (omega (arith, eight)))
    ∙ ap (λ l. number frame.order 4 (drop 4 l)) (sym front) in
    reads_then (described_behind frame) (λ (i : Interface). i) c.in_default.ensures.reads
    (reads_then (λ unit. and (close_in frame) (λ _. gives (interface_of frame.order (take 8 head) unit))) (λ (i : Interface). i) c.in-Ok.ensures.reads
    (reads_then (λ _. gives (interface_of frame.order (take 8 head) unit)) (λ (i : Interface). i) c.in-Ok-close_block.ensures.reads
    (gives_for (interface_of frame.order (take 8 head) unit) (λ (i : Interface). i) (record { link = c.read_u16.result; snap = c.read_u32.result; unit = unit })
    (λ i. record { link = (sym link) i; snap = (sym snap) i; unit = unit }))))

pub returns-in-Err-read_options-clause-reads : goal.returns-in-Err-read_options-clause-reads
returns-in-Err-read_options-clause-reads g c =
    let frame = c.args.frame in
    let head = c.take_front.new.into in
    reads_then (described_behind frame) (λ (i : Interface). i) c.in_default.ensures.reads
    (reads_ends (λ unit. and (close_in frame) (λ _. gives (interface_of frame.order (take 8 head) unit))) (λ (i : Interface). i)
    c.in-Err-read_options.ensures.reads)

pub returns-in-Err-close_block-clause-reads : goal.returns-in-Err-close_block-clause-reads
returns-in-Err-close_block-clause-reads g c =
    let frame = c.args.frame in
    let head = c.take_front.new.into in
    reads_then (described_behind frame) (λ (i : Interface). i) c.in_default.ensures.reads
    (reads_then (λ unit. and (close_in frame) (λ _. gives (interface_of frame.order (take 8 head) unit))) (λ (i : Interface). i) c.in-Ok.ensures.reads
    (reads_ends (λ _. gives (interface_of frame.order (take 8 head) c.in-Ok.unit)) (λ (i : Interface). i) c.in-Err-close_block.ensures.reads))
