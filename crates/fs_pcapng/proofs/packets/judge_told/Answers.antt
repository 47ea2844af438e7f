use Rattle.fs_pcapng.proofs.Words.{◌≡◌, ◌≤◌, ◌+◌, ◌-◌, Some, length, take, drop, ap, sym, ◌∙◌, arith, slice_get, number, scan_of, wrong, told_by}
use Rattle.fs_pcapng.proofs.{Fitting.{behind_all}, Told.{four_more, which_said}}
use Rattle.fs_pcapng.specs.declared.fault.NgReason.TheVariants.{Interface as WrongInterface}
use Rattle.fs_pcapng.proofs.packets.judge_told.Goals as goal

pub returns-in-Some-clause-said : goal.returns-in-Some-clause-said
returns-in-Some-clause-said c =
    let frame = c.args.frame in
    let now = c.args.section.now in
    let octets = c.args.octets.now in
    let held : 4 ≤ length octets = omega (arith, c.if-octets-lt4.false) in
    let spot : c.args.taken - length octets + 4 ≡ frame.start + 8 + 4 = omega (arith, c.requires.place) in
    let rest : take (length octets - 4) (drop 4 octets) ≡ drop 4 octets = behind_all 4 (length octets - 4) octets (omega (arith, held)) in
    let found : Some c.in-Some.interface ≡ slice_get now.interfaces (number frame.order 4 (take 4 octets)) =
    sym c.in-Some.is ∙ c.interface.ensures ∙ ap (slice_get now.interfaces) c.read_u32.ensures in
    four_more c.judge_timed.result
    ∙ which_said frame now octets (scan_of 16 c.judge_timed.result) held
    (c.judge_timed.ensures.said ∙ (λ i. told_by frame (found i) (spot i) (rest i)))

pub returns-in-None-clause-said : goal.returns-in-None-clause-said
returns-in-None-clause-said c =
    let now = c.args.section.now in
    let octets = c.args.octets.now in
    let spot : c.args.taken - length octets ≡ c.args.frame.start + 8 = omega (arith, c.requires.place) in
    let none = sym c.in-None.is ∙ c.interface.ensures ∙ ap (slice_get now.interfaces) c.read_u32.ensures in
    which_said c.args.frame now octets (wrong WrongInterface (c.args.taken - length octets)) (omega (arith, c.if-octets-lt4.false))
    (ap (wrong WrongInterface) spot ∙ (λ i. told_by c.args.frame (none i) (c.args.frame.start + 8 + 4) (drop 4 octets)))
