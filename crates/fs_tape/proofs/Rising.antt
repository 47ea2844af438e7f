-- The moments of a tape of the second version don't fall.
use Rattle.fs_tape.proofs.Words.{◌≡◌, ℕ, List, [], ◌∷◌, ◌≤◌, take, sym, ◌∙◌, ap, subst, arith, Config, AllFrom, At, Fitting, at, first_record, stop}
use Rattle.fs_tape.proofs.Words.{record_found, records_shrink, IsTimed, Stands, head_size, AreFrom, MomentsRise, after, Timed, records, stands, Two}
use Rattle.fs_tape.proofs.{Heads.{head_told}, Items.{has_head}}
use Rattle.fs_input.proofs.PartsOfRecords.{coming_fit}

abbrev Timely : Stands → Timed → Type 0
Timely now timed = IsTimed now.version now.moment timed.moment

fitting : Fitting (first_record records) Timely after
fitting now found h =
    let one = record_found records now found h in
    let told = head_told now.state.config now.state.version now.state.moment (take (head_size now.state.version) now.octets) one.said one.size one.head in
    let moved : stands now.state.config now.state.version one.said.moment ≡ found.1.state = ap (λ (a : At Stands). a.state) one.behind in (
      subst (Timely now.state) one.item told.timed,
      sym moved ∙ ap (λ (part : Timed). stands now.state.config now.state.version part.moment) one.item,
    )

rises : (config : Config) (moment least : ℕ) (items : List Timed) → least ≤ moment → AllFrom Timely after (stands config Two moment) items
    → AreFrom least items
rises config moment least [] within all = tt
rises config moment least (part ∷ parts) within all =
    let first : moment ≤ part.moment = all.0 in
    (omega (arith, within, first), rises config part.moment least parts (omega (arith, within, first)) all.1)

pub moments_rise : MomentsRise
moments_rise config limit taken moment left =
    rises config moment moment _ (omega arith)
    (coming_fit (first_record records) (stop records) Timely after (records_shrink records has_head) fitting limit taken (at (stands config Two moment) left))
