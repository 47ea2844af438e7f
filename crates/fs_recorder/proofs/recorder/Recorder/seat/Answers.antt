use Rattle.fs_recorder.proofs.{Words.{ap, subst, sym, ◌∙◌, ◌++◌, ◌∷◌, [], refl, part_whole, IsKnown, Recording, Err}, Seating.{known_added}}
use Rattle.fs_recorder.proofs.{Connecting.{did_seat, broke_seat}, Telling.{part_where}}
use Rattle.fs_recorder.proofs.recorder.Recorder.seat.Goals as goal

pub returns-in_err-up-clause-ran : goal.returns-in_err-up-clause-ran
returns-in_err-up-clause-ran g c = rw (← c.self.view_is)
    (broke_seat c.from_residual.result c.from_residual.ensures.1 c.args.seat _ _ _ _ (part_where (ap Err) c.in_err-up.ensures.err))

pub returns-in_err-add-clause-ran : goal.returns-in_err-add-clause-ran
returns-in_err-add-clause-ran g c = rw (← c.self.view_is)
    (broke_seat c.from_residual-in_err-add.result c.from_residual-in_err-add.ensures.1 c.args.seat _ _ _ _
    (record {
      writable = c.in_ok-up.ensures.told.writable;
      part = part_whole _ _ _ c.in_ok-up.ensures.told.grew;
      full = λ limited. absurd cc;
    }))

pub returns-clause-ran : goal.returns-clause-ran
returns-clause-ran g c = rw (← c.self.view_is)
    (did_seat c.args.seat _ _ _ _ c.in_ok-up.ensures.told c.in_ok-up.ensures.begun c.in_ok-up.ensures.others
    (subst (λ (r : Recording). IsKnown r.books.desk.config c.args.seat) (sym c.self.view_is) c.requires) c.in_ok-add.ensures refl)

pub returns-clause-stay : goal.returns-clause-stay
returns-clause-stay g c = λ known.
    known_added c.args.self.now c.up.new.self.desk.config c.args.seat c.add.new.seats.items
    (c.in_ok-up.ensures.told.config_is ∙ ap (λ (r : Recording). r.books.desk.config) c.self.view_is)
    (c.in_ok-add.ensures ∙ ap (λ (r : Recording). r.seats ++ c.args.seat ∷ []) c.self.view_is) c.requires known
