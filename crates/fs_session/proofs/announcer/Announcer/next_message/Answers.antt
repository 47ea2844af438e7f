use Rattle.fs_session.proofs.{Words.{◌≡◌, true, sym, subst, list_all, Terms, is_short}, Fitting.{all_short}}
use Rattle.fs_session.proofs.announcer.Announcer.next_message.Goals as goal

pub append_next-requires-clause-fits : goal.append_next-requires-clause-fits
append_next-requires-clause-fits c =
    let own = c.self.inside.intake in
    let sending = c.self.inside.sending in
    subst (λ (t : Terms). list_all (is_short t sending.as_path) sending.rules ≡ true) (sym c.terms-terms.ensures)
    (all_short own.side.config.now own.side.peer sending own.line.phase.four c.self.invariant.1).1
