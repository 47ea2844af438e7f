use Rattle.fs_recorder.proofs.Words.{subst, sym, [], Played}
use Rattle.fs_recorder.proofs.recorder.Recorder.begin.Goals as goal

pub returns-clause-stands : goal.returns-clause-stands
returns-clause-stands g c = record {
  played = subst (λ config. Played config [] c.in_ok-books.books.desk) (sym c.in_ok-books.ensures.config) c.in_ok-books.ensures.agrees.played;
  seats_are = c.new.ensures.items;
  live = tt;
  apart = tt;
  known = tt;
}
