use Rattle.fs_speaker.proofs.Closing.{closes_only_so, closes_where_due}
use Rattle.fs_speaker.proofs.laws.closes_only_so.Goals as goal

pub returns-clause-only : goal.returns-clause-only
returns-clause-only c = λ config peer sending events can first. closes_only_so config peer sending can events first

pub returns-clause-due : goal.returns-clause-due
returns-clause-due c = λ config peer sending events first due. closes_where_due config peer sending events first due
