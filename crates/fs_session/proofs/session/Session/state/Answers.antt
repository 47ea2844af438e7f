use Rattle.fs_session.proofs.Words.{◌≡◌, subst, Live, state_of}
use Rattle.fs_session.proofs.session.Session.state.Goals as goal

pub returns : goal.returns
returns c = subst (λ (o : Live). c.state.result ≡ state_of o) c.self.view_is c.state.ensures
