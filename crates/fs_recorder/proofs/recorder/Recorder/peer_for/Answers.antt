use Rattle.fs_recorder.proofs.{Words.{ap, subst, sym, ◌∙◌, Config, IsSome, Recording, peer_of}, Seating.{FoundBy, found_by, found_peer}}
use Rattle.fs_recorder.proofs.recorder.Recorder.peer_for.Goals as goal

pub returns-in-Some-clause-known : goal.returns-in-Some-clause-known
returns-in-Some-clause-known c =
    let found : FoundBy c.as_slice-peers.result.now c.in-Some.peer = found_by _ _ _ _ _ (sym c.free_by.ensures ∙ c.in-Some.is) in
    subst (λ peers. IsSome (peer_of c.in-Some.peer.number peers))
    (c.as_slice-peers.ensures ∙ ap (λ (k : Config). k.peers) c.config-config.ensures ∙ ap (λ (r : Recording). r.books.desk.config.peers) c.self.view_is)
    (found_peer found.test c.as_slice-peers.result.now c.in-Some.peer found.found)

pub returns-in-Some-first_peer-clause-known : goal.returns-in-Some-first_peer-clause-known
returns-in-Some-first_peer-clause-known c =
    subst (λ peers. IsSome (peer_of c.in-Some-first_peer.peer.number peers))
    (c.as_slice-peers.ensures ∙ ap (λ (k : Config). k.peers) c.config-config.ensures ∙ ap (λ (r : Recording). r.books.desk.config.peers) c.self.view_is)
    (found_peer _ c.as_slice-peers.result.now c.in-Some-first_peer.peer (sym c.first_peer.ensures ∙ c.in-Some-first_peer.is))
