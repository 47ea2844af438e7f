use Rattle.fs_desk.proofs.Words.{◌≡◌, ℕ, List, ap, refl, sym, ◌∙◌, nat_cmp, is_at, set_value, Live, Desked, TakesPiece, Watched}
use Rattle.std.proofs.lemmas.Option.{none-some}
use Rattle.fs_desk.proofs.{Handed.{desk_handed}, Idle.{desk_notes_none}}
use Rattle.fs_desk.proofs.Played.{Feeds, desk_of, desk_same, down_at, others_go_on, others_stay, plays_octets, plays_skipped, replies_behind, silent_behind}
use Rattle.fs_desk.proofs.desk.Desk.octets.Goals.{Joined-receive, in-Ok, in-Err}
use Rattle.fs_desk.proofs.desk.Desk.octets.Goals as goal

-- the session of a peer that is up takes the piece
feeds : (c : Joined-receive) (sessions : List (ℕ × Live))
    → sessions ≡ set_value (is_at (nat_cmp c.args.peer)) c.self.inside.sessions.entries c.receive.new.session
    → TakesPiece c.args.peer c.in-Some.session.now c.receive.new.session c.self.inside.watched.table c.receive.new.watched.table c.args.piece.now
    c.args.replies.now.items c.receive.new.replies.items
    → Feeds c.args.peer c.args.piece.now c.args.replies.now.items c.receive.new.replies.items c.in-Some.session.now c.receive.new.session
    c.args.self.now (desk_of c.self.inside.config.now c.receive.new.watched.table c.receive.new.watched.changes sessions)
feeds c sessions e takes = rw (sym c.self.view_is) (record {
  on = record { config_is = refl; there = sym c.in-Some.ensures.value; sessions_are = e };
  takes = takes;
  stays = λ h. let all = c.receive.ensures.closed h in (all.0, (ap (λ (w : Watched). w.table) all.1, all.2));
})

pub returns-clause-played : goal.returns-clause-played
returns-clause-played c = elim c.match-receive.branch [
  | in-Ok w ↦ rw w.result-is (plays_octets (feeds c _ (c.get_mut.follows.holds c.receive.new.session).0 w.in-Ok.ensures.taken))
  | in-Err w ↦ rw w.result-is tt
]

pub returns-in_default-clause-played : goal.returns-in_default-clause-played
returns-in_default-clause-played c =
    plays_skipped c.args.peer c.args.piece.now (down_at c.args.peer c.self.view_is c.in_default.ensures.value)
    (desk_same c.get_mut.follows.holds-at-none c.self.view_is)

pub returns-clause-replied : goal.returns-clause-replied
returns-clause-replied c = elim c.match-receive.branch [
  | in-Ok w ↦ rw (w.result-is, w.replies-is) (replies_behind (feeds c _ (c.get_mut.follows.holds c.receive.new.session).0 w.in-Ok.ensures.taken))
  | in-Err w ↦ rw w.result-is tt
]

pub returns-in_default-clause-replied : goal.returns-in_default-clause-replied
returns-in_default-clause-replied c = silent_behind c.args.peer c.args.piece.now c.args.replies.now.items
    (down_at c.args.peer c.self.view_is c.in_default.ensures.value)

pub returns-clause-handed : goal.returns-clause-handed
returns-clause-handed c = elim c.match-receive.branch [
  | in-Ok w ↦ rw (w.result-is, w.replies-is)
      (desk_handed (feeds c _ (c.get_mut.follows.holds c.receive.new.session).0 w.in-Ok.ensures.taken) w.in-Ok.ensures.handed)
  | in-Err w ↦ rw w.result-is tt
]

pub returns-in_default-clause-handed : goal.returns-in_default-clause-handed
returns-in_default-clause-handed c = λ expired config items found found' played here here' alive.
    absurd (none-some found (sym (down_at c.args.peer c.self.view_is c.in_default.ensures.value) ∙ here))

pub returns-clause-idle : goal.returns-clause-idle
returns-clause-idle c = elim c.match-receive.branch [
  | in-Ok w ↦ rw w.result-is (λ idle.
      let f = feeds c _ (c.get_mut.follows.holds c.receive.new.session).0 w.in-Ok.ensures.taken in
      desk_notes_none f.on c.self.inside.watched (ap (λ (d : Desked). d.held) c.self.view_is) (ap (λ (d : Desked). d.changes) c.self.view_is)
      (λ shut. ap (λ (w : Watched). w.changes) (c.receive.ensures.closed shut).1)
      (λ alive. w.in-Ok.ensures.idle alive (idle c.in-Some.session.now f.on.there alive)))
  | in-Err w ↦ rw w.result-is tt
]

pub returns-in_default-clause-idle : goal.returns-in_default-clause-idle
returns-in_default-clause-idle c = λ idle loses. ap (λ (d : Desked). d.changes) c.self.view_is

pub returns-clause-others : goal.returns-clause-others
returns-clause-others c = elim c.match-receive.branch [
  | in-Ok w ↦ rw w.result-is (others_go_on (feeds c _ (c.get_mut.follows.holds c.receive.new.session).0 w.in-Ok.ensures.taken).on)
  | in-Err w ↦ rw w.result-is tt
]

pub returns-in_default-clause-others : goal.returns-in_default-clause-others
returns-in_default-clause-others c = others_stay c.args.peer (desk_same c.get_mut.follows.holds-at-none c.self.view_is)
