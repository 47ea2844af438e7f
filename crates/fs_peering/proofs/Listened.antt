-- How what a receiving end hears and says over a wire follows from how it stands.
use Rattle.fs_peering.proofs.Words.{Closed, Config, Desked, Down, Ended, Last, Peer, Phase, WireEnds, bounded_session, closed, is_established}
use Rattle.fs_peering.proofs.Words.{peer_of, standing_at_desk, still, ◌≡◌, ◌<◌, ◌≤◌, ℕ, arith, List, [], Bool, true, false, Option, Some, None, refl}
use Rattle.fs_peering.proofs.Words.{ap, sym, ◌∙◌, subst, if◌then◌else◌, standing_at, Standing, Live, Ending, Done, HeardOut, HearsOut, Pieces, Stance}
use Rattle.fs_peering.proofs.Words.{octets_in, Stopped, All, Over, HasClosed, IsHearing, Receives, bare, is_ended, tape_of, IsReceiving, ListensOver}
use Rattle.fs_peering.proofs.Words.{ListensSo, MeetsLimit, EndsHearing}
use Rattle.fs_peering.proofs.WrittenInParts.{told_as}
use Rattle.fs_peering.proofs.Receiving.{closed_of, ended_there, hearing_of, life_tape, stands_open}
use Rattle.fs_peering.specs.declared.{tell.Ending.TheVariants.{Ended as EndedEarly}, listening.Stopped.TheVariants.{AtLimit as MetIt}}
use Rattle.fs_peering.specs.{Listening.{EndsSo as StopsSo}, Listen.{EndsSo, Listens, is_settled}}
use Rattle.fs_desk.proofs.Standing.{desk_stands}

-- what the octets of an open session come to
still_there : (last : Last) (phase : Phase) → standing_at last ≡ Live phase.state → (found : Phase) × ((last ≡ still found) × (found.state ≡ phase.state))
still_there (still found) phase e = (found, (refl, ap (λ (at : Standing). elim at [ Live state ↦ state | Down ↦ found.state | Ended why ↦ found.state ]) e))
still_there (closed why) phase e = absurd cc

module _ (desk : Desked) (peer : ℕ) (whose : Peer) (heard : Pieces) (said : List ℕ) (h : IsHearing desk peer whose heard said) where
  stands_so : standing_at (bounded_session desk.config peer (octets_in heard)).1 ≡ Live h.session.phase.state
  stands_so =
      sym (ap (λ (o : Option (List ℕ)). elim o [ None ↦ Down | Some octets ↦ standing_at (bounded_session desk.config peer octets).1 ])
      (life_tape _ _))
      ∙ sym (desk_stands desk.config (tape_of peer (octets_in heard)) desk peer h.played)
      ∙ stands_open desk peer _ h.session_is h.alive

  found_phase : (found : Phase) × (((bounded_session desk.config peer (octets_in heard)).1 ≡ still found) × (found.state ≡ h.session.phase.state))
  found_phase = still_there _ h.session.phase stands_so

  pub receiving : IsReceiving desk peer whose heard said
  receiving = record {
    alive = sym (ap (λ p. p.closed) h.point_is) ∙ h.alive;
    played = h.played;
    phase = found_phase.0;
    found =
        found_phase.1.0;
    said_is = h.said_is;
  }

  pub settled_so : (b : Bool) → is_settled (standing_at_desk desk peer) ≡ b → is_established receiving.phase.state ≡ b
  unfolding receiving found_phase
  settled_so b e =
      ap is_established found_phase.1.1 ∙ sym (ap is_settled (stands_open desk peer _ h.session_is h.alive)) ∙ e

module _ (desk : Desked) (peer count limit : ℕ) (heard : Pieces) (said left : List ℕ) (r : Receives desk peer count heard said) where
  pub ends_so : (b : Bool) → is_settled (standing_at_desk desk peer) ≡ b → is_ended (standing_at_desk desk peer) ≡ false → count < limit → left ≡ []
      → EndsSo b desk peer r.whose limit heard said left
  ends_so b e alive within none =
      let h : IsHearing desk peer r.whose heard said = hearing_of _ _ _ _ _ alive r.stands in
      record {
        receives = receiving _ _ _ _ _ h;
        settled = settled_so _ _ _ _ _ h _ e;
        within = subst (λ (n : ℕ). n < limit) r.counted within;
        none = none;
      }

  pub meets_so : is_ended (standing_at_desk desk peer) ≡ false → limit ≤ count → MeetsLimit desk peer r.whose limit heard said
  meets_so alive met = record {
    receives = receiving _ _ _ _ _ (hearing_of _ _ _ _ _ alive r.stands);
    met = subst (λ (n : ℕ). limit ≤ n) r.counted met;
  }

  pub closes_so : (why : Closed) → standing_at_desk desk peer ≡ Ended why → HasClosed desk.config peer r.whose heard said why
  closes_so why e = closed_of _ _ _ _ _ _ e r.stands

-- the clause, from how the end stands
module _ (first last : Desked) (peer peer' first_count count limit : ℕ) (same : peer' ≡ peer) (own : bare last ≡ bare first)
    (start : Receives first peer first_count [] []) (t0 t1 : Option WireEnds) (answers answers' : Option (List ℕ)) where
  abbrev s0 : Stance
  s0 = λ heard said. Receives first peer first_count heard said

  abbrev s1 : Stance
  s1 = λ heard said. Receives last peer' count heard said

  config_is : last.config ≡ first.config
  config_is = ap (λ (d : Desked). d.config) own

  listens_so : (ending : Ending) (heard : Stopped) (over : Bool) (hears : HearsOut heard s0 s1 over first_count count 0 limit t0 t1 answers answers')
      → ((pieces : Pieces) (said left : List ℕ) (r : Receives last peer count pieces said) → StopsSo heard over count limit left
      → ListensSo ending last peer r.whose limit pieces said left)
      → ListensOver ending first.config last peer limit t0 t1 answers answers'
  listens_so ending heard over hears ends = record {
    given = hears.given;
    grew = hears.grew;
    told = told_as _ _ one _ _ hears.told;
  }
    where
      one : (a b : WireEnds) → HeardOut heard s0 s1 over first_count count 0 limit hears.given a b → Listens ending first.config last peer limit hears.given a b
      one a b l =
          let r : Receives last peer count l.listened.heard l.listened.said =
          subst (λ (n : ℕ). Receives last n count l.listened.heard l.listened.said) same (l.listened.part.stands [] [] start) in
          record {
            whose = r.whose;
            whose_is = ap (λ (c : Config). peer_of peer c.peers) (sym config_is) ∙ r.whose_is;
            config_is = config_is;
            heard = l.listened.heard;
            said = l.listened.said;
            read = l.listened.part.read;
            within = let few = l.within in omega (arith, few);
            wrote = l.listened.part.wrote;
            asked = l.listened.asked;
            ends = ends l.listened.heard l.listened.said b.first.left r l.ends;
          }

  pub listens_as : (heard : Stopped) (ending : Ending) (over : Bool) → HearsOut heard s0 s1 over first_count count 0 limit t0 t1 answers answers'
      → over ≡ is_ended (standing_at_desk last peer)
      → EndsHearing heard (standing_at_desk last peer) ending → ListensOver ending first.config last peer limit t0 t1 answers answers'
  listens_as heard ending over hears o is = listens_so _ _ _ hears (λ pieces said left r stops. by heard is pieces said left r stops)
    where
      all : (pieces : Pieces) (said left : List ℕ) (r : Receives last peer count pieces said) → StopsSo All over count limit left → (b : Bool)
          → is_settled (standing_at_desk last peer) ≡ b
          → ListensSo (if b then Done else EndedEarly) last peer r.whose limit pieces said left
      all pieces said left r e true s = ends_so _ _ _ _ _ _ _ r _ s (sym o ∙ e.0) e.1.0 e.1.1
      all pieces said left r e false s = ends_so _ _ _ _ _ _ _ r _ s (sym o ∙ e.0) e.1.0 e.1.1

      by : (heard : Stopped) → EndsHearing heard (standing_at_desk last peer) ending
          → (pieces : Pieces) (said left : List ℕ) (r : Receives last peer count pieces said)
          → StopsSo heard over count limit left → ListensSo ending last peer r.whose limit pieces said left
      by Over is pieces said left r e =
          let found = ended_there _ (sym o ∙ e) in
          subst (λ (x : Ending). ListensSo x last peer r.whose limit pieces said left) (sym (is found.0 found.1))
          (closes_so _ _ _ limit _ _ left r _ found.1)
      by MetIt is pieces said left r e =
          subst (λ (x : Ending). ListensSo x last peer r.whose limit pieces said left) (sym is)
          (meets_so _ _ _ _ _ _ left r (sym o ∙ e.0) e.1)
      by All is pieces said left r e =
          subst (λ (x : Ending). ListensSo x last peer r.whose limit pieces said left) (sym is) (all _ _ _ r e _ refl)
