use Rattle.cmd_gen.proofs.Words.{◌≡◌, ◌⊎◌, inl, inr, ℕ, ◌+◌, [], ◌∷◌, refl, open_of}
use Rattle.cmd_gen.proofs.message.open_message.Goals as goal

pub returns : goal.returns
returns c = by c.args.peer c.requires
  where
    by : (peer : ℕ) → (peer ≡ 1) ⊎ (peer ≡ 2)
        → 255 ∷ 255 ∷ 255 ∷ 255 ∷ 255 ∷ 255 ∷ 255 ∷ 255 ∷ 255 ∷ 255 ∷ 255 ∷ 255 ∷ 255 ∷ 255 ∷ 255 ∷ 255 ∷ 0 ∷ 37 ∷ 1 ∷ 4
        ∷ 253 ∷ (232 + peer) ∷ 0 ∷ 180 ∷ 198 ∷ 51 ∷ 100 ∷ peer ∷ 8 ∷ 2 ∷ 6 ∷ 65 ∷ 4 ∷ 0 ∷ 0 ∷ 253 ∷ (232 + peer) ∷ []
        ≡ open_of peer
    by peer (inl e) = rw e refl
    by peer (inr e) = rw e refl
