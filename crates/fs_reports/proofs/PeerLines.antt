-- The lines of peers, by the sessions that a desk keeps and by those of the tape's octets.
use Rattle.fs_reports.proofs.Words.{◌≡◌, ℕ, List, [], ◌∷◌, ◌++◌, refl, ap, ◌∙◌, Desked, Played, standing_of, standing_at_desk, listing_of, listing}
use Rattle.fs_reports.proofs.Words.{desk_text, peer_line, peers_text, numbers_of, family_text}
use Rattle.fs_base.specs.declared.{config.Config.{Config}, prefix.Family.TheVariants.{V4, V6}}
use Rattle.fs_speaker.specs.declared.Standing.{Standing}
use Rattle.fs_tape.specs.Tape.{Item}
use Rattle.fs_desk.proofs.Standing.{desk_stands}

peers_same : (numbers : List ℕ) (a b : ℕ → Standing) → ((n : ℕ) → a n ≡ b n) → peers_text numbers a ≡ peers_text numbers b
peers_same [] a b same = refl
peers_same (n ∷ numbers) a b same =
    ap (λ (s : Standing). peer_line n s ++ peers_text numbers a) (same n)
    ∙ ap (λ (l : List ℕ). peer_line n (b n) ++ l) (peers_same numbers a b same)

-- the desk's listing is that of the items that were played
pub desk_lists : (config : Config) (items : List Item) (desk : Desked) → Played config items desk → desk_text desk ≡ listing config items desk.held
desk_lists config items desk played =
    ap (λ (c : Config). listing_of c (standing_at_desk desk) desk.held) played.config_is
    ∙ ap (λ (l : List ℕ). l ++ (family_text V4 desk.held ++ family_text V6 desk.held))
    (peers_same (numbers_of config.peers) (standing_at_desk desk) (standing_of config items)
    (λ number. desk_stands config items desk number played))
