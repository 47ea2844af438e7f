use Rattle.fs_nlri.proofs.Words.{◌≡◌, ℕ, ◌-◌, List, [], ◌∷◌, ◌++◌, length, take, drop, refl, ap, sym, subst, ◌∙◌, append_assoc, append-nil}
use Rattle.fs_nlri.proofs.Words.{take-append-drop, take_rest, Family, Memory, Ruled, IsFrame, Frames, Appends, Stops}

-- Frames one after the other, as a feed takes them.

pub none_taken : (family : Family) (octets : List ℕ) (old : List Ruled) → Appends family octets octets old old
none_taken family octets old = record { front = []; rules = []; frames = refl; parts = refl; added = sym (append-nil old) }

pub frames_more : (family : Family) (front frame : List ℕ) (rules : List Ruled) (rule : Ruled) → Frames family front rules → rule.family ≡ family
    → IsFrame frame rule → Frames family (front ++ frame) (rules ++ rule ∷ [])
frames_more family front frame [] rule frames own is =
    (frame, [], ap (λ (l : List ℕ). l ++ frame) frames ∙ sym (append-nil frame), own, is, refl)
frames_more family front frame (first ∷ rules) rule (head, rest, split, family_is, spelled, frames) own is = (
  head,
  rest ++ frame,
  ap (λ (l : List ℕ). l ++ frame) split ∙ append_assoc head rest frame,
  family_is,
  spelled,
  frames_more family rest frame rules rule frames own is,
)

pub one_more : (family : Family) (octets rest : List ℕ) (old new more : List Ruled) (rule : Ruled) (count : ℕ) → Appends family octets rest old new
    → rule.family ≡ family → IsFrame (take count rest) rule → more ≡ new ++ rule ∷ []
    → Appends family octets (take (length rest - count) (drop count rest)) old more
one_more family octets rest old new more rule count taken own is pushed =
    subst (λ (l : List ℕ). Appends family octets l old more) (sym (take_rest rest count)) (record {
      front = taken.front ++ take count rest;
      rules = taken.rules ++ rule ∷ [];
      frames = frames_more family taken.front (take count rest) taken.rules rule taken.frames own is;
      parts =
          taken.parts ∙ ap (λ (l : List ℕ). taken.front ++ l) (sym (take-append-drop count rest))
          ∙ sym (append_assoc taken.front (take count rest) (drop count rest));
      added = pushed ∙ ap (λ (l : List Ruled). l ++ rule ∷ []) taken.added ∙ append_assoc old taken.rules (rule ∷ []);
    })

pub stops_at_once : (family : Family) (octets : List ℕ) (old : List Ruled) → Stops family octets old old Memory
stops_at_once family octets old = record { rest = octets; taken = none_taken family octets old; bad = tt }
