-- What stands in the text when some frames have been read, and what follows at the end of a field.
use Rattle.std.proofs.Common.{◌≡◌, ℕ, ◌+◌, ◌-◌, ◌≤◌, List, [], ◌∷◌, ◌++◌, length, take, drop, ap, sym, subst, ◌∙◌, arith, append_assoc, length-append}
use Rattle.std.proofs.lemmas.List.{append-nil, take-append-drop, take_rest}
use Rattle.fs_base.specs.declared.prefix.Family.{Family}
use Rattle.fs_nlri.{specs.{Parts.{Ruled}, Spelling.{IsFrame, IsLength}, Feed.{Frames}}, proofs.Fed.{frames_more}}
use Rattle.fs_reports.specs.Report.{frame_line, frame_lines}

-- the frames so far, each with its line, and the number of the next one
pub record HasReported (family : Family) (octets rest text : List ℕ) (number : ℕ) : Type 0 where
  pub front : List ℕ
  pub rules : List Ruled
  pub frames : Frames family front rules
  pub split : octets ≡ front ++ rest
  pub numbered : number ≡ 1 + length rules
  pub enough : length rules ≤ length front
  pub lines : text ≡ frame_lines 1 rules

lines_more : (number : ℕ) (rules : List Ruled) (rule : Ruled)
    → frame_lines number (rules ++ rule ∷ []) ≡ frame_lines number rules ++ frame_line (number + length rules) rule
lines_more number [] rule =
    let same : number ≡ number + 0 = omega arith in
    append-nil (frame_line number rule) ∙ ap (λ (n : ℕ). frame_line n rule) same
lines_more number (first ∷ rules) rule =
    let same : number + 1 + length rules ≡ number + length (first ∷ rules) = omega arith in
    ap (λ (l : List ℕ). frame_line number first ++ l) (lines_more (number + 1) rules rule
    ∙ ap (λ (n : ℕ). frame_lines (number + 1) rules ++ frame_line n rule) same)
    ∙ sym (append_assoc (frame_line number first) (frame_lines (number + 1) rules) (frame_line (number + length (first ∷ rules)) rule))

-- a frame has an octet
head_some : (head : List ℕ) (len : ℕ) → IsLength head len → 1 ≤ length head
head_some [] len is = absurd is
head_some (octet ∷ head) len is = omega arith

frame_some : (frame : List ℕ) (rule : Ruled) → IsFrame frame rule → 1 ≤ length frame
frame_some frame rule is =
    let some : 1 ≤ length is.head = head_some is.head (length is.value) is.size in
    let whole : length frame ≡ length is.head + length is.value = ap length is.split ∙ length-append is.head is.value in
    omega arith

pub one_reported : (family : Family) (octets rest text more : List ℕ) (number count : ℕ) (rule : Ruled) → HasReported family octets rest text number
    → rule.family ≡ family → IsFrame (take count rest) rule → more ≡ text ++ frame_line number rule
    → HasReported family octets (take (length rest - count) (drop count rest)) more (number + 1)
one_reported family octets rest text more number count rule so_far own is written =
    subst (λ (l : List ℕ). HasReported family octets l more (number + 1)) (sym (take_rest rest count)) (record {
      front = so_far.front ++ take count rest;
      rules = so_far.rules ++ rule ∷ [];
      frames = frames_more family so_far.front (take count rest) so_far.rules rule so_far.frames own is;
      split =
          so_far.split ∙ ap (λ (l : List ℕ). so_far.front ++ l) (sym (take-append-drop count rest))
          ∙ sym (append_assoc so_far.front (take count rest) (drop count rest));
      numbered = let counted : number ≡ 1 + length so_far.rules = so_far.numbered in omega (arith, length-append so_far.rules (rule ∷ []));
      enough =
          let before : length so_far.rules ≤ length so_far.front = so_far.enough in
          let some : 1 ≤ length (take count rest) = frame_some (take count rest) rule is in
          omega (arith, length-append so_far.rules (rule ∷ []), length-append so_far.front (take count rest));
      lines =
          written ∙ ap (λ (l : List ℕ). l ++ frame_line number rule) so_far.lines
          ∙ ap (λ (n : ℕ). frame_lines 1 so_far.rules ++ frame_line n rule) so_far.numbered
          ∙ sym (lines_more 1 so_far.rules rule);
    })
