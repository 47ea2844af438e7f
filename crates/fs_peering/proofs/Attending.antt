-- What an end hears of a stream, round by round.
use Rattle.fs_peering.proofs.Words.{Told, WireEnds, end_at, ◌≡◌, ℕ, List, [], ◌∷◌, ◌++◌, ◌+◌, Bool, Option, length, length-append, arith, refl, ap}
use Rattle.fs_peering.proofs.Words.{◌∙◌, ◌≤◌, sym, map-append, Grew, Grew-refl, Grew-trans, EndsSo, HeardOut, HearsOut, Listened, ListenedTo, Listens}
use Rattle.fs_peering.proofs.Words.{Stance, Round, octets_in, Stopped}
use Rattle.fs_peering.proofs.{Composing.{part_none, part_then}, Courses.{octets_more}, WrittenInParts.{told_and, told_same}}

pub listens_none : (stance : Stance) (place begun : ℕ) (told : Option WireEnds) (answers : Option (List ℕ))
    → Listens stance stance place begun begun told told answers answers
listens_none stance place begun told answers = record {
  given = [];
  grew = Grew-refl answers;
  told = told_same _
      (λ ends. (record { heard = []; said = []; part = part_none stance place ends; asked = refl }, omega arith)) told;
}

abbrev listened_more : (s0 s1 s2 : Stance) (place : ℕ) (given : List ℕ) (moment count said : ℕ) (a b c : WireEnds)
    → Listened s0 s1 place given a b → Round s1 s2 place moment count said b c → Listened s0 s2 place (given ++ moment ∷ []) a c
listened_more s0 s1 s2 place given moment count said a b c l round = record {
  heard = l.heard ++ (moment, round.got) ∷ [];
  said = l.said ++ round.out;
  part = part_then _ _ _ _ _ _ _ _ _ _ _ l.part round.part;
  asked = map-append (λ piece. piece.0) l.heard ((moment, round.got) ∷ []) ∙ ap (λ (moments : List ℕ). moments ++ moment ∷ []) l.asked;
}

-- and so many octets
counts_more : (s0 s1 s2 : Stance) (place : ℕ) (given : List ℕ) (moment count said begun so_far : ℕ) (a b c : WireEnds)
    (l : ListenedTo s0 s1 place begun so_far given a b)
    (round : Round s1 s2 place moment count said b c) → begun + length (octets_in (l.0.heard ++ (moment, round.got) ∷ [])) ≡ so_far + count
counts_more s0 s1 s2 place given moment count said begun so_far a b c l round =
    let whole : length (octets_in (l.0.heard ++ (moment, round.got) ∷ [])) ≡ length (octets_in l.0.heard) + length round.got =
    ap length (octets_more l.0.heard moment round.got) ∙ length-append (octets_in l.0.heard) round.got in
    omega (arith, l.1, whole, round.counted)

-- One round more.
module _ {s0 s1 : Stance} {place begun so_far : ℕ} {before now : Option WireEnds} {answers asked : Option (List ℕ)}
    (l : Listens s0 s1 place begun so_far before now answers asked)
    (s2 : Stance) (moment count said : ℕ) (later : Option WireEnds) (last : Option (List ℕ)) (round : Told (Round s1 s2 place moment count said) now later)
    (grew : Grew asked last (moment ∷ [])) where
  abbrev given : List ℕ
  given = l.given ++ moment ∷ []

  all_grew : Grew answers last given
  all_grew = Grew-trans answers asked last l.given (moment ∷ []) l.grew grew

  pub listens_more : (all : ℕ) → all ≡ so_far + count → Listens s0 s2 place begun all before later answers last
  listens_more all e = record {
    given = given;
    grew = all_grew;
    told = told_and (ListenedTo s0 s1 place begun so_far l.given) (Round s1 s2 place moment count said) (ListenedTo s0 s2 place begun all given)
        (λ a b c t r. (
          listened_more s0 s1 s2 place l.given moment count said a b c t.0 r,
          counts_more s0 s1 s2 place l.given moment count said begun so_far a b c t r ∙ sym e,
        )) before now later l.told round;
  }

  -- the last one, and why it is the last
  pub hears_out : (heard : Stopped) (over : Bool) (counted limit : ℕ) → so_far + count ≤ limit
      → ((left : List ℕ) → (count ≡ 0 → left ≡ []) → EndsSo heard over counted limit left)
      → HearsOut heard s0 s2 over begun counted place limit before later answers last
  hears_out heard over counted limit few ends = record {
    given = given;
    grew = all_grew;
    told = told_and (ListenedTo s0 s1 place begun so_far l.given) (Round s1 s2 place moment count said)
        (HeardOut heard s0 s2 over begun counted place limit given)
        (λ a b c before t. record {
          listened = listened_more s0 s1 s2 place l.given moment count said a b c before.0 t;
          within = let all = counts_more s0 s1 s2 place l.given moment count said begun so_far a b c before t in omega (arith, all, few);
          some = let one : length given ≡ length l.given + 1 = length-append l.given (moment ∷ []) in omega (arith, one);
          ends = ends (end_at place c).left t.none;
        }) before now later l.told round;
  }
