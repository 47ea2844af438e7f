-- Loops that look for the first fault.
use Rattle.fs_conf.proofs.Words.{◌≡◌, ℕ, suc, ◌+◌, ◌<◌, ◌≤◌, ◌==◌, Bool, true, false, if◌then◌else◌, List, [], ◌∷◌, ◌++◌, length, take, drop, get_or}
use Rattle.fs_conf.proofs.Words.{Option, Some, None, refl, sym, ap, ◌∙◌, arith, list_any, bytes_eq, map, not, ◌||◌, cond, option_map, string_bytes}
use Rattle.fs_conf.proofs.Words.{String, Global, Bor, members_view, zero, nat_le, ◌&&◌, codes, is_some, Data, Members, get_member, item}
use Rattle.fs_conf.proofs.Words.{Value, view, items_view, items_view-drop}
use Rattle.std.specs.Option.{option_or}
use Rattle.std.specs.{Map.{keys_of}, Prelude.{find}}
use Rattle.fs_conf.specs.{Fields.{is_named}, declared.{fault.KeyReason.TheVariants.{Value as NoValue}, faults.Kind.{Kind}}}
use Rattle.fs_conf.specs.Fault.{KeyFault, each_fault, first_again, first_other, item_count, items_fault, judged, number_of_peer, peer_fault}
use Rattle.fs_conf.specs.Fault.{numbers_of_peers, own_fault, reason_at, repeated, unfit}

-- an item without a fault, and one with a fault

faults_left : (judge : ℕ → Data → Option KeyFault) (items : List Value) (i : ℕ) (value : Value) → i < length items → value ≡ get_or items i value
    → each_fault judge (suc i) (items_view (drop i items))
    ≡ option_or (judge (suc i) (view value)) (each_fault judge (suc (suc i)) (items_view (drop (i + 1) items)))
faults_left judge items i value inside is =
    ap (each_fault judge (suc i)) (items_view-drop items i value inside ∙ ap (λ v. item (view v) (items_view (drop (i + 1) items))) (sym is))

pub fault_next : (judge : ℕ → Data → Option KeyFault) (items : List Value) (i place : ℕ) (value : Value) → i < length items
    → value ≡ get_or items i value → place ≡ suc i
    → None ≡ judge place (view value) → each_fault judge (suc i) (items_view (drop i items)) ≡ each_fault judge (suc place) (items_view (drop (i + 1) items))
fault_next judge items i place value inside is same none =
    let here : judge (suc i) (view value) ≡ None = ap (λ k. judge k (view value)) (sym same) ∙ sym none in
    faults_left judge items i value inside is
    ∙ ap (λ (found : Option KeyFault). option_or found (each_fault judge (suc (suc i)) (items_view (drop (i + 1) items)))) here
    ∙ ap (λ k. each_fault judge (suc k) (items_view (drop (i + 1) items))) (sym same)

pub fault_found : (judge : ℕ → Data → Option KeyFault) (items : List Value) (i place : ℕ) (value : Value) (fault : KeyFault) → i < length items
    → value ≡ get_or items i value → place ≡ suc i
    → Some fault ≡ judge place (view value) → each_fault judge (suc i) (items_view (drop i items)) ≡ Some fault
fault_found judge items i place value fault inside is same some =
    let here : judge (suc i) (view value) ≡ Some fault = ap (λ k. judge k (view value)) (sym same) ∙ sym some in
    faults_left judge items i value inside is
    ∙ ap (λ (found : Option KeyFault). option_or found (each_fault judge (suc (suc i)) (items_view (drop (i + 1) items)))) here

-- the numbers of the peers

abbrev pub numbers_in : List Value → List ℕ
numbers_in items = numbers_of_peers (items_view items)

pub any_number : (n : ℕ) (items : List Value)
    → list_any (λ value. n == number_of_peer (view value)) items ≡ list_any (λ earlier. n == earlier) (numbers_in items)
any_number n [] = refl
any_number n (value ∷ items) = rw (any_number n items) refl

numbers_size : (items : List Value) → length (numbers_in items) ≡ length items
numbers_size [] = refl
numbers_size (value ∷ items) = ap suc (numbers_size items)

numbers_front : (i : ℕ) (items : List Value) → numbers_in (take i items) ≡ take i (numbers_in items)
numbers_front zero items = refl
numbers_front (suc i) [] = refl
numbers_front (suc i) (value ∷ items) = ap (λ (ns : List ℕ). number_of_peer (view value) ∷ ns) (numbers_front i items)

numbers_behind : (items : List Value) (i : ℕ) (value : Value) → i < length items → value ≡ get_or items i value
    → drop i (numbers_in items) ≡ number_of_peer (view value) ∷ drop (suc i) (numbers_in items)
numbers_behind [] i value inside is = absurd (omega (arith, inside))
numbers_behind (first ∷ items) zero value inside is = ap (λ v. number_of_peer (view v) ∷ numbers_in items) (sym is)
numbers_behind (first ∷ items) (suc i) value inside is = numbers_behind items i value (omega (arith, inside)) is

front_more : (i n : ℕ) (ns : List ℕ) → drop i ns ≡ n ∷ drop (suc i) ns → take (suc i) ns ≡ take i ns ++ n ∷ []
front_more zero n [] e = absurd cc
front_more zero n (m ∷ ns) e = let same : m ≡ n = cc in ap (λ k. k ∷ []) same
front_more (suc i) n [] e = absurd cc
front_more (suc i) n (m ∷ ns) e = ap (λ (rest : List ℕ). m ∷ rest) (front_more i n ns e)

again_step : (i n : ℕ) (ns : List ℕ) (b : Bool) → drop i ns ≡ n ∷ drop (suc i) ns → list_any (λ earlier. n == earlier) (take i ns) ≡ b
    → first_again (take i ns) (drop i ns) ≡ (if b then Some (suc (length (take i ns))) else first_again (take (suc i) ns) (drop (suc i) ns))
again_step i n ns b here e =
    ap (first_again (take i ns)) here
    ∙ ap (λ (c : Bool). if c then Some (suc (length (take i ns))) else first_again (take i ns ++ n ∷ []) (drop (suc i) ns)) e
    ∙ ap (λ (front : List ℕ). if b then Some (suc (length (take i ns))) else first_again front (drop (suc i) ns)) (sym (front_more i n ns here))

among : (items : List Value) (i n : ℕ) (b : Bool) → b ≡ list_any (λ value. n == number_of_peer (view value)) (take i items)
    → list_any (λ earlier. n == earlier) (take i (numbers_in items)) ≡ b
among items i n b e = ap (list_any (λ earlier. n == earlier)) (sym (numbers_front i items)) ∙ sym (any_number n (take i items)) ∙ sym e

here_is : (items : List Value) (i n : ℕ) (value : Value) → i < length items → value ≡ get_or items i value → n ≡ number_of_peer (view value)
    → drop i (numbers_in items) ≡ n ∷ drop (suc i) (numbers_in items)
here_is items i n value inside is same = numbers_behind items i value inside is ∙ ap (λ k. k ∷ drop (suc i) (numbers_in items)) (sym same)

one_more : (i : ℕ) → suc i ≡ i + 1
one_more i = omega arith

pub again_next : (items : List Value) (i n : ℕ) (value : Value) → i < length items → value ≡ get_or items i value → n ≡ number_of_peer (view value)
    → false ≡ list_any (λ item. n == number_of_peer (view item)) (take i items)
    → first_again (take i (numbers_in items)) (drop i (numbers_in items)) ≡ first_again (take (i + 1) (numbers_in items)) (drop (i + 1) (numbers_in items))
again_next items i n value inside is same e =
    again_step i n (numbers_in items) false (here_is items i n value inside is same) (among items i n false e)
    ∙ ap (λ k. first_again (take k (numbers_in items)) (drop k (numbers_in items))) (one_more i)

size_of : (i : ℕ) (ns : List ℕ) → i < length ns → length (take i ns) ≡ i
size_of zero ns h = refl
size_of (suc i) [] h = absurd (omega (arith, h))
size_of (suc i) (n ∷ ns) h = ap suc (size_of i ns (omega (arith, h)))

pub again_found : (items : List Value) (i n : ℕ) (value : Value) → i < length items → value ≡ get_or items i value → n ≡ number_of_peer (view value)
    → true ≡ list_any (λ item. n == number_of_peer (view item)) (take i items)
    → first_again (take i (numbers_in items)) (drop i (numbers_in items)) ≡ Some (i + 1)
again_found items i n value inside is same e =
    again_step i n (numbers_in items) true (here_is items i n value inside is same) (among items i n true e)
    ∙ ap Some (ap suc (size_of i (numbers_in items) (omega (arith, inside, numbers_size items))) ∙ one_more i)

pub again_ends : (items : List Value) (i : ℕ) → length items ≤ i → first_again (take i (numbers_in items)) (drop i (numbers_in items)) ≡ None
again_ends items i past = ap (first_again (take i (numbers_in items))) (empty i (numbers_in items) (omega (arith, past, numbers_size items)))
  where
    empty : (i : ℕ) (ns : List ℕ) → length ns ≤ i → drop i ns ≡ []
    empty zero [] h = refl
    empty (suc i) [] h = refl
    empty zero (n ∷ ns) h = absurd (omega (arith, h))
    empty (suc i) (n ∷ ns) h = empty i ns (omega (arith, h))

-- the first key that is none of the names: the map's keys are the members' keys

any_now : (names : List (Bor (List ℕ))) (key : List ℕ)
    → is_named names key ≡ list_any (λ name. bytes_eq name key) (map (λ (name : Bor (List ℕ)). name.now) names)
any_now [] key = refl
any_now (name ∷ names) key = ap (λ b. bytes_eq name.now key || b) (any_now names key)

pub other_is : (names : List (Bor (List ℕ))) (entries : List (String Global × Value))
    → option_map string_bytes (find (λ key. not (is_named names (string_bytes key))) (keys_of entries))
    ≡ first_other (map (λ (name : Bor (List ℕ)). name.now) names) (members_view entries)
other_is names [] = refl
other_is names (entry ∷ entries) = by (is_named names (string_bytes entry.0)) (any_now names (string_bytes entry.0)) (other_is names entries)
  where
    rest : Option (String Global)
    rest = find (λ key. not (is_named names (string_bytes key))) (keys_of entries)

    by : (b : Bool) → b ≡ list_any (λ name. bytes_eq name (string_bytes entry.0)) (map (λ (name : Bor (List ℕ)). name.now) names)
        → option_map string_bytes rest ≡ first_other (map (λ (name : Bor (List ℕ)). name.now) names) (members_view entries)
        → option_map string_bytes (cond (not b) (Some entry.0) rest)
        ≡ first_other (map (λ (name : Bor (List ℕ)). name.now) names) (members_view (entry ∷ entries))
    by true e more = rw (← e) more
    by false e more = rw (← e) refl

-- tests one after the other

map_or : {A B : Type 0} (f : A → B) (a b : Option A) → option_map f (option_or a b) ≡ option_or (option_map f a) (option_map f b)
map_or f None b = refl
map_or f (Some x) b = refl

pub or_shown : {A B : Type 0} (f : A → B) (r a b : Option A) (x y : Option B) → r ≡ option_or a b → option_map f a ≡ x → option_map f b ≡ y
    → option_map f r ≡ option_or x y
or_shown f r a b x y is one other = ap (option_map f) is ∙ map_or f a b ∙ ap (λ (z : Option _). option_or z (option_map f b)) one ∙ ap (option_or x) other

pub judged_by : {A : Type 0} (key : List ℕ) (kind : Kind) (read : Option Data → Option A) (members : Members) (b : Bool) (found : Option A) → b ≡ is_some found
    → found ≡ read (get_member key members) → option_map (unfit key) (reason_at kind b (get_member key members)) ≡ judged key kind read members
judged_by key kind read members b found e same =
    ap (λ c. option_map (unfit key) (reason_at kind c (get_member key members))) (e ∙ ap (λ (o : Option _). is_some o) same)

pub five_in_turn : {A : Type 0} (a b c d e : Option A)
    → option_or (option_or (option_or (option_or a b) c) d) e ≡ option_or a (option_or b (option_or c (option_or d (option_or e None))))
five_in_turn (Some x) b c d e = refl
five_in_turn None (Some x) c d e = refl
five_in_turn None None (Some x) d e = refl
five_in_turn None None None (Some x) e = refl
five_in_turn None None None None (Some x) = refl
five_in_turn None None None None None = refl

pub six_in_turn : {A : Type 0} (a b c d e f : Option A)
    → option_or (option_or (option_or (option_or (option_or a b) c) d) e) f
    ≡ option_or a (option_or b (option_or c (option_or d (option_or e (option_or f None)))))
six_in_turn (Some x) b c d e f = refl
six_in_turn None b c d e f = five_in_turn b c d e f

-- the count of the peers

pub count_is : (items : List Value) → item_count (items_view items) ≡ length items
count_is [] = refl
count_is (value ∷ items) = ap suc (count_is items)

pub items_within : (items : List Value) → true ≡ (nat_le 1 (length items) && nat_le (length items) 1024)
    → items_fault (items_view items) ≡ option_or (each_fault peer_fault 1 (items_view items)) (repeated (items_view items))
items_within items e = rw (count_is items, ← e) refl

pub items_without : (items : List Value) → false ≡ (nat_le 1 (length items) && nat_le (length items) 1024)
    → items_fault (items_view items) ≡ Some (own_fault (unfit (codes "peer") NoValue))
items_without items e = rw (count_is items, ← e) refl
