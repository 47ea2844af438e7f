-- The values of the attributes that are written, type by type.
use Rattle.fs_attrs.proofs.Words.{◌≡◌, ℕ, suc, ◌==◌, Bool, true, false, nat_lt, List, [], ◌∷◌, ◌++◌, length, Option, Some, None, refl, ap, ◌∙◌, arith}
use Rattle.fs_attrs.proofs.Words.{if◌then◌else◌, option_map, find, filter, is_some, option_or, concat, find-append, nat_tests, big_bytes, Path, Terms}
use Rattle.fs_attrs.proofs.Words.{Routes, Update, Attribute, attribute, value_of, is_doubled, reach_text, unreach_text, reach_in, unreach_in}
use Rattle.fs_attrs.proofs.Words.{next_hop_in, local_pref_in, originator_in, actions_in, path_in, written_attributes, segments_text}
use Rattle.fs_attrs.proofs.AttributeScans.{value_here, above_one, there}

-- no attribute is of the type
abbrev Lacks : ℕ → List Attribute → Type 0
Lacks kind list = value_of kind list ≡ None

values_append : (one later : Option Attribute) → option_map (λ (found : Attribute). found.value) one ≡ None
    → option_map (λ (found : Attribute). found.value) (option_or one later) ≡ option_map (λ (found : Attribute). found.value) later
values_append None later h = refl
values_append (Some found) later h = cc

pub behind : (kind : ℕ) (front rest : List Attribute) → value_of kind front ≡ None → value_of kind (front ++ rest) ≡ value_of kind rest
behind kind front rest lacks =
    ap (λ (z : Option Attribute). option_map (λ (found : Attribute). found.value) z) (find-append (λ (a : Attribute). a.kind == kind) front rest)
    ∙ values_append (find (λ (a : Attribute). a.kind == kind) front) (find (λ (a : Attribute). a.kind == kind) rest) lacks

both_lack : (kind : ℕ) (front rest : List Attribute) → Lacks kind front → Lacks kind rest → Lacks kind (front ++ rest)
both_lack kind front rest one two = behind kind front rest one ∙ two

one_lacks : (kind other : ℕ) (value : List ℕ) → (other == kind) ≡ false → Lacks kind (attribute other value ∷ [])
one_lacks kind other value ne = ap (λ (b : Bool). value_here b kind (attribute other value) []) ne

some_lacks : (kind other : ℕ) (value : List ℕ) (empty : Bool) → (other == kind) ≡ false → Lacks kind (if empty then [] else attribute other value ∷ [])
some_lacks kind other value true ne = refl
some_lacks kind other value false ne = one_lacks kind other value ne

reach_lacks : (kind : ℕ) (terms : Terms) (reach : Option Routes) → (14 == kind) ≡ false → Lacks kind (reach_in terms reach)
reach_lacks kind terms None ne = refl
reach_lacks kind terms (Some routes) ne = one_lacks kind 14 (reach_text terms.address routes) ne

unreach_lacks : (kind : ℕ) (unreach : Option Routes) → (15 == kind) ≡ false → Lacks kind (unreach_in unreach)
unreach_lacks kind None ne = refl
unreach_lacks kind (Some routes) ne = one_lacks kind 15 (unreach_text routes) ne

originator_lacks : (kind : ℕ) (id : Option ℕ) → (9 == kind) ≡ false → Lacks kind (originator_in id)
originator_lacks kind None ne = refl
originator_lacks kind (Some id) ne = one_lacks kind 9 (big_bytes 4 id) ne

-- what stands behind ORIGIN and AS_PATH
abbrev tail_in : Terms → Update → Path → List Attribute
tail_in terms update path =
    next_hop_in terms update.classic_in ++ (local_pref_in terms path.local_pref ++ (originator_in path.originator ++ actions_in update.actions))

path_lacks : (kind : ℕ) (terms : Terms) (update : Update) (path : Option Path)
    → (1 == kind) ≡ false → (2 == kind) ≡ false → (3 == kind) ≡ false → (5 == kind) ≡ false → (9 == kind) ≡ false → (16 == kind) ≡ false
    → Lacks kind (path_in terms update path)
path_lacks kind terms update None a b c d e f = refl
path_lacks kind terms update (Some path) a b c d e f =
    both_lack kind (attribute 1 (path.origin ∷ []) ∷ []) (attribute 2 (segments_text terms.four path.segments) ∷ tail_in terms update path)
    (one_lacks kind 1 (path.origin ∷ []) a)
    (both_lack kind (attribute 2 (segments_text terms.four path.segments) ∷ []) (tail_in terms update path)
    (one_lacks kind 2 (segments_text terms.four path.segments) b)
    (both_lack kind (next_hop_in terms update.classic_in)
    (local_pref_in terms path.local_pref ++ (originator_in path.originator ++ actions_in update.actions))
    (some_lacks kind 3 _ (length update.classic_in == 0) c)
    (both_lack kind (local_pref_in terms path.local_pref) (originator_in path.originator ++ actions_in update.actions) (some_lacks kind 5 _ terms.external d)
    (both_lack kind (originator_in path.originator) (actions_in update.actions) (originator_lacks kind path.originator e)
    (some_lacks kind 16 _ (length update.actions == 0) f)))))

-- MP_REACH_NLRI and MP_UNREACH_NLRI

pub reach_value : (terms : Terms) (update : Update) → value_of 14 (written_attributes terms update) ≡ option_map (reach_text terms.address) update.reach
reach_value terms update = by update.reach where
  rest : List Attribute
  rest = unreach_in update.unreach ++ path_in terms update update.path

  lacks : Lacks 14 rest
  lacks = both_lack 14 (unreach_in update.unreach) (path_in terms update update.path) (unreach_lacks 14 update.unreach refl)
      (path_lacks 14 terms update update.path refl refl refl refl refl refl)

  by : (reach : Option Routes) → value_of 14 (reach_in terms reach ++ rest) ≡ option_map (reach_text terms.address) reach
  by None = lacks
  by (Some routes) = refl

pub unreach_value : (terms : Terms) (update : Update) → value_of 15 (written_attributes terms update) ≡ option_map unreach_text update.unreach
unreach_value terms update =
    behind 15 (reach_in terms update.reach) (unreach_in update.unreach ++ path_in terms update update.path) (reach_lacks 15 terms update.reach refl)
    ∙ by update.unreach where
      lacks : Lacks 15 (path_in terms update update.path)
      lacks = path_lacks 15 terms update update.path refl refl refl refl refl refl

      by : (unreach : Option Routes) → value_of 15 (unreach_in unreach ++ path_in terms update update.path) ≡ option_map unreach_text unreach
      by None = lacks
      by (Some routes) = refl

single : (n : ℕ) → nat_lt 0 n ≡ false → nat_lt 1 n ≡ false
single n h = grind (arith, nat_tests)

lacks_once : (kind : ℕ) (list : List Attribute) → Lacks kind list → is_doubled kind list ≡ false
lacks_once kind list lacks =
    single (length (filter (λ (a : Attribute). a.kind == kind) list)) (there kind list ∙ ap (λ (z : Option (List ℕ)). is_some z) lacks)

alone_once : (kind : ℕ) (list : List Attribute) → Lacks kind list → nat_lt 1 (suc (length (filter (λ (a : Attribute). a.kind == kind) list))) ≡ false
alone_once kind list lacks =
    above_one (length (filter (λ (a : Attribute). a.kind == kind) list)) ∙ there kind list ∙ ap (λ (z : Option (List ℕ)). is_some z) lacks

pub reach_once : (terms : Terms) (update : Update) → is_doubled 14 (written_attributes terms update) ≡ false
reach_once terms update = by update.reach where
  rest : List Attribute
  rest = unreach_in update.unreach ++ path_in terms update update.path

  lacks : Lacks 14 rest
  lacks = both_lack 14 (unreach_in update.unreach) (path_in terms update update.path) (unreach_lacks 14 update.unreach refl)
      (path_lacks 14 terms update update.path refl refl refl refl refl refl)

  by : (reach : Option Routes) → is_doubled 14 (reach_in terms reach ++ rest) ≡ false
  by None = lacks_once 14 rest lacks
  by (Some routes) = alone_once 14 rest lacks

pub unreach_once : (terms : Terms) (update : Update) → is_doubled 15 (written_attributes terms update) ≡ false
unreach_once terms update = by update.reach update.unreach where
  lacks : Lacks 15 (path_in terms update update.path)
  lacks = path_lacks 15 terms update update.path refl refl refl refl refl refl

  by : (reach unreach : Option Routes) → is_doubled 15 (reach_in terms reach ++ (unreach_in unreach ++ path_in terms update update.path)) ≡ false
  by None None = lacks_once 15 (path_in terms update update.path) lacks
  by None (Some routes) = alone_once 15 (path_in terms update update.path) lacks
  by (Some reach) None = lacks_once 15 (path_in terms update update.path) lacks
  by (Some reach) (Some routes) = alone_once 15 (path_in terms update update.path) lacks

-- without a path no other attribute stands
pub none_value : (kind : ℕ) (terms : Terms) (update : Update) → update.path ≡ None → (14 == kind) ≡ false → (15 == kind) ≡ false
    → value_of kind (written_attributes terms update) ≡ None
none_value kind terms update none a b =
    behind kind (reach_in terms update.reach) (unreach_in update.unreach ++ path_in terms update update.path) (reach_lacks kind terms update.reach a)
    ∙ behind kind (unreach_in update.unreach) (path_in terms update update.path) (unreach_lacks kind update.unreach b)
    ∙ ap (λ (z : Option Path). value_of kind (path_in terms update z)) none

-- the attributes of the path
to_path : (kind : ℕ) (terms : Terms) (update : Update) (path : Path) → update.path ≡ Some path → (14 == kind) ≡ false → (15 == kind) ≡ false
    → value_of kind (written_attributes terms update) ≡ value_of kind (path_in terms update (Some path))
to_path kind terms update path there a b =
    behind kind (reach_in terms update.reach) (unreach_in update.unreach ++ path_in terms update update.path) (reach_lacks kind terms update.reach a)
    ∙ behind kind (unreach_in update.unreach) (path_in terms update update.path) (unreach_lacks kind update.unreach b)
    ∙ ap (λ (z : Option Path). value_of kind (path_in terms update z)) there

pub origin_value : (terms : Terms) (update : Update) (path : Path) → update.path ≡ Some path
    → value_of 1 (written_attributes terms update) ≡ Some (path.origin ∷ [])
origin_value terms update path is = to_path 1 terms update path is refl refl

pub segments_value : (terms : Terms) (update : Update) (path : Path) → update.path ≡ Some path
    → value_of 2 (written_attributes terms update) ≡ Some (segments_text terms.four path.segments)
segments_value terms update path is = to_path 2 terms update path is refl refl

to_tail : (kind : ℕ) (terms : Terms) (update : Update) (path : Path) → (1 == kind) ≡ false → (2 == kind) ≡ false
    → value_of kind (path_in terms update (Some path)) ≡ value_of kind (tail_in terms update path)
to_tail kind terms update path a b =
    behind kind (attribute 1 (path.origin ∷ []) ∷ []) (attribute 2 (segments_text terms.four path.segments) ∷ tail_in terms update path)
    (one_lacks kind 1 (path.origin ∷ []) a)
    ∙ behind kind (attribute 2 (segments_text terms.four path.segments) ∷ []) (tail_in terms update path)
    (one_lacks kind 2 (segments_text terms.four path.segments) b)

past_hop : (kind : ℕ) (terms : Terms) (update : Update) (path : Path) → (3 == kind) ≡ false
    → value_of kind (tail_in terms update path)
    ≡ value_of kind (local_pref_in terms path.local_pref ++ (originator_in path.originator ++ actions_in update.actions))
past_hop kind terms update path c =
    behind kind (next_hop_in terms update.classic_in)
    (local_pref_in terms path.local_pref ++ (originator_in path.originator ++ actions_in update.actions))
    (some_lacks kind 3 _ (length update.classic_in == 0) c)

past_pref : (kind : ℕ) (terms : Terms) (update : Update) (path : Path) → (5 == kind) ≡ false
    → value_of kind (local_pref_in terms path.local_pref ++ (originator_in path.originator ++ actions_in update.actions))
    ≡ value_of kind (originator_in path.originator ++ actions_in update.actions)
past_pref kind terms update path c =
    behind kind (local_pref_in terms path.local_pref) (originator_in path.originator ++ actions_in update.actions) (some_lacks kind 5 _ terms.external c)

abbrev pub pref_octets : Bool → ℕ → Option (List ℕ)
pref_octets external local_pref = if external then None else Some (big_bytes 4 local_pref)

pub pref_value : (terms : Terms) (update : Update) (path : Path) → update.path ≡ Some path
    → value_of 5 (written_attributes terms update) ≡ pref_octets terms.external path.local_pref
pref_value terms update path is = to_path 5 terms update path is refl refl ∙ to_tail 5 terms update path refl refl ∙ past_hop 5 terms update path refl
    ∙ by terms.external where
      rest : List Attribute
      rest = originator_in path.originator ++ actions_in update.actions

      lacks : Lacks 5 rest
      lacks = both_lack 5 (originator_in path.originator) (actions_in update.actions) (originator_lacks 5 path.originator refl)
          (some_lacks 5 16 _ (length update.actions == 0) refl)

      by : (external : Bool) → value_of 5 ((if external then [] else attribute 5 (big_bytes 4 path.local_pref) ∷ []) ++ rest)
          ≡ pref_octets external path.local_pref
      by true = lacks
      by false = refl

pub originator_value : (terms : Terms) (update : Update) (path : Path) → update.path ≡ Some path
    → value_of 9 (written_attributes terms update) ≡ option_map (big_bytes 4) path.originator
originator_value terms update path is =
    to_path 9 terms update path is refl refl ∙ to_tail 9 terms update path refl refl ∙ past_hop 9 terms update path refl
    ∙ past_pref 9 terms update path refl ∙ by path.originator where
      lacks : Lacks 9 (actions_in update.actions)
      lacks = some_lacks 9 16 _ (length update.actions == 0) refl

      by : (id : Option ℕ) → value_of 9 (originator_in id ++ actions_in update.actions) ≡ option_map (big_bytes 4) id
      by None = lacks
      by (Some id) = refl

abbrev pub actions_octets : Bool → List (List ℕ) → Option (List ℕ)
actions_octets empty actions = if empty then None else Some (concat actions)

pub actions_value : (terms : Terms) (update : Update) (path : Path) → update.path ≡ Some path
    → value_of 16 (written_attributes terms update) ≡ actions_octets (length update.actions == 0) update.actions
actions_value terms update path is =
    to_path 16 terms update path is refl refl ∙ to_tail 16 terms update path refl refl ∙ past_hop 16 terms update path refl
    ∙ past_pref 16 terms update path refl
    ∙ behind 16 (originator_in path.originator) (actions_in update.actions) (originator_lacks 16 path.originator refl) ∙ by (length update.actions == 0) where
      by : (empty : Bool) → value_of 16 (if empty then [] else attribute 16 (concat update.actions) ∷ []) ≡ actions_octets empty update.actions
      by true = refl
      by false = refl
