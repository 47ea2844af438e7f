-- One session and the table, through a piece of the peer's octets.
use Rattle.fs_desk.proofs.Words.{◌≡◌, inl, inr, ℕ, List, [], ◌∷◌, ◌++◌, drop, flat_map, not, Bool, Option, Some, None, refl, ap, sym, ◌∙◌, subst}
use Rattle.fs_desk.proofs.Words.{append-nil, is_some, true, false, true≢false, AllByRecursion, Config, Peer, IsPrefix, Update, gives_prefixes}
use Rattle.fs_desk.proofs.Words.{each_append, some_there, Held, held_count, Applies, Closed, Memory, CloseIs, Live, Does}
use Rattle.fs_desk.proofs.Words.{reply_of, step_with}
use Rattle.fs_desk.proofs.Words.{Changes, nothing, told, told_of, IsListed, is_over, routes_left, too_many, bounded_replies_from, wants_memory}
use Rattle.fs_desk.proofs.Words.{Follows, AreWithin, TakesUpdate, IsFed, HasReplied, IsLeft, Spares, IsUp, HasTaken, MessageTaken, TakesMessage}
use Rattle.fs_desk.proofs.Words.{close_is}
use Rattle.fs_desk.proofs.Bounding.{next_within}
use Rattle.fs_desk.proofs.Follows.{as_list, follows_piece, follows_fed, follows_closed, follows_ceased, over_more}
use Rattle.fs_desk.proofs.{Replying.{replied_exactly, replied_over}, RoutesLeft.{counted_left}, TableChanges.{lost_to}}
use Rattle.fs_desk.proofs.Updates.{left_more, left_nothing, spares_others, spares_none, spares_then}
use Rattle.fs_rules.proofs.Apart.{each_front, each_back}

-- A message was taken and replied to, and brought this update, if any.
pub record Brings (old new : Live) (piece : List ℕ) (count : ℕ) (update : Option Update) (replies replies' : List ℕ) : Type 0 where
  pub alive : new.closed ≡ None
  pub config_is : new.config ≡ old.config
  pub peer_is : new.peer ≡ old.peer
  pub does : old.closed ≡ None → Does (step_with old piece) old new piece count update × (replies' ≡ replies ++ reply_of old (step_with old piece))

pub brought : {old new : Live} {piece : List ℕ} {count : ℕ} {found update : Option Update} {replies replies' : List ℕ} → found ≡ update
    → new.closed ≡ None → (new.config ≡ old.config) × (new.peer ≡ old.peer)
    → (old.closed ≡ None → Does (step_with old piece) old new piece count found × (replies' ≡ replies ++ reply_of old (step_with old piece)))
    → Brings old new piece count update replies replies'
brought {old} {new} {piece} {count} {found} {update} {replies} {replies'} is alive same did = record {
  alive = alive;
  config_is = same.0;
  peer_is = same.1;
  does = λ h. (subst (λ (u : Option Update). Does (step_with old piece) old new piece count u) is (did h).0, (did h).1);
}

pub follows_brought : {config : Config} {whose : Peer} {octets piece : List ℕ} {updates : List Update} {old new : Live} {count : ℕ} {update : Option Update}
    {replies replies' : List ℕ} → Brings old new piece count update replies replies' → Follows config whose octets piece old updates
    → Follows config whose octets (drop count piece) new (updates ++ as_list update)
follows_brought {config} {whose} {octets} {piece} {updates} {old} {new} {count} {update} b f =
    follows_fed config whose octets piece old new updates count update f b.alive b.config_is b.peer_is (b.does f.alive).0

-- a message without an update was taken
pub fed_none : {peer : ℕ} {old new : Live} {table : Held} {piece : List ℕ} {count : ℕ} {replies replies' : List ℕ}
    → Brings old new piece count None replies replies' → TakesMessage peer old new table table piece (Some count)
fed_none {peer} {old} {new} {table} {piece} {count} b = λ config whose octets updates f w l k. record {
  updates = updates ++ [];
  follows = follows_brought b f;
  within = subst (AreWithin whose) (sym (append-nil updates)) w;
  left = subst (λ (u : List Update). IsLeft peer u table) (sym (append-nil updates)) k;
  spares = spares_none peer table l;
}

-- an update more, of prefixes
prefixes_more : (updates : List Update) (update : Update) → AllByRecursion IsPrefix (flat_map gives_prefixes updates)
    → AllByRecursion IsPrefix (gives_prefixes update)
    → AllByRecursion IsPrefix (flat_map gives_prefixes (updates ++ update ∷ []))
prefixes_more [] update all own = each_append IsPrefix (gives_prefixes update) [] own tt
prefixes_more (u ∷ updates) update all own =
    each_append IsPrefix (gives_prefixes u) (flat_map gives_prefixes (updates ++ update ∷ []))
    (each_front IsPrefix (gives_prefixes u) (flat_map gives_prefixes updates) all)
    (prefixes_more updates update (each_back IsPrefix (gives_prefixes u) (flat_map gives_prefixes updates) all) own)

-- behind an update that was applied the peer holds as many routes as the updates leave
pub held_left : (peer : ℕ) (updates : List Update) (update : Update) (table applied : Held) (whose : Peer) → Applies peer update table applied
    → AllByRecursion IsPrefix (gives_prefixes update) → AreWithin whose updates → IsListed table → IsLeft peer updates table
    → held_count peer applied ≡ routes_left (updates ++ update ∷ [])
held_left peer updates update table applied whose changes prefixes w l k =
    counted_left peer (updates ++ update ∷ []) applied (changes.listed l) (left_more peer updates update table applied k changes l)
    (prefixes_more updates update w.prefixes prefixes)

-- and its session is closed where these are more than the limit of the peer
pub closes_over : {open_ : Bool} {own whose : Peer} {held left : ℕ} → open_ ≡ not (is_over own.max_routes held) → own ≡ whose → held ≡ left
    → is_over whose.max_routes left ≡ not open_
closes_over {open_} {own} {whose} {held} {left} within same counted = flipped (is_over whose.max_routes left)
    (within ∙ ap (λ (q : Peer). not (is_over q.max_routes held)) same ∙ ap (λ (n : ℕ). not (is_over whose.max_routes n)) counted)
  where
    flipped : (x : Bool) → open_ ≡ not x → x ≡ not open_
    flipped true e = sym (ap not e)
    flipped false e = sym (ap not e)

-- a message with an update was taken, and the table has it
pub fed_update : {peer : ℕ} {old mid new : Live} {table table' : Held} {replies replies' replies'' piece : List ℕ} {count : ℕ} {update : Update}
    → Brings old mid piece count (Some update) replies replies' → TakesUpdate peer update mid new table table' replies' replies'' true
    → TakesMessage peer old new table table' piece (Some count)
fed_update {peer} {old} {mid} {new} {table} {table'} {replies} {replies'} {replies''} {piece} {count} {update} b t =
    λ config whose octets updates f w l k.
    let follows : Follows config whose octets (drop count piece) mid (updates ++ update ∷ []) = follows_brought b f in
    let small : is_over whose.max_routes (routes_left (updates ++ update ∷ [])) ≡ false =
    closes_over t.within follows.peer_is (held_left peer updates update table t.applied whose t.changes t.prefixes w l k) in
    record {
      updates = updates ++ update ∷ [];
      follows = subst (λ (s : Live). Follows config whose octets (drop count piece) s (updates ++ update ∷ [])) (sym (t.stays refl).0) follows;
      within = record { small = next_within whose.max_routes updates update w.small small; prefixes = prefixes_more updates update w.prefixes t.prefixes };
      left = subst (IsLeft peer (updates ++ update ∷ [])) (sym (t.stays refl).1) (left_more peer updates update table t.applied k t.changes l);
      spares = subst (Spares peer table) (sym (t.stays refl).1) (spares_others peer (told update) (told_of update) table t.applied t.changes l);
    }

-- a message with an update was taken that passes the limit: the session is closed, and the table has nothing of the peer
pub fed_ceased : {peer : ℕ} {old mid new : Live} {table table' : Held} {replies replies' replies'' piece : List ℕ} {count : ℕ} {update : Update}
    → Brings old mid piece count (Some update) replies replies' → TakesUpdate peer update mid new table table' replies' replies'' false
    → TakesMessage peer old new table table' piece None
fed_ceased {peer} {old} {mid} {new} {table} {table'} {replies} {replies'} {replies''} {piece} {count} {update} b t =
    λ config whose octets updates f w l k.
    let follows : Follows config whose octets (drop count piece) mid (updates ++ update ∷ []) = follows_brought b f in
    let over : is_over whose.max_routes (routes_left (updates ++ update ∷ [])) ≡ true =
    closes_over t.within follows.peer_is (held_left peer updates update table t.applied whose t.changes t.prefixes w l k) in
    let gone : Changes peer nothing nothing t.applied table' = lost_to peer t.applied table' (t.ceases refl).1 in
    inr (record {
      why = too_many;
      closed = (t.ceases refl).0;
      over = follows_ceased config whose octets (drop count piece) mid updates update follows w over;
      left = left_nothing peer t.applied table' gone (t.changes.listed l);
      spares = spares_then peer table t.applied table' (spares_others peer (told update) (told_of update) table t.applied t.changes l)
          (spares_others peer nothing nothing t.applied table' gone (t.changes.listed l));
    })

-- the session was closed, and the table has nothing of the peer
pub fed_closed : (peer : ℕ) (old new : Live) (table table' : Held) (piece : List ℕ) (why : Closed)
    → (old.closed ≡ None → CloseIs (step_with old piece) why) → (why ≡ Memory → ⊥) → new.closed ≡ Some why
    → Changes peer nothing nothing table table'
    → TakesMessage peer old new table table' piece None
fed_closed peer old new table table' piece why did n closed t = λ config whose octets updates f w l k. inr (record {
  why = why;
  closed = closed;
  over = follows_closed config whose octets piece old updates why f w (close_is (step_with old piece) why n (did f.alive));
  left = left_nothing peer table table' t l;
  spares = spares_others peer nothing nothing table table' t l;
})

-- before the first octet of a piece
pub taken_none : (config : Config) (whose : Peer) (peer : ℕ) (octets piece : List ℕ) (session : Live) (table : Held)
    → IsUp config whose peer octets session table → session.closed ≡ None → IsListed table
    → HasTaken config whose peer (octets ++ piece) piece session table table
taken_none config whose peer octets piece session table s open_ l = record {
  updates = s.updates;
  follows = follows_piece config whose octets piece session s.updates
      (subst (λ (o : Option Closed). IsFed config whose octets session o s.updates) open_ s.fed).0;
  within = (subst (λ (o : Option Closed). IsFed config whose octets session o s.updates) open_ s.fed).1;
  left = s.left;
  spares = spares_none peer table l;
}

pub taken_more_of : {config : Config} {whose : Peer} {peer : ℕ} {octets rest : List ℕ} {session new : Live} {table now table' : Held} (count : ℕ)
    → HasTaken config whose peer octets rest session table now → TakesMessage peer session new now table' rest (Some count)
    → HasTaken config whose peer octets (drop count rest) new table table'
taken_more_of {config} {whose} {peer} {octets} {rest} {session} {new} {table} {now} {table'} count r feeds =
    let g = feeds config whose octets r.updates r.follows r.within r.spares.listed r.left in
    record {
      updates = g.updates;
      follows = g.follows;
      within = g.within;
      left = g.left;
      spares = spares_then peer table now table' r.spares g.spares;
    }

pub taken_all : {config : Config} {whose : Peer} {peer : ℕ} {octets rest : List ℕ} {session new : Live} {table now table' : Held} (said : List ℕ)
    → HasTaken config whose peer octets rest session table now → HasReplied config whose octets new new.closed said
    → TakesMessage peer session new now table' rest None → IsUp config whose peer octets new table' × Spares peer table table'
taken_all {config} {whose} {peer} {octets} {rest} {session} {new} {table} {now} {table'} said r t feeds =
    by (feeds config whose octets r.updates r.follows r.within r.spares.listed r.left)
  where
    stands : (updates : List Update) → IsFed config whose octets new new.closed updates → IsLeft peer updates table' → IsUp config whose peer octets new table'
    stands updates fed k = record {
      updates = updates;
      fed = fed;
      replied = replied_exactly config whose octets new new.closed updates said fed t;
      left = k;
    }

    by : MessageTaken config whose octets peer session new now table' rest None → IsUp config whose peer octets new table' × Spares peer table table'
    by (inl e) =
        let f : Follows config whose octets [] session r.updates = subst (λ (z : List ℕ). Follows config whose octets z session r.updates) e.0 r.follows in
        let fed : IsFed config whose octets session session.closed r.updates =
        subst (λ (o : Option Closed). IsFed config whose octets session o r.updates) (sym f.alive) (f, r.within) in (
          stands r.updates
              (subst (λ (v : Live). IsFed config whose octets v v.closed r.updates) (sym e.1) fed)
              (subst (λ (h : Held). IsLeft peer r.updates h) (sym e.2) r.left),
          subst (λ (h : Held). Spares peer table h) (sym e.2) r.spares,
        )
    by (inr e) = (
      stands [] (subst (λ (o : Option Closed). IsFed config whose octets new o []) (sym e.closed) (e.over, refl)) e.left,
      spares_then peer table now table' r.spares e.spares,
    )

-- a closed session stays as it is
pub up_over : (config : Config) (whose : Peer) (peer : ℕ) (octets piece : List ℕ) (session : Live) (table : Held) (why : Closed)
    → session.closed ≡ Some why → IsListed table → IsUp config whose peer octets session table
    → IsUp config whose peer (octets ++ piece) session table × Spares peer table table
up_over config whose peer octets piece session table why h l s =
    let o : IsFed config whose octets session (Some why) s.updates = subst (λ (c : Option Closed). IsFed config whose octets session c s.updates) h s.fed in
    let fed : IsFed config whose (octets ++ piece) session session.closed s.updates =
    subst (λ (c : Option Closed). IsFed config whose (octets ++ piece) session c s.updates) (sym h) (over_more config whose octets piece why o.0, o.1) in
    let said : HasReplied config whose octets session (Some why) (bounded_replies_from config whose octets) =
    subst (λ (c : Option Closed). HasReplied config whose octets session c (bounded_replies_from config whose octets)) h s.replied in (
      record {
        updates = s.updates;
        fed = fed;
        replied =
            replied_exactly config whose (octets ++ piece) session session.closed s.updates (bounded_replies_from config whose octets) fed
            (subst (λ (c : Option Closed). HasReplied config whose (octets ++ piece) session c (bounded_replies_from config whose octets)) (sym h)
            (replied_over config whose octets piece session why (bounded_replies_from config whose octets) said));
        left = s.left;
      },
      spares_none peer table l,
    )

pub up_ended : (config : Config) (whose : Peer) (peer : ℕ) (octets piece : List ℕ) (session : Live) (table : Held)
    → is_some session.closed ≡ true → IsListed table → IsUp config whose peer octets session table
    → IsUp config whose peer (octets ++ piece) session table × Spares peer table table
up_ended config whose peer octets piece session table h l s =
    let found = some_there session.closed h in
    up_over config whose peer octets piece session table found.0 found.1 l s

pub not_memory : (why : Closed) → wants_memory why ≡ false → why ≡ Memory → ⊥
not_memory why h e = true≢false (sym (ap wants_memory e) ∙ h)
