-- A receiving end that hears what the announcing end says doesn't close, where nothing hinders the rules.
use Rattle.fs_peering.proofs.Words.{CanArrive, Closed, ComesBack, Config, Established, Handed, Last, Message, MessageFault, Peer, Phase, Point}
use Rattle.fs_peering.proofs.Words.{Sending, Sent, Update, WaitKeep, WaitOpen, at_moment, at_start, bounded, bounded_from, bounded_replies}
use Rattle.fs_peering.proofs.Words.{bounded_replies_from, closed, first_message, first_over, handed, open_sent, peer_of, phase, receiver}
use Rattle.fs_peering.proofs.Words.{replies_to_limit, reply_at, reply_to, session_from, still, text_sent, tick_at, ticked, ticks, too_many}
use Rattle.fs_peering.proofs.Words.{update_sent, wrong_at, ◌≡◌, ◌⊎◌, inl, inr, ℕ, zero, suc, ◌≤◌, List, [], ◌∷◌, ◌++◌, length, map, take, Bool, true}
use Rattle.fs_peering.proofs.Words.{Option, Some, None, Ok, refl, ap, sym, ◌∙◌, subst, append_assoc, append-nil, arith, AllByRecursion}
use Rattle.fs_peering.proofs.Words.{flat_map-append, none-some, fault_stays, message_stable, replies_rest, replies_takes, wrong_first, machine_takes}
use Rattle.fs_peering.proofs.Words.{session_rest, step_found, Pieces, moments_in, octets_in, ClosesIn, ExpiresAt, HasClosed, course_of, IsTimely}
use Rattle.fs_peering.proofs.Words.{MayHold, TookOpen, rules_in, woven}
use Rattle.fs_peering.proofs.{Limits.{within}, Phases.{awaits_open, session_on}}
use Rattle.fs_peering.proofs.BothEnds.{answers, meets, open_first, own_message, parts_arrive, peer_opens}
use Rattle.fs_peering.proofs.{Replying.{waits_silent}, StaysOpen.{hearer_hold, never_due, stands}, Timely.{timely_up_to}}
use Rattle.std.proofs.lemmas.Bool.{true≢false as never}
use Rattle.fs_speaker.specs.Replies.{replies_from, reply_rest}

all_take : (P : Sent → Type 0) (n : ℕ) (rules : List Sent) → AllByRecursion P rules → AllByRecursion P (take n rules)
all_take P zero rules a = tt
all_take P (suc n) [] a = tt
all_take P (suc n) (sent ∷ rules) a = (a.0, all_take P n rules a.1)

few_taken : (n : ℕ) (rules : List Sent) → length (take n rules) ≤ length rules
few_taken zero rules = omega arith
few_taken (suc n) [] = omega arith
few_taken (suc n) (sent ∷ rules) = let rest = few_taken n rules in omega (arith, rest)

may_hold_fewer : (most : Option ℕ) (n m : ℕ) → n ≤ m → MayHold most m → MayHold most n
may_hold_fewer None n m l h = tt
may_hold_fewer (Some most) n m l h = omega (arith, l, h)

-- What was said so far is a front of the OPEN, a KEEPALIVE, and the UPDATEs of the first rules between KEEPALIVEs; and
-- where anything stands behind that KEEPALIVE, the other's OPEN was taken.
pub record Fronts (config : Config) (whose : Peer) (sending : Sending) (announced told : List ℕ) : Type 0 where
  pub behind : List ℕ
  pub four : Bool
  pub parts : List (Option Sent)
  pub appended : ℕ
  pub rules_are : rules_in parts ≡ take appended sending.rules
  pub whole : announced ++ behind ≡ open_sent config whose sending ++ woven (text_sent config whose four sending) (None ∷ parts)
  pub took : (parts ≡ []) ⊎ TookOpen config four told

-- a session that doesn't pass the limit is as without it, and so is what is replied
bounded_within : (most : Option ℕ) (updates : List Update) (last : Last) → first_over most updates ≡ None → bounded most (updates, last) ≡ (updates, last)
bounded_within most updates last h =
    ap (λ (o : Option (List Update)). elim o as (λ _. List Update × Last) [ None ↦ (updates, last) | Some front ↦ (front, closed too_many) ]) h

replied_by : (config : Config) (peer : Peer) (octets : List ℕ) (found : Option (List Update))
    → first_over peer.max_routes (session_from config peer at_start octets).0 ≡ found
    → bounded_replies_from config peer octets
    ≡ (elim found as (λ _. List ℕ) [ None ↦ replies_from config peer at_start octets | Some front ↦ replies_to_limit config ])
replied_by config peer octets found h =
    ap (λ (o : Option (List Update)). elim o as (λ _. List ℕ) [ None ↦ replies_from config peer at_start octets | Some front ↦ replies_to_limit config ]) h

module _ (config : Config) (whose : Peer) (sending : Sending) (can : CanArrive config whose sending) where
  abbrev own : Message
  own = own_message config whose sending

  abbrev opened_phase : Phase
  opened_phase = phase WaitKeep true config.hold_time

  -- the first message of octets that begin as the announcing end does
  reads_open : (octets more rest : List ℕ) → octets ++ more ≡ open_sent config whose sending ++ rest
      → (first_message octets ≡ None) ⊎ ((behind : List ℕ) × (first_message octets ≡ Some (own, behind)))
  reads_open octets more rest e = by (first_message octets) refl
    where
      whole : first_message (octets ++ more) ≡ Some (own, rest)
      whole = ap first_message e ∙ open_first config whose sending _

      by : (x : Option (Message × List ℕ)) → first_message octets ≡ x
          → (first_message octets ≡ None) ⊎ ((behind : List ℕ) × (first_message octets ≡ Some (own, behind)))
      by None f = inl f
      by (Some found) f =
          let same : found.0 ≡ own = ap (λ (o : Option (Message × List ℕ)). elim o [ None ↦ own | Some x ↦ x.0 ])
          (sym (message_stable octets more found f) ∙ whole) in
          inr (found.1, f ∙ ap (λ (m : Message). Some (m, found.1)) same)

  no_fault : (octets more rest : List ℕ) → octets ++ more ≡ open_sent config whose sending ++ rest → wrong_at octets ≡ None
  no_fault octets more rest e = by _ refl
    where
      by : (w : Option MessageFault) → wrong_at octets ≡ w → wrong_at octets ≡ None
      by None f = f
      by (Some fault) f =
          absurd (none-some (own, rest)
          (sym (wrong_first (octets ++ more) fault (fault_stays octets more fault f)) ∙ (ap first_message e ∙ open_first config whose sending _)))

  -- what is replied to them
  abbrev Replied : List ℕ → Type 0
  Replied octets =
      ((first_message octets ≡ None) × (bounded_replies_from config whose octets ≡ []))
      ⊎ ((later : List ℕ) × (bounded_replies_from config whose octets ≡ reply_to config WaitOpen ++ later))

  unanswered : (octets more rest : List ℕ) → octets ++ more ≡ open_sent config whose sending ++ rest → first_message octets ≡ None
      → bounded_replies_from config whose octets ≡ []
  unanswered octets more rest e f =
      let no_updates : (session_from config whose at_start octets).0 ≡ [] =
      ap (λ (s : List Update × Last). s.0) (session_rest (receiver config whose) at_start octets f) in
      replied_by config whose _ _ (ap (first_over whose.max_routes) no_updates)
      ∙ replies_rest (receiver config whose) at_start octets f
      ∙ ap (reply_rest (receiver config whose)) (no_fault octets more _ e)

  replies_so : (octets more rest : List ℕ) → octets ++ more ≡ open_sent config whose sending ++ rest → Replied octets
  replies_so octets more rest e = by (reads_open octets more _ e)
    where
      some : (behind : List ℕ) → first_message octets ≡ Some (own, behind) → (o : Option (List Update))
          → first_over whose.max_routes (session_from config whose at_start octets).0 ≡ o
          → Replied octets
      some behind f None o =
          inr (
            replies_from config whose opened_phase (behind ++ []),
            replied_by config whose _ _ o
                ∙ ap (replies_from config whose at_start) (sym (append-nil octets))
                ∙ replies_takes config whose at_start opened_phase None octets behind []
                (step_found (receiver config whose) at_start octets (own, behind) (Ok (opened_phase, None)) f (peer_opens _ _ _ can)),
          )
      some behind f (Some front) o = inr (reply_at too_many, replied_by config whose _ _ o)

      by : (first_message octets ≡ None) ⊎ ((behind : List ℕ) × (first_message octets ≡ Some (own, behind))) → Replied octets
      by (inl f) = inl (f, unanswered _ _ _ e f)
      by (inr f) = some _ f.1 _ refl

  -- while the receiving end has said nothing it heard no whole message
  pub unread : (heard : Pieces) (more rest : List ℕ) → (course_of config whose heard).point.closed ≡ None → (course_of config whose heard).text ≡ []
      → octets_in heard ++ more ≡ open_sent config whose sending ++ rest
      → (first_message (octets_in heard) ≡ None) × ((course_of config whose heard).point.phase.hold ≡ 0)
  unread heard more rest alive none split = (by (reads_open (octets_in heard) more _ split), (stands (receiver config whose) heard alive).unheld silent)
    where
      here : Phase
      here = (course_of config whose heard).point.phase

      silent : awaits_open here.state ≡ true
      silent = waits_silent config whose heard alive none

      by : (first_message (octets_in heard) ≡ None) ⊎ ((behind : List ℕ) × (first_message (octets_in heard) ≡ Some (own, behind)))
          → first_message (octets_in heard) ≡ None
      by (inl f) = f
      by (inr f) =
          let goes : session_from config whose at_start (octets_in heard) ≡ session_from config whose opened_phase (f.0 ++ []) =
          ap (session_from config whose at_start) (sym (append-nil (octets_in heard)))
          ∙ machine_takes (receiver config whose) at_start opened_phase None (octets_in heard) f.0 []
          (step_found (receiver config whose) at_start (octets_in heard) (own, f.0) (Ok (opened_phase, None)) f.1 (peer_opens _ _ _ can)) in
          let found : (session_from config whose opened_phase (f.0 ++ [])).1 ≡ still here =
          sym (ap (λ (s : List Update × Last). s.1) goes) ∙ (stands _ heard alive).found in
          absurd (never (sym silent ∙ (session_on _ _ _ _ refl found).past))

  module _ (peer : ℕ) (whose_is : peer_of peer config.peers ≡ Some whose) where
    replies_are : (octets : List ℕ) → bounded_replies config peer octets ≡ bounded_replies_from config whose octets
    replies_are octets = ap (λ (o : Option Peer). elim o as (λ _. List ℕ) [ None ↦ [] | Some p ↦ bounded_replies_from config p octets ]) whose_is

    abbrev Said : List ℕ → Type 0
    Said said = (said ≡ []) ⊎ ((more : List ℕ) × (said ≡ reply_to config WaitOpen ++ more))

    module _ (heard : Pieces) (said : List ℕ) (why : Closed) (h : HasClosed config peer whose heard said why) (left announced told : List ℕ)
        (reads : announced ≡ octets_in heard ++ left) (f : Fronts config whose sending announced told)
        (timely : IsTimely config (moments_in heard)) where
      abbrev here : Point
      here = (course_of config whose h.earlier).point

      abbrev to_there : List ℕ
      to_there = octets_in h.earlier ++ h.piece

      abbrev rest_of : Bool → List ℕ
      rest_of four = woven (text_sent config whose four sending) (None ∷ f.parts)

      octets_are : octets_in heard ≡ to_there ++ octets_in []
      octets_are =
          ap octets_in h.split ∙ flat_map-append (λ (e : ℕ × List ℕ). e.1) h.earlier ((h.moment, h.piece) ∷ [])
          ∙ sym (append_assoc (octets_in h.earlier) h.piece (octets_in []))

      abbrev beyond : List ℕ
      beyond = octets_in [] ++ (left ++ f.behind)

      whole : to_there ++ beyond ≡ open_sent config whose sending ++ rest_of f.four
      whole =
          sym (append_assoc to_there (octets_in []) (left ++ f.behind))
          ∙ ap (λ (z : List ℕ). z ++ (left ++ f.behind)) (sym octets_are)
          ∙ sym (append_assoc (octets_in heard) left f.behind)
          ∙ ap (λ (z : List ℕ). z ++ f.behind) (sym reads)
          ∙ f.whole

      whole_earlier : octets_in h.earlier ++ (h.piece ++ beyond) ≡ open_sent config whose sending ++ rest_of f.four
      whole_earlier = sym (append_assoc (octets_in h.earlier) h.piece beyond) ∙ whole

      no_expiry : ExpiresAt config whose h.earlier h.moment said why → ⊥
      no_expiry x =
          never_due config whose sending _ _ _ h.lived
          (hearer_hold _ _ _ h.earlier (h.piece ++ beyond) _ can whole_earlier h.lived)
          (timely_up_to config _ _ _ _ (subst (λ (z : Pieces). IsTimely config (moments_in z)) h.split timely)) x.due

      -- while it hadn't heard the OPEN it said nothing
      quiet : here.phase.hold ≡ 0 → (ticked h.moment here).text ≡ []
      quiet none =
          ap (λ (c : Option Closed). (elim c as (λ _. Handed) [
            | Some w ↦ handed here [] []
            | None ↦ ticks (tick_at here.phase.hold (at_moment h.moment here.times)) here.waiting here.phase (at_moment h.moment here.times)
          ]).text) h.lived
          ∙ ap (λ (n : ℕ). (ticks (tick_at n (at_moment h.moment here.times)) here.waiting here.phase (at_moment h.moment here.times)).text) none

      -- what it replied is nothing, or begins with its OPEN
      begins : ClosesIn config peer whose h.earlier h.moment h.piece said why → Said said
      begins c = by (answers config whose h.earlier h.lived)
        where
          grown : bounded_replies_from config whose to_there ≡ bounded_replies_from config whose (octets_in h.earlier) ++ c.more
          grown = sym (replies_are to_there) ∙ c.replied ∙ ap (λ (z : List ℕ). z ++ c.more) (replies_are (octets_in h.earlier))

          silent : (course_of config whose h.earlier).text ≡ [] → Said said
          silent none = at (replies_so to_there beyond (rest_of f.four) whole)
            where
              before : (first_message (octets_in h.earlier) ≡ None) × (here.phase.hold ≡ 0)
              before = unread h.earlier (h.piece ++ beyond) (rest_of f.four) h.lived none whole_earlier

              said_so : said ≡ c.more
              said_so =
                  c.said_is ∙ ap (λ (z : List ℕ). z ++ ((ticked h.moment here).text ++ c.more)) none
                  ∙ ap (λ (z : List ℕ). z ++ c.more) (quiet before.1)

              grown_so : bounded_replies_from config whose (octets_in h.earlier) ≡ [] → bounded_replies_from config whose to_there ≡ c.more
              grown_so z = grown ∙ ap (λ (y : List ℕ). y ++ c.more) z

              first_none : bounded_replies_from config whose (octets_in h.earlier) ≡ []
              first_none = unanswered (octets_in h.earlier) (h.piece ++ beyond) (rest_of f.four) whole_earlier before.0

              at : Replied to_there → Said said
              at (inl z) = inl (said_so ∙ sym (grown_so first_none) ∙ z.1)
              at (inr z) = inr (z.0, said_so ∙ sym (grown_so first_none) ∙ z.1)

          by : ((course_of config whose h.earlier).text ≡ [])
              ⊎ ((more : List ℕ) × ((course_of config whose h.earlier).text ≡ reply_to config WaitOpen ++ more)) → Said said
          by (inl none) = silent none
          by (inr m) = inr (
            m.0 ++ ((ticked h.moment here).text ++ c.more),
            c.said_is ∙ ap (λ (z : List ℕ). z ++ ((ticked h.moment here).text ++ c.more)) m.1
                ∙ append_assoc (reply_to config WaitOpen) m.0 ((ticked h.moment here).text ++ c.more),
          )

      -- so the rules are said with AS numbers of four octets
      in_four : (in_flight : List ℕ) → said ≡ told ++ in_flight → Said said → rest_of f.four ≡ rest_of true
      in_four in_flight split s = by f.took
        where
          by : (f.parts ≡ []) ⊎ TookOpen config f.four told → rest_of f.four ≡ rest_of true
          by (inl none) =
              ap (λ (ps : List (Option Sent)). woven (text_sent config whose f.four sending) (None ∷ ps)) none
              ∙ sym (ap (λ (ps : List (Option Sent)). woven (text_sent config whose true sending) (None ∷ ps)) none)
          by (inr t) = ap rest_of (meets _ _ _ _ _ _ _ can t split s)

      goes_on : (may : MayHold whose.max_routes (length sending.rules)) → rest_of f.four ≡ rest_of true
          → bounded_from config whose (to_there ++ beyond)
          ≡ (map (update_sent config whose sending) (rules_in f.parts), still (phase Established true config.hold_time))
      goes_on may same =
          let fewer : length (rules_in f.parts) ≤ length sending.rules =
          subst (λ (r : List Sent). length r ≤ length sending.rules) (sym f.rules_are) (few_taken _ _) in
          ap (bounded_from config whose) (whole ∙ ap (λ (z : List ℕ). open_sent config whose sending ++ z) same)
          ∙ ap (bounded whose.max_routes) (parts_arrive _ _ _ _ can
          (subst (AllByRecursion (ComesBack config whose sending)) (sym f.rules_are) (all_take _ _ _ can.read)))
          ∙ bounded_within _ _ _ (within config whose sending _ _ (may_hold_fewer _ _ _ fewer may))

      never_closed : (found : Phase) → closed why ≡ still found → ⊥
      never_closed found e = cc

      no_closing : (in_flight : List ℕ) → said ≡ told ++ in_flight → MayHold whose.max_routes (length sending.rules)
          → ClosesIn config peer whose h.earlier h.moment h.piece said why → ⊥
      no_closing in_flight split may c =
          never_closed (phase Established true config.hold_time)
          (ap (λ (s : List Update × Last). s.1) (sym (c.over.stays beyond) ∙ goes_on may (in_four in_flight split (begins c))))

      pub never_first : (in_flight : List ℕ) → said ≡ told ++ in_flight → MayHold whose.max_routes (length sending.rules) → ⊥
      never_first in_flight split may = by h.closes
        where
          by : ExpiresAt config whose h.earlier h.moment said why ⊎ ClosesIn config peer whose h.earlier h.moment h.piece said why → ⊥
          by (inl x) = no_expiry x
          by (inr c) = no_closing in_flight split may c
