-- The limit of routes per peer: how many routes the updates of a peer leave it holding, and its session, which closes
-- where they are more than it may hold.
use Rattle.std.specs.Prelude.{ℕ, ◌+◌, nat_lt, List, [], ◌∷◌, ◌++◌, map, filter, find, flat_map, Bool, false, Option, Some, None, is_some}
use Rattle.std.specs.Set.{distinct_count}
use Rattle.fs_base.specs.{Config.{peer_of}, declared.config.{Config.{Config}, Peer.{Peer}}}
use Rattle.fs_attrs.specs.{declared.update.Update.{Update}, Update.{gives_prefixes, gives_rules}}
use Rattle.fs_speaker.specs.declared.{Closed.{Closed, TheVariants.{Fault}}, State.TheVariants.{WaitOpen}}
use Rattle.fs_speaker.specs.{Replies.{replies_from}, Session.{at_start, Last, still, closed, session_from}, Side.{reply_to, reply_at}}
use Rattle.fs_desk.specs.Updates.{same_prefix, path_left, is_rule, flow_left}

-- how many routes the updates leave held: prefixes and rules, each counted once
abbrev pub routes_left : List Update → ℕ
routes_left updates =
    distinct_count same_prefix (filter (λ prefix. is_some (path_left prefix updates)) (flat_map gives_prefixes updates))
    + distinct_count is_rule (filter (λ rule. is_some (flow_left rule updates)) (flat_map gives_rules updates))

-- so many are more than a peer with this limit may hold
abbrev pub is_over : Option ℕ → ℕ → Bool
is_over None count = false
is_over (Some most) count = nat_lt most count

-- the updates up to each of them
abbrev pub fronts : {A : Type 0} → List A → List (List A)
fronts [] = []
fronts (x ∷ xs) = (x ∷ []) ∷ map (λ front. x ∷ front) (fronts xs)

-- the updates up to the first behind which the peer holds more than it may
abbrev pub first_over : Option ℕ → List Update → Option (List Update)
first_over most updates = find (λ front. is_over most (routes_left front)) (fronts updates)

-- Cease, Maximum Number of Prefixes Reached (RFC 4486, section 4)
abbrev pub too_many : Closed
too_many = Fault 6 1

-- The session with a limit is the one without, up to the first update behind which the peer holds more than it may.
-- There it closes.
abbrev pub bounded : Option ℕ → List Update × Last → List Update × Last
bounded most session = elim (first_over most session.0) [ None ↦ session | Some front ↦ (front, closed too_many) ]

abbrev pub bounded_from : Config → Peer → List ℕ → List Update × Last
bounded_from config peer octets = bounded peer.max_routes (session_from config peer at_start octets)

-- The updates that a peer's octets give, and what its session comes to.
abbrev pub bounded_session : Config → ℕ → List ℕ → List Update × Last
bounded_session config number octets =
    elim (peer_of number config.peers) [ None ↦ ([], still at_start) | Some peer ↦ bounded_from config peer octets ]

-- What is replied up to that closing: no update comes before the OPEN, which is answered, and no other message is but
-- one that closes.
abbrev pub replies_to_limit : Config → List ℕ
replies_to_limit config = reply_to config WaitOpen ++ reply_at too_many

abbrev pub bounded_replies_from : Config → Peer → List ℕ → List ℕ
bounded_replies_from config peer octets =
    elim (first_over peer.max_routes (session_from config peer at_start octets).0) [
      | None ↦ replies_from config peer at_start octets
      | Some front ↦ replies_to_limit config
    ]

-- All that is replied to a peer's octets.
abbrev pub bounded_replies : Config → ℕ → List ℕ → List ℕ
bounded_replies config number octets =
    elim (peer_of number config.peers) [ None ↦ [] | Some peer ↦ bounded_replies_from config peer octets ]
