-- The words of the crates below, and of the specs, that lemmas here speak of.
pub use Rattle.std.proofs.Common.{Bool, Err, IfSome, IsSome, List, None, Ok, OnErr, OnOk, Option, Result, Some, [], ap, append-nil, append_assoc, ap₂}
pub use Rattle.std.proofs.Common.{arith, cond, drop, false, filter, find, flat_map, get_or, if◌then◌else◌, inl, inr, is_some, length, map, map-id}
pub use Rattle.std.proofs.Common.{max, not, option_and_then, option_map, refl, subst, sym, take, true, true≢false, unwrap_or, ℕ, ◌&&◌, ◌++◌, ◌+◌, ◌<◌}
pub use Rattle.std.proofs.Common.{◌==◌, ◌||◌, ◌∙◌, ◌∷◌, ◌≡◌, ◌≢◌, ◌⊎◌}
pub use Rattle.std.proofs.lemmas.Bool.Decides.{nat_tests}
pub use Rattle.std.proofs.lemmas.List.{drop_all, length-map, map-append, nil_from_length, take_more, take_rest, Folds.{find-append, list_any-append}}
pub use Rattle.std.proofs.lemmas.Map.{keys-set_value, lookup-remove_entry, lookup-set_value}
pub use Rattle.std.proofs.lemmas.Map.Keys.{IsDistinct-from_sorted, sorted_head, sorted_tail}
pub use Rattle.std.proofs.lemmas.Map.Made.{is_some-lookup, length-from_keys}
pub use Rattle.std.specs.BTreeMap.{BTreeMap, insert_entry, is_at}
pub use Rattle.std.specs.Cmp.{IsEquivalence, IsTotalOrder, alike_right, eq_by_cmp_equiv, nat_cmp_total, on_total, then_total, tied_then}
pub use Rattle.std.specs.{List.{AllByRecursion, list_any}, Map.{keys_of, remove_entry, set_value}, Option.{option_or}}
pub use Rattle.std.specs.Ordering.{is_eq, match_ordering, nat_cmp, ordering_reverse}
pub use Rattle.std.specs.declared.cmp.Ordering.{Ordering, TheVariants.{Equal, Greater, Less}}
unfoldable pub use Rattle.std.specs.List.{IsDistinct, Sorted.{IsStrictlySortedBy}}
pub use Rattle.fs_base.proofs.Bools.{and_both, and_first, and_second, false_of_not, if_false, if_true, or_either, or_first, or_none, or_second}
pub use Rattle.fs_base.proofs.Bools.{same_tests, true_of_not}
pub use Rattle.fs_base.proofs.Lists.{any_filter, each, each_append, each_filtered, each_mapped, each_of_map, each_weaker, none_each}
pub use Rattle.fs_base.proofs.{NumberTests.{eq_itself, equal_of_eq}, Options.{none_there, some_there}, Orderings.{equal_of_is_eq, is_eq_of_nats}}
pub use Rattle.fs_base.specs.{Bits.{afi_of}, Config.{peer_of}, Prefix.{prefix_cmp, prefix_matches_eq}}
pub use Rattle.fs_base.specs.declared.{config.{Config.{Config}, Peer.{Peer}}, path.Path.{Path}, prefix.{Family.{Family}, Prefix.{Prefix}}}
pub use Rattle.fs_nlri.specs.{Parts.{Ruled}, Rule.{shown}}
pub use Rattle.fs_order.specs.{Comparison.{rule_cmp}, Ranked.{rule_total}}
pub use Rattle.fs_message.specs.Deframer.{pending}
pub use Rattle.fs_attrs.specs.{Lists.{IsPrefix}, Prefixes.{Shown}}
pub use Rattle.fs_attrs.specs.Update.{flows_in, given_prefixes, gives_prefixes, gives_rules, takes_prefixes, takes_rules, unicast_in}
pub use Rattle.fs_attrs.specs.declared.update.Update.{Update}
pub use Rattle.fs_session.specs.declared.{times.Times.{Times}, transition.Phase.{Phase}}
pub use Rattle.fs_speaker.proofs.MessageRuns.{runs_takes, runs_waits}
pub use Rattle.fs_speaker.proofs.SessionSteps.{session_stops, session_takes, session_waits}
pub use Rattle.fs_speaker.proofs.Handover.{close_is}
pub use Rattle.fs_speaker.specs.Handed.{Handed, Point, hand, handed, runs_by, with_taken}
pub use Rattle.fs_speaker.specs.Line.{CloseIs, Step, fresh, rest_step, step_at, stops, takes, waits}
pub use Rattle.fs_speaker.specs.Session.{Does, Last, Live, at_start, begins, closed, live, reply_of, session_from, step_of, step_with, still}
pub use Rattle.fs_speaker.specs.Session.{with_update}
pub use Rattle.fs_speaker.specs.{Side.{reads_update, receiver, reply_at, reply_to}, State.{standing_at, standing_by}}
pub use Rattle.fs_speaker.specs.Times.{at_moment, taken_in, tick_at}
pub use Rattle.fs_speaker.specs.Transition.{Machine, not_taken, notified, opened, phase, taken, transition_at, transition_by, updates}
pub use Rattle.fs_speaker.specs.declared.Closed.{Closed, TheVariants.{Fault, Memory, NoFamily, Notified}}
pub use Rattle.fs_speaker.specs.declared.Standing.TheVariants.{Down, Ended}
pub use Rattle.fs_speaker.specs.declared.State.TheVariants.{Established, WaitKeep, WaitOpen}
pub use Rattle.fs_tape.specs.Tape.{Item, came_up, received, was_lost}
pub use Rattle.fs_unicast.{proofs.PlaceOrder.{place_total}, specs.{Unicast.{Route, place_cmp}, declared.unicast.Place.{Place}}}
pub use Rattle.fs_validate.specs.declared.route.FlowRoute.{FlowRoute}
pub use Rattle.fs_rules.proofs.Entries.{lookup-insert_entry, sorted-insert_entry, sorted-remove_entry}
pub use Rattle.fs_rules.specs.Changes.{AdmitsElsewhere, Covers, Noted, is_to}
pub use Rattle.fs_rules.specs.Table.{Held, has_route, held_count, is_key, put_route, without_peer, without_peer_flows, without_peer_unicast}
pub use Rattle.fs_rules.specs.Table.{without_route}
pub use Rattle.fs_desk.specs.Apply.{Announces, Applies, Changes, given_at, given_or, nothing, rules_given, rules_taken, same, taken_of, told, told_of}
pub use Rattle.fs_desk.specs.Desk.{Desked, ExpiresPlayed, ExpiresSo, HandsPeer, HasExpired, HasHoldTime, IsHanded, KeepsOthers, LosesNothing, PeerIs}
pub use Rattle.fs_desk.specs.Desk.{Played, PlayedBut, Plays, Replied, RepliedBy, RepliesBehind, StandsAs, StaysPlayed, TicksPeer, expired_after}
pub use Rattle.fs_desk.specs.Desk.{expired_with, session_at, standing_at_desk, standing_but, standing_of}
pub use Rattle.fs_desk.specs.Idle.{AreIdle, IdlesMessage, IdlesPiece, IdlesUpdate, IsIdle, KeepsAll, completed}
pub use Rattle.fs_desk.specs.Leaves.{FlowKey, IsListed, Leaves, LeavesBut, counted, flow_at, flow_key, flow_key_cmp, given_of, nobody, unicast_at}
pub use Rattle.fs_desk.specs.Leaves.{updates_but, updates_of}
pub use Rattle.fs_desk.specs.Life.{begins_life, bounds_life, life, sent_by, sent_in}
pub use Rattle.fs_desk.specs.Limit.{bounded, bounded_from, bounded_replies_from, bounded_session, first_over, fronts, is_over, replies_to_limit}
pub use Rattle.fs_desk.specs.Limit.{routes_left, too_many}
pub use Rattle.fs_desk.specs.Receive.{AreWithin, Comes, ComesOpen, Extends, Follows, HasReplied, HasRepliedMore, HasTaken, IsFed, IsLeft, IsOver, IsReplying}
pub use Rattle.fs_desk.specs.Receive.{IsReplyingMore, IsUp, MessageComes, MessageTaken, PieceComes, RepliesMessage, RepliesTo, Spares, TakesMessage}
pub use Rattle.fs_desk.specs.Receive.{TakesPiece, TakesUpdate, comes_to, point_of, said_in, wants_memory, with_updates}
pub use Rattle.fs_desk.specs.Updates.{Given, flow_left, given_with, gives_at, is_prefix, is_rule, last_such, path_left, rule_given, same_prefix}
pub use Rattle.fs_desk.specs.Updates.{tells_of, tells_of_rule, unicast_left}
pub use Rattle.fs_desk.specs.{Watched.{Tells}, declared.watched.Watched.{Watched}}
