-- The words of the crates below, and of the specs, that lemmas here speak of.
pub use Rattle.std.proofs.Common.{Bool, Err, IfOk, IfSome, List, MatchOption, None, Ok, Option, Result, Some, [], add-one, ap, ap₂, arith, bit_and, bit_or}
pub use Rattle.std.proofs.Common.{cond, count_by, drop, drop-cons, drop_of_length-le, false, filter, get_or, get_or-drop, if◌then◌else◌, inl, inr, length}
pub use Rattle.std.proofs.Common.{length-take-le, map, max, min, refl, rules, set, subst, suc, sym, take, take_all, true, true≢false, w64, zero, ℕ, ◌%◌, ◌*◌}
pub use Rattle.std.proofs.Common.{◌++◌, ◌+◌, ◌-◌, ◌/◌, ◌<◌, ◌==◌, ◌^◌, ◌||◌, ◌↔◌, ◌∙◌, ◌∷◌, ◌≡◌, ◌≤◌, ◌⊎◌}
pub use Rattle.std.proofs.lemmas.Bool.{cases_lt, cases_order, eq-eqb, eqb-true}
pub use Rattle.std.proofs.lemmas.List.{drop-map, drop_all, drop_more, get_or-map, get_or-set_other, get_or-set_same, get_or_past, length-drop}
pub use Rattle.std.proofs.lemmas.List.{length-map, length-set, take-take}
pub use Rattle.std.proofs.lemmas.List.Elements.{All-append, All-cons, All-drop, All-head, All-push, All-tail, All-take}
pub use Rattle.std.proofs.lemmas.List.Sums.{count_by_more_yes, sum_by-cons, sum_by-take-drop, sum_by-take-le}
pub use Rattle.std.proofs.lemmas.Nat.Bits.{bit_at-lt, bit_at-trailing_zeros, bit_at-zero, bit_at_and, bit_at_or, bit_at_set_same}
pub use Rattle.std.proofs.lemmas.Option.{none-some}
pub use Rattle.std.specs.{Int.{bit_at, trailing_zeros}, List.{All, AllByRecursion, AllZip, list_all, splice}}
pub use Rattle.fs_base.proofs.Bools.{and_first, and_second, false_from, if_false, if_true}
pub use Rattle.fs_base.specs.{Bits.{cleared, width_of}, declared.prefix.{Family.{Family, TheVariants.{V4, V6}}, Prefix.{Prefix}}}
pub use Rattle.fs_nlri.proofs.Destination.{IsMade, destination_first}
pub use Rattle.fs_nlri.specs.Parts.{Body, ListBody, Part, Ruled, V4Body, V6Body}
pub use Rattle.fs_nlri.specs.Rule.{AreNormal, IsNormalAt, IsRule, destination_body, destination_in, destination_of}
pub use Rattle.fs_order.specs.Laws.{last_shown}
pub use Rattle.fs_packet.specs.{Fields.{Viewed, family_of}, Matching.{body_matches, is_match, is_prefix_of, part_matches}}
pub use Rattle.fs_rules.proofs.Noting.{family_of_destination}
pub use Rattle.fs_rules.specs.{Lent.{Listed, all_admitted, listed, shown_lent}, Table.{Held, IsAdmitted, IsRuleOf, admitted}}
pub use Rattle.fs_rules.specs.{Walk.{first_from, goes_on, walk_from}, declared.Change.{Change}}
pub use Rattle.fs_ranges.specs.{Facts.{AreFacts, Facts, IsSmall, IsSmallAddress, key_of}, Fast.{StandsFor, facts_hold}, Spans.{contains, is_in}}
pub use Rattle.fs_ranges.specs.declared.Fast.{Fast}
pub use Rattle.fs_buckets.proofs.Destinations.{HasDestination, from_span, made_destination}
pub use Rattle.fs_buckets.proofs.{Nesting.{all_of_family, nesting}, Pairing.{each_pushed, each_size}}
pub use Rattle.fs_buckets.proofs.Replacing.{nothing_nests, rules_size, sound_more}
pub use Rattle.fs_buckets.proofs.Splicing.{at_back, at_front, each_spliced, map_spliced, spliced_size}
pub use Rattle.fs_buckets.proofs.Stretching.{stretch_none, stretch_some}
pub use Rattle.fs_buckets.specs.{Addresses.{nodes_in, number_of, numbers_in}, Buckets.{AreRising, node_at}}
pub use Rattle.fs_buckets.specs.Destinations.{AreTo, IsOfFamily, IsStretch, span_by, span_of, spans_of, target_of}
pub use Rattle.fs_buckets.specs.{Housed.{AreHoused, AreSound, HasStretch}, Runs.{AreNesting}, declared.Node.{Node}}
pub use Rattle.fs_compile.specs.Columns.{AreMarked, ArePortRows, ArePortsMarked, AreRowsOf, Grown, IsClass, IsColumn, IsMarked, bit_in, words_for}
pub use Rattle.fs_compile.specs.Filters.{AreFilters, AreRows, IsFilter, first_at, front_of, word_of}
pub use Rattle.fs_compile.specs.Index.{AreKept, Indexed, IsIndexOf, IsMended, StandForEach, actions_of}
pub use Rattle.fs_compile.specs.Matcher.{AreMadeWhereNoted, ArePut, StandsForLists, compiled_in, WalksByNext, WalksOn, admitted_in, next_from}
pub use Rattle.fs_compile.specs.Mending.{AreOwn, put_in, replaced}
pub use Rattle.fs_compile.specs.Reach.{covers_address, reaches, reaching, reaching_behind, reaching_from}
pub use Rattle.fs_compile.specs.Searched.{IsAt, IsNearIn, IsWhole, count_of}
pub use Rattle.fs_compile.specs.Search.{Found, IsNear, Missed, Scanned, Within, hit_number, hits, marked, start_at, tested_to, tests_of}
pub use Rattle.fs_compile.specs.declared.{columns.PortRows.{PortRows}, compiled.Compiled.{Compiled}, filters.{Filter.{Filter}, Rows.{Rows}}}
pub use Rattle.fs_compile.specs.declared.«search».{Cursor.{Cursor}, Hit.{Hit}, Search.{Search}}
