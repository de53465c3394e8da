-- The laws of equations, tests, numbers, lists and chains of steps under one name, with the sets that the tactics search.
pub use mathlib.Core.Path.{refl, sym, ◌∙◌, ap, ap₂, subst, subst₂}
pub use mathlib.Core.Logic.{⊎_elim}
pub use mathlib.Core.Bool.{true≢false, false≢true}
pub use mathlib.Core.Option.{some-injective as some_injective}
pub use lib.ListN.{length-take, length-drop, drop_of_length-le, length-set, length-replicate, get_or-replicate, length-map, get_or-eq_default as get_or_default, get_or-map as get_or_map}
pub use lib.Seq.{take_all, get_or-set_same}
pub use borrow.Author.Tests.{eqb-true, eq-eqb, ne_eqb, not-false, not-true, ltb-false, ltb-true, eqb-false, le-leb, lt-leb}
pub use native.Mathlib.Omega.{arith}
pub use borrow.Author.Rules.{rules}
pub use native.Mathlib.Decide.{ℕ_discrete}
pub use Rattle.lists.proofs.Tests.{none≢some, by_cases, not_both, refuted, not_is, not_isn't, fails_iff, not_iff, and_left, and_right, and_both, and_iff, excluded, exclude_iff, and_swap, and_exchange, or_cases, or_left, or_right, or_neither, guarded, guard, guard_iff, beq_iff, cond_true, cond_false, cond_cases, one, eqb_iff, leb_iff, eqb_swap}
pub use Rattle.lists.proofs.Places.{get_d_default, drop_next, drop_back}
pub use Rattle.lists.proofs.Same.{same_is, same_self, same_iff, empty_is, empty_length, same_tail, same_differs, same_next, same_stops, same_end, same-lengths, same-append}
pub use Rattle.lists.proofs.All.{all_at, all_of, all_slots, all_fails, all_next, all_end, all_gathered, all_gathered_end, all_map, numbered_at, numbered_of, numbered_stops, numbered_next, numbered_end, numbered_same}
pub use Rattle.lists.proofs.Any.{any_at, any_of, any_fails, none_of, any_here, any_next, any_none, any_or, any_and, all_not, any_same, none_too, none_set}
pub use Rattle.lists.proofs.Count.{count_yes, count_no, count_add, count_bound, count_some, any-count, count_none, count_fewer, count_short, count_places}
pub use Rattle.lists.proofs.Keep.{keep_yes, keep_no, kept_here, kept_past, all_kept_fails, all_kept_next, all_kept_past, kept_end, all_kept_end, all_keep, any-keep, count-keep, none_kept_at, none_kept_of, length-keep, keep_none, keep_others, keep_append, keep-map}
pub use Rattle.lists.proofs.Pairs.{pairs_at, pairs_keep_at, pairs_keep_of, pairs-kept, pairs_kept_past, pairs_kept_fails, pairs_kept_end, pairs-map}
pub use Rattle.lists.proofs.First.{Found, after_found, found_iff, none_iff, Searching, searching_begins, searching_finds, searching_turns, searching_ends, after_map, find_here, find_next, find_found, find_keep, apart, perm_apart, perm_find}
pub use Rattle.lists.proofs.Permutations.{perm_refl, perm_eq, perm_sym, perm_length, perm_keep, perm_count, perm_any, perm_pairs, perm_set, keep_set_in, keep_set_gone}
pub use Rattle.lists.proofs.Others.{all_others}
pub use Rattle.lists.proofs.Set.{FreeSlot, SetAt, set_cases, set_placed, set-each, set-pairs, count-gained, one_before, one_added, free_stays, map-set}
pub use Rattle.lists.proofs.Cleared.{Clears, set_clears, map_clears, clear_each, count_clear, none_clear}
pub use Rattle.lists.proofs.Copied.{Copied, copied_none, copied_next, copied_all}
pub use Rattle.lists.proofs.Pigeonhole.{pigeonhole, least}
pub use Rattle.lists.proofs.Keyed.{Noted, keyed, keyed_own, back_skip, back_set}
pub use Rattle.lists.proofs.Counted.{Counted, count_begins, count_room, count_ends, count_skips, count_adds}
pub use Rattle.lists.proofs.Back.{Scanned, scan_none, scan_fails, scan_back, scan_end}
pub use Rattle.records.proofs.Checked.{Ends, stops, goes, refused≢passed, passed_same, refused_same, bind_of, test_refuses, stopped, went, ends_bind, ends_test, ends_cond, ends_some, ends_weaker}
