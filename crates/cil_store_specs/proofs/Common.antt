-- The names from elsewhere that this crate's proofs cite most, passed on from one place.
pub use Rattle.cil_specs.proofs.FaultWords.{contains-append_cases, contains-filtered, contains-left, contains-right, faulty-word, word-offsets, words_in}
pub use Rattle.cil_specs.proofs.NamesLemmas.{all-append, all-contained, all-first, all-second, all-weaker, contains-cases, contains-first, contains-map, contains-middle, contains-other, passed}
pub use Rattle.cil_specs.proofs.Runs.{both_true, first_true, same_run, second_true}
pub use Rattle.cil_specs.proofs.SearchLemmas.{AllBehind, IsTiedAt, all-after, ascends-at, behind-greater, behind-same, keep, less-is, less-or-same, none-before, place, place-here, place-later, reversed, skip}
pub use Rattle.cil_specs.specs.Joined.{Module, Placed, joined, namespace_inside, optionals_inside, placed}
pub use Rattle.cil_specs.specs.Meaning.{Meaning, aims, gives, holds, is_in_table, keeps_type, meaning_of}
pub use Rattle.cil_specs.specs.Report.{AreAtoms, AreChanges, AreRows, Changes, Row, atom_cmp, name_cmp, row_line}
pub use Rattle.cil_store_specs.specs.Answers.{Answer, Answers, AnswersAll, Batch, HeldEdits, IsCommitted, IsHeld, State, a_line, after_no_memory, after_the_limits, all_held, answer_of, by_closing, by_dump, by_engine, by_holding, by_modules, by_opening, by_the_batch, by_the_edit, had_no_memory, has_no_memory, held_as, is_open, is_refusal, lines_of, makes_all, none_to_abort, none_to_commit, passes_the_limits, state_of, was_too_long, without_memory}
pub use Rattle.cil_store_specs.specs.Limits.{HasGoodTexts, IsEntryWithinLimits, IsWithinLimits}
pub use Rattle.cil_store_specs.specs.Next.{AreModules, AreTaken, Edit, HasGoodText, IsMeaningOf, IsNotTaken, IsPolicyOf, IsPolicyRefusal, IsTaken, IsTextRefusal, Judgement, Next, NextOfAll, Refusal, accepts, all_good, at_once, at_place, bad_policy_of_all, begins_module_name, by_its_text, by_itself, by_store, changed, disable, enable, for_memory, held_bytes, install, install_of, is_module_name, is_priority, is_too_long, one_not_taken, refuses, remove, still_disabled, store_refusal, too_long}
pub use Rattle.cil_store_specs.specs.Run.{AreDroppedOf, AreRowsOf, AreViolationsOf, Call, IsAccepted, Reply, Run, Step, a_batch, accepted, an_edit, ask_dropped, ask_listing, ask_rows, ask_violations, changed_by, dropped_optionals, is_answered, listed, lists, out_of_memory, printed, prints, refused, rejected, tells_dropped, tells_violations, violated}
pub use Rattle.cil_store_specs.specs.Script.{Command, Commands, End, HasGoodWords, IsCommand, IsEnd, IsGoodName, IsNoCommand, MayLackItsEnd, aborts, asks_dropped, asks_dump, asks_modules, asks_rules, asks_violations, begins, behind, command_bytes, commits, dump_commands, dump_edits, dump_text, ends, is_shown, line_of, makes, refusal_line, stops, whole, without_end, words_of}
pub use Rattle.cil_store_specs.specs.Session.{BeginsWith, IsSession, Status, all_accepted, all_of_it, last_end, some_refused, status_of, whole_ones}
pub use Rattle.cil_store_specs.specs.Store.{Entry, IsStore, Store, active, active_text, empty, entry_at, entry_cmp, has_room, is_entry, is_highest, is_installed, put, put_by, put_name, text_bytes, without, without_name}
pub use Rattle.std.proofs.Common.{Bool, Contains, List, None, Option, Some, [], ap, append_assoc, arith, bytes_eq, codes, cond, decimal, drop, false, filter, find, flat_map, fold, get_or, if◌then◌else◌, inl, inr, is_some, length, length-append, map, nat_le, nat_lt, not, refl, subst, suc, sym, take, true, true≢false, zero, ℕ, ◌%◌, ◌&&◌, ◌*◌, ◌++◌, ◌+◌, ◌-◌, ◌<◌, ◌==◌, ◌^◌, ◌||◌, ◌∙◌, ◌∷◌, ◌≡◌, ◌≢◌, ◌≤◌, ◌⊎◌}
pub use Rattle.std.proofs.lemmas.Bool.{and_parts, cases_Bool, eqb-true, le-leb, le-ltb, leb-true, lt-ltb, ltb-false, ltb-true, not-true, or_cases}
pub use Rattle.std.proofs.lemmas.Cmp.{back_total, nat_cmp_total, nat_list_cmp_total, on_total, then_total, tied_itself}
pub use Rattle.std.proofs.lemmas.List.{append-nil, length-map, map-append, take-append-le, take_all}
pub use Rattle.std.proofs.lemmas.List.Folds.{list_all-append, list_all_at, list_any-append}
pub use Rattle.std.proofs.lemmas.List.Kept.{IsStrictlySortedBy-filter}
pub use Rattle.std.proofs.lemmas.List.Sums.{fold-append, sum_by-append, sum_by-cons}
pub use Rattle.std.proofs.lemmas.Map.Lookups.{CmpEqualImpliesEq, exact_bytes}
pub use Rattle.std.proofs.lemmas.Slice.Eq.{bytes_eq-Decides}
pub use Rattle.std.specs.Cmp.{IsTotalOrder}
pub use Rattle.std.specs.List.{AllByRecursion, insert, join_with_byte, list_all, list_any, sum_by}
unfoldable pub use Rattle.std.specs.List.Sorted.{IsStrictlySortedBy}
pub use Rattle.std.specs.Ordering.{is_lt, nat_cmp, ordering_reverse, ordering_then}
pub use Rattle.std.specs.declared.cmp.Ordering.{Ordering}
pub use Rattle.std.specs.declared.cmp.Ordering.TheVariants.{Equal, Greater, Less}
