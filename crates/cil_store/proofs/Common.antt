-- The names from elsewhere that this crate's proofs cite most, passed on from one place.
pub use Rattle.cil_bind.specs.declared.joined.NamedModule.{NamedModule}
pub use Rattle.cil_counters.specs.ChangeCounts.{CountsSome}
pub use Rattle.cil_counters.specs.Counted.{AreSettled, AreTakenBack, IsNow, WasBefore, count_with}
pub use Rattle.cil_resolve.specs.Resolved.{meaning_in}
pub use Rattle.cil_rules.proofs.RowLemmas.{are-rows, rows-listed}
pub use Rattle.cil_rules.specs.Rows.{listed, rows_of}
pub use Rattle.cil_specs.proofs.SearchLemmas.{IsTiedAt, ascends-at, leaves, less-is, less-or-same, partitioned, prefix-of-point, reversed}
pub use Rattle.cil_specs.specs.Joined.{Module, joined}
pub use Rattle.cil_specs.specs.Meaning.{Meaning, Means, count_of, gives, is_in_table, meaning_of}
pub use Rattle.cil_specs.specs.Report.{AreAtoms, AreChanges, AreRows, Changes, Row, is_listed, name_cmp, names_rise}
pub use Rattle.cil_specs.specs.Rule.{Atom, Declared, Rule, SetStatement}
pub use Rattle.cil_store.specs.Calls.{call_of, reply_of}
pub use Rattle.cil_store.specs.Counted.{AreCountedBetween, AreCountedChanges, AreCountersOf, meaning_kept}
pub use Rattle.cil_store.specs.Edits.{edit_of, name_of, priority_of, refusal_of, store_refusal_of}
pub use Rattle.cil_store.specs.Refusing.{AreRefused, AreStopped, IsRefusalOf, IsRefusalOfPolicy, IsRefusedBatch, IsRefusedEdit, IsRefusedPolicy, IsRefusedText}
pub use Rattle.cil_store.specs.Stored.{AreParsedBy, AreParsedOf, AreSharedOf, AreSized, entry_of, owned_entry}
pub use Rattle.cil_parse.specs.declared.parsed.ParsedModule.{ParsedModule}
pub use Rattle.cil_store.specs.declared.entry.SharedModule.{SharedModule}
pub use Rattle.cil_store_specs.proofs.ActiveLemmas.{active-ascend, active-first, active-none, highest-at, is_first_at}
pub use Rattle.cil_store_specs.proofs.OneStore.{meaning-same}
pub use Rattle.cil_store_specs.proofs.PutLemmas.{put-ordered, puts}
pub use Rattle.cil_store_specs.proofs.StoreOrder.{entry_total}
pub use Rattle.cil_store_specs.specs.Next.{AreModules, AreTaken, HasGoodText, IsMeaningOf, IsTaken, Refusal, all_good, at_once, bad_policy_of_all, batch_word, by_its_text, by_itself, changed, held_bytes, install, install_of, is_too_long, one_not_taken, refuses, store_refusal, too_long}
pub use Rattle.cil_store_specs.specs.Run.{AreRowsOf, AreViolationsOf, Call, Reply, Run, Step, a_batch, accepted, changed_by, dropped_optionals, lists, out_of_memory, printed, prints, refused, rejected, tells_dropped, tells_violations, violated}
pub use Rattle.cil_store_specs.specs.Store.{Entry, IsStore, Store, active, active_text, empty, entry_at, entry_cmp, is_active, is_entry, put, put_by, put_name, text_bytes, without}
pub use Rattle.cil_stream.proofs.Gaining.{gains-none}
pub use Rattle.std.proofs.Common.{Bool, Contains, Err, IfErr, IfOk, IsTrue, List, None, Ok, OnErr, OnOk, Option, Result, Some, [], ap, arith, bytes_eq, codes, cond, drop, false, filter, find, get_or, if◌then◌else◌, inl, inr, is_ok, length, length-append, map, not, of_calls, one-add, refl, rules, slice_index_or, slice_set, subst, suc, sum_by, sym, take, true, true≢false, vec_len, zero, ℕ, ◌&&◌, ◌*◌, ◌++◌, ◌+◌, ◌-◌, ◌<◌, ◌==◌, ◌^◌, ◌||◌, ◌∙◌, ◌∷◌, ◌≡◌, ◌≤◌}
pub use Rattle.std.proofs.lemmas.Cmp.{nat_list_cmp_total, ranked, tied_itself}
pub use Rattle.std.proofs.lemmas.Fn.{always_returns_same}
pub use Rattle.std.proofs.lemmas.List.{get_or_default, map-append, take-append-drop, take_all, take_more}
pub use Rattle.std.proofs.lemmas.List.Kept.{IsStrictlySortedBy-filter}
pub use Rattle.std.proofs.lemmas.Option.{get_or_from_slice_get, slice_get_past, slice_get_read, slice_get_within}
pub use Rattle.std.proofs.lemmas.Result.{IfErr-weaker, err_from_is_err_and}
pub use Rattle.std.specs.List.{AllByRecursion, insert, list_any, prefix_len, remove, slice_get}
unfoldable pub use Rattle.std.specs.List.{IsDistinct}
pub use Rattle.std.specs.List.Sorted.{IsPartitionPoint, IsPartitionedBy, IsPermutation}
unfoldable pub use Rattle.std.specs.List.Sorted.{IsStrictlySortedBy}
pub use Rattle.std.specs.Option.{MatchOption, is_some, option_map}
pub use Rattle.std.specs.Ordering.{is_lt, nat_cmp, ordering_reverse, ordering_then}
pub use Rattle.std.specs.declared.cmp.Ordering.{Ordering}
pub use Rattle.std.specs.declared.cmp.Ordering.TheVariants.{Equal, Greater, Less}
