-- The names from elsewhere that this crate's proofs cite most, passed on from one place.
pub use Rattle.cil_accesses.specs.Chunks.{IsAccessOf, IsGiven, chunk_cmp, nowhere, numbers_cmp, run_cmp, set_from, with_bits}
unfoldable pub use Rattle.cil_accesses.specs.Chunks.{ones_of}
pub use Rattle.cil_accesses.specs.Groups.{IsFirstGroup, groups_of, put_first}
pub use Rattle.cil_accesses.specs.Merged.{merged, merged_from, of_one_key, taking_up}
pub use Rattle.cil_accesses.specs.Renumbered.{IsMoved, IsRenumbered, IsRenumberedAt, IsRenumberedIn, IsTarget, IsWithin, MovesUp, renumbered}
pub use Rattle.cil_accesses.specs.Rows.{HasBitsOf, IsNextClass, IsNextRow, IsPlace, at_place, class_cmp, has_class, in_row, row_cmp, rows_of, size_of}
pub use Rattle.cil_accesses.specs.View.{AreChunks, IsNextBit, NoBitFrom, access_at, at_bit, at_bits, has_bit, in_run, runs_of}
unfoldable pub use Rattle.cil_accesses.specs.View.{accesses_of, from_bit, run_accesses}
pub use Rattle.cil_accesses.specs.declared.access.AccessNumbers.{AccessNumbers}
pub use Rattle.cil_accesses.specs.declared.chunk.Chunk.{Chunk}
pub use Rattle.cil_accesses.specs.declared.rows.RowPlace.{RowPlace}
pub use Rattle.cil_specs.proofs.FaultWords.{contains-filtered}
pub use Rattle.cil_specs.proofs.NamesLemmas.{all-append, all-contained, all-first, all-second, contains-cases, contains-first, contains-map, contains-mapped, contains-middle, contains-other}
pub use Rattle.cil_specs.proofs.ReportLemmas.{equal-is, same-kind, then_equal}
pub use Rattle.cil_specs.specs.Rule.{kind_index}
pub use Rattle.cil_text.specs.Image.{rule_kind_of}
pub use Rattle.std.proofs.Common.{Any, Bool, Bor, Contains, IsPermutation, IsSorted, List, MatchOption, None, Some, [], add-one, ap, append-nil, append_assoc, arith, below_more, bit_or, cond, count_ones, div-le_self, drop, eq-eqb, false, filter, flat_map, get_or, if◌then◌else◌, inl, inr, length, map, not, one-add, option_map, pow-suc, refl, set, slice_get, subst, suc, sum_by, sym, take, take_all, true, w64, zero, ℕ, ◌%◌, ◌*◌, ◌++◌, ◌+◌, ◌-◌, ◌/◌, ◌<◌, ◌==◌, ◌^◌, ◌↔◌, ◌∙◌, ◌∷◌, ◌≡◌, ◌≤◌, ◌⊎◌}
pub use Rattle.std.proofs.lemmas.Bool.{cases_eq, cases_lt, eqb-false, eqb-true, false_from_ne_true, true≢false}
pub use Rattle.std.proofs.lemmas.Cmp.{nat_cmp_total, on_total, then_total, tied_itself}
pub use Rattle.std.proofs.lemmas.List.{drop_at, get_or_default, length-append, length-map, map-append, set-get_or, set_split, take-append-drop, take_at, take_more, with_items_is}
pub use Rattle.std.proofs.lemmas.List.Elements.{All-contains, All-from_recursion, All-nil, All-set, Contains-append_cases, Contains-append_left, Contains-append_right, filter-append, recursion_from_All}
pub use Rattle.std.proofs.lemmas.List.Sums.{prefix_len_is, sum_by-append, sum_by-cons, sum_by-drop_more}
pub use Rattle.std.proofs.lemmas.Nat.{leading_top, ones_cat, pow_pos, shr-shr, shr_split}
pub use Rattle.std.proofs.lemmas.Nat.Bits.{bit_at-lt, bit_at-suc, bit_at-trailing_zeros, bit_at-zero, bit_at_above, bit_at_cat_high, bit_at_cat_low, bit_at_lowest, bit_at_or, bit_at_set_other, bit_at_set_same}
pub use Rattle.std.proofs.lemmas.Result.{on_ok_weaker}
pub use Rattle.std.specs.Cmp.{IsTotalOrder}
pub use Rattle.std.specs.Int.{bit_at, leading_zeros, trailing_zeros}
pub use Rattle.std.specs.List.{All, AllByRecursion, HoldsAt, prefix_len}
pub use Rattle.std.specs.List.Sorted.{IsStrictlyIncreasing}
unfoldable pub use Rattle.std.specs.List.Sorted.{IsStrictlySortedBy}
pub use Rattle.std.specs.Ordering.{eq_by_cmp, is_eq, is_lt, nat_cmp, ordering_reverse, ordering_then}
pub use Rattle.std.specs.declared.cmp.Ordering.{Ordering}
pub use Rattle.std.specs.declared.cmp.Ordering.TheVariants.{Equal, Greater, Less}
