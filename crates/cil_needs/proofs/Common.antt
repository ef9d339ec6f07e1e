-- The names from elsewhere that this crate's proofs cite most, passed on from one place.
pub use Rattle.cil_needs.specs.Dependents.{AreDependents, AreReopened, IsDependent, dependent, dependents_of_node, node_of}
pub use Rattle.cil_needs.specs.Needs.{are_met, is_met, is_need_below, meeting}
pub use Rattle.cil_needs.specs.declared.dependents.Dependent.{Dependent}
pub use Rattle.cil_needs.specs.declared.greatest.Need.{Need}
pub use Rattle.std.proofs.Common.{All, Bool, Contains, IfSome, IsTrue, List, None, Option, Some, [], ap, arith, cond, count_by, false, get_or, inl, inr, leb, length, ltb, nat_lt, not, refl, replicate, rules, set, slice_get, subst, suc, sym, take, true, true≢false, zero, ℕ, ◌*◌, ◌++◌, ◌+◌, ◌<◌, ◌||◌, ◌∙◌, ◌∷◌, ◌≡◌, ◌≢◌, ◌≤◌, ◌⊎◌}
pub use Rattle.std.proofs.lemmas.Bool.{and_parts, cases_eq, cases_lt, leb-false, leb-true, ltb-false, ltb-true, not-false, not-true, or_cases, or_left, or_parts, or_right}
pub use Rattle.std.proofs.lemmas.List.{get_or-replicate, get_or-set_other, get_or-set_same, length-replicate, length-set, length-take, nil_from_length, take_all, take_more}
pub use Rattle.std.proofs.lemmas.List.Elements.{All-append, All-contains, All-pop, All-same, All-weaker, Contains-append_cases, Contains-append_left, Contains-append_right, Contains-get_or, Contains-push_cases}
pub use Rattle.std.proofs.lemmas.List.Sorted.{Contains-permutation, IsNonDecreasingBy-from_sort_by_key, IsPartitionPoint-from_clause, IsPartitionedBy-leb, IsPartitionedBy-ltb, IsPermutation-sym}
pub use Rattle.std.proofs.lemmas.Option.{get_or_from_slice_get, same_Some, slice_get-get_or, slice_get_within}
pub use Rattle.std.proofs.lemmas.Result.{on_ok_weaker}
pub use Rattle.std.specs.List.{list_all, list_any, range_with_len}
pub use Rattle.std.specs.Option.{option_to_list}
