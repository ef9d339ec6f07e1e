-- The names from elsewhere that this crate's proofs cite most, passed on from one place.
pub use Rattle.cil_lookup.specs.Lookup.{AreWithin, IsLead, Knows, named, namespace_at, path_of, table_of, word_at}
pub use Rattle.cil_lookup.specs.Namespaces.{AreInside, AreSpaces, Opens, spaces_of, with_block}
pub use Rattle.cil_lookup.specs.declared.lookup.Key.{Key}
pub use Rattle.cil_lookup.specs.declared.namespaces.Block.{Block}
pub use Rattle.cil_specs.proofs.Runs.{first_true, second_true}
pub use Rattle.cil_specs.specs.Joined.{Placed}
pub use Rattle.cil_specs.specs.Lookup.{inside, nearest_block, outward}
pub use Rattle.std.proofs.Common.{Bool, Contains, List, Some, [], ap, append-nil, append_assoc, arith, bytes_eq, drop, false, fold, get_or, if◌then◌else◌, inl, inr, length, nat_eq, position, refl, subst, suc, sym, true, true≢false, zero, ℕ, ◌&&◌, ◌++◌, ◌+◌, ◌-◌, ◌<◌, ◌^◌, ◌∙◌, ◌∷◌, ◌≡◌, ◌⊎◌}
pub use Rattle.std.proofs.lemmas.Bool.{cases_order}
pub use Rattle.std.proofs.lemmas.Cmp.{nat_list_eq_equiv}
pub use Rattle.std.proofs.lemmas.List.{get_or_append_left, get_or_default, get_or_push, length_push}
pub use Rattle.std.proofs.lemmas.List.Elements.{Contains-push_cases}
pub use Rattle.std.proofs.lemmas.List.Folds.{Any-from_list_any, list_any_at}
pub use Rattle.std.proofs.lemmas.List.Quantifiers.{position-Some}
pub use Rattle.std.proofs.lemmas.Option.{same_Some, slice_get-get_or, slice_get_within}
pub use Rattle.std.specs.List.{list_any}
unfoldable pub use Rattle.std.specs.List.{IsDistinct}
pub use Rattle.std.specs.Map.{lookup}
pub use Rattle.std.specs.Option.{option_and_then}
