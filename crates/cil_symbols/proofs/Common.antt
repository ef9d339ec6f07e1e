-- The names from elsewhere that this crate's proofs cite most, passed on from one place.
pub use Rattle.cil_bind.proofs.PositionLemmas.{any-position, take-last, take-length}
pub use Rattle.cil_check.proofs.PositionLemmas.{get-append, get-last}
pub use Rattle.cil_names.proofs.TextLemmas.{distinct-texts, found-name, has_name-texts, same, stored-text, texts, with_name-texts}
pub use Rattle.cil_needs.proofs.ListLemmas.{get-set_other, get-set_same}
pub use Rattle.cil_parse.specs.Lexicon.{AreNumbersOf}
pub use Rattle.cil_specs.specs.Lookup.{has_name, with_name}
pub use Rattle.cil_symbols.specs.InUse.{AreUsed, AreUsedBelow, IsUsed, used_in}
pub use Rattle.cil_symbols.specs.Numbered.{AreApart, AreInverse}
pub use Rattle.std.proofs.Common.{Bool, IfSome, IsTrue, List, None, Option, Some, [], ap, append-nil, append_assoc, arith, bytes_eq, cond, drop, false, fold, get_or, if◌then◌else◌, inl, inr, is_some, length, map, max, position, refl, replicate, rules, set, slice_get, subst, suc, sym, take, true, true≢false, zero, ℕ, ◌++◌, ◌+◌, ◌-◌, ◌<◌, ◌∙◌, ◌∷◌, ◌≡◌, ◌≤◌}
pub use Rattle.std.proofs.lemmas.List.{get_or-replicate, length-append, length-map, length-replicate, length-set, map-set, set-append_left, take-append-drop, take_all}
pub use Rattle.std.proofs.lemmas.List.Sums.{fold_more, sum_by-append, sum_by-cons, sum_by-set}
pub use Rattle.std.proofs.lemmas.Option.{get_or_from_slice_get, none-some, same_Some, slice_get-get_or, slice_get-map, slice_get_within}
pub use Rattle.std.specs.Option.{is_none, option_map}
