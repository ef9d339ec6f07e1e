-- The names from elsewhere that this crate's proofs cite most, passed on from one place.
pub use Rattle.cil_keyed_lines.specs.Keyed.{count_before, count_now, has_key, is_key, is_kind, steps_in}
unfoldable pub use Rattle.cil_keyed_lines.specs.Keyed.{of_keys}
pub use Rattle.cil_keyed_lines.specs.Moves.{AreMoves, came, move_at, ones_of, went}
pub use Rattle.cil_keyed_lines.specs.declared.moved.Moved.{Moved}
pub use Rattle.cil_keyed_lines.specs.declared.symbol_key.SymbolKey.{SymbolKey}
pub use Rattle.cil_lines.proofs.StepLemmas.{hit-here, hit-none, hit-there}
pub use Rattle.cil_lines.specs.Line.{Counters, IsNextPresent, IsPresence, NonePresent, count_of, hit}
pub use Rattle.cil_rule_shifts.specs.Groups.{AreKeysOf, AreMovesBelow, AreMovesOf, AreSources, AreTargetsOf, gives_part, gives_to, has_either, in_part, is_among, moves_part, moves_to}
pub use Rattle.cil_rule_shifts.specs.Moves.{differs, moves_where}
pub use Rattle.cil_rule_shifts.specs.Permits.{AreInOrder, has_permit, is_permit, permit_cmp}
pub use Rattle.cil_rule_shifts.specs.Reach.{AreShort, IsMask, IsNext, IsNextWord, NoneFrom, NoneFromWord, gives, grants, has_head, has_source, head_of, is_line, one_if, reaches}
unfoldable pub use Rattle.cil_rule_shifts.specs.Reach.{has_type, is_present, takes}
pub use Rattle.cil_rule_shifts.specs.declared.head.RuleHead.{RuleHead}
pub use Rattle.cil_rule_shifts.specs.declared.permit.Permit.{Permit}
pub use Rattle.cil_rule_shifts.specs.declared.reach.Part.{Part}
pub use Rattle.cil_rule_shifts.specs.declared.reach.Reach.{Reach}
pub use Rattle.cil_rule_shifts.specs.declared.reach.Sources.{Sources}
pub use Rattle.cil_rule_shifts.specs.declared.targets.Targets.{Targets}
pub use Rattle.cil_rule_shifts.specs.declared.types.Types.{Types}
pub use Rattle.cil_sums.proofs.RiseLemmas.{rises-added, rises-bits, rises-both, rises-map, rises-more, rises-none, rises-same, same-from_counts}
pub use Rattle.cil_sums.specs.Rises.{RisesBy}
pub use Rattle.std.proofs.Common.{if◌then◌else◌, ◌⊎◌, Bool, List, MatchOption, None, Option, Some, [], add-zero, ap, arith, bit_and, cond, count_ones, div-add-mod', div-le_self, false, get_or, inl, inr, length, min, mod-lt, nat_eq, nat_lt, not, pow_pos, refl, subst, sym, take, true, true≢false, vec_len, w64, zero-add, ℕ, ◌%◌, ◌&&◌, ◌*◌, ◌++◌, ◌+◌, ◌-◌, ◌/◌, ◌<◌, ◌==◌, ◌^◌, ◌||◌, ◌∙◌, ◌∷◌, ◌≡◌, ◌≢◌, ◌≤◌}
pub use Rattle.std.proofs.lemmas.Bool.{cases_eq, cases_lt, eq-eqb, eqb-true, le-ltb, leb-false, leb-true, lt-ltb, ltb-true, ne_eqb}
pub use Rattle.std.proofs.lemmas.Nat.Bits.{bit_at-pow_other, bit_at-pow_same, bit_at-trailing_zeros, bit_at-zero, bit_at_above, bit_at_and, bit_at_cat_high, bit_at_not}
pub use Rattle.std.specs.Int.{bit_at, bit_not, trailing_zeros}
pub use Rattle.std.specs.List.{IsDistinct}
