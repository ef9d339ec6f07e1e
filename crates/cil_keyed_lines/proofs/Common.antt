-- The names from elsewhere that this crate's proofs cite most, passed on from one place.
pub use Rattle.cil_keyed_lines.specs.Names.{AreLogged, AreNames, IsOf, Naming, has_place, name_before, name_now, named_back, one_if, times, unnamed, uses}
pub use Rattle.cil_keyed_lines.specs.declared.names.Rename.{Rename}
pub use Rattle.cil_keyed_lines.specs.declared.named.Named.{Named}
pub use Rattle.std.proofs.Common.{Bool, Err, IfSome, List, MatchOption, None, Ok, OnErr, OnOk, Option, Result, Some, [], ap, arith, bit_and, cond, drop, eq-eqb, eqb-true, false, get_or, if◌then◌else◌, inl, inr, length, nat_lt, not, position, refl, reverse, rules, set, slice_get, subst, suc, sym, take, true, true≢false, w64, zero, ℕ, ◌%◌, ◌&&◌, ◌*◌, ◌++◌, ◌+◌, ◌-◌, ◌/◌, ◌<◌, ◌==◌, ◌^◌, ◌||◌, ◌∙◌, ◌∷◌, ◌≡◌, ◌≢◌, ◌≤◌, ◌⊎◌}
pub use Rattle.std.proofs.lemmas.Bool.{cases_eq, cases_lt, ne_eqb}
pub use Rattle.std.specs.List.{All, IsDistinct, list_any, position_or_len, swap_remove}
pub use Rattle.std.specs.Prelude.{slice_index, sum_by}
pub use Rattle.cil_lines.specs.Limit.{CanLower, CanRaise}
pub use Rattle.cil_lines.specs.Line.{hit}
pub use Rattle.cil_recorded.specs.Log.{hit_at}
pub use Rattle.cil_recorded.specs.Recorded.{HasCount, State, count_before, count_now, limit_now, lines_in, spare, steps_in}
pub use Rattle.cil_recorded.proofs.LogLemmas.{hit_in, hit_nothing, hit_off, same_counts}
pub use Rattle.cil_keyed_lines.specs.Moves.{AreMoves, HasRoomFrom, HasRoomTo, came, move_at, ones_of, went}
unfoldable pub use Rattle.cil_keyed_lines.specs.Moves.{in_line}
pub use Rattle.cil_keyed_lines.specs.declared.moved.Moved.{Moved}
pub use Rattle.cil_keyed_lines.specs.Keyed.{AreCounted, AreLines, AreNamed, AreOf, Names, before_in, named_at, now_in}
pub use Rattle.cil_keyed_lines.specs.Keyed.{AreAmong, is_key, is_kind, with_key}
unfoldable pub use Rattle.cil_keyed_lines.specs.Keyed.{count_by}
pub use Rattle.cil_keyed_lines.specs.declared.symbol_key.SymbolKey.{SymbolKey}
pub use Rattle.cil_keyed_lines.specs.Keyed.{AreKept, ArePaired, AreKeyed, AreTaken, has_key, index_of, listed}
unfoldable pub use Rattle.cil_keyed_lines.specs.Keyed.{of_keys}
