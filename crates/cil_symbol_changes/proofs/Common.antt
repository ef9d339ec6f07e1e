-- The names from elsewhere that this crate's proofs cite most, passed on from one place.
pub use Rattle.cil_accesses.specs.declared.access.AccessNumbers.{AccessNumbers}
pub use Rattle.cil_accesses.specs.declared.chunk.Chunk.{Chunk}
pub use Rattle.cil_keyed_lines.specs.Keyed.{IsLineOf, IsNoLine, Keyed, NoneCounted, before_at, count_before, count_now, is_key, now_at}
pub use Rattle.cil_keyed_lines.specs.declared.symbol_key.SymbolKey.{SymbolKey}
pub use Rattle.cil_lines.specs.Line.{IsNextPresent, IsPresence, NonePresent, hit}
pub use Rattle.cil_recorded.proofs.LogLemmas.{hit_in, hit_nothing, hit_off}
pub use Rattle.cil_recorded.specs.Log.{hit_at}
pub use Rattle.cil_recorded.specs.declared.recorded_lines.changes.Change.{Change}
pub use Rattle.cil_sums.proofs.RiseLemmas.{rises-added, rises-bits, rises-first, rises-map, rises-more, rises-next, rises-none, rises-same}
pub use Rattle.cil_sums.specs.Rises.{RisesBy, below}
pub use Rattle.cil_symbol_changes.specs.Counts.{AreCounted, AreSoMany, came_at, has_come, has_come_at, has_risen, present_at, went_at}
pub use Rattle.cil_symbol_changes.specs.Gained.{AreGained, AreKept, AreKnown, AreKnownIn, IsIn, IsShort, IsTo, chunk_by}
pub use Rattle.cil_symbol_changes.specs.Numbered.{ArePresentNumbered, IsNew, IsNumbered, IsPresent, access_by, is_listed, listed}
pub use Rattle.cil_symbol_changes.specs.SourceOrder.{AreAppeared, AreListedPlaces, AreParts, HasAppeared, IsAmong, IsAt, IsAtWord, IsListedIn}
pub use Rattle.cil_symbol_changes.specs.declared.source_order.LinePlace.{LinePlace}
pub use Rattle.std.proofs.Common.{Any, Bool, IsPermutation, List, MatchOption, None, Option, Some, [], add-zero, ap, arith, cond, count_ones, eqb-true, false, get_or, inl, inr, length, map, min, nat_lt, not, position, refl, slice_get, slice_index, subst, suc, sym, take, true, true≢false, zero-add, ℕ, ◌%◌, ◌&&◌, ◌*◌, ◌++◌, ◌+◌, ◌-◌, ◌/◌, ◌<◌, ◌==◌, ◌^◌, ◌↔◌, ◌∙◌, ◌∷◌, ◌≡◌, ◌≢◌, ◌≤◌, ◌⊎◌}
pub use Rattle.std.proofs.lemmas.Bool.{cases_eq, cases_lt, eq-eqb, le-ltb, lt-ltb, ltb-true, ne_eqb}
pub use Rattle.std.proofs.lemmas.List.{get_or_past, length-map, take_all, take_more}
pub use Rattle.std.proofs.lemmas.List.Elements.{All-contains, All-nil, All-push}
pub use Rattle.std.proofs.lemmas.List.Sums.{sum_by-cons, sum_by_more_le}
pub use Rattle.std.proofs.lemmas.Nat.Bits.{bit_at-lt, bit_at-zero, bit_at_above}
pub use Rattle.std.proofs.lemmas.Option.{get_or_from_slice_get, none-some, same_Some, slice_get-get_or, slice_get_within}
pub use Rattle.std.specs.Int.{bit_at}
pub use Rattle.std.specs.List.{All, Contains, sum_by}
