-- The names from elsewhere that this crate's proofs cite most, passed on from one place.
pub use Rattle.cil_expression.specs.declared.expression.Element.TheVariants.{«Type»}
pub use Rattle.cil_lines.specs.Line.{IsPresence, hit}
pub use Rattle.cil_matching.specs.Matching.{AreMatched, AreSameAt, Matched}
pub use Rattle.cil_member_rows.specs.Rows.{count_before, count_now}
pub use Rattle.cil_member_rows.specs.Words.{IsOutside}
pub use Rattle.cil_member_updates.specs.Bits.{AreBits, AreHeld, Cover, CoverAmong, is_set}
pub use Rattle.cil_member_updates.specs.Counts.{gives_count, gives_member, one_if}
pub use Rattle.cil_member_updates.specs.Evaluated.{AreUnsettledAt, Comes, Goes, HasTurned, InWord, IsHeld, IsKept, IsMovedAt, IsTurnedAt, IsUnsettled, MayGo, MayTurn, is_asked}
pub use Rattle.cil_member_updates.specs.Given.{IsUnchanged, Tell, gives, of_name}
unfoldable pub use Rattle.cil_member_updates.specs.Given.{element_holds, holds, is_of, keeps}
pub use Rattle.cil_member_updates.specs.Loading.{AreFirst, EvaluatesFirst, IsSettled, MayCount, MustCount}
pub use Rattle.cil_member_updates.specs.Moved.{AreMoved, IsMoved, nothing}
pub use Rattle.cil_member_updates.specs.Passes.{gave_in, given_by, gives_in, gone, gone_in, stayed, stayed_in}
pub use Rattle.cil_member_updates.specs.Places.{no_declared, no_set, set_at}
pub use Rattle.cil_member_updates.specs.Policy.{AreCounts, counts_at}
unfoldable pub use Rattle.cil_member_updates.specs.Policy.{given}
pub use Rattle.cil_member_updates.specs.Reading.{AreVisits, CoversStayed, EvaluatesWord, HasStayed, HoldsTypes, KnowsTypes, MayHold, MayMove, MustHold, MustMove, Reads, Stays, given_of, held_by, is_given, is_held, name_holds, named_by, lowered, lowered_by, new_in, old_in, raised, raised_by, set_of, was_given, was_held}
pub use Rattle.cil_member_updates.specs.Steps.{AreLowered, AreRenewed, ComesIn, EvaluatesGone, EvaluatesNew, GoesIn, MayGoIn, MayTurnIn, new_sets, old_sets}
pub use Rattle.cil_parse.specs.Lexicon.{AreNumbersOf}
pub use Rattle.cil_resolve.specs.Meter.{adjustments_in, evaluations_in}
pub use Rattle.cil_resolve.specs.Numbers.{element_of}
pub use Rattle.cil_resolve.specs.Resolved.{meaning_in}
pub use Rattle.cil_resolve.specs.Sets.{name_in, sets_in}
pub use Rattle.cil_resolve.specs.declared.resolved.Resolved.{Resolved}
pub use Rattle.cil_specs.proofs.NamesLemmas.{contains-first, contains-mapped, contains-middle, contains-other}
pub use Rattle.cil_specs.specs.Dependence.{AreInOrder, AreTheSame, has_set}
pub use Rattle.cil_specs.specs.Expr.{Expr, leaves, named}
pub use Rattle.cil_specs.specs.Lookup.{has_name}
pub use Rattle.cil_specs.specs.Meaning.{Meaning, is_in, keeps_type}
pub use Rattle.cil_specs.specs.Members.{HasSoundSets, keeps_attribute}
unfoldable pub use Rattle.cil_specs.specs.Members.{is_member}
pub use Rattle.cil_specs.specs.Rule.{Declared, Element, IsSameSet, SetStatement, a_type, an_attribute}
pub use Rattle.cil_specs.specs.Sets.{differ, holds_with, is_the_attribute, mentions}
pub use Rattle.cil_sums.proofs.SumLemmas.{across-none, across-some, alone-most, alone-none, alone-some, sum-differs, sum-more, sum-most, sum-none, sum-part, sum-rest, sum-sides, sum-zero}
pub use Rattle.cil_sums.proofs.WithinLemmas.{up_to-add, up_to-first, up_to-some, within-both, within-by, within-either, within-first, within-map, within-next, within-none, within-weaker}
pub use Rattle.cil_sums.specs.Rises.{RisesBy, RisesWithin, UpTo, up_to}
pub use Rattle.cil_sums.specs.Sums.{ArePlaces, across, alone, sum_below}
pub use Rattle.std.proofs.Common.{Bool, IsTrue, List, None, Option, Some, [], add-one, ap, arith, below_more, bit_and, bit_or, bit_xor, bytes_eq, cond, count_by, div-le_self, false, get_or, get_or-set_other, get_or-set_same, inl, inr, length, map, min, nat_lt, of_calls, option_map, refl, replicate, rules, set, slice_get, slice_index, subst, suc, sym, take, true, w64, zero, zero-add, ℕ, ◌%◌, ◌&&◌, ◌*◌, ◌++◌, ◌+◌, ◌-◌, ◌/◌, ◌<◌, ◌==◌, ◌^◌, ◌||◌, ◌∙◌, ◌∷◌, ◌≡◌, ◌≢◌, ◌≤◌, ◌⊎◌}
pub use Rattle.std.proofs.Math.Bool.{and-false, or-false, or-true}
pub use Rattle.std.proofs.lemmas.Bool.{and_parts, cases_Bool, cases_eq, cases_lt, eq-eqb, eqb-true, le-ltb, lt-ltb, ltb-true, ne_eqb, or_parts, true≢false}
pub use Rattle.std.proofs.lemmas.List.{length-append, length-map, length-set, take_all}
pub use Rattle.std.proofs.lemmas.List.Elements.{All-append, All-contains, All-map, Contains-get_or}
pub use Rattle.std.proofs.lemmas.Nat.{shr-shr}
pub use Rattle.std.proofs.lemmas.Nat.Bits.{bit_at-lt, bit_at-pow_other, bit_at-pow_same, bit_at-trailing_zeros, bit_at-zero, bit_at_above, bit_at_and, bit_at_or, bit_at_set_other, bit_at_set_same, bit_at_xor}
pub use Rattle.std.proofs.lemmas.Option.{get_or_from_slice_get, none-some, same_Some, slice_get-get_or, slice_get_past, slice_get_read, slice_get_within}
pub use Rattle.std.proofs.lemmas.Result.{on_ok_weaker}
pub use Rattle.std.proofs.lemmas.Slice.Eq.{bytes_eq-Decides}
pub use Rattle.std.specs.Int.{bit_at, trailing_zeros}
pub use Rattle.std.specs.List.{All, AllByRecursion, AllPairs, Contains, list_any}
unfoldable pub use Rattle.std.specs.List.{IsDistinct}
