-- The names from elsewhere that this crate's proofs cite most, passed on from one place.
pub use Rattle.cil_lines.specs.Line.{Counters, IsPresence, IsSingle, count_of, hit}
pub use Rattle.cil_recorded.specs.Differences.{Ascends, alone_at, appeared_at, balance_at, balance_of, change_key, gone_at, low_at, turn_key}
unfoldable pub use Rattle.cil_recorded.specs.Differences.{key_of}
pub use Rattle.cil_recorded.specs.Log.{CanTakeBack, CanUndo, IsTurned, came_by, came_in, falls, has_line, taken_back, turned_by, turned_in, undone, went_by, went_in}
unfoldable pub use Rattle.cil_recorded.specs.Log.{hit_at}
pub use Rattle.cil_recorded.specs.Recorded.{HasCount, IsSound, count_before, count_in, count_now, limit_in, lines_in, steps_in, sum_below}
unfoldable pub use Rattle.cil_recorded.specs.Recorded.{moved}
pub use Rattle.cil_recorded.specs.declared.step.Step.{Step}
pub use Rattle.cil_recorded.specs.declared.turn.Turn.{Turn}
pub use Rattle.std.proofs.Common.{Bool, Err, IfOk, List, MatchBool, Ok, Result, [], ap, arith, bit_and, bit_xor, cond, count_ones, drop, drop-cons, eq-eqb, eqb-true, false, get_or, if◌then◌else◌, inl, inr, le_of_eq, length, min, pow-suc, refl, reverse, rules, set, subst, suc, sym, take, take_all, true, true≢false, vec_len, w64, zero, ℕ, ◌%◌, ◌*◌, ◌++◌, ◌+◌, ◌-◌, ◌/◌, ◌<◌, ◌==◌, ◌^◌, ◌||◌, ◌∙◌, ◌∷◌, ◌≡◌, ◌≢◌, ◌≤◌, ◌⊎◌}
pub use Rattle.std.proofs.lemmas.Bool.{cases_eq, le-ltb, ne_eqb}
pub use Rattle.std.proofs.lemmas.List.{append-nil, get_or-reverse, get_or-set_other, get_or_default, length-reverse, reverse-append, take_more, with_items_is}
pub use Rattle.std.proofs.lemmas.List.Sums.{sum_by-cons, sum_by_more, sum_by_push}
pub use Rattle.std.proofs.lemmas.Nat.Bits.{bit_at-lt, bit_at-suc, bit_at_and, bit_at_lowest, bit_at_not, bit_at_xor}
pub use Rattle.std.specs.Int.{bit_at, bit_not}
