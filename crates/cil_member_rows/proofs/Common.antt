-- The names from elsewhere that this crate's proofs cite most, passed on from one place.
pub use Rattle.cil_lines.specs.Line.{IsPresence, hit}
pub use Rattle.cil_member_rows.specs.Held.{bits_at, row_of, words_of}
pub use Rattle.cil_member_rows.specs.Marks.{mark_at}
pub use Rattle.cil_member_rows.specs.Rows.{AreMarked, IsChange, IsHeld, count_before, count_now, rows_in, steps_in}
pub use Rattle.cil_recorded.proofs.LogLemmas.{hit_in, hit_nothing, hit_off, hit_out}
pub use Rattle.cil_recorded.specs.Log.{hit_at}
pub use Rattle.cil_recorded.specs.Recorded.{State}
pub use Rattle.std.proofs.Common.{Bool, IsTrue, List, [], ap, arith, bit_and, bit_xor, false, get_or, inl, inr, length, min, refl, rules, set, subst, sym, true, w64, ℕ, ◌%◌, ◌*◌, ◌+◌, ◌-◌, ◌/◌, ◌<◌, ◌^◌, ◌↔◌, ◌∙◌, ◌≡◌, ◌≢◌, ◌≤◌, ◌⊎◌}
pub use Rattle.std.proofs.lemmas.Bool.{cases_eq, cases_lt, true≢false}
pub use Rattle.std.specs.Int.{bit_at, bit_not}
