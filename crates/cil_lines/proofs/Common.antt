-- The names from elsewhere that this crate's proofs cite most, passed on from one place.
pub use Rattle.cil_lines.specs.Digit.{HasEntry, IsEntry, IsGap, IsLast, IsNext, Rises, Words, bits_in}
unfoldable pub use Rattle.cil_lines.specs.Digit.{HasPlace, bits_of}
pub use Rattle.cil_lines.specs.Limit.{CanLower, CanRaise, has_entry}
unfoldable pub use Rattle.cil_lines.specs.Limit.{AreBelow, has_place, limit, limit_of}
pub use Rattle.cil_lines.specs.Line.{Counters, HasRoom, IsPresence, total, value}
unfoldable pub use Rattle.cil_lines.specs.Line.{count_of, hit}
pub use Rattle.cil_lines.specs.declared.digit.Entry.{Entry}
pub use Rattle.std.proofs.Common.{Err, List, None, Ok, OnErr, OnOk, Option, Result, Some, [], ap, arith, bit_and, bit_or, bit_xor, drop, eq-eqb, false, get_or, if◌then◌else◌, inl, inr, length, ltb, max, min, pow-suc, refl, rules, set, subst, suc, sym, take, true, vec_len, w64, zero, ℕ, ◌%◌, ◌*◌, ◌++◌, ◌+◌, ◌-◌, ◌/◌, ◌<◌, ◌==◌, ◌^◌, ◌∙◌, ◌∷◌, ◌≡◌, ◌≢◌, ◌≤◌}
pub use Rattle.std.proofs.Math.ListN.{drop_of_length-le, get_or-eq_default, length-set}
pub use Rattle.std.proofs.lemmas.Bool.{cases_Bool, cases_eq, cases_lt, le-ltb, lt-ltb, ltb-false, ltb-true, ne_eqb}
pub use Rattle.std.proofs.lemmas.List.{get_or-set_other, get_or-set_same, get_or-take, get_or_default, length-take, length-take-le, with_items_is}
pub use Rattle.std.proofs.lemmas.Nat.Bits.{bit_at-lt, bit_at-suc, bit_at-zero, bit_at_above, bit_at_and, bit_at_lowest, bit_at_not, bit_at_or, bit_at_xor, same_from_bits, shr_and_one}
pub use Rattle.std.specs.Int.{bit_at, bit_not}
pub use Rattle.std.specs.List.{insert, remove}
