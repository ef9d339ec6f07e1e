use Rattle.cil_reader.proofs.Common.{◌≡◌, ◌+◌, drop, prefix_len, is_string_byte}
use Rattle.cil_reader.proofs.reader.string_len.Given as goal

abbrev pub invariant-loop-i : goal.invariant-loop-i
invariant-loop-i l = prefix_len is_string_byte l.text ≡ l.i + prefix_len is_string_byte (drop l.i l.text)
