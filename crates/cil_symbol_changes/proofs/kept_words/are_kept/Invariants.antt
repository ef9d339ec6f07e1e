use Rattle.std.proofs.Common.{◌≡◌, ◌<◌, ℕ, slice_index}
use Rattle.cil_symbol_changes.proofs.kept_words.are_kept.Given as goal

-- the symbols so far are their own numbers
abbrev pub invariant-loop-symbol : goal.invariant-loop-symbol
invariant-loop-symbol l = (t : ℕ) → t < l.symbol → slice_index l.numbers t ≡ t
