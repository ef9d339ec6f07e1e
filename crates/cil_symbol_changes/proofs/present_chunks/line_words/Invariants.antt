use Rattle.std.proofs.Common.{◌-◌, ◌^◌}
use Rattle.cil_symbol_changes.proofs.present_chunks.line_words.Given as goal

abbrev pub decreases-loop-word : goal.decreases-loop-word
decreases-loop-word g l = 2 ^ 64 - l.from
