use Rattle.std.proofs.Common.{◌*◌, ◌%◌, ◌^◌, arith}
use Rattle.cil_member_updates.proofs.BitLemmas.{cover-here, one-bit}
use Rattle.cil_member_updates.proofs.visits.symbol_bit.Goals as goal

pub returns-then-symbol-word : goal.returns-then-symbol-word
returns-then-symbol-word c = cover-here c.args.symbol c.args.word (1 * 2 ^ (c.args.symbol % 64) % 2 ^ 64) (one-bit (c.args.symbol % 64) (omega arith))
