use Rattle.std.proofs.Common.{◌≡◌, drop}
use Rattle.cil_program.specs.Meanings.{first_meaning, rows_of}
use Rattle.cil_program.proofs.command_line.meanings.first_meaning.Given as goal

-- no row in front has the code
abbrev pub invariant-loop-known : goal.invariant-loop-known
invariant-loop-known l = first_meaning (rows_of l.rows) l.code ≡ first_meaning (rows_of (drop l.known-index l.rows)) l.code
