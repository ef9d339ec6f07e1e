use Rattle.cil_counters.specs.SymbolRanks.{ArePut}
use Rattle.cil_counters.proofs.symbol_ranks.put_numbers.Given as goal

-- the first numbers are put
abbrev pub invariant-loop-k : goal.invariant-loop-k
invariant-loop-k g l = ArePut l.numbering.symbols l.k l.fn.numbers.items l.numbers.items
