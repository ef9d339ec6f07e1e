use Rattle.std.proofs.Common.{◌<◌, subst, sym}
use Rattle.cil_symbols.proofs.NumberLemmas.{number-below, numbers-apart}
use Rattle.cil_symbols.proofs.numbering.Numbering.beside.Goals as goal

pub with_symbols-requires-clause-apart : goal.with_symbols-requires-clause-apart
with_symbols-requires-clause-apart g c =
    numbers-apart c.symbols_beside.new.symbols c.in_ok-numbers.numbers.items c.args.resolved.now.names.items c.in_ok-numbers.ensures.numbers c.args.resolved.now.ordered

pub with_symbols-requires-clause-below : goal.with_symbols-requires-clause-below
with_symbols-requires-clause-below g c k s at =
    subst (λ n. s < n) (sym c.len-2.ensures.len)
    (number-below c.symbols_beside.new.symbols c.in_ok-numbers.numbers.items c.args.resolved.now.names.items k s c.in_ok-numbers.ensures.numbers at)
