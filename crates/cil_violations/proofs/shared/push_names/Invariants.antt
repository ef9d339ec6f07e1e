use Rattle.cil_violations.proofs.ListedLemmas.{AreAdded}
use Rattle.cil_violations.proofs.shared.push_names.Given as goal

abbrev pub invariant-loop-bit : goal.invariant-loop-bit
invariant-loop-bit g l = AreAdded l.numbering.symbols l.index l.word l.fn.list.items l.bit l.list.items
