use Rattle.std.proofs.Common.{◌<◌, length, arith, rules}
use Rattle.cil_lines.proofs.EntryLemmas.{Rises-from}
use Rattle.cil_lines.proofs.DigitLemmas.{place-dense, place-entry}
use Rattle.cil_lines.proofs.digit.Digit.make_place.Goals as goal

pub returns-then-word-len-clause-place : goal.returns-then-word-len-clause-place
returns-then-word-len-clause-place g c =
    let within : c.args.word < length c.self.inside.dense.items = search rules in
    rw (← c.self.view_is) (place-dense _ c.args.word within)

pub search-requires : goal.search-requires
search-requires g c = rw c.deref.ensures.value (Rises-from _ _ 0 _ (omega arith) c.self.invariant.1)

pub returns-in-Ok-clause-place : goal.returns-in-Ok-clause-place
returns-in-Ok-clause-place g c =
    let entry = rw c.deref.ensures.value at c.in-Ok.ensures in
    rw (← c.self.view_is) (place-entry c.self.inside.dense.items c.self.inside.sparse.items c.args.word _ entry)
