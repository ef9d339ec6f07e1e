use Rattle.cil_lines.proofs.Common.{◌≤◌, ◌∙◌, ap, sym, length, arith, rules, Entry}
use Rattle.cil_lines.proofs.EntryLemmas.{Rises-from, bits_in-entry, bits_in-gap}
use Rattle.cil_lines.proofs.DigitLemmas.{sparse_is}
use Rattle.cil_lines.proofs.digit.Digit.sparse_bits.Goals as goal

pub search-requires : goal.search-requires
search-requires g c = rw c.deref.ensures.value (Rises-from _ _ 0 _ (omega arith) c.self.invariant.1)

pub returns-in-Ok : goal.returns-in-Ok
returns-in-Ok g c =
    let past : length c.self.inside.dense.items ≤ c.args.word = search rules in
    let es = c.self.inside.sparse.items in
    let entry = rw c.deref.ensures.value at c.in-Ok.ensures in
    rw (← c.self.view_is) (ap (λ (e : Entry). e.bits) c.index.ensures ∙ sym (bits_in-entry es c.args.word c.in-Ok.place _ entry)
    ∙ sym (sparse_is c.self.inside.dense.items es c.args.word past))

pub returns-in-Err : goal.returns-in-Err
returns-in-Err g c =
    let past : length c.self.inside.dense.items ≤ c.args.word = search rules in
    let es = c.self.inside.sparse.items in
    let gap = rw c.deref.ensures.value at c.in-Err.ensures in
    rw (← c.self.view_is) (sym (bits_in-gap es c.args.word _ gap) ∙ sym (sparse_is c.self.inside.dense.items es c.args.word past))
