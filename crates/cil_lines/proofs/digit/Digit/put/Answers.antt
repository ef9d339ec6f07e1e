use Rattle.std.proofs.Common.{◌<◌, ◌≤◌, length, arith, rules}
use Rattle.cil_lines.proofs.EntryLemmas.{Rises-from, Rises-set}
use Rattle.cil_lines.proofs.DigitLemmas.{bits-dense_here, bits-dense_other, bits-sparse_here, bits-sparse_other, place-none}
use Rattle.cil_lines.specs.Digit.{IsEntry}
use Rattle.cil_lines.proofs.PlaceLemmas.{kept-dense, kept-sparse}
use Rattle.cil_lines.proofs.digit.Digit.put.Goals as goal

pub search-requires : goal.search-requires
search-requires g c = rw c.deref.ensures.value (Rises-from _ _ 0 _ (omega arith) c.self.invariant.1)

pub invariant_of-self-in-Ok : goal.invariant_of-self-in-Ok
invariant_of-self-in-Ok g c =
    let entry = rw c.deref.ensures.value at c.in-Ok.ensures in
    (c.self.invariant.0, Rises-set _ _ c.self.inside.sparse.items c.args.word c.args.bits c.in-Ok.place entry c.self.invariant.1)

pub returns-then-word-len-clause-here : goal.returns-then-word-len-clause-here
returns-then-word-len-clause-here g c =
    let within : c.args.word < length c.self.inside.dense.items = search rules in
    bits-dense_here c.self.inside.dense.items c.self.inside.sparse.items c.args.word c.args.bits within

pub returns-then-word-len-clause-others : goal.returns-then-word-len-clause-others
returns-then-word-len-clause-others g c w other =
    rw (← c.self.view_is) (bits-dense_other c.self.inside.dense.items c.self.inside.sparse.items c.args.word c.args.bits w other)

pub returns-in-Ok-clause-here : goal.returns-in-Ok-clause-here
returns-in-Ok-clause-here g c =
    let past : length c.self.inside.dense.items ≤ c.args.word = search rules in
    let entry = rw c.deref.ensures.value at c.in-Ok.ensures in
    bits-sparse_here c.self.inside.dense.items c.self.inside.sparse.items c.args.word c.args.bits c.in-Ok.place past entry

pub returns-in-Ok-clause-others : goal.returns-in-Ok-clause-others
returns-in-Ok-clause-others g c w other =
    let entry = rw c.deref.ensures.value at c.in-Ok.ensures in
    rw (← c.self.view_is) (bits-sparse_other c.self.inside.dense.items c.self.inside.sparse.items c.args.word c.args.bits c.in-Ok.place w entry other)

pub returns-in_default-clause-here : goal.returns-in_default-clause-here
returns-in_default-clause-here g c =
    let past : length c.self.inside.dense.items ≤ c.args.word = search rules in
    let gap = rw c.deref.ensures.value at c.in_default.ensures in
    let has = rw (← c.self.view_is) at c.requires in
    absurd (place-none c.self.inside.dense.items c.self.inside.sparse.items c.args.word _ past gap has)

pub returns-then-word-len-clause-kept : goal.returns-then-word-len-clause-kept
returns-then-word-len-clause-kept g c w place =
    let before = rw (← c.self.view_is) at place in
    kept-dense c.self.inside.dense.items c.self.inside.sparse.items c.args.word c.args.bits w before

pub returns-in-Ok-clause-kept : goal.returns-in-Ok-clause-kept
returns-in-Ok-clause-kept g c w place =
    let before = rw (← c.self.view_is) at place in
    let entry : IsEntry c.self.inside.sparse.items c.args.word c.in-Ok.place = rw c.deref.ensures.value at c.in-Ok.ensures in
    kept-sparse c.self.inside.dense.items c.self.inside.sparse.items c.args.word c.args.bits c.in-Ok.place w entry.at before
