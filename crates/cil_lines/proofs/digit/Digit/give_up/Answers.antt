use Rattle.cil_lines.proofs.Common.{◌≡◌, ℕ, ◌+◌, ◌-◌, ◌≤◌, length, vec_len, arith, rules, length-take, IsEntry}
use Rattle.cil_lines.proofs.EntryLemmas.{Rises-from}
use Rattle.cil_lines.proofs.GiveUpLemmas.{Rises-remove, bits-pop, bits-remove, kept-pop, kept-remove}
use Rattle.cil_lines.proofs.digit.Digit.give_up.Goals as goal

pub invariant_of-self : goal.invariant_of-self
invariant_of-self g c =
    let long : length c.pop.new.self.items ≤ length c.self.inside.dense.items = rw c.pop.ensures.rest (omega (arith, length-take {A = ℕ})) in
    let (below, rises) = c.self.invariant in
    (omega (arith, long, below), Rises-from _ _ _ c.self.inside.sparse.items long rises)

pub returns-then-word-len-2-clause-bits : goal.returns-then-word-len-2-clause-bits
returns-then-word-len-2-clause-bits g c w =
    let last : c.args.word + 1 ≡ length c.self.inside.dense.items = search rules in
    let is : vec_len c.self.inside.dense - 1 ≡ c.args.word = omega arith in
    rw (← c.self.view_is, c.pop.ensures.rest) (bits-pop c.self.inside.dense.items c.self.inside.sparse.items _ (vec_len c.self.inside.dense - 1) c.args.word is last c.self.invariant.1 (rw (← c.self.view_is) at c.requires) w)

pub returns-then-word-len-2-clause-kept : goal.returns-then-word-len-2-clause-kept
returns-then-word-len-2-clause-kept g c w other place =
    let last : c.args.word + 1 ≡ length c.self.inside.dense.items = search rules in
    let is : vec_len c.self.inside.dense - 1 ≡ c.args.word = omega arith in
    rw c.pop.ensures.rest (kept-pop c.self.inside.dense.items c.self.inside.sparse.items (vec_len c.self.inside.dense - 1) c.args.word w is last other (rw (← c.self.view_is) at place))

pub search-requires : goal.search-requires
search-requires g c = rw c.deref.ensures.value (Rises-from _ _ 0 _ (omega arith) c.self.invariant.1)

pub invariant_of-self-in-Ok : goal.invariant_of-self-in-Ok
invariant_of-self-in-Ok g c =
    let entry : IsEntry c.self.inside.sparse.items c.args.word c.in-Ok.place = rw c.deref.ensures.value at c.in-Ok.ensures in
    (c.self.invariant.0, rw c.remove.ensures.items (Rises-remove _ _ c.self.inside.sparse.items c.in-Ok.place entry.within c.self.invariant.1))

pub returns-in-Ok-clause-bits : goal.returns-in-Ok-clause-bits
returns-in-Ok-clause-bits g c w =
    let past : length c.self.inside.dense.items ≤ c.args.word = search rules in
    let entry : IsEntry c.self.inside.sparse.items c.args.word c.in-Ok.place = rw c.deref.ensures.value at c.in-Ok.ensures in
    rw (← c.self.view_is, c.remove.ensures.items)
    (bits-remove c.self.inside.dense.items c.self.inside.sparse.items _ c.args.word c.in-Ok.place past c.self.invariant.1 entry (rw (← c.self.view_is) at c.requires) w)

pub returns-in-Ok-clause-kept : goal.returns-in-Ok-clause-kept
returns-in-Ok-clause-kept g c w other place =
    let entry : IsEntry c.self.inside.sparse.items c.args.word c.in-Ok.place = rw c.deref.ensures.value at c.in-Ok.ensures in
    rw c.remove.ensures.items (kept-remove c.self.inside.dense.items c.self.inside.sparse.items c.args.word c.in-Ok.place w entry other (rw (← c.self.view_is) at place))
