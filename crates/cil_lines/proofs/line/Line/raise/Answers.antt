use Rattle.std.proofs.Common.{◌<◌, ◌^◌, ◌∙◌, arith, rules}
use Rattle.std.proofs.lemmas.List.{with_items_is}
use Rattle.cil_lines.proofs.LineLemmas.{add_now}
use Rattle.cil_lines.proofs.StepLemmas.{hit-none, limits_now, raise_place, raise_room, raised_below}
use Rattle.cil_lines.proofs.line.Line.raise.Goals as goal

pub returns-then-mask-eq0-clause-now : goal.returns-then-mask-eq0-clause-now
returns-then-mask-eq0-clause-now g c t = rw c.if-mask-eq0.true (omega (arith, hit-none c.args.word t))

pub put-requires : goal.put-requires
put-requires g c =
    let fits : c.args.mask < 2 ^ 64 = search rules in
    raise_place c.self.inside.lowest c.self.inside.higher.items c.args.word c.args.mask fits c.if-mask-eq0.false (rw (← c.self.view_is) at c.requires)

pub add-requires : goal.add-requires
add-requires g c =
    let fits : c.args.mask < 2 ^ 64 = search rules in
    rw (c.deref_mut.ensures.value, c.bits-bits.ensures) (raise_room c.self.inside.lowest c.self.inside.higher.items c.args.word c.args.mask fits c.if-mask-eq0.false (rw (← c.self.view_is) at c.requires))

pub invariant_of-self : goal.invariant_of-self
invariant_of-self g c =
    let d = c.self.inside.lowest in
    let h = c.self.inside.higher.items in
    let fits : c.args.mask < 2 ^ 64 = search rules in
    let can = rw (← c.self.view_is) at c.requires in
    let sum = rw c.deref_mut.ensures.value at c.add.ensures.sum in
    let others = rw c.deref_mut.ensures.value at c.add.ensures.others in
    let limits = rw c.deref_mut.ensures.value at c.add.ensures.limits in
    let stored = with_items_is c.self.inside.higher c.add.new.digits (c.add.ensures.len ∙ c.deref_mut.ensures.len) in
    let place = raise_place d h c.args.word c.args.mask fits c.if-mask-eq0.false can in
    let room = raise_room d h c.args.word c.args.mask fits c.if-mask-eq0.false can in
    rw stored (raised_below d c.put.new.self h c.add.new.digits c.put.ensures.kept limits c.args.word c.args.mask c.bits-bits.result c.bits-bits.ensures c.put.ensures.here c.put.ensures.others others c.self.invariant
    place (rw c.bits-bits.ensures room) sum)

pub returns-clause-now : goal.returns-clause-now
returns-clause-now g c t =
    let sum = rw c.deref_mut.ensures.value at c.add.ensures.sum in
    let others = rw c.deref_mut.ensures.value at c.add.ensures.others in
    let stored = with_items_is c.self.inside.higher c.add.new.digits (c.add.ensures.len ∙ c.deref_mut.ensures.len) in
    rw (← c.self.view_is, stored) (add_now c.self.inside.lowest c.put.new.self c.self.inside.higher.items c.add.new.digits c.args.word c.args.mask c.bits-bits.result c.bits-bits.ensures c.put.ensures.here c.put.ensures.others sum others t)

pub returns-clause-limits : goal.returns-clause-limits
returns-clause-limits g c =
    let limits = rw c.deref_mut.ensures.value at c.add.ensures.limits in
    let stored = with_items_is c.self.inside.higher c.add.new.digits (c.add.ensures.len ∙ c.deref_mut.ensures.len) in
    rw (← c.self.view_is, stored) (limits_now c.self.inside.lowest c.put.new.self c.self.inside.higher.items c.add.new.digits c.put.ensures.kept limits)
