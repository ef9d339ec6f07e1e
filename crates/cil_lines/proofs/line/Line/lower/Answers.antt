use Rattle.std.proofs.Common.{◌≡◌, ◌<◌, ◌^◌, ◌∙◌, arith, rules}
use Rattle.std.proofs.lemmas.List.{with_items_is}
use Rattle.std.specs.Vec.{with_items}
use Rattle.cil_lines.proofs.StepLemmas.{hit-none, lower_place, lower_above, lower_below, lowered, IsLowered}
use Rattle.cil_lines.proofs.line.Line.lower.Given as given
use Rattle.cil_lines.proofs.line.Line.lower.Goals as goal
use Rattle.cil_lines.proofs.line.Line.lower.Goals.{After-subtract}

pub returns-then-mask-eq0-clause-now : goal.returns-then-mask-eq0-clause-now
returns-then-mask-eq0-clause-now g c t = rw c.if-mask-eq0.true (omega (arith, hit-none c.args.word t))

pub returns-then-mask-eq0-clause-room : goal.returns-then-mask-eq0-clause-room
returns-then-mask-eq0-clause-room g c t one = absurd (let none = rw c.if-mask-eq0.true at one in omega (arith, none, hit-none c.args.word t))

pub put-requires : goal.put-requires
put-requires g c =
    let fits : c.args.mask < 2 ^ 64 = search rules in
    lower_place c.self.inside.lowest c.self.inside.higher.items c.args.word c.args.mask fits c.if-mask-eq0.false c.self.invariant (rw (← c.self.view_is) at c.requires)

pub subtract-requires-clause-above : goal.subtract-requires-clause-above
subtract-requires-clause-above g c =
    let fits : c.args.mask < 2 ^ 64 = search rules in
    rw (c.deref_mut.ensures.value, c.bits.ensures) (lower_above c.self.inside.lowest c.self.inside.higher.items c.args.word c.args.mask fits (rw (← c.self.view_is) at c.requires))

pub subtract-requires-clause-below : goal.subtract-requires-clause-below
subtract-requires-clause-below g c =
    let fits : c.args.mask < 2 ^ 64 = search rules in
    let place = lower_place c.self.inside.lowest c.self.inside.higher.items c.args.word c.args.mask fits c.if-mask-eq0.false c.self.invariant (rw (← c.self.view_is) at c.requires) in
    rw c.deref_mut.ensures.value (lower_below c.self.inside.lowest c.self.inside.higher.items c.args.word c.args.mask c.self.invariant place)

-- the line with the higher digits that are stored is the old one lowered
stored : (g : given.Over) (c : After-subtract g) → (with_items c.self.inside.higher c.subtract.new.digits).items ≡ c.subtract.new.digits
stored g c = with_items_is c.self.inside.higher c.subtract.new.digits (c.subtract.ensures.len ∙ c.deref_mut.ensures.len)

is_lowered : (g : given.Over) (c : After-subtract g) → IsLowered c.self.inside.lowest c.put.new.self c.self.inside.higher.items c.subtract.new.digits c.args.word c.args.mask
is_lowered g c =
    lowered c.self.inside.lowest c.put.new.self c.self.inside.higher.items c.subtract.new.digits c.put.ensures.kept (rw c.deref_mut.ensures.value at c.subtract.ensures.limits) c.args.word c.args.mask
    c.bits.result c.bits.ensures c.put.ensures.here c.put.ensures.others (rw c.deref_mut.ensures.value at c.subtract.ensures.others) c.self.invariant (rw c.deref_mut.ensures.value at c.subtract.ensures.difference)

pub invariant_of-self : goal.invariant_of-self
invariant_of-self g c = let at = (goal.at.invariant_of-self g c).After-subtract in rw (stored g at) (is_lowered g at).below

pub returns-clause-now : goal.returns-clause-now
returns-clause-now g c = let at = (goal.at.returns-clause-now g c).After-subtract in rw (← c.self.view_is, stored g at) (is_lowered g at).now

pub returns-clause-limits : goal.returns-clause-limits
returns-clause-limits g c = let at = (goal.at.returns-clause-limits g c).After-subtract in rw (← c.self.view_is, stored g at) (is_lowered g at).limits

pub returns-clause-room : goal.returns-clause-room
returns-clause-room g c = let at = (goal.at.returns-clause-room g c).After-subtract in rw (stored g at) (is_lowered g at).room
