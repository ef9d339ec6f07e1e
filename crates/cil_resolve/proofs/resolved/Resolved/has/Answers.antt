use Rattle.cil_resolve.proofs.Common.{◌∙◌, sym}
use Rattle.cil_resolve.proofs.NamedLemmas.{named-here, named-next, named-none}
use Rattle.cil_resolve.proofs.resolved.Resolved.has.Goals as goal

pub returns-then-is_named : goal.returns-then-is_named
returns-then-is_named g c =
    named-here c.args.self.now.names.items c.args.class.now c.args.permission.now c.loop-one.left.now c.args.given.now c.in-Some.more.now c.in-Some.one.now c.loop-one.invariant c.in-Some.ensures.cases.0
    (sym c.is_named.ensures ∙ c.if-is_named.true)

pub loop-one-preserved : goal.loop-one-preserved
loop-one-preserved g c =
    named-next c.args.self.now.names.items c.args.class.now c.args.permission.now c.loop-one.left.now c.args.given.now c.in-Some.more.now c.in-Some.one.now c.loop-one.invariant c.in-Some.ensures.cases.0
    (sym c.is_named.ensures ∙ c.if-is_named.false)

pub returns : goal.returns
returns g c = named-none c.args.self.now.names.items c.args.class.now c.args.permission.now c.loop-one.left.now c.args.given.now c.loop-one.invariant c.in_default.ensures.cases
