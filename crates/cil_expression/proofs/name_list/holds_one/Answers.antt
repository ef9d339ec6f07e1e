use Rattle.std.proofs.Common.{subst}
use Rattle.cil_expression.proofs.ListedLemmas.{on-first-name, on-next-name, on-found-name, on-last-name}
use Rattle.cil_expression.proofs.name_list.holds_one.Goals as goal

pub loop-name-init : goal.loop-name-init
loop-name-init g c = on-first-name (goal.F-post g c.args.known.now) c.args.names.now

pub returns-then-known : goal.returns-then-known
returns-then-known g c =
    let post = goal.F-post g c.args.known.now in
    on-found-name post c.args.names.now c.loop-name.left.now c.in-Some.name.now c.in-Some.behind.now c.loop-name.invariant c.in-Some.ensures.cases.0
    (subst (post c.in-Some.name.now) c.if-known.true c.known.ensures)

pub loop-name-preserved : goal.loop-name-preserved
loop-name-preserved g c =
    let post = goal.F-post g c.args.known.now in
    on-next-name post c.args.names.now c.loop-name.left.now c.in-Some.name.now c.in-Some.behind.now c.loop-name.invariant c.in-Some.ensures.cases.0
    (subst (post c.in-Some.name.now) c.if-known.false c.known.ensures)

pub returns : goal.returns
returns g c =
    on-last-name (goal.F-post g c.args.known.now) c.args.names.now c.loop-name.left.now c.loop-name.invariant c.in_default.ensures.cases
