use Rattle.std.proofs.Common.{subst}
use Rattle.cil_expression.proofs.SameLemmas.{on-first, on-next, on-differ, on-shorter, on-end}
use Rattle.cil_expression.proofs.same.are_same_names.Goals as goal

pub loop-name-init : goal.loop-name-init
loop-name-init g c = on-first (goal.F-post g c.args.same.now) c.args.names.now c.args.others.now

pub returns-then-not-same : goal.returns-then-not-same
returns-then-not-same g c =
    let post = goal.F-post g c.args.same.now in
    let x = c.in-Some.name.now in
    let y = c.in-Some-split_first.other.now in
    on-differ post c.args.names.now c.args.others.now c.loop-name.left.now c.loop-name.right.now x y c.in-Some.names_behind.now c.in-Some-split_first.others_behind.now
    c.loop-name.invariant c.in-Some.ensures.cases.0 c.in-Some-split_first.ensures.cases.0 (subst (post x y) c.if-not-same.true c.same.ensures)

pub loop-name-preserved : goal.loop-name-preserved
loop-name-preserved g c =
    let post = goal.F-post g c.args.same.now in
    let x = c.in-Some.name.now in
    let y = c.in-Some-split_first.other.now in
    on-next post c.args.names.now c.args.others.now c.loop-name.left.now c.loop-name.right.now x y c.in-Some.names_behind.now c.in-Some-split_first.others_behind.now
    c.loop-name.invariant c.in-Some.ensures.cases.0 c.in-Some-split_first.ensures.cases.0 (subst (post x y) c.if-not-same.false c.same.ensures)

pub returns-in-None : goal.returns-in-None
returns-in-None g c =
    on-shorter (goal.F-post g c.args.same.now) c.args.names.now c.args.others.now c.loop-name.left.now c.loop-name.right.now c.in-Some.name.now c.in-Some.names_behind.now
    c.loop-name.invariant c.in-Some.ensures.cases.0 c.in-None.ensures.cases

pub returns : goal.returns
returns g c =
    on-end (goal.F-post g c.args.same.now) c.args.names.now c.args.others.now c.loop-name.left.now c.loop-name.right.now c.is_empty.result
    c.loop-name.invariant c.in_default.ensures.cases c.is_empty.ensures
