use Rattle.cil_parse.proofs.Common.{false, subst, trees_of, IsNext, IsFirstAmong, handed_on, fault_weaker}
use Rattle.cil_parse.proofs.TreeLemmas.{way_start, way_more, way_end, way_fault}
use Rattle.cil_parse.proofs.builder.Builder.take.Goals as goal

pub loop-statement-init : goal.loop-statement-init
loop-statement-init g c = way_start c.args.self.now c.args.around (trees_of c.args.trees) c.requires

pub loop-statement-preserved : goal.loop-statement-preserved
loop-statement-preserved g c =
    let s = c.in-Some.statement in
    let rest = trees_of c.loop-statement.rest in
    let behind = trees_of c.in-Some.behind in
    let mid = c.loop-statement.self in
    let new = c.take_one.new.self in
    way_more c.args.self.now mid new c.args.around (trees_of c.args.trees) rest behind s c.loop-statement.invariant
    (subst (IsNext rest) c.in-Some.is c.in_ok-statement.ensures.ok)
    c.in_ok-take_one.ensures

pub returns-clause-ok : goal.returns-clause-ok
returns-clause-ok g c = way_end c.args.self.now c.loop-statement.self c.args.around (trees_of c.args.trees) (trees_of c.loop-statement.rest) c.loop-statement.invariant (subst (IsNext (trees_of c.loop-statement.rest)) c.in_default.is c.in_ok-statement.ensures.ok)

pub returns-in_err-statement-clause-err : goal.returns-in_err-statement-clause-err
returns-in_err-statement-clause-err g c =
    let trees = trees_of c.args.trees in
    let rest = trees_of c.loop-statement.rest in
    let fault = c.in_err-statement.field-0.0 in
    handed_on (IsFirstAmong false trees) c.from_residual.result fault c.from_residual.ensures.1
    (fault_weaker (IsFirstAmong false rest) (IsFirstAmong false trees) fault
    (λ f h. way_fault c.args.self.now c.loop-statement.self c.args.around trees rest f c.loop-statement.invariant h) c.in_err-statement.ensures.err)
