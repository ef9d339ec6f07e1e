use Rattle.cil_rule_shifts.proofs.Common.{count_now, grants, head_of, in_part, has_source, moves_where, rises-same, ◌&&◌}
use Rattle.std.proofs.lemmas.Result.{IfOk-weaker, on_ok_weaker}
use Rattle.cil_rule_shifts.specs.declared.reach.Part.TheVariants.{Got}
use Rattle.cil_rule_shifts.proofs.PartLemmas.{got-moves, got-raised}
use Rattle.cil_rule_shifts.proofs.put.put_rule.Goals as goal

pub returns-clause-now : goal.returns-clause-now
returns-clause-now g c =
    let none = c.none-none.result in
    let is = c.args.is.reach.now in
    on_ok_weaker c.shift_part.result
    (λ moved k t. got-raised none is c.none-none.ensures.none (head_of c.args.kind c.args.is) k t (count_now c.args.lines.now k t) (count_now c.shift_part.new.lines k t) (moved k t))
    c.shift_part.ensures.now

pub returns-clause-given : goal.returns-clause-given
returns-clause-given g c =
    let none = c.none-none.result in
    let is = c.args.is.reach.now in
    let head = head_of c.args.kind c.args.is in
    IfOk-weaker c.shift_part.result _ _
    (λ n. rises-same (λ p. in_part Got (has_source none p.0.source) (has_source is p.0.source) && moves_where none is head p) (grants c.args.kind c.args.is) 0 n
    (got-moves none is c.none-none.ensures.none head))
    c.shift_part.ensures.moved
