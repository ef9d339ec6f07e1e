use Rattle.cil_resolve.proofs.Common.{◌∙◌, ap, arith, length, take_all}
use Rattle.std.proofs.Common.{drop, length-drop}
use Rattle.cil_resolve.proofs.text.next_text.Goals as goal

pub overflow_sub-behind : goal.overflow_sub-behind
overflow_sub-behind g c = (let same = ap length c.as_slice.ensures in let within = c.requires in omega (arith, same, within))

pub part-requires-2 : goal.part-requires-2
part-requires-2 g c = (let same = ap length c.as_slice.ensures in let within = c.requires in omega (arith, same, within))

pub returns-clause-text : goal.returns-clause-text
returns-clause-text g c = c.from_part-text.ensures ∙ c.in_ok-part.ensures

pub returns-clause-rest : goal.returns-clause-rest
returns-clause-rest g c =
    let behind = drop c.args.count c.args.rest.now in
    let same = ap length c.as_slice.ensures in
    let left = length-drop c.args.count c.args.rest.now in
    c.in_ok-rest.ensures ∙ take_all _ behind (omega (arith, same, left))
