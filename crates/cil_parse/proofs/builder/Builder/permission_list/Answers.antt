use Rattle.cil_parse.proofs.Common.{◌-◌, length, take, drop, take_rest}
use Rattle.cil_parse.proofs.PlainLemmas.{permissions-plain, permissions-from}
use Rattle.cil_parse.proofs.builder.Builder.permission_list.Goals as goal

pub returns-in_ok-elements : goal.returns-in_ok-elements
returns-in_ok-elements g c =
    let all = c.args.elements.now in
    let count = c.in_ok-names.names in
    let rest = take (length all - count) (drop count all) in
    let front = c.in_ok-names.ensures in
    permissions-from c.args.self.now c.names_in_front.new.self c.nodes_of_names.new.self c.elements.new.self all rest count (front.stops c.if-names-elements.true) (take_rest all count)
    front.names c.in_ok-nodes_of_names.ensures c.in_ok-elements.ensures

pub returns-else-names-elements : goal.returns-else-names-elements
returns-else-names-elements g c =
    permissions-plain c.args.self.now c.names_in_front.new.self c.args.elements.now c.in_ok-names.names c.if-names-elements.false c.in_ok-names.ensures.names
