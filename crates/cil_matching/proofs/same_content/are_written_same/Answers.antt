use Rattle.cil_matching.proofs.Common.{is_number_of, sym}
use Rattle.cil_matching.proofs.ContentLemmas.{both-kept, both-lists, first-kept, second-kept}
use Rattle.cil_matching.proofs.same_content.are_written_same.Goals as goal

pub returns-in-Some-Some : goal.returns-in-Some-Some
returns-in-Some-Some g c =
    both-kept (is_number_of c.args.numbers.now) c.args.permissions.now c.args.other.now c.in-Some-Some.written c.in-Some-Some.others c.deref.result.now c.deref-in-Some-Some.result.now
    c.is_same_expression.result c.in-Some-Some.is-0 c.in-Some-Some.is-1 c.deref.ensures c.deref-in-Some-Some.ensures c.is_same_expression.ensures

pub returns-in-None-None : goal.returns-in-None-None
returns-in-None-None g c =
    both-lists (is_number_of c.args.numbers.now) c.args.permissions.now c.args.other.now c.as_slice.result.now c.as_slice-in-None-None.result.now c.is_same_list.result c.in-None-None.is-0
    c.in-None-None.is-1 c.as_slice.ensures c.as_slice-in-None-None.ensures c.is_same_list.ensures

-- only the first keeps an expression
pub returns-in_default : goal.returns-in_default
returns-in_default g c =
    sym (first-kept (is_number_of c.args.numbers.now) c.args.permissions.now c.args.other.now c.in_default.field-0-0 c.requires.permissions c.in_default.is-0 c.in_default.is-1)

-- only the other one does
pub returns-in_default-2 : goal.returns-in_default-2
returns-in_default-2 g c =
    sym (second-kept (is_number_of c.args.numbers.now) c.args.permissions.now c.args.other.now c.in_default.field-0-1 c.requires.other c.in_default.is-0 c.in_default.is-1)
