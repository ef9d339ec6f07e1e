use Rattle.std.proofs.Common.{◌∙◌, sym, true≢false}
use Rattle.cil_session.proofs.CommandLemmas.{remove-parts}
use Rattle.cil_session.proofs.command.remove.Goals as goal

pub returns-then-not-is_name-clause-none : goal.returns-then-not-is_name-clause-none
returns-then-not-is_name-clause-none c command good is =
    true≢false (sym (c.is_name.ensures.1 (remove-parts c.args.rest.now c.in-Some.name.now c.in-Some.second.now command c.in-Some.ensures.some c.in-Some.ensures.first good is).0) ∙ c.if-not-is_name.true)

pub returns-in_default-number-clause-none : goal.returns-in_default-number-clause-none
returns-in_default-number-clause-none c command good is =
    let (named, (r, second)) = remove-parts c.args.rest.now c.in-Some.name.now c.in-Some.second.now command c.in-Some.ensures.some c.in-Some.ensures.first good is in
    c.in_default-number.ensures.none r.priority r.short_priority second
