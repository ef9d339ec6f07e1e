use Rattle.cil_session.proofs.Common.{◌∙◌, decimal, sym, subst, IsTrue, true≢false, list_all, is_no_space, has-space}
use Rattle.cil_session.proofs.CommandLemmas.{install-parts, install-numbers}
use Rattle.cil_session.proofs.command.install.Goals as goal

pub returns-in_default-split_word-clause-none : goal.returns-in_default-split_word-clause-none
returns-in_default-split_word-clause-none c command good is =
    let (named, (r, numbers)) = install-parts c.args.rest.now c.in-Some.name.now c.in-Some.numbers.now command c.in-Some.ensures.some c.in-Some.ensures.first good is in
    has-space (decimal r.priority) (decimal r.size) (subst (λ l. IsTrue (list_all is_no_space l)) numbers c.in_default-split_word.ensures.none)

pub returns-in_default-number-clause-none : goal.returns-in_default-number-clause-none
returns-in_default-number-clause-none c command good is =
    let (named, (r, numbers)) = install-parts c.args.rest.now c.in-Some.name.now c.in-Some.numbers.now command c.in-Some.ensures.some c.in-Some.ensures.first good is in
    let both = install-numbers c.in-Some-split_word.first.now c.in-Some-split_word.second.now r.priority r.size r.short_priority c.in-Some-split_word.ensures.first (sym c.in-Some-split_word.ensures.some ∙ numbers) in
    c.in_default-number.ensures.none r.priority r.short_priority both.0

pub returns-in_default-number-2-clause-none : goal.returns-in_default-number-2-clause-none
returns-in_default-number-2-clause-none c command good is =
    let (named, (r, numbers)) = install-parts c.args.rest.now c.in-Some.name.now c.in-Some.numbers.now command c.in-Some.ensures.some c.in-Some.ensures.first good is in
    let both = install-numbers c.in-Some-split_word.first.now c.in-Some-split_word.second.now r.priority r.size r.short_priority c.in-Some-split_word.ensures.first (sym c.in-Some-split_word.ensures.some ∙ numbers) in
    c.in_default-number-2.ensures.none r.size r.short_size both.1

pub returns-then-not-is_name-clause-none : goal.returns-then-not-is_name-clause-none
returns-then-not-is_name-clause-none c command good is =
    true≢false (sym (c.is_name.ensures.1 (install-parts c.args.rest.now c.in-Some.name.now c.in-Some.numbers.now command c.in-Some.ensures.some c.in-Some.ensures.first good is).0) ∙ c.if-not-is_name.true)
