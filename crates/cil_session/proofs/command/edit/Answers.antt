use Rattle.std.proofs.Common.{◌∙◌, sym, true≢false}
use Rattle.cil_store_specs.proofs.WordLemmas.{first-is, known-first}
use Rattle.cil_session.proofs.command.edit.Goals as goal

pub returns-clause-none : goal.returns-clause-none
returns-clause-none c command good is =
    let words = first-is c.args.first.now c.args.rest.now command good c.requires is in
    known-first command words.2
    (λ e. true≢false (sym (c.is_word.ensures.1 (sym words.0 ∙ e)) ∙ c.if-is_word.false)) (λ e. true≢false (sym (c.is_word-2.ensures.1 (sym words.0 ∙ e)) ∙ c.if-is_word-2.false))
    (λ e. true≢false (sym (c.is_word-3.ensures.1 (sym words.0 ∙ e)) ∙ c.if-is_word-3.false)) (λ e. true≢false (sym (c.is_word-4.ensures.1 (sym words.0 ∙ e)) ∙ c.if-is_word-4.false))
