use Rattle.cil_check.proofs.Common.{None, Some, refl, sym, ap, ◌∙◌, subst, has_too_many, too_many_words, is_class, words_in, Reads, word_if}
use Rattle.std.proofs.Common.{slice_get}
use Rattle.cil_check.proofs.SeenLemmas.{seen-kind, seen-word}
use Rattle.cil_check.proofs.AskedLemmas.{reads-none, reads-some, reads-as}
use Rattle.cil_check.proofs.WordLemmas.{once-first}
use Rattle.cil_check.proofs.TooManyLemmas.{form-class, too-many-class}
use Rattle.cil_check.proofs.checker.Checker.too_many_word.Goals as goal

pub returns-then-has_too_many : goal.returns-then-has_too_many
returns-then-has_too_many g c policy s noted seen at =
    let view = c.args.seen.now in
    let (id, permissions, form) = form-class s.form (sym (seen-kind view policy s seen) ∙ c.in-Class.is) in
    let first = once-first policy c.args.place s noted.is.bound.once at (ap is_class form) in
    reads-as view c.word.result (word_if (has_too_many policy s) id) (slice_get (too_many_words policy s) 0)
    (reads-some view (has_too_many policy s) id c.word.result
    (subst (λ o. Reads view o (Some id)) (sym c.word.ensures) (seen-word view policy s 0 id seen (ap (λ f. slice_get (words_in f) 0) form)))
    (sym (c.has_too_many.ensures policy s noted at first) ∙ c.if-has_too_many.true))
    (too-many-class policy s id permissions form)

pub returns-else-has_too_many : goal.returns-else-has_too_many
returns-else-has_too_many g c policy s noted seen at =
    let view = c.args.seen.now in
    let (id, permissions, form) = form-class s.form (sym (seen-kind view policy s seen) ∙ c.in-Class.is) in
    let first = once-first policy c.args.place s noted.is.bound.once at (ap is_class form) in
    reads-as view None (word_if (has_too_many policy s) id) (slice_get (too_many_words policy s) 0)
    (reads-none view (has_too_many policy s) id None refl (sym (c.has_too_many.ensures policy s noted at first) ∙ c.if-has_too_many.false))
    (too-many-class policy s id permissions form)
