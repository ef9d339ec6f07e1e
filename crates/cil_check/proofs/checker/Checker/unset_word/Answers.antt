use Rattle.cil_check.proofs.Common.{◌≡◌, true, inl, inr, filter, option_map, option_or, sym, ap, ◌∙◌, references, words_in, kind_of, read, texts_of, is_unset, alias_unset_words, element_words, word_if}
use Rattle.std.proofs.Common.{slice_get}
use Rattle.cil_check.proofs.SeenLemmas.{seen-kind}
use Rattle.cil_check.proofs.WordLemmas.{filter-one}
use Rattle.cil_check.proofs.AskedLemmas.{is_to_word, is_to_self, form-set, form-to-word, form-to-self, first-of-two, reads-as, reads-or}
use Rattle.cil_check.proofs.checker.Checker.unset_word.Goals as goal

pub returns-in-TypeAttributeSet : goal.returns-in-TypeAttributeSet
returns-in-TypeAttributeSet g c policy s noted seen =
    let (attribute, expr, form) = form-set s.form (sym (seen-kind c.args.seen.now policy s seen) ∙ c.in-TypeAttributeSet.is) in
    reads-as c.args.seen.now c.unset_leaf.result _ _ (c.unset_leaf.ensures policy s attribute expr noted seen form) (ap (λ f. slice_get (filter (is_unset policy s.namespace) (element_words f)) 0) form)

pub returns-in-Rule : goal.returns-in-Rule
returns-in-Rule g c = λ policy s noted seen.
    let to : is_to_word (kind_of s.form) ≡ true =
    ap is_to_word (sym (seen-kind c.args.seen.now policy s seen)) ∙ elim c.in-Rule.is [ inl h ↦ ap is_to_word h.1 | inr h ↦ ap is_to_word h.1 ] in
    let (word, it) = form-to-word s.form to in
    let p = is_unset policy s.namespace in
    let first = c.unset-first.ensures policy s it.source noted seen (ap (λ f. slice_get (references f) 0) it.is) (ap (λ f. slice_get (words_in f) 0) it.is) in
    let second = c.unset.ensures policy s word noted seen (ap (λ f. slice_get (references f) 1) it.is) (ap (λ f. slice_get (words_in f) 1) it.is) in
    ap (option_map (read (texts_of c.args.seen.now.«module».now))) c.or.ensures
    ∙ reads-as c.args.seen.now (option_or c.unset-first.result c.unset.result) (option_or (word_if (p it.source) it.source) (word_if (p word) word)) (slice_get (alias_unset_words policy s) 0)
    (reads-or c.args.seen.now c.unset-first.result c.unset.result (word_if (p it.source) it.source) (word_if (p word) word) first second)
    (ap (λ f. slice_get (filter p (element_words f)) 0) it.is ∙ first-of-two p it.source word)

pub returns-in-RuleToSelf : goal.returns-in-RuleToSelf
returns-in-RuleToSelf g c = λ policy s noted seen.
    let to : is_to_self (kind_of s.form) ≡ true =
    ap is_to_self (sym (seen-kind c.args.seen.now policy s seen)) ∙ elim c.in-RuleToSelf.is [ inl h ↦ ap is_to_self h.1 | inr h ↦ ap is_to_self h.1 ] in
    let it = form-to-self s.form to in
    let p = is_unset policy s.namespace in
    let first = c.unset-in-RuleToSelf.ensures policy s it.source noted seen (ap (λ f. slice_get (references f) 0) it.is) (ap (λ f. slice_get (words_in f) 0) it.is) in
    reads-as c.args.seen.now c.unset-in-RuleToSelf.result (word_if (p it.source) it.source) (slice_get (alias_unset_words policy s) 0) first
    (ap (λ f. slice_get (filter p (element_words f)) 0) it.is ∙ filter-one p it.source)
