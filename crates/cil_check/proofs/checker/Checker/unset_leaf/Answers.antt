use Rattle.cil_check.proofs.Common.{◌+◌, ◌<◌, ◌≤◌, None, Some, length, refl, sym, ap, ◌∙◌, arith, is_unset, words_in}
use Rattle.cil_check.proofs.AskedLemmas.{first_from, from-at, from-past, first-here, first-behind, reads-as, shown-long, word-there, set-reference}
use Rattle.cil_check.proofs.checker.Checker.unset_leaf.Goals as goal

pub loop-k-init : goal.loop-k-init
loop-k-init g c = λ policy s attribute expr noted seen form. refl

pub returns-in-Some : goal.returns-in-Some
returns-in-Some g c policy s attribute expr noted seen form =
    let test = is_unset policy s.namespace in
    let words = words_in s.form in
    let long = shown-long c.args.seen.now policy s seen in
    let less : c.loop-k.k < length words = omega (arith, long) in
    let (word, at) = word-there words c.loop-k.k less in
    reads-as c.args.seen.now (Some c.in-Some.word) (first_from test c.loop-k.k words) _
    (reads-as c.args.seen.now (Some c.in-Some.word) _ _
    (first-here c.args.seen.now (test word) word c.in-Some.word (first_from test (c.loop-k.k + 1) words) (c.in-Some.ensures policy s word noted seen (set-reference s.form attribute expr c.loop-k.k word form at) at))
    (from-at test words c.loop-k.k word at))
    (sym (ap (λ f. first_from test 1 (words_in f)) form) ∙ c.loop-k.invariant policy s attribute expr noted seen form)

pub loop-k-preserved : goal.loop-k-preserved
loop-k-preserved g c = λ policy s attribute expr noted seen form.
    let test = is_unset policy s.namespace in
    let words = words_in s.form in
    let long = shown-long c.args.seen.now policy s seen in
    let less : c.loop-k.k < length words = omega (arith, long) in
    let (word, at) = word-there words c.loop-k.k less in
    c.loop-k.invariant policy s attribute expr noted seen form ∙ from-at test words c.loop-k.k word at
    ∙ first-behind c.args.seen.now (test word) word (first_from test (c.loop-k.k + 1) words) (c.in_default.ensures policy s word noted seen (set-reference s.form attribute expr c.loop-k.k word form at) at)

pub returns : goal.returns
returns g c policy s attribute expr noted seen form =
    let test = is_unset policy s.namespace in
    let words = words_in s.form in
    let long = shown-long c.args.seen.now policy s seen in
    let past : length words ≤ c.loop-k.k = omega (arith, long) in
    reads-as c.args.seen.now None None _ refl
    (sym (ap (λ f. first_from test 1 (words_in f)) form) ∙ c.loop-k.invariant policy s attribute expr noted seen form ∙ from-past test words c.loop-k.k past)
