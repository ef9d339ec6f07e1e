use Rattle.cil_check.proofs.Common.{◌+◌, ◌<◌, ◌≤◌, None, Some, length, refl, sym, ap, ◌∙◌, subst, arith, option_or, references, Reads, first_unfound, word_if}
use Rattle.cil_check.proofs.SeenLemmas.{seen-word}
use Rattle.cil_check.proofs.AskedLemmas.{reads-as, bound-as-many, reference-there, bound-nowhere, unfound-at, unfound-past}
use Rattle.cil_check.proofs.checker.Checker.unfound.Goals as goal

pub loop-k-init : goal.loop-k-init
loop-k-init g c = λ policy s seen. refl

pub returns-in-loop-k : goal.returns-in-loop-k
returns-in-loop-k g c policy s seen =
    let view = c.args.seen.now in
    let refs = references s.form in
    let long = bound-as-many view policy s seen in
    let less : c.loop-k.k < length refs = omega (arith, long) in
    let (r, at, here) = reference-there s.form c.loop-k.k less in
    let reads = subst (λ o. Reads view o (Some r.1)) (sym c.word.ensures) (seen-word view policy s c.loop-k.k r.1 seen here) in
    reads-as view c.word.result (Some r.1) (first_unfound policy s.namespace 0 refs) reads
    (c.loop-k.invariant policy s seen ∙ unfound-at policy s.namespace refs c.loop-k.k r at
    ∙ ap (λ b. option_or (word_if b r.1) (first_unfound policy s.namespace (c.loop-k.k + 1) refs)) (bound-nowhere view policy s c.loop-k.k r None seen at c.in_default.ensures))

pub loop-k-preserved : goal.loop-k-preserved
loop-k-preserved g c = λ policy s seen.
    let view = c.args.seen.now in
    let refs = references s.form in
    let long = bound-as-many view policy s seen in
    let less : c.loop-k.k < length refs = omega (arith, long) in
    let (r, at, here) = reference-there s.form c.loop-k.k less in
    c.loop-k.invariant policy s seen ∙ unfound-at policy s.namespace refs c.loop-k.k r at
    ∙ ap (λ b. option_or (word_if b r.1) (first_unfound policy s.namespace (c.loop-k.k + 1) refs)) (bound-nowhere view policy s c.loop-k.k r (Some c.in-Some._found) seen at c.in-Some.ensures)

pub returns : goal.returns
returns g c policy s seen =
    let long = bound-as-many c.args.seen.now policy s seen in
    let past : length (references s.form) ≤ c.loop-k.k = omega (arith, long) in
    reads-as c.args.seen.now None None _ refl (c.loop-k.invariant policy s seen ∙ unfound-past policy s.namespace (references s.form) c.loop-k.k past)
