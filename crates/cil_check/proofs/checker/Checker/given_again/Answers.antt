use Rattle.cil_check.proofs.Common.{None, Some, take, sym, ap, ◌∙◌, subst, lt-ltb, le-ltb, Reads, again_words, is_before}
use Rattle.std.proofs.Common.{slice_get}
use Rattle.cil_check.proofs.AskedLemmas.{first_if, again-reads}
use Rattle.cil_check.proofs.checker.Checker.given_again.Goals as goal

pub returns-in_err-found : goal.returns-in_err-found
returns-in_err-found g c policy s has seen =
    let view = c.args.seen.now in
    subst (λ o. Reads view o (slice_get (again_words c.args.association policy (take c.args.place policy) s) 0)) (sym c.from_residual.ensures)
    (again-reads view c.args.association policy c.args.place s c.args.firsts.now None has seen (c.in_err-found.ensures policy s seen))

pub returns-in_err-first : goal.returns-in_err-first
returns-in_err-first g c policy s has seen =
    let view = c.args.seen.now in
    subst (λ o. Reads view o (slice_get (again_words c.args.association policy (take c.args.place policy) s) 0)) (sym (c.from_residual-in_err-first.ensures ∙ ap (λ o. first_if view (is_before o c.args.place)) c.in_err-first.ensures))
    (again-reads view c.args.association policy c.args.place s c.args.firsts.now (Some c.in_ok-found.found) has seen (c.in_ok-found.ensures policy s seen))

pub returns-then-first-place : goal.returns-then-first-place
returns-then-first-place g c policy s has seen =
    let view = c.args.seen.now in
    subst (λ o. Reads view o (slice_get (again_words c.args.association policy (take c.args.place policy) s) 0))
    (sym (c.word.ensures ∙ ap (first_if view) (sym (lt-ltb c.in_ok-first.first c.args.place c.if-first-place.true)) ∙ ap (λ o. first_if view (is_before o c.args.place)) c.in_ok-first.ensures))
    (again-reads view c.args.association policy c.args.place s c.args.firsts.now (Some c.in_ok-found.found) has seen (c.in_ok-found.ensures policy s seen))

pub returns-else-first-place : goal.returns-else-first-place
returns-else-first-place g c policy s has seen =
    let view = c.args.seen.now in
    subst (λ o. Reads view o (slice_get (again_words c.args.association policy (take c.args.place policy) s) 0))
    (sym (ap (first_if view) (sym (le-ltb c.in_ok-first.first c.args.place c.if-first-place.false)) ∙ ap (λ o. first_if view (is_before o c.args.place)) c.in_ok-first.ensures))
    (again-reads view c.args.association policy c.args.place s c.args.firsts.now (Some c.in_ok-found.found) has seen (c.in_ok-found.ensures policy s seen))
