use Rattle.cil_check.proofs.Common.{None, Some, not, get_or, refl, sym, ap, ◌∙◌, subst, types, leads, is_of_another_kind, IsLead, Reads, test_of}
use Rattle.cil_check.proofs.SeenLemmas.{seen-lead, seen-word}
use Rattle.cil_check.proofs.AskedLemmas.{reads-none, reads-some, nowhere-kind, there-kind}
use Rattle.cil_check.proofs.checker.Checker.of_another_kind.Goals as goal

pub returns-in_err-found : goal.returns-in_err-found
returns-in_err-found g c policy s word is seen at here =
    let view = c.args.seen.now in
    reads-none view (is_of_another_kind policy s.namespace (test_of c.args.kind, word)) word c.from_residual.result c.from_residual.ensures
    (nowhere-kind policy s.namespace c.args.kind word (get_or view.bound c.args.k None) (seen-lead view policy s c.args.k types word seen at) (sym c.in_err-found.ensures))

pub returns-then-is : goal.returns-then-is
returns-then-is g c policy s word is seen at here =
    let view = c.args.seen.now in
    let led = subst (λ o. IsLead types policy o (leads policy types s.namespace word.text)) (sym c.in_ok-found.ensures) (seen-lead view policy s c.args.k types word seen at) in
    reads-none view (is_of_another_kind policy s.namespace (test_of c.args.kind, word)) word None refl
    (there-kind policy s.namespace c.args.kind word c.in_ok-found.found c.is.result led (λ t there. c.is.ensures policy t is there) ∙ ap not c.if-is.true)

pub returns-else-is : goal.returns-else-is
returns-else-is g c policy s word is seen at here =
    let view = c.args.seen.now in
    let led = subst (λ o. IsLead types policy o (leads policy types s.namespace word.text)) (sym c.in_ok-found.ensures) (seen-lead view policy s c.args.k types word seen at) in
    reads-some view (is_of_another_kind policy s.namespace (test_of c.args.kind, word)) word c.word.result
    (subst (λ o. Reads view o (Some word)) (sym c.word.ensures) (seen-word view policy s c.args.k word seen here))
    (there-kind policy s.namespace c.args.kind word c.in_ok-found.found c.is.result led (λ t there. c.is.ensures policy t is there) ∙ ap not c.if-is.false)
