use Rattle.cil_check.proofs.Common.{None, Some, not, ◌&&◌, is_some, get_or, refl, sym, ap, ◌∙◌, subst, types, leads, is_unset, IsLead, Reads, first_at, word_if}
use Rattle.cil_check.proofs.SeenLemmas.{seen-lead, seen-word}
use Rattle.cil_check.proofs.WordLemmas.{unset-first}
use Rattle.cil_check.proofs.AskedLemmas.{reads-none, reads-some, reads-as, nowhere-unset}
use Rattle.cil_check.proofs.checker.Checker.unset.Goals as goal

pub returns-in_err-found : goal.returns-in_err-found
returns-in_err-found g c policy s word noted seen at here =
    let view = c.args.seen.now in
    reads-none view (is_unset policy s.namespace word) word c.from_residual.result c.from_residual.ensures
    (nowhere-unset policy s.namespace word (get_or view.bound c.args.k None) (seen-lead view policy s c.args.k types word seen at) (sym c.in_err-found.ensures))

pub returns-then-not-is : goal.returns-then-not-is
returns-then-not-is g c policy s word noted seen at here =
    let view = c.args.seen.now in
    let led = subst (λ o. IsLead types policy o (leads policy types s.namespace word.text)) (sym c.in_ok-found.ensures) (seen-lead view policy s c.args.k types word seen at) in
    let first = first_at c.args.self.now.actuals c.in_ok-found.found in
    reads-as view None (word_if (c.is.result && not (is_some first)) word) (word_if (is_unset policy s.namespace word) word)
    (reads-none view (c.is.result && not (is_some first)) word None refl (ap (λ b. b && not (is_some first)) c.if-not-is.true))
    (unset-first policy s.namespace word c.args.self.now.actuals c.in_ok-found.found c.is.result led noted.has_actuals (λ t there. c.is.ensures policy t noted.is there))

pub returns-in-None : goal.returns-in-None
returns-in-None g c policy s word noted seen at here =
    let view = c.args.seen.now in
    let led = subst (λ o. IsLead types policy o (leads policy types s.namespace word.text)) (sym c.in_ok-found.ensures) (seen-lead view policy s c.args.k types word seen at) in
    let first = first_at c.args.self.now.actuals c.in_ok-found.found in
    reads-as view c.word.result (word_if (c.is.result && not (is_some first)) word) (word_if (is_unset policy s.namespace word) word)
    (reads-some view (c.is.result && not (is_some first)) word c.word.result
    (subst (λ o. Reads view o (Some word)) (sym c.word.ensures) (seen-word view policy s c.args.k word seen here))
    (ap (λ b. b && not (is_some first)) c.if-not-is.false ∙ ap (λ o. not (is_some o)) (sym c.in-None.ensures)))
    (unset-first policy s.namespace word c.args.self.now.actuals c.in_ok-found.found c.is.result led noted.has_actuals (λ t there. c.is.ensures policy t noted.is there))

pub returns-in-Some : goal.returns-in-Some
returns-in-Some g c policy s word noted seen at here =
    let view = c.args.seen.now in
    let led = subst (λ o. IsLead types policy o (leads policy types s.namespace word.text)) (sym c.in_ok-found.ensures) (seen-lead view policy s c.args.k types word seen at) in
    let first = first_at c.args.self.now.actuals c.in_ok-found.found in
    reads-as view None (word_if (c.is.result && not (is_some first)) word) (word_if (is_unset policy s.namespace word) word)
    (reads-none view (c.is.result && not (is_some first)) word None refl (ap (λ b. b && not (is_some first)) c.if-not-is.false ∙ ap (λ o. not (is_some o)) (sym c.in-Some.ensures)))
    (unset-first policy s.namespace word c.args.self.now.actuals c.in_ok-found.found c.is.result led noted.has_actuals (λ t there. c.is.ensures policy t noted.is there))
