use Rattle.cil_check.proofs.Common.{take, drop, fold, sym, ap, ◌∙◌, take-append-drop, fold-append, with_number}
use Rattle.cil_check.proofs.FewLemmas.{fold-over}
use Rattle.cil_check.proofs.few.Few.insert_all.Goals as goal

pub returns-then-is_over : goal.returns-then-is_over
returns-then-is_over c =
    let numbers = c.args.numbers.now in
    let i = c.loop-number.number-index in
    sym (ap (fold with_number c.args.self.now) (sym (take-append-drop i numbers)) ∙ fold-append with_number c.args.self.now (take i numbers) (drop i numbers)
    ∙ ap (λ l. fold with_number l (drop i numbers)) (sym c.loop-number.invariant) ∙ fold-over c.loop-number.self (drop i numbers) (sym c.is_over.ensures ∙ c.if-is_over.true))
