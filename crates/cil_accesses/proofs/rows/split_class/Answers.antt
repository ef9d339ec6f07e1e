use Rattle.cil_accesses.proofs.Common.{◌≡◌, ◌∙◌, [], MatchOption, sym, subst, IsNextClass, at_bit}
use Rattle.cil_accesses.proofs.Moves.{next-class, no-class}
use Rattle.cil_accesses.proofs.RowPlaces.{empty-first}
use Rattle.cil_accesses.proofs.rows.split_class.Goals as goal

pub returns-in_err-first : goal.returns-in_err-first
returns-in_err-first c =
    subst (λ o. MatchOption o (at_bit c.args.bit c.args.chunks.now ≡ []) (λ parts. IsNextClass c.args.chunks.now c.args.bit parts.0.now parts.1.now parts.2.now)) (sym c.from_residual.ensures)
    (no-class c.args.chunks.now c.args.bit c.skipped.result c.skipped.ensures.all (sym c.split_at.ensures.back ∙ empty-first c.split_at.result.1.now (sym c.in_err-first.ensures.value)))

pub returns : goal.returns
returns c =
    let e = c.split_at-2.ensures in
    next-class c.args.chunks.now c.args.bit c.skipped.result c.class_len.result c.split_at.result.1.now c.in_ok-first.first.now c.split_at-2.result.0.now c.split_at-2.result.1.now c.skipped.ensures.all c.split_at.ensures.back
    c.in_ok-first.ensures.value c.class_len.ensures.all e.front e.back e.front_len
