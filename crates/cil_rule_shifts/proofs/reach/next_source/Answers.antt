use Rattle.cil_rule_shifts.proofs.Common.{◌^◌, ◌<◌, arith, subst, sym, MatchOption, is_among, IsNext, NoneFrom}
use Rattle.cil_rule_shifts.proofs.ReachLemmas.{fits-next, next-here, next-there, none-here, none-there}
use Rattle.cil_rule_shifts.proofs.ShiftLemmas.{short-among}
use Rattle.cil_rule_shifts.proofs.reach.next_source.Goals as goal

pub overflow_add-result : goal.overflow_add-result
overflow_add-result g c =
    let f = is_among c.args.sources in
    let next = next-here f c.args.from c.mask.result c.mask.ensures (let fits : c.mask.result < 2 ^ 64 = c.mask.type_inv in fits) c.if-bits-ne0.true in
    let low = fits-next f (λ s high. short-among c.args.sources c.requires s (omega (arith, high))) c.args.from _ next in
    omega (arith, low)

pub returns-then-bits-ne0 : goal.returns-then-bits-ne0
returns-then-bits-ne0 g c =
    next-here (is_among c.args.sources) c.args.from c.mask.result c.mask.ensures (let fits : c.mask.result < 2 ^ 64 = c.mask.type_inv in fits) c.if-bits-ne0.true

pub returns-in_err-word : goal.returns-in_err-word
returns-in_err-word g c =
    let f = is_among c.args.sources in
    subst (λ r. MatchOption r (NoneFrom f c.args.from) (IsNext f c.args.from)) (sym c.from_residual.ensures)
    (none-there f c.args.from (none-here f c.args.from c.mask.result c.mask.ensures (let fits : c.mask.result < 2 ^ 64 = c.mask.type_inv in fits) c.if-bits-ne0.false) c.in_err-word.ensures)

pub returns : goal.returns
returns g c =
    let f = is_among c.args.sources in
    next-there f c.args.from c.in_ok-word.word c.mask-bits.result
    (none-here f c.args.from c.mask.result c.mask.ensures (let fits : c.mask.result < 2 ^ 64 = c.mask.type_inv in fits) c.if-bits-ne0.false) c.in_ok-word.ensures
    c.mask-bits.ensures (let fits : c.mask-bits.result < 2 ^ 64 = c.mask-bits.type_inv in fits)
