use Rattle.cil_member_updates.proofs.Common.{◌+◌, ◌*◌, ap, arith, subst, sym, bit_at, bit_at-lt, bit_at-zero, bit_at_and, meaning_in, AreBits, keeps, set_of}
use Rattle.cil_member_updates.proofs.BitLemmas.{cover-bits}
use Rattle.cil_member_updates.proofs.NameLemmas.{holds-kept}
use Rattle.cil_member_updates.proofs.visits.reached_among.Goals as goal

pub returns-then-kept-eq0 : goal.returns-then-kept-eq0
returns-then-kept-eq0 g c = λ b within set none.
    let symbols = c.args.reading.now.symbols.now in
    let meaning = meaning_in c.args.reading.now.side.now.resolved.now in
    let kept = subst (AreBits (keeps symbols meaning) c.args.word) (sym c.word.ensures) (c.requires.side.kept c.args.word) in
    holds-kept symbols meaning (set_of c.args.reading.now) (64 * c.args.word + b)
    (cover-bits (keeps symbols meaning) c.args.word c.word.result kept b within
    (omega (arith, set, ap (λ n. bit_at n b) c.if-kept-eq0.true, bit_at-zero b, bit_at_and c.args.among c.word.result b, bit_at-lt c.word.result b)))

pub returns : goal.returns
returns g c = λ b within set none. c.reached_by_names.ensures b within none
