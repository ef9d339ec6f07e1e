use Rattle.cil_symbols.proofs.Common.{◌≡◌, ◌<◌, ◌+◌, ◌∙◌, [], Some, length, take, get_or, sym, ap, subst, arith, fold_more, with_name, AreNumbersOf}
use Rattle.cil_bind.proofs.WordLemmas.{numbers-next}
use Rattle.cil_symbols.proofs.NumberLemmas.{name-more, grown-by}
use Rattle.cil_symbols.proofs.numbering.symbols_of.Goals as goal

pub returns-in_err-number-clause-grown : goal.returns-in_err-number-clause-grown
returns-in_err-number-clause-grown g c =
    grown-by c.args.symbols.now c.number.new.self (take c.loop-i.i c.args.resolved.now.names.items) (c.in_err-number.ensures.err ∙ c.loop-i.invariant.symbols)

pub returns-in_err-push-clause-grown : goal.returns-in_err-push-clause-grown
returns-in_err-push-clause-grown g c =
    let names = c.args.resolved.now.names.items in
    let i = c.loop-i.i in
    let many = c.names_len-i-end.ensures in
    let test = c.loop-i-test.true in
    let low : i < length names = omega (arith, many, test) in
    grown-by c.args.symbols.now c.number.new.self (take (i + 1) names)
    (c.in_ok-number.ensures.ok ∙ ap (with_name c.loop-i.symbols) c.name.ensures ∙ ap (λ l. with_name l (get_or names i [])) c.loop-i.invariant.symbols
    ∙ sym (fold_more with_name c.args.symbols.now names i [] low))

pub loop-i-preserved : goal.loop-i-preserved
loop-i-preserved g c =
    let names = c.args.resolved.now.names.items in
    let i = c.loop-i.i in
    let name = get_or names i [] in
    let many = c.names_len-i-end.ensures in
    let test = c.loop-i-test.true in
    let low : i < length names = omega (arith, many, test) in
    let put : c.number.new.self ≡ with_name c.loop-i.symbols name = c.in_ok-number.ensures.ok ∙ ap (with_name c.loop-i.symbols) c.name.ensures in
    let (more, grown) = name-more c.loop-i.symbols name in
    record {
      symbols = put ∙ ap (λ l. with_name l name) c.loop-i.invariant.symbols ∙ sym (fold_more with_name c.args.symbols.now names i [] low);
      numbers = subst (λ l. AreNumbersOf c.number.new.self l (take (i + 1) names)) (sym c.in_ok-push.ensures.items)
          (numbers-next c.loop-i.symbols c.number.new.self c.loop-i.numbers.items names i c.in_ok-number.field-0 c.loop-i.invariant.numbers (more, put ∙ grown) low
          (c.in_ok-number.ensures.number ∙ ap Some c.name.ensures));
    }

pub returns-clause-grown : goal.returns-clause-grown
returns-clause-grown g c = grown-by c.args.symbols.now c.loop-i.symbols (take c.loop-i.i c.args.resolved.now.names.items) c.loop-i.invariant.symbols
