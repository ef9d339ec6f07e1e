use Rattle.cil_lines.proofs.Common.{◌/◌, arith, inl, inr, cases_lt, count_of}
use Rattle.cil_lines.proofs.LineLemmas.{none_passed, none_counted, none_present, some_present}
use Rattle.cil_lines.proofs.line.Line.search_present_word.Goals as goal

pub returns-then-present-ne0 : goal.returns-then-present-ne0
returns-then-present-ne0 g c =
    let was = c.loop-word.invariant in
    let next = c.in-Some.ensures in
    let on = was.0 in
    let upto = next.0 in
    record {
      from_on = omega (arith, on, upto);
      present = some_present (count_of c.args.self.now) c.in-Some.word c.present.result c.present.ensures c.present.type_inv c.if-present-ne0.true;
      first = none_passed c.args.self.now c.args.from c.loop-word.from c.in-Some.word was.1 next.2;
    }

pub loop-word-preserved : goal.loop-word-preserved
loop-word-preserved g c =
    let was = c.loop-word.invariant in
    let next = c.in-Some.ensures in
    let on = was.0 in
    let upto = next.0 in (
      omega (arith, on, upto),
      λ t from past.
          elim (cases_lt (t / 64) c.in-Some.word) [
            | inl before ↦ none_passed c.args.self.now c.args.from c.loop-word.from c.in-Some.word was.1 next.2 t from before
            | inr here ↦ none_present (count_of c.args.self.now) c.in-Some.word c.present.result c.present.ensures c.if-present-ne0.false t (omega (arith, here, past))
          ],
    )

pub returns : goal.returns
returns g c t on =
    let was = c.loop-word.invariant in
    elim (cases_lt (t / 64) c.loop-word.from) [
      | inl before ↦ was.1 t on before
      | inr behind ↦ none_counted c.args.self.now t (c.in_default.ensures (t / 64) behind)
    ]
