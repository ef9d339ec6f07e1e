use Rattle.cil_rules.proofs.Common.{subst, rules, row_line, Gains, GainsFront, on_err, gains-pieces_more, gains-pieces_front, line_by}
use Rattle.cil_rules.proofs.NumberedRowLemmas.{no_row}
use Rattle.cil_rules.proofs.rows.write_numbered.Goals as goal

pub returns-in_err-write_row_line-clause-err : goal.returns-in_err-write_row_line-clause-err
returns-in_err-write_row_line-clause-err g c =
    let taken = g.W.Sink.taken in
    on_err c.from_residual.result
    (gains-pieces_front (line_by c.args.names.now c.args.permissions.now) (taken c.args.sink.now) (taken c.loop-row.sink) (taken c.write_row_line.new.sink) c.args.rows.now c.loop-row.row-index no_row c.loop-row-test.true
    c.loop-row.invariant.so_far (subst (λ r. GainsFront (taken c.loop-row.sink) (taken c.write_row_line.new.sink) (row_line r)) c.named.ensures c.in_err-write_row_line.ensures.err))

pub loop-row-preserved : goal.loop-row-preserved
loop-row-preserved g c =
    let taken = g.W.Sink.taken in
    record {
      counted = search rules;
      so_far =
          gains-pieces_more (line_by c.args.names.now c.args.permissions.now) (taken c.args.sink.now) (taken c.loop-row.sink) (taken c.write_row_line.new.sink) c.args.rows.now c.loop-row.row-index no_row c.loop-row-test.true
          c.loop-row.invariant.so_far (subst (λ r. Gains (taken c.loop-row.sink) (taken c.write_row_line.new.sink) (row_line r)) c.named.ensures c.in_ok-write_row_line.ensures.ok);
    }
