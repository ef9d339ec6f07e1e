use Rattle.cil_violations.proofs.Common.{rules, on_err, gains-pieces_more, gains-pieces_front, line_by, RowNumbers}
use Rattle.cil_violations.proofs.violations.write_rows.Goals as goal

abbrev no_row : RowNumbers
no_row = record { never = 0; allowed = 0; source = 0; target = 0; class = 0 }

pub returns-in_err-write_line-clause-err : goal.returns-in_err-write_line-clause-err
returns-in_err-write_line-clause-err g c =
    let taken = g.W.Sink.taken in
    on_err c.from_residual.result
    (gains-pieces_front (line_by c.args.resolved.now c.args.permissions.now.0) (taken c.args.sink.now) (taken c.loop-row.sink) (taken c.write_line.new.sink) c.args.rows.now c.loop-row.row-index no_row c.loop-row-test.true
    c.loop-row.invariant.so_far c.in_err-write_line.ensures.err)

pub loop-row-preserved : goal.loop-row-preserved
loop-row-preserved g c =
    let taken = g.W.Sink.taken in
    record {
      counted = search rules;
      so_far =
          gains-pieces_more (line_by c.args.resolved.now c.args.permissions.now.0) (taken c.args.sink.now) (taken c.loop-row.sink) (taken c.write_line.new.sink) c.args.rows.now c.loop-row.row-index no_row c.loop-row-test.true
          c.loop-row.invariant.so_far c.in_ok-write_line.ensures.ok;
    }
