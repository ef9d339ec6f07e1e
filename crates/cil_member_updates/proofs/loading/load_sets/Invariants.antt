use Rattle.cil_member_updates.proofs.Common.{◌≡◌, AreFirst, EvaluatesFirst, adjustments_in}
use Rattle.cil_member_rows.specs.Rows.{rows_in}
use Rattle.cil_member_updates.proofs.loading.load_sets.Given as goal

-- the set statements so far count
abbrev pub invariant-loop-place : goal.invariant-loop-place
invariant-loop-place g l =
    record {
      now : AreFirst l.symbols l.side.resolved.now l.place l.rows;
      rows : rows_in l.rows ≡ rows_in l.fn.rows;
      evaluations : EvaluatesFirst l.symbols l.side.resolved.now l.place l.fn.meter l.meter;
      adjustments : adjustments_in l.meter ≡ adjustments_in l.fn.meter;
    }
