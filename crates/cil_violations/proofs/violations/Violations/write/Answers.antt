use Rattle.cil_violations.proofs.Common.{◌∙◌, subst, flat_map, Gains, GainsFront, on_err, violation_line, violation_by, line_by}
use Rattle.std.specs.Rc.{rc_value}
use Rattle.cil_violations.proofs.LineLemmas.{mapped-text}
use Rattle.cil_violations.proofs.violations.Violations.write.Goals as goal

pub returns-in_err-write_rows-clause-err : goal.returns-in_err-write_rows-clause-err
returns-in_err-write_rows-clause-err g c =
    let text =
    (λ i. flat_map (line_by (c.deref.ensures i) c.self.inside.permissions.0) (c.deref-2.ensures.value i))
    ∙ mapped-text violation_line (violation_by (rc_value c.self.inside.resolved) c.self.inside.permissions.0) c.self.inside.rows.items c.args.self.now c.self.view_is in
    on_err c.from_residual.result (subst (GainsFront (g.W.Sink.taken c.args.sink.now) (g.W.Sink.taken c.write_rows.new.sink)) text c.in_err-write_rows.ensures.err)

pub returns-clause-ok : goal.returns-clause-ok
returns-clause-ok g c =
    let text =
    (λ i. flat_map (line_by (c.deref.ensures i) c.self.inside.permissions.0) (c.deref-2.ensures.value i))
    ∙ mapped-text violation_line (violation_by (rc_value c.self.inside.resolved) c.self.inside.permissions.0) c.self.inside.rows.items c.args.self.now c.self.view_is in
    subst (Gains (g.W.Sink.taken c.args.sink.now) (g.W.Sink.taken c.write_rows.new.sink)) text c.in_ok-write_rows.ensures.ok
