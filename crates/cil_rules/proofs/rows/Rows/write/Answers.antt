use Rattle.cil_rules.proofs.Common.{◌∙◌, subst, flat_map, row_line, Gains, GainsFront, on_err, row_by, line_by}
use Rattle.cil_rules.proofs.ListingLemmas.{mapped-text}
use Rattle.cil_rules.proofs.rows.Rows.write.Goals as goal

pub returns-in_err-write_numbered-clause-err : goal.returns-in_err-write_numbered-clause-err
returns-in_err-write_numbered-clause-err g c =
    let text =
    (λ i. flat_map (line_by (c.as_slice.ensures i) (c.deref.ensures.value i)) (c.deref-2.ensures.value i))
    ∙ mapped-text row_line (row_by c.self.inside.names c.self.inside.permissions.items) c.self.inside.rows.items c.args.self.now c.self.view_is in
    on_err c.from_residual.result (subst (GainsFront (g.W.Sink.taken c.args.sink.now) (g.W.Sink.taken c.write_numbered.new.sink)) text c.in_err-write_numbered.ensures.err)

pub returns-clause-ok : goal.returns-clause-ok
returns-clause-ok g c =
    let text =
    (λ i. flat_map (line_by (c.as_slice.ensures i) (c.deref.ensures.value i)) (c.deref-2.ensures.value i))
    ∙ mapped-text row_line (row_by c.self.inside.names c.self.inside.permissions.items) c.self.inside.rows.items c.args.self.now c.self.view_is in
    subst (Gains (g.W.Sink.taken c.args.sink.now) (g.W.Sink.taken c.write_numbered.new.sink)) text c.in_ok-write_numbered.ensures.ok
