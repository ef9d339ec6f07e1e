use Rattle.cil_rules.proofs.Common.{◌≡◌, ◌∙◌, map, sym, subst, IfOk-weaker, AreAtoms, AreRows, atom_at, rows_of}
use Rattle.cil_rules.proofs.RowLemmas.{are-rows}
use Rattle.cil_rules.proofs.table.Table.rows.Goals as goal

pub returns : goal.returns
returns g c =
    let written = map (atom_at c.in_ok-shared.field-0) c.self.inside.accesses in
    let is = (λ i. map (atom_at (c.in_ok-shared.ensures i)) c.self.inside.accesses) ∙ c.self.view_is in
    IfOk-weaker c.of.result (λ rows. rows ≡ rows_of written) _
    (λ rows e p are. subst (AreRows p) (sym e) (are-rows p written (subst (AreAtoms p) (sym is) are))) c.of.ensures
