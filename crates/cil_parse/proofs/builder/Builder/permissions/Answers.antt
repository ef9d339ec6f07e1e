use Rattle.cil_parse.proofs.Common.{subst, sym, ap, ◌∙◌, OnOk, leaves, expr_of, Adds, AddsPermissions}
use Rattle.cil_text.specs.Expr.{exprs_of}
use Rattle.cil_text.proofs.Rows.{union_of}
use Rattle.cil_parse.proofs.PlainLemmas.{no-list, nodes-other}
use Rattle.cil_parse.proofs.builder.Builder.permissions.Goals as goal

pub returns-in_default : goal.returns-in_default
returns-in_default g c =
    let expr = expr_of c.args.expr.now in
    subst (λ n. OnOk c.expr.result (Adds c.args.self.now c.expr.new.self (leaves expr) n)) (nodes-other expr (no-list c.args.expr.now c.in_default.not-Union)) c.expr.ensures

pub returns-in-Union : goal.returns-in-Union
returns-in-Union g c =
    let old = c.args.self.now in
    let new = c.permission_list.new.self in
    subst (λ e. OnOk c.permission_list.result (AddsPermissions old new e)) (sym (ap expr_of c.in-Union.is ∙ union_of c.in-Union.elements))
    (subst (λ items. OnOk c.permission_list.result (AddsPermissions old new (exprs_of items))) c.deref.ensures.value c.permission_list.ensures)
