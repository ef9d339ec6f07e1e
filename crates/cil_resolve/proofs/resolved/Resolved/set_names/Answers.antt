use Rattle.cil_resolve.proofs.Common.{◌∙◌, length, map, None, Some, option_map, ap, sym, list_all, leaves, leaves-mapped, set_expr_in, is_element_below, element_of}
use Rattle.cil_resolve.proofs.EvaluateLemmas.{set-at, set-there, no-set-at, names-below}
use Rattle.cil_resolve.proofs.resolved.Resolved.set_names.Goals as goal

pub returns-in-Some-clause-names : goal.returns-in-Some-clause-names
returns-in-Some-clause-names g c s at =
    let r = c.args.self.now in
    let x = c.in-Some.set.now in
    let one = set-at r c.args.i s _ x c.at.ensures (ap (option_map (λ y. y.now)) c.in-Some.is) at in
    ap (map (element_of r.names.items)) c.names.ensures ∙ sym (leaves-mapped (element_of r.names.items) (set_expr_in x.expression)) ∙ ap (λ y. leaves y.expr) one.named

pub returns-in-Some-clause-below : goal.returns-in-Some-clause-below
returns-in-Some-clause-below g c =
    ap (list_all (is_element_below (length c.args.self.now.names.items))) c.names.ensures
    ∙ names-below c.args.self.now c.args.i c.in-Some.set.now (sym c.at.ensures ∙ ap (option_map (λ y. y.now)) c.in-Some.is)

pub returns-in-None-clause-names : goal.returns-in-None-clause-names
returns-in-None-clause-names g c s at = absurd (no-set-at c.args.self.now c.args.i s (sym c.at.ensures ∙ ap (option_map (λ y. y.now)) c.in-None.is) at)

pub returns-in-Some-clause-none : goal.returns-in-Some-clause-none
returns-in-Some-clause-none g c none = absurd (set-there c.args.self.now c.args.i _ c.in-Some.set.now c.at.ensures (ap (option_map (λ y. y.now)) c.in-Some.is) none)
