use Rattle.cil_resolve.proofs.Common.{◌∙◌, ◌∷◌, [], sym, subst, slice_get_within, set_statement_of, AreSets, modules_of, NumberedSet}
use Rattle.cil_resolve.proofs.SetLemmas.{set-made}
use Rattle.cil_resolve.proofs.lowering.Lowering.set_with.Goals as goal

pub module-requires : goal.module-requires
module-requires g c =
    let (policy, s, is, at, set) = c.requires in
    (policy, is.lowering, slice_get_within policy c.args.i s at)

pub attribute-requires : goal.attribute-requires
attribute-requires g c =
    let (policy, s, is, at, set) = c.requires in
    (policy, s, is, set)

pub returns : goal.returns
returns g c policy s attribute expr is at form made =
    let modules = modules_of c.args.self.now.checker.now.bound.joined.now in
    let names = c.args.self.now.numbering.now.names.items in
    let x : NumberedSet g.row.A.Denot = record {
      «module» = c.module.result;
      at = c.args.seen.now.view.at;
      attribute = c.attribute.result;
      expression = c.args.expression;
    } in
    subst (λ f. AreSets modules names (x ∷ []) (set_statement_of policy s f)) (sym form)
    (set-made modules names policy s x attribute expr (c.module.ensures policy s is.lowering at) (is.seen_is.shown.at ∙ is.seen_is.place) (c.attribute.ensures policy s attribute expr is form) made)
