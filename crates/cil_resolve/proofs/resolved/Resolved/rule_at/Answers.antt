use Rattle.cil_resolve.proofs.Common.{◌≡◌, ◌∙◌, Some, option_map, sym, ap, place_of, rule_kind_of}
use Rattle.cil_resolve.specs.Numbers.{rule_of}
use Rattle.cil_resolve.specs.Views.{rule_head}
use Rattle.cil_resolve.proofs.NamedLemmas.{read-as}
use Rattle.cil_resolve.proofs.resolved.Resolved.rule_at.Goals as goal

pub returns : goal.returns
returns g c =
    let r = c.args.self.now in
    let x = c.in_ok-rule.rule.now in
    let is = rule_of r.modules.items r.names.items in
    let found = c.in_ok-rule.ensures.lookup in
    let head : _ ≡ rule_head (is x) = λ k. record {
      module_name = c.module.ensures k;
      at = place_of x.at;
      kind = rule_kind_of x.kind;
      source = c.element.ensures k;
      target = c.aim.ensures k;
      permissions = c.permissions.ensures k;
    } in
    ap Some head ∙ sym (ap (option_map rule_head) (read-as is r.rules.items c.deref.result.now c.args.i x c.deref.ensures.value found.3.0 found.1))
