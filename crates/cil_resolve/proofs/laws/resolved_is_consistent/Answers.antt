use Rattle.cil_resolve.proofs.Common.{map, both_true, are_permission_sets_of, are_rules_of, class_of, declared_of, permission_set_of}
use Rattle.cil_resolve.specs.Numbers.{rule_of}
use Rattle.cil_resolve.proofs.laws.resolved_is_consistent.Goals as goal

pub returns : goal.returns
returns g c =
    let r = c.args.resolved.now in
    let modules = r.modules.items in
    let names = r.names.items in
    let classes = map (class_of modules names) r.classes.items in
    both_true (are_rules_of (map (declared_of modules names) r.types.items) (map (declared_of modules names) r.attributes.items) classes (map (rule_of modules names) r.rules.items))
    (are_permission_sets_of classes (map (permission_set_of modules names) r.permission_sets.items)) r.consistent.declared r.consistent.sets_declared
