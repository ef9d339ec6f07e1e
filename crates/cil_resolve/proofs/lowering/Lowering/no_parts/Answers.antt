use Rattle.cil_resolve.proofs.Common.{ap, class_of, declared_of, is_class_below, is_name_below, is_set_below, length, list_all, map, modules_of, set_of}
use Rattle.cil_resolve.proofs.RuleLemmas.{no-rules}
use Rattle.cil_resolve.proofs.lowering.Lowering.no_parts.Goals as goal

pub returns : goal.returns
returns g c policy sets =
    let modules = modules_of c.args.self.now.checker.now.bound.joined.now in
    let names = c.args.self.now.numbering.now.names.items in
    record {
      types_are = ap (map (declared_of modules names)) c.new.ensures.items;
      types_below = ap (list_all (is_name_below (length names))) c.new.ensures.items;
      attributes_are = ap (map (declared_of modules names)) c.new-2.ensures.items;
      attributes_below = ap (list_all (is_name_below (length names))) c.new-2.ensures.items;
      classes_are = ap (map (class_of modules names)) c.new-3.ensures.items;
      classes_below = ap (list_all (is_class_below (length names))) c.new-3.ensures.items;
      permission_sets_are = sets;
      sets_are = record {
        is = ap (map (set_of modules names)) c.in_ok-with_capacity.ensures.items;
        below = ap (list_all (is_set_below (length names))) c.in_ok-with_capacity.ensures.items;
      };
      rules_are = no-rules modules names policy c.in_ok-with_capacity-2.field-0.items c.in_ok-with_capacity-2.ensures.items;
    }
