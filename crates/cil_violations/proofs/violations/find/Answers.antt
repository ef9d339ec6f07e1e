use Rattle.cil_violations.proofs.Common.{◌∙◌, ◌++◌, length, map, sym, ap, subst, meaning_in, AreViolations, AreOrdered, IsSearch, tests_of, rules_in, all_rows, violation_by, AreRows, Search}
use Rattle.cil_violations.proofs.ViolatesLemmas.{are-violations, are-rows}
use Rattle.cil_violations.proofs.violations.find.Goals as goal

pub returns : goal.returns
returns g c =
    let s : Search _ = record {
      alloc = c.args.alloc;
      resolved = c.args.resolved;
      members = c.args.members;
      permissions = record { ref_ptr = c.args.resolved.ref_ptr; now = c.in_ok-permissions.permissions };
      index = record { ref_ptr = c.args.resolved.ref_ptr; now = c.in_ok-index.index };
    } in
    let ordered = subst (λ rules. AreOrdered rules c.in_ok-permissions.permissions.0) c.rules.ensures.rules
    c.in_ok-permissions.ensures in
    let is : IsSearch s = record { members = c.requires; permissions = ordered; index = c.in_ok-index.ensures } in
    let rows = all_rows (tests_of s) (length (rules_in s)) (length c.args.resolved.now.names.items) in
    let found = sym (c.in_ok-push_all.ensures ∙ ap (λ l. l ++ rows) c.new-rows.ensures.items) in
    record {
      rows = subst (AreRows c.args.resolved.now c.in_ok-permissions.permissions.0) found (are-rows s is);
      violations = subst (λ l. AreViolations (meaning_in c.args.resolved.now) (map (violation_by c.args.resolved.now c.in_ok-permissions.permissions.0) l)) found
          (are-violations s is c.resolved_rules_are_in_order.ensures);
    }
