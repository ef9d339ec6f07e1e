use Rattle.cil_table_updates.proofs.Common.{◌≡◌, arith, length, sym, subst, true, list_all, is_rule_below, keeps_no_list, as-many}
use Rattle.cil_table_updates.proofs.PlaceLemmas.{names-apart}
use Rattle.cil_table_updates.proofs.policy.Policy.of.Goals as goal

pub returns-clause-policy : goal.returns-clause-policy
returns-clause-policy g c = record { numbers = c.requires.symbols.numbers; members = c.requires.members; symbols = let long = c.len.ensures.len in omega (arith, long) }

pub returns-clause-ready : goal.returns-clause-ready
returns-clause-ready g c = record {
  below =
      subst (λ n. list_all (is_rule_below n) c.args.named.resolved.now.rules.items ≡ true)
      (sym (as-many c.args.named.resolved.now c.args.shared.names.now c.args.named.numbering.now.symbols (names-apart c.args.shared.names.now c.len.ensures.distinct) c.requires.symbols.numbers))
      (subst (λ l. list_all (is_rule_below (length c.args.named.resolved.now.names.items)) l ≡ true) c.rules.ensures.rules c.rules.ensures.within);
  known = record {
    symbols = let long = c.len.ensures.len in omega (arith, long, c.requires.symbols.count);
    none = λ a t past. c.requires.members.no_type a t (let long = c.len.ensures.len in omega (arith, long, past));
  };
}

pub returns-clause-sound : goal.returns-clause-sound
returns-clause-sound g c = record {
  below = subst (λ l. list_all (is_rule_below (length c.args.named.resolved.now.names.items)) l ≡ true) c.rules.ensures.rules c.rules.ensures.within;
  no_lists = subst (λ l. list_all keeps_no_list l ≡ true) c.rules.ensures.rules c.rules.ensures.no_lists;
  consistent = c.resolved_is_consistent.ensures;
  permitted = c.resolved_rules_permit.ensures;
}

pub returns-clause-apart : goal.returns-clause-apart
returns-clause-apart g c = names-apart c.args.shared.names.now c.len.ensures.distinct
