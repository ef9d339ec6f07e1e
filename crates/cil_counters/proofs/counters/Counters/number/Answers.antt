use Rattle.cil_counters.proofs.Common.{◌≡◌, ◌+◌, ◌≤◌, ℕ, length, max, subst, true, list_all, is_rule_below, numbers-long, SymbolKey, IsCounted, IsCountedBy}
use Rattle.cil_member_rows.specs.Rows as member_rows
use Rattle.cil_keyed_lines.specs.Keyed as access_tables
use Rattle.cil_symbols.proofs.InUseLemmas.{numbers-kept}
use Rattle.cil_counters.proofs.KeptLemmas.{counted-by-kept}
use Rattle.cil_counters.proofs.counters.Counters.number.Given as given
use Rattle.cil_counters.proofs.counters.Counters.number.Goals as goal
use Rattle.cil_counters.proofs.counters.Counters.number.Goals.{After-len-2}

-- what is counted by the symbols that the names had is counted by those that they have
kept : (g : given.Over) (c : After-len-2 g) (members : ℕ → ℕ → ℕ) (counts : SymbolKey → ℕ → ℕ) → IsCounted c.args.self.now.names c.args.old.now members counts
    → IsCountedBy c.beside-numbering.new.symbols c.args.old.now c.args.self.now.policy members counts
kept g c =
    let r = c.args.old.now in
    let policy = c.args.self.now.policy in
    let names = c.args.self.now.names in
    let others = c.beside-numbering.new.symbols in
    let symbols = c.requires.before.symbols in
    counted-by-kept names others r policy (numbers-kept names others policy.numbering.symbols r.names.items symbols.numbers c.beside-numbering.ensures.kept) c.beside-numbering.ensures.grown c.len.ensures.distinct
    c.len-2.ensures.distinct c.resolved_is_sound.ensures c.resolved_sets_are_in_order.ensures.the_same c.resolved_names_are_kept.ensures.types c.resolved_names_are_kept.ensures.attributes
    (subst (λ l. list_all (is_rule_below (length r.names.items)) l ≡ true) c.rules.ensures.rules c.rules.ensures.within) c.resolved_is_consistent.ensures c.resolved_rules_permit.ensures symbols

pub returns-clause-now : goal.returns-clause-now
returns-clause-now g c =
    kept g (goal.at.returns-clause-now g c).After-len-2 (member_rows.count_now c.args.self.now.rows) (access_tables.count_now c.args.self.now.tables) c.requires.now.counted

pub returns-clause-before : goal.returns-clause-before
returns-clause-before g c =
    kept g (goal.at.returns-clause-before g c).After-len-2 (member_rows.count_before c.args.self.now.rows) (access_tables.count_before c.args.self.now.tables) c.requires.before.counted

pub returns-clause-few : goal.returns-clause-few
returns-clause-few g c =
    let names = c.args.self.now.names in
    let r = c.args.old.now in
    let policy = c.args.self.now.policy in
    subst (λ n. length c.beside-numbering.new.symbols ≤ max (length names) (n + length c.args.new.now.names.items)) (numbers-long names policy.numbering.symbols r.names.items c.requires.before.symbols.numbers)
    c.beside-numbering.ensures.few
