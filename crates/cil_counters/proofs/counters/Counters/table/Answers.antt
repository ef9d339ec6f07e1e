use Rattle.cil_counters.proofs.Common.{subst, sym, rc_value, IfOk-weaker, AreNumbersOf, meaning_in, is_in_table, AreAtoms, AreRanks}
use Rattle.cil_member_rows.specs.Rows as member_rows
use Rattle.cil_rules.specs.Rows as rows
use Rattle.cil_keyed_lines.specs.Keyed as access_tables
use Rattle.cil_symbol_changes.specs.Numbered.{listed}
use Rattle.cil_counters.proofs.ChangedLemmas.{found-atoms, found-numbered, present-numbered}
use Rattle.cil_counters.proofs.TableLemmas.{listed-told}
use Rattle.cil_counters.proofs.counters.Counters.table.Goals as goal

pub ranks_of-requires : goal.ranks_of-requires
ranks_of-requires g c =
    subst (λ n. AreNumbersOf c.args.self.now.names n.symbols (rc_value c.args.policy.now).names.items)
    (sym c.numbering_now.ensures) c.requires.symbols.numbers

pub accesses-requires : goal.accesses-requires
accesses-requires g c =
    let r = rc_value c.args.policy.now in
    let symbols = c.args.self.now.names in
    let ranks = subst (AreRanks symbols r.names.items) (sym c.deref.ensures.value) c.in_ok-numbers.ensures in
    record {
      known = present-numbered symbols c.deref.result.now r ranks (member_rows.count_now c.args.self.now.rows) (access_tables.count_now c.args.self.now.tables) c.requires.counted;
    }

pub numbered-requires : goal.numbered-requires
numbered-requires g c =
    let r = rc_value c.args.policy.now in
    let symbols = c.args.self.now.names in
    let ranks = subst (AreRanks symbols r.names.items) (sym c.deref.ensures.value) c.in_ok-numbers.ensures in
    let members = member_rows.count_now c.args.self.now.rows in
    let counts = access_tables.count_now c.args.self.now.tables in
    found-numbered symbols c.deref.result.now r ranks members counts c.requires.counted (λ key t. 0) (listed counts) (rows.listed (is_in_table (meaning_in r))) (listed-told symbols r members counts c.requires.counted)
    c.in_ok-accesses.accesses c.in_ok-accesses.ensures.order c.in_ok-accesses.ensures.present

pub returns : goal.returns
returns g c =
    let r = rc_value c.args.policy.now in
    let symbols = c.args.self.now.names in
    let ranks = subst (AreRanks symbols r.names.items) (sym c.deref.ensures.value) c.in_ok-numbers.ensures in
    let members = member_rows.count_now c.args.self.now.rows in
    let counts = access_tables.count_now c.args.self.now.tables in
    let are = found-atoms symbols c.deref.result.now r ranks members counts c.requires.counted (λ key t. 0) (listed counts) (rows.listed (is_in_table (meaning_in r))) (listed-told symbols r members counts c.requires.counted)
    c.in_ok-accesses.accesses c.in_ok-accesses.ensures.order c.in_ok-accesses.ensures.present in
    IfOk-weaker c.numbered.result _ _ (λ table is. subst (AreAtoms (rows.listed (is_in_table (meaning_in r)))) (sym is) are) c.numbered.ensures
