use Rattle.cil_counters.proofs.Common.{subst, sym, rc_value, AreNumbersOf, meaning_in, is_in_table, AreAtoms, AreChanges, AreRanks}
use Rattle.cil_member_rows.specs.Rows as member_rows
use Rattle.cil_keyed_lines.specs.Keyed as access_tables
use Rattle.cil_counters.proofs.ChangedLemmas.{come-atoms, come-numbered, present-numbered}
use Rattle.cil_counters.proofs.counters.Counters.changes.Goals as goal

pub ranks_of-requires-2 : goal.ranks_of-requires-2
ranks_of-requires-2 g c =
    subst (λ n. AreNumbersOf c.args.self.now.names n.symbols (rc_value c.args.new.now).names.items)
    (sym c.numbering_now.ensures) c.requires.now.symbols.numbers

pub changes-requires-clause-now : goal.changes-requires-clause-now
changes-requires-clause-now g c =
    let r = rc_value c.args.new.now in
    let symbols = c.args.self.now.names in
    present-numbered symbols c.deref.result.now r (subst (AreRanks symbols r.names.items) (sym c.deref.ensures.value) c.in_ok-new_numbers.ensures)
    (member_rows.count_now c.args.self.now.rows) (access_tables.count_now c.args.self.now.tables) c.requires.now.counted

pub changes-requires-clause-before : goal.changes-requires-clause-before
changes-requires-clause-before g c =
    let r = rc_value c.args.old.now in
    let symbols = c.args.self.now.names in
    present-numbered symbols c.deref-2.result.now r (subst (AreRanks symbols r.names.items) (sym c.deref-2.ensures.value) c.in_ok-old_numbers.ensures)
    (member_rows.count_before c.args.self.now.rows) (access_tables.count_before c.args.self.now.tables) c.requires.before.counted

pub numbered-requires : goal.numbered-requires
numbered-requires g c =
    let old = rc_value c.args.old.now in
    let new = rc_value c.args.new.now in
    let symbols = c.args.self.now.names in
    come-numbered symbols old new (member_rows.count_before c.args.self.now.rows) (member_rows.count_now c.args.self.now.rows) (access_tables.count_before c.args.self.now.tables) (access_tables.count_now c.args.self.now.tables)
    c.requires.before.counted c.requires.now.counted c.deref.result.now (subst (AreRanks symbols new.names.items) (sym c.deref.ensures.value) c.in_ok-new_numbers.ensures) c.in_ok-found.found.added
    c.in_ok-found.ensures.added_order c.in_ok-found.ensures.added

pub numbered-requires-2 : goal.numbered-requires-2
numbered-requires-2 g c =
    let old = rc_value c.args.old.now in
    let new = rc_value c.args.new.now in
    let symbols = c.args.self.now.names in
    come-numbered symbols new old (member_rows.count_now c.args.self.now.rows) (member_rows.count_before c.args.self.now.rows) (access_tables.count_now c.args.self.now.tables) (access_tables.count_before c.args.self.now.tables)
    c.requires.now.counted c.requires.before.counted c.deref-2.result.now (subst (AreRanks symbols old.names.items) (sym c.deref-2.ensures.value) c.in_ok-old_numbers.ensures) c.in_ok-found.found.removed
    c.in_ok-found.ensures.removed_order c.in_ok-found.ensures.removed

pub returns : goal.returns
returns g c =
    let old = rc_value c.args.old.now in
    let new = rc_value c.args.new.now in
    let symbols = c.args.self.now.names in
    let was_members = member_rows.count_before c.args.self.now.rows in
    let members = member_rows.count_now c.args.self.now.rows in
    let was = access_tables.count_before c.args.self.now.tables in
    let now = access_tables.count_now c.args.self.now.tables in
    let came = come-atoms symbols old new was_members members was now c.requires.before.counted c.requires.now.counted c.deref.result.now
    (subst (AreRanks symbols new.names.items) (sym c.deref.ensures.value) c.in_ok-new_numbers.ensures) c.in_ok-found.found.added c.in_ok-found.ensures.added_order c.in_ok-found.ensures.added in
    let went = come-atoms symbols new old members was_members now was c.requires.now.counted c.requires.before.counted c.deref-2.result.now
    (subst (AreRanks symbols old.names.items) (sym c.deref-2.ensures.value) c.in_ok-old_numbers.ensures) c.in_ok-found.found.removed c.in_ok-found.ensures.removed_order c.in_ok-found.ensures.removed in
    subst (AreChanges (is_in_table (meaning_in old)) (is_in_table (meaning_in new))) (sym c.of.ensures) (record {
      added = subst (AreAtoms _) (sym c.in_ok-added.ensures) came;
      removed = subst (AreAtoms _) (sym c.in_ok-removed.ensures) went;
    })
