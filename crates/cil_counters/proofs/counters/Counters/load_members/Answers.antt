use Rattle.cil_counters.proofs.Common.{◌≡◌, ◌∙◌, ℕ, ap, subst, sym, AreCounts, AreNumbersOf, SymbolKey, meaning_in, count_named, AreSymbolsOf}
use Rattle.cil_member_rows.specs.Rows as member_rows
use Rattle.cil_keyed_lines.specs.Keyed as access_tables
use Rattle.cil_counters.specs.Counted.{HasNames}
use Rattle.cil_counters.proofs.CountedLemmas.{accesses-stay}
use Rattle.cil_counters.proofs.counters.Counters.load_members.Given as given
use Rattle.cil_counters.proofs.counters.Counters.load_members.Goals as goal
use Rattle.cil_counters.proofs.counters.Counters.load_members.Goals.{After-count_members}

pub returns-then-sets_len-gt0-clause-named : goal.returns-then-sets_len-gt0-clause-named
returns-then-sets_len-gt0-clause-named g c = (c.bring_members.ensures.before.counted.symbols, c.bring_members.ensures.before.counted.numbers)

pub returns-in_err-next-clause-named : goal.returns-in_err-next-clause-named
returns-in_err-next-clause-named g c = (c.next_symbols.ensures.now.counted.symbols, c.next_symbols.ensures.now.counted.numbers)

pub returns-in_err-next-clause-accesses : goal.returns-in_err-next-clause-accesses
returns-in_err-next-clause-accesses g c = c.next_symbols.ensures.now.counted.are_counts

pub returns-in_err-next-clause-steps : goal.returns-in_err-next-clause-steps
returns-in_err-next-clause-steps g c = ap (λ tables. access_tables.steps_in tables) c.next_symbols.ensures.tables

-- the names have symbols
named : (g : given.Over) (c : After-count_members g) → HasNames c.args.old.now c.count_members.new.self
named g c =
    let was = c.next_symbols.ensures.now.counted in
    (was.symbols, subst (λ l. AreNumbersOf l was.symbols c.args.old.now.names.items) (sym c.count_members.ensures.names) was.numbers)

-- what is counted of accesses stays
accesses : (g : given.Over) (c : After-count_members g) (key : SymbolKey) (t : ℕ) → access_tables.count_now c.count_members.new.self.tables key t ≡ count_named c.count_members.new.self.names (meaning_in c.args.old.now) key t
accesses g c = accesses-stay c.args.old.now c.next_symbols.new.self c.count_members.new.self c.count_members.ensures.tables c.count_members.ensures.names c.next_symbols.ensures.now.counted.are_counts

pub returns-in_err-count_members-clause-named : goal.returns-in_err-count_members-clause-named
returns-in_err-count_members-clause-named g c = named g (goal.at.returns-in_err-count_members-clause-named g c).After-count_members

pub returns-in_err-count_members-clause-accesses : goal.returns-in_err-count_members-clause-accesses
returns-in_err-count_members-clause-accesses g c = accesses g (goal.at.returns-in_err-count_members-clause-accesses g c).After-count_members

pub returns-in_err-count_members-clause-steps : goal.returns-in_err-count_members-clause-steps
returns-in_err-count_members-clause-steps g c = ap (λ tables. access_tables.steps_in tables) (c.count_members.ensures.tables ∙ c.next_symbols.ensures.tables)

pub returns-clause-named : goal.returns-clause-named
returns-clause-named g c = named g (goal.at.returns-clause-named g c).After-count_members

pub returns-clause-accesses : goal.returns-clause-accesses
returns-clause-accesses g c = accesses g (goal.at.returns-clause-accesses g c).After-count_members

pub returns-clause-steps : goal.returns-clause-steps
returns-clause-steps g c = ap (λ tables. access_tables.steps_in tables) (c.count_members.ensures.tables ∙ c.next_symbols.ensures.tables)

pub returns-clause-members : goal.returns-clause-members
returns-clause-members g c = subst (λ l. AreCounts l c.args.new.now (member_rows.count_now c.count_members.new.self.rows)) (sym c.count_members.ensures.names) c.in_ok-count_members.ensures.now

pub returns-clause-symbols : goal.returns-clause-symbols
returns-clause-symbols g c = subst (λ l. AreSymbolsOf l c.args.new.now c.in_ok-next.next) (sym c.count_members.ensures.names) c.in_ok-next.ensures.symbols
