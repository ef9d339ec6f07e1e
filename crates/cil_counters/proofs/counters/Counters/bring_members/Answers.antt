use Rattle.cil_counters.proofs.Common.{◌≡◌, ◌∙◌, ℕ, ap, subst, sym, AreCounts, SymbolKey, WasBefore, meaning_in, count_named, AreSymbolsOf}
use Rattle.cil_member_rows.specs.Rows as member_rows
use Rattle.cil_keyed_lines.specs.Keyed as access_tables
use Rattle.cil_counters.proofs.CountedLemmas.{accesses-stay, counted-by-alike}
use Rattle.cil_counters.proofs.counters.Counters.bring_members.Given as given
use Rattle.cil_counters.proofs.counters.Counters.bring_members.Goals as goal
use Rattle.cil_counters.proofs.counters.Counters.bring_members.Goals.{After-update_members}

pub returns-in_err-next-clause-accesses : goal.returns-in_err-next-clause-accesses
returns-in_err-next-clause-accesses g c = c.next_symbols.ensures.now.counted.are_counts

pub returns-in_err-next-clause-steps : goal.returns-in_err-next-clause-steps
returns-in_err-next-clause-steps g c = ap (λ tables. access_tables.steps_in tables) c.next_symbols.ensures.tables

-- what was counted before the steps is the old policy's
before : (g : given.Over) (c : After-update_members g) → WasBefore c.args.old.now c.update_members.new.self
before g c =
    counted-by-alike c.args.old.now c.next_symbols.new.self.names c.update_members.new.self.names c.next_symbols.new.self.policy c.update_members.new.self.policy (member_rows.count_before c.next_symbols.new.self.rows) (member_rows.count_before c.update_members.new.self.rows)
    (access_tables.count_before c.next_symbols.new.self.tables) (access_tables.count_before c.update_members.new.self.tables) c.next_symbols.ensures.before c.update_members.ensures.names c.update_members.ensures.policy
    c.update_members.ensures.before (λ key t. ap (λ tables. access_tables.count_before tables key t) c.update_members.ensures.tables)

-- and so are the accesses
accesses : (g : given.Over) (c : After-update_members g) (key : SymbolKey) (t : ℕ) → access_tables.count_now c.update_members.new.self.tables key t ≡ count_named c.update_members.new.self.names (meaning_in c.args.old.now) key t
accesses g c = accesses-stay c.args.old.now c.next_symbols.new.self c.update_members.new.self c.update_members.ensures.tables c.update_members.ensures.names c.next_symbols.ensures.now.counted.are_counts

pub returns-in_err-update_members-clause-before : goal.returns-in_err-update_members-clause-before
returns-in_err-update_members-clause-before g c = before g (goal.at.returns-in_err-update_members-clause-before g c).After-update_members

pub returns-in_err-update_members-clause-accesses : goal.returns-in_err-update_members-clause-accesses
returns-in_err-update_members-clause-accesses g c = accesses g (goal.at.returns-in_err-update_members-clause-accesses g c).After-update_members

pub returns-in_err-update_members-clause-steps : goal.returns-in_err-update_members-clause-steps
returns-in_err-update_members-clause-steps g c = ap (λ tables. access_tables.steps_in tables) (c.update_members.ensures.tables ∙ c.next_symbols.ensures.tables)

pub returns-clause-before : goal.returns-clause-before
returns-clause-before g c = before g (goal.at.returns-clause-before g c).After-update_members

pub returns-clause-members : goal.returns-clause-members
returns-clause-members g c = subst (λ l. AreCounts l c.args.new.now (member_rows.count_now c.update_members.new.self.rows)) (sym c.update_members.ensures.names) c.in_ok-update_members.ensures.now

pub returns-clause-accesses : goal.returns-clause-accesses
returns-clause-accesses g c = accesses g (goal.at.returns-clause-accesses g c).After-update_members

pub returns-clause-steps : goal.returns-clause-steps
returns-clause-steps g c = ap (λ tables. access_tables.steps_in tables) (c.update_members.ensures.tables ∙ c.next_symbols.ensures.tables)

pub returns-clause-symbols : goal.returns-clause-symbols
returns-clause-symbols g c = subst (λ l. AreSymbolsOf l c.args.new.now c.in_ok-next.next) (sym c.update_members.ensures.names) c.in_ok-next.ensures.symbols
