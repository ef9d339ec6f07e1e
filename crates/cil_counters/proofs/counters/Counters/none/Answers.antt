use Rattle.cil_counters.proofs.Common.{◌≡◌, ℕ, arith, meaning_in, sets_in, SymbolKey, IsCounted}
use Rattle.cil_member_rows.specs.Rows as member_rows
use Rattle.cil_keyed_lines.specs.Keyed as access_tables
use Rattle.cil_counters.proofs.CountedLemmas.{counted-none, none-of}
use Rattle.cil_counters.proofs.counters.Counters.none.Given as given
use Rattle.cil_counters.proofs.counters.Counters.none.Goals as goal
use Rattle.cil_counters.proofs.counters.Counters.none.Goals.{After-new-2}

-- where nothing is counted, nothing is counted of the policy
counted : (g : given.Over) (c : After-new-2 g) (members : ℕ → ℕ → ℕ) (counts : SymbolKey → ℕ → ℕ) → ((a t : ℕ) → members a t ≡ 0) → ((key : SymbolKey) (t : ℕ) → counts key t ≡ 0)
    → IsCounted c.of.new.symbols c.args.policy.now members counts
counted g c members counts =
    counted-none c.args.policy.now c.of.new.symbols c.in_ok-numbering.numbering.symbols members counts c.in_ok-numbering.ensures.symbols
    (none-of (sets_in c.args.policy.now) c.requires.sets) (none-of (meaning_in c.args.policy.now).rules c.requires.rules)

pub returns-clause-now : goal.returns-clause-now
returns-clause-now g c =
    let at = (goal.at.returns-clause-now g c).After-new-2 in
    record { symbols = c.in_ok-symbols.ensures; counted = counted g at (member_rows.count_now c.new.result) (access_tables.count_now c.new-2.result) c.new.ensures.now c.new-2.ensures.now }

pub returns-clause-before : goal.returns-clause-before
returns-clause-before g c =
    let at = (goal.at.returns-clause-before g c).After-new-2 in
    record { symbols = c.in_ok-symbols.ensures; counted = counted g at (member_rows.count_before c.new.result) (access_tables.count_before c.new-2.result) c.new.ensures.before c.new-2.ensures.before }

pub returns-clause-settled : goal.returns-clause-settled
returns-clause-settled g c = omega (arith, c.new.ensures.steps, c.new-2.ensures.changes)
