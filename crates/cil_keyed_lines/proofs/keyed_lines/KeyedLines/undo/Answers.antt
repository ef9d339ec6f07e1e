use Rattle.cil_keyed_lines.proofs.Common.{◌≡◌, ◌∙◌, ap, arith, count_before, count_now, length, lines_in, sym, ℕ}
use Rattle.cil_keyed_lines.proofs.EndedLemmas.{among_take}
use Rattle.cil_keyed_lines.proofs.SharedLemmas.{all_counted, counted_back, counts_back, lined_back, named_back, rest_back, same_before}
use Rattle.cil_keyed_lines.proofs.keyed_lines.KeyedLines.undo.Given as given
use Rattle.cil_keyed_lines.proofs.keyed_lines.KeyedLines.undo.Goals as goal
use Rattle.cil_keyed_lines.proofs.keyed_lines.KeyedLines.undo.Goals.{After-settle_into}

-- the counters are those before the steps
back : (g : given.Over) (c : After-settle_into g) (l t : ℕ) → count_now c.settle_into.new.self l t ≡ count_before c.self.inside.lines l t
back g c l t = c.settle_into.ensures.now l t ∙ c.give_up_words.ensures.now l t ∙ c.undo_into.ensures.now l t

pub cut-requires-clause-paired : goal.cut-requires-clause-paired
cut-requires-clause-paired g c = record { distinct = c.self.invariant.distinct; len = c.undo.ensures.len ∙ c.self.invariant.len; settled = c.undo.ensures.log }

pub cut-requires-clause-lined : goal.cut-requires-clause-lined
cut-requires-clause-lined g c =
    let old = c.self.inside in
    lined_back old.keys.keys old.names c.undo.new.self old.lines c.settle_into.new.self old.keys_before old.lines_before c.self.invariant c.undo.ensures.now (back g (goal.at.cut-requires-clause-lined g c).After-settle_into) c.undo.ensures.log c.undo.ensures.lines
    (c.settle_into.ensures.lines ∙ c.give_up_words.ensures.lines ∙ c.undo_into.ensures.lines) (λ l t. c.settle_into.ensures.before l t ∙ sym (c.settle_into.ensures.now l t))

pub cut-requires-clause-counted : goal.cut-requires-clause-counted
cut-requires-clause-counted g c =
    let old = c.self.inside in
    counted_back old.keys.keys old.names c.undo.new.self old.lines c.settle_into.new.self old.keys_before old.lines_before c.self.invariant c.undo.ensures.now (back g (goal.at.cut-requires-clause-counted g c).After-settle_into)

pub cut-requires-clause-have : goal.cut-requires-clause-have
cut-requires-clause-have g c = c.self.invariant.there

pub cut-requires-clause-named : goal.cut-requires-clause-named
cut-requires-clause-named g c =
    let old = c.self.inside in
    named_back old.keys.keys old.names c.undo.new.self old.lines c.settle_into.new.self old.keys_before old.lines_before c.self.invariant c.undo.ensures.now (back g (goal.at.cut-requires-clause-named g c).After-settle_into)

pub cut-requires-clause-rest : goal.cut-requires-clause-rest
cut-requires-clause-rest g c =
    let old = c.self.inside in
    rest_back old.keys.keys old.names c.undo.new.self old.lines c.settle_into.new.self old.keys_before old.lines_before c.self.invariant c.undo.ensures.now (back g (goal.at.cut-requires-clause-rest g c).After-settle_into)

pub returns-clause-now : goal.returns-clause-now
returns-clause-now g c k t =
    let old = c.self.inside in
    rw (← c.self.view_is)
    (c.cut.ensures.now k t
    ∙ counts_back old.keys.keys old.names c.undo.new.self old.lines c.settle_into.new.self old.keys_before old.lines_before c.self.invariant c.undo.ensures.now (back g (goal.at.returns-clause-now g c).After-settle_into) k t)

pub returns-clause-before : goal.returns-clause-before
returns-clause-before g c k t =
    let old = c.self.inside in
    rw (← c.self.view_is)
    (same_before c.cut.new.keys.keys c.cut.new.names c.cut.new.lines old.keys_before (lines_in c.cut.new.lines) c.cut.ensures.shared c.cut.ensures.log c.cut.ensures.steps k t
    ∙ c.cut.ensures.now k t
    ∙ counts_back old.keys.keys old.names c.undo.new.self old.lines c.settle_into.new.self old.keys_before old.lines_before c.self.invariant c.undo.ensures.now (back g (goal.at.returns-clause-before g c).After-settle_into) k t)

pub returns-clause-counted : goal.returns-clause-counted
returns-clause-counted g c = all_counted c.cut.new.keys.keys c.cut.new.names c.cut.new.lines c.self.inside.keys_before (lines_in c.cut.new.lines) c.cut.ensures.shared c.cut.ensures.log

pub returns-clause-changes : goal.returns-clause-changes
returns-clause-changes g c = omega (arith, ap length c.cut.ensures.log, c.cut.ensures.steps)

pub returns-clause-keys : goal.returns-clause-keys
returns-clause-keys g c = rw (← c.self.view_is, c.cut.ensures.keys) (among_take c.self.inside.keys.keys c.self.inside.keys_before c.self.invariant.there)

pub invariant_of-self : goal.invariant_of-self
invariant_of-self g c = rw c.len-self-inside.ensures c.cut.ensures.shared
