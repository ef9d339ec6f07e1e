use Rattle.cil_member_updates.proofs.Common.{◌≡◌, ◌/◌, ◌≤◌, ℕ, arith, slice_index, subst, sym, on_ok_weaker, count_now, evaluations_in, meaning_in, Cover, EvaluatesWord, IsMoved, MayHold, given, given_of, held_by, keeps, lowered, lowered_by, raised, raised_by, set_of}
use Rattle.cil_lines.proofs.StepLemmas.{hit-none}
use Rattle.cil_member_updates.specs.declared.when.When.{When}
use Rattle.cil_member_updates.proofs.EvaluatedLemmas.{word-none, word-once}
use Rattle.cil_member_updates.proofs.MovedLemmas.{moved-still, none-given}
use Rattle.cil_member_updates.proofs.NameLemmas.{holds-keeps}
use Rattle.cil_member_updates.proofs.WordLemmas.{gives-none, gives-row, lower-above, lowered-word, raised-word}
use Rattle.cil_member_updates.proofs.words.give_word.Given as given_by
use Rattle.cil_member_updates.proofs.words.give_word.Goals as goal
use Rattle.cil_member_updates.proofs.words.give_word.Goals.{After-masked-mask}

pub shift-requires-clause-above : goal.shift-requires-clause-above
unfolding given
shift-requires-clause-above g c =
    let r = c.args.reading.now in
    lower-above c.row_of-row.result c.args.word c.reached-visits.result (held_by r) c.masked-mask.result c.reached-visits.ensures c.masked-mask.ensures.held (given_of r)
    (gives-row r.symbols.now c.requires.reads.side.distinct c.row_of-row.result (meaning_in r.side.now.resolved.now) (set_of r) c.row_of-row.ensures.row) (count_now c.args.rows.now)
    (subst (λ (when : When). (a t : ℕ) → t / 64 ≡ c.args.word → lowered when (given_of r) a t ≤ count_now c.args.rows.now a t) c.in-Before.is c.requires.above)

pub shift-requires-in-Now-clause-above : goal.shift-requires-in-Now-clause-above
shift-requires-in-Now-clause-above g c t = omega (arith, hit-none c.args.word t)

pub returns-in-Before-clause-now : goal.returns-in-Before-clause-now
unfolding given
returns-in-Before-clause-now g c =
    let r = c.args.reading.now in
    on_ok_weaker c.shift.result
    (λ shifted. subst (λ (when : When). IsMoved c.args.word (lowered when (given_of r)) (raised when (given_of r)) (count_now c.args.rows.now) (count_now c.shift.new.self)) (sym c.in-Before.is)
    (lowered-word c.row_of-row.result c.args.word c.reached-visits.result (held_by r) c.masked-mask.result c.reached-visits.ensures c.masked-mask.ensures.held (given_of r)
    (gives-row r.symbols.now c.requires.reads.side.distinct c.row_of-row.result (meaning_in r.side.now.resolved.now) (set_of r) c.row_of-row.ensures.row) (count_now c.args.rows.now) (count_now c.shift.new.self) shifted))
    c.shift.ensures.ok

pub returns-in-Now-clause-now : goal.returns-in-Now-clause-now
unfolding given
returns-in-Now-clause-now g c =
    let r = c.args.reading.now in
    on_ok_weaker c.shift-in-Now.result
    (λ shifted. subst (λ (when : When). IsMoved c.args.word (lowered when (given_of r)) (raised when (given_of r)) (count_now c.args.rows.now) (count_now c.shift-in-Now.new.self)) (sym c.in-Now.is)
    (raised-word c.row_of-row.result c.args.word c.reached-visits.result (held_by r) c.masked-mask.result c.reached-visits.ensures c.masked-mask.ensures.held (given_of r)
    (gives-row r.symbols.now c.requires.reads.side.distinct c.row_of-row.result (meaning_in r.side.now.resolved.now) (set_of r) c.row_of-row.ensures.row) (count_now c.args.rows.now) (count_now c.shift-in-Now.new.self) shifted))
    c.shift-in-Now.ensures.ok

pub returns-then-visits-eq0-clause-now : goal.returns-then-visits-eq0-clause-now
unfolding given
returns-then-visits-eq0-clause-now g c =
    let r = c.args.reading.now in
    let covers = subst (Cover (held_by r) c.args.word) c.if-visits-eq0.true c.reached-visits.ensures in
    moved-still (lowered_by r) (raised_by r) c.args.word (count_now c.args.rows.now)
    (λ a t here. none-given r.when (given_of r) a t (gives-none r.symbols.now (meaning_in r.side.now.resolved.now) (set_of r) c.args.word covers a t here))

-- the set statement is evaluated at the types to be visited
evaluates : (g : given_by.Over) (c : After-masked-mask g) → EvaluatesWord c.args.reading.now c.args.word c.args.meter.now c.masked-mask.new.meter
evaluates g c =
    let r = c.args.reading.now in
    let meaning = meaning_in r.side.now.resolved.now in
    word-once c.args.word c.reached-visits.result (keeps r.symbols.now meaning) (held_by r) (slice_index r.side.now.kept.now c.args.word) (evaluations_in c.args.meter.now) (evaluations_in c.masked-mask.new.meter)
    (c.requires.reads.side.kept c.args.word) c.reached-visits.ensures (holds-keeps r.symbols.now meaning (set_of r)) c.masked-mask.ensures.evaluations

pub returns-in-Before-clause-evaluations : goal.returns-in-Before-clause-evaluations
returns-in-Before-clause-evaluations g c = evaluates g (goal.at.returns-in-Before-clause-evaluations g c).After-masked-mask

pub returns-in-Now-clause-evaluations : goal.returns-in-Now-clause-evaluations
returns-in-Now-clause-evaluations g c = evaluates g (goal.at.returns-in-Now-clause-evaluations g c).After-masked-mask

pub returns-then-visits-eq0-clause-evaluations : goal.returns-then-visits-eq0-clause-evaluations
returns-then-visits-eq0-clause-evaluations g c =
    let r = c.args.reading.now in
    word-none c.args.word c.reached-visits.result (MayHold r) (held_by r) (evaluations_in c.args.meter.now) c.reached-visits.ensures c.if-visits-eq0.true
