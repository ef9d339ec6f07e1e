use Rattle.cil_member_updates.proofs.Common.{◌≡◌, ◌==◌, ◌&&◌, ◌∙◌, ℕ, Some, slice_index, ap, subst, sym, on_ok_weaker, count_now, evaluations_in, meaning_in, new_in, old_in, set_at, differ, CoversStayed, MayMove, given, is_given, is_held, keeps, one_if, was_given, was_held}
use Rattle.cil_member_updates.proofs.EvaluatedLemmas.{word-none, word-twice}
use Rattle.cil_member_updates.proofs.MovedLemmas.{moved-still}
use Rattle.cil_member_updates.proofs.NameLemmas.{holds-keeps}
use Rattle.cil_member_updates.proofs.RenewLemmas.{same-attribute}
use Rattle.cil_member_updates.proofs.StayLemmas.{stayed-gives}
use Rattle.cil_member_updates.proofs.WordLemmas.{gives-row, move-above, moved-word}
use Rattle.cil_member_updates.proofs.words.move_word.Given as given_by
use Rattle.cil_member_updates.proofs.words.move_word.Goals as goal
use Rattle.cil_member_updates.proofs.words.move_word.Goals.{After-row_of-row}

-- what the set statement gave and gives stands in the row of its attribute
was_row : (g : given_by.Over) (c : After-row_of-row g) (a t : ℕ) → was_given c.args.stayed.now a t ≡ one_if ((a == c.row_of-row.result) && was_held c.args.stayed.now t)
unfolding given
was_row g c =
    let p = c.args.stayed.now.policies.now in
    let s = set_at (old_in p) c.args.stayed.now.i in
    gives-row p.symbols.now c.requires.stayed.is.side.distinct c.row_of-row.result (meaning_in (old_in p)) s
    (c.row_of-row.ensures.row ∙ ap Some (sym (same-attribute s (set_at (new_in p) c.args.stayed.now.j) c.requires.stayed.same)))

is_row : (g : given_by.Over) (c : After-row_of-row g) (a t : ℕ) → is_given c.args.stayed.now a t ≡ one_if ((a == c.row_of-row.result) && is_held c.args.stayed.now t)
unfolding given
is_row g c =
    let p = c.args.stayed.now.policies.now in
    gives-row p.symbols.now c.requires.stayed.is.side.distinct c.row_of-row.result (meaning_in (new_in p)) (set_at (new_in p) c.args.stayed.now.j) c.row_of-row.ensures.row

pub shift-requires-clause-above : goal.shift-requires-clause-above
shift-requires-clause-above g c =
    let stayed = c.args.stayed.now in
    let at = (goal.at.shift-requires-clause-above g c).After-row_of-row in
    move-above c.row_of-row.result c.args.word c.unsettled-visits.result (was_held stayed) (is_held stayed) c.masked-was_mask.result c.masked-is_mask.result c.unsettled-visits.ensures.cover c.masked-was_mask.ensures.held c.masked-is_mask.ensures.held
    (was_given stayed) (is_given stayed) (was_row g at) (is_row g at) (count_now c.args.rows.now) c.requires.above

pub returns-clause-now : goal.returns-clause-now
returns-clause-now g c =
    let stayed = c.args.stayed.now in
    let at = (goal.at.returns-clause-now g c).After-row_of-row in
    on_ok_weaker c.shift.result
    (moved-word c.row_of-row.result c.args.word c.unsettled-visits.result (was_held stayed) (is_held stayed) c.masked-was_mask.result c.masked-is_mask.result c.unsettled-visits.ensures.cover c.masked-was_mask.ensures.held c.masked-is_mask.ensures.held
    (was_given stayed) (is_given stayed) (was_row g at) (is_row g at) (count_now c.args.rows.now) (count_now c.shift.new.self)) c.shift.ensures.ok

pub returns-then-visits-eq0-clause-now : goal.returns-then-visits-eq0-clause-now
returns-then-visits-eq0-clause-now g c =
    moved-still (was_given c.args.stayed.now) (is_given c.args.stayed.now) c.args.word (count_now c.args.rows.now)
    (stayed-gives c.args.stayed.now c.args.word (subst (CoversStayed c.args.stayed.now c.args.word) c.if-visits-eq0.true c.unsettled-visits.ensures.cover) c.requires.stayed.same)

pub returns-clause-evaluations : goal.returns-clause-evaluations
returns-clause-evaluations g c =
    let stayed = c.args.stayed.now in
    let p = stayed.policies.now in
    let symbols = p.symbols.now in
    let s = set_at (old_in p) stayed.i in
    let r = set_at (new_in p) stayed.j in
    word-twice c.args.word c.unsettled-visits.result (was_held stayed) (is_held stayed) (keeps symbols (meaning_in (old_in p))) (keeps symbols (meaning_in (new_in p))) (MayMove stayed)
    (slice_index p.old.now.kept.now c.args.word) (slice_index p.new.now.kept.now c.args.word) (evaluations_in c.args.meter.now) (evaluations_in c.masked-was_mask.new.meter) (evaluations_in c.masked-is_mask.new.meter)
    (c.requires.stayed.was.side.kept c.args.word) (c.requires.stayed.is.side.kept c.args.word) c.unsettled-visits.ensures.cover (holds-keeps symbols (meaning_in (old_in p)) s) (holds-keeps symbols (meaning_in (new_in p)) r) c.unsettled-visits.ensures.unsettled
    c.masked-was_mask.ensures.evaluations c.masked-is_mask.ensures.evaluations

pub returns-then-visits-eq0-clause-evaluations : goal.returns-then-visits-eq0-clause-evaluations
returns-then-visits-eq0-clause-evaluations g c =
    let stayed = c.args.stayed.now in
    word-none c.args.word c.unsettled-visits.result (MayMove stayed) (λ t. differ (was_held stayed t) (is_held stayed t)) (evaluations_in c.args.meter.now) c.unsettled-visits.ensures.cover c.if-visits-eq0.true
