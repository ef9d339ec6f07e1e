use Rattle.cil_keyed_lines.proofs.Common.{◌<◌, ◌^◌, ap, eq-eqb, false, get_or, if◌then◌else◌, ne_eqb, sym, true, true≢false, ◌∙◌, ◌≡◌, arith, take, cases_eq, inl, inr, ◌≢◌}
use Rattle.std.proofs.lemmas.List.{take_all}
use Rattle.std.proofs.lemmas.List.Elements.{All-more}
use Rattle.cil_recorded.specs.declared.recorded_lines.changes.Change.{Change}
use Rattle.cil_keyed_lines.proofs.keyed_lines.past.marks.Goals as goal

abbrev none : Change
none = record { line = 0; word = 0; appeared = 0; gone = 0 }

pub loop-change-preserved : goal.loop-change-preserved
loop-change-preserved g c =
    let xs = c.args.changes.now in
    let i = c.loop-change.change-index in
    let line = (get_or xs i none).line in
    record {
      marked = λ l unmarked.
          let told = sym (c.in_ok-mark.ensures.marked l) ∙ unmarked in
          elim (cases_eq l line) [
            | inl same ↦ absurd (true≢false (sym (ap (λ b. if b then true else get_or c.loop-change.marks.items l false) (eq-eqb l line same)) ∙ told))
            | inr other ↦
                let before = sym (ap (λ b. if b then true else get_or c.loop-change.marks.items l false) (ne_eqb l line other)) ∙ told in
                All-more (λ (d : Change). d.line ≢ l) xs i none c.loop-change-test.true (c.loop-change.invariant.marked l before) (λ e. other (sym e))
          ];
      short = All-more (λ (d : Change). d.word < 2 ^ 64) xs i none c.loop-change-test.true c.loop-change.invariant.short c.mark.ensures.short;
    }

pub returns-clause-marked : goal.returns-clause-marked
returns-clause-marked g c =
    let all : take c.loop-change.change-index c.args.changes.now ≡ c.args.changes.now = take_all c.loop-change.change-index c.args.changes.now (omega arith) in
    rw (sym all) c.loop-change.invariant.marked

pub returns-clause-short : goal.returns-clause-short
returns-clause-short g c =
    let all : take c.loop-change.change-index c.args.changes.now ≡ c.args.changes.now = take_all c.loop-change.change-index c.args.changes.now (omega arith) in
    rw (sym all) c.loop-change.invariant.short
