use Rattle.cil_keyed_lines.proofs.Common.{◌≢◌, ◌⊎◌, ℕ, ◌/◌, ◌^◌, ◌<◌, ◌≤◌, ◌∙◌, ap, arith, get_or, inl, inr, length, rules, subst, sym}
use Rattle.std.proofs.lemmas.List.{get_or_default}
use Rattle.cil_recorded.specs.Differences.{key_of}
use Rattle.cil_recorded.specs.declared.recorded_lines.changes.Change.{Change}
use Rattle.cil_keyed_lines.proofs.PastLemmas.{bits-before, key-back, split-most}
use Rattle.cil_keyed_lines.proofs.keyed_lines.past.next_turn.Goals as goal
use Rattle.cil_keyed_lines.proofs.keyed_lines.past.next_turn.Goals.{else-place-changes-via-then-place-changes+else-changes-place, else-place-changes-via-else-place-changes}

abbrev none : Change
none = record { line = 0; word = 0; appeared = 0; gone = 0 }

pub returns-then-changes-place : goal.returns-then-changes-place
returns-then-changes-place c =
    let i = c.first-place.result in
    let xs = c.args.changes.now in
    let line = c.if-changes-place.true in
    let fits : c.args.from < 2 ^ 64 = search rules in
    let most = split-most c.args.line c.args.from xs c.requires.order c.requires.short fits i c.first-place.ensures.split i none (omega arith) c.if-place-changes.true in
    record {
      from_on = key-back c.args.line c.args.from (get_or xs i none).word (subst (λ l. key_of c.args.line c.args.from ≤ key_of l (get_or xs i none).word) line most);
      first = λ t on less.
          let other : (d : Change) → i < length xs → ((get_or xs i d).line ≢ c.args.line) ⊎ (t / 64 < (get_or xs i d).word) =
          λ d within. inr (subst (λ (x : Change). t / 64 < x.word) (sym (get_or_default xs i d none within)) less)
          in
          let nowhere = λ (mask : Change → ℕ). bits-before mask xs i c.args.line c.args.from t c.requires.order c.requires.short fits c.first-place.ensures.split on other in
          omega (arith, nowhere (λ d. d.appeared), nowhere (λ d. d.gone));
    }

pub returns-else-place-changes : goal.returns-else-place-changes
returns-else-place-changes c t on =
    let i = c.first-place.result in
    let xs = c.args.changes.now in
    let other : (d : Change) → i < length xs → ((get_or xs i d).line ≢ c.args.line) ⊎ (t / 64 < (get_or xs i d).word) =
    λ d within.
    elim c.else-place-changes.branch [
      | else-place-changes-via-then-place-changes+else-changes-place w ↦ inl (λ e. w.if-changes-place.false (sym (ap (λ (x : Change). x.line) (get_or_default xs i d none within)) ∙ e))
      | else-place-changes-via-else-place-changes w ↦ let past = w.if-place-changes.false in absurd (omega (arith, past, within))
    ]
    in
    let fits : c.args.from < 2 ^ 64 = search rules in
    let nowhere = λ (mask : Change → ℕ). bits-before mask xs i c.args.line c.args.from t c.requires.order c.requires.short fits c.first-place.ensures.split on other in
    omega (arith, nowhere (λ d. d.appeared), nowhere (λ d. d.gone))
