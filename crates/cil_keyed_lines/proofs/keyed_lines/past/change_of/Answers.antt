use Rattle.cil_keyed_lines.proofs.Common.{◌≡◌, ◌≢◌, ◌⊎◌, ℕ, ◌+◌, ◌*◌, ◌/◌, ◌%◌, ◌^◌, ◌<◌, ◌∙◌, ap, arith, get_or, inl, inr, length, rules, sym}
use Rattle.std.proofs.lemmas.List.{get_or_default}
use Rattle.std.proofs.lemmas.Nat.Bits.{bit_at-zero}
use Rattle.std.specs.Int.{bit_at}
use Rattle.cil_recorded.specs.declared.recorded_lines.changes.Change.{Change}
use Rattle.cil_keyed_lines.proofs.PastLemmas.{bits-here, bits-nowhere}
use Rattle.cil_keyed_lines.proofs.keyed_lines.past.change_of.Goals as goal
use Rattle.cil_keyed_lines.proofs.keyed_lines.past.change_of.Goals.{else-place-changes-via-then-place-changes+then-changes-place+else-changes-place-2, else-place-changes-via-then-place-changes+else-changes-place, else-place-changes-via-else-place-changes}

abbrev none : Change
none = record { line = 0; word = 0; appeared = 0; gone = 0 }

pub returns-then-changes-place-2 : goal.returns-then-changes-place-2
returns-then-changes-place-2 c b small =
    let t = 64 * c.args.word + b in
    let word : t / 64 ≡ c.args.word = omega (arith, small) in
    let bit : t % 64 ≡ b = omega (arith, small) in
    let at = get_or c.args.changes.now c.first-place.result none in
    let here = c.if-changes-place-2.true ∙ sym word in
    let found = λ (mask : Change → ℕ). bits-here mask c.args.changes.now c.first-place.result none c.args.line t c.requires.order c.if-place-changes.true c.if-changes-place.true here in
    (ap (bit_at at.appeared) (sym bit) ∙ sym (found (λ d. d.appeared)), ap (bit_at at.gone) (sym bit) ∙ sym (found (λ d. d.gone)))

pub returns-else-place-changes : goal.returns-else-place-changes
returns-else-place-changes c b small =
    let t = 64 * c.args.word + b in
    let word : c.args.word ≡ t / 64 = omega (arith, small) in
    let i = c.first-place.result in
    let xs = c.args.changes.now in
    let other : (d : Change) → i < length xs → ((get_or xs i d).line ≢ c.args.line) ⊎ ((get_or xs i d).word ≢ c.args.word) =
    λ d within.
    let own = get_or_default xs i d none within in
    elim c.else-place-changes.branch [
      | else-place-changes-via-then-place-changes+then-changes-place+else-changes-place-2 w ↦ inr (λ e. w.if-changes-place-2.false (sym (ap (λ (x : Change). x.word) own) ∙ e))
      | else-place-changes-via-then-place-changes+else-changes-place w ↦ inl (λ e. w.if-changes-place.false (sym (ap (λ (x : Change). x.line) own) ∙ e))
      | else-place-changes-via-else-place-changes w ↦ let past = w.if-place-changes.false in absurd (omega (arith, past, within))
    ]
    in
    let fits : c.args.word < 2 ^ 64 = search rules in
    let nowhere = λ (mask : Change → ℕ). bits-nowhere mask xs i c.args.line c.args.word t c.requires.order c.requires.short fits c.first-place.ensures.split word other in
    (bit_at-zero b ∙ sym (nowhere (λ d. d.appeared)), bit_at-zero b ∙ sym (nowhere (λ d. d.gone)))
