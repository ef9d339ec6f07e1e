use Rattle.cil_rule_shifts.proofs.Common.{◌≡◌, ◌+◌, ◌*◌, ◌<◌, ◌∙◌, ℕ, Bool, ap, min, sym, w64, bit_at, bit_at_and, bit_at_not, bit_not, has_source, in_part, one_if}
use Rattle.cil_rule_shifts.proofs.MoveLemmas.{bit-both, bit-without}
use Rattle.cil_rule_shifts.proofs.reach.mask.Given as given
use Rattle.cil_rule_shifts.proofs.reach.mask.Goals as goal
use Rattle.cil_rule_shifts.proofs.reach.mask.Goals.{After-word-is}

-- whether a symbol of the word was a source, and whether it is one, by its bit
abbrev had : (g : given.Over) (c : After-word-is g) → ℕ → Bool
had g c b = has_source c.args.sources.was.now (64 * c.args.word + b)

abbrev has : (g : given.Over) (c : After-word-is g) → ℕ → Bool
has g c b = has_source c.args.sources.is.now (64 * c.args.word + b)

was : (g : given.Over) (c : After-word-is g) (b : ℕ) → b < 64 → bit_at c.word-was.result b ≡ one_if (had g c b)
was g c b within = c.word-was.ensures b within

is : (g : given.Over) (c : After-word-is g) (b : ℕ) → b < 64 → bit_at c.word-is.result b ≡ one_if (has g c b)
is g c b within = c.word-is.ensures b within

pub returns-in-Lost : goal.returns-in-Lost
returns-in-Lost g c b within =
    let at = (goal.at.returns-in-Lost g c).After-word-is in
    bit_at_and c.word-was.result (bit_not w64 c.word-is.result) b ∙ ap (min (bit_at c.word-was.result b)) (bit_at_not w64 c.word-is.result b c.word-is.type_inv within)
    ∙ bit-without _ _ (had g at b) (has g at b) (was g at b within) (is g at b within) ∙ sym (ap (λ part. one_if (in_part part (had g at b) (has g at b))) c.in-Lost.is)

pub returns-in-Kept : goal.returns-in-Kept
returns-in-Kept g c b within =
    let at = (goal.at.returns-in-Kept g c).After-word-is in
    bit_at_and c.word-was.result c.word-is.result b ∙ bit-both _ _ (had g at b) (has g at b) (was g at b within) (is g at b within)
    ∙ sym (ap (λ part. one_if (in_part part (had g at b) (has g at b))) c.in-Kept.is)

pub returns-in-Got : goal.returns-in-Got
returns-in-Got g c b within =
    let at = (goal.at.returns-in-Got g c).After-word-is in
    bit_at_and c.word-is.result (bit_not w64 c.word-was.result) b ∙ ap (min (bit_at c.word-is.result b)) (bit_at_not w64 c.word-was.result b c.word-was.type_inv within)
    ∙ bit-without _ _ (has g at b) (had g at b) (is g at b within) (was g at b within) ∙ sym (ap (λ part. one_if (in_part part (had g at b) (has g at b))) c.in-Got.is)
