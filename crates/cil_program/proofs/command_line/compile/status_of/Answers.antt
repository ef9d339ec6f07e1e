use Rattle.cil_program.proofs.Common.{◌≡◌, ◌≢◌, ℕ, List, [], ◌∷◌, length, refl, arith, status_of_violations}
use Rattle.cil_specs.specs.Violations.{Violation}
use Rattle.cil_program.proofs.command_line.compile.status_of.Goals as goal

none : (n : ℕ) (violations : List Violation) → n ≡ length violations → n ≡ 0 → 0 ≡ status_of_violations violations
none n [] is zero = refl
none n (v ∷ violations) is zero = absurd (omega (arith, is, zero))

some : (n : ℕ) (violations : List Violation) → n ≡ length violations → n ≢ 0 → 1 ≡ status_of_violations violations
some n [] is other = absurd (other is)
some n (v ∷ violations) is other = refl

pub returns-then-violations-eq0 : goal.returns-then-violations-eq0
returns-then-violations-eq0 c = λ listed is. none c.args.violations listed is c.if-violations-eq0.true

pub returns-else-violations-eq0 : goal.returns-else-violations-eq0
returns-else-violations-eq0 c = λ listed is. some c.args.violations listed is c.if-violations-eq0.false
