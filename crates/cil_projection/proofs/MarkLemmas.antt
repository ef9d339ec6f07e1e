-- Words that could be taken for names that a projection makes.
use Rattle.std.specs.Prelude.{◌≡◌, ℕ, ◌-◌, ◌≤◌, ◌||◌, false, List, [], ◌∷◌, length, take, drop, nat_eq}
use Rattle.std.specs.List.{starts_with}
use Rattle.std.proofs.Common.{◌∙◌, sym, ap, arith}
use Rattle.std.proofs.lemmas.List.{take_rest}
use Rattle.cil_projection.specs.Statements.{has_mark, mark}

-- a word that doesn't begin with the mark has it where the rest has
pub mark_later : (word : List ℕ) → 1 ≤ length word → starts_with nat_eq word mark ≡ false → has_mark (take (length word - 1) (drop 1 word)) ≡ has_mark word
mark_later [] long begins = absurd (omega (arith, long))
mark_later (b ∷ word) long begins = ap has_mark (take_rest (b ∷ word) 1) ∙ sym (ap (λ d. d || has_mark word) begins)
