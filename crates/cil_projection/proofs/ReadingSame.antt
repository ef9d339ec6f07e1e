-- Trees of the same marks are the same, and a text has one list of parts.
use Rattle.cil_specs.proofs.Common.{◌≡◌, ℕ, List, [], ◌∷◌, ◌++◌, drop, refl, ap, sym, ◌∙◌, subst, append_assoc, append-nil, arith, Part, Splits, Mark, word_at, string_at, opening_at, closing_before}
use Rattle.cil_specs.specs.Trees.{Trees, none, a_word, a_string, a_list, marks}
use Rattle.cil_specs.proofs.Fronts.{begins}
use Rattle.cil_specs.proofs.PartLemmas.{size-some, splits-size}

-- nothing, or a ) and what follows
abbrev BeginsOutside : List Mark → Type 0
BeginsOutside (word_at at text ∷ ms) = ⊥
BeginsOutside (string_at at text ∷ ms) = ⊥
BeginsOutside (opening_at at ∷ ms) = ⊥
BeginsOutside _ = Unit {0}

same_trees : (s t : Trees) (m n : List Mark) → marks s ++ m ≡ marks t ++ n → BeginsOutside m → BeginsOutside n → (s ≡ t) × (m ≡ n)
same_trees none none m n e f g = (refl, e)
same_trees none _ m n e f g = absurd (subst BeginsOutside e f)
same_trees _ none m n e f g = absurd (subst BeginsOutside (sym e) g)
same_trees (a_word at text rest) (a_word to other more) m n e f g =
    let found = same_trees rest more m n (ap (drop 1) e) f g in
    let place : at ≡ to = cc in
    let bytes : text ≡ other = cc in
    ((λ i. a_word (place i) (bytes i) (found.0 i)), found.1)
same_trees (a_string at text rest) (a_string to other more) m n e f g =
    let found = same_trees rest more m n (ap (drop 1) e) f g in
    let place : at ≡ to = cc in
    let bytes : text ≡ other = cc in
    ((λ i. a_string (place i) (bytes i) (found.0 i)), found.1)
same_trees (a_list at end items rest) (a_list to close inside more) m n e f g =
    let place : at ≡ to = cc in
    let tails : (marks items ++ closing_before end ∷ marks rest) ++ m ≡ (marks inside ++ closing_before close ∷ marks more) ++ n = ap (drop 1) e in
    let grouped : marks items ++ (closing_before end ∷ (marks rest ++ m)) ≡ marks inside ++ (closing_before close ∷ (marks more ++ n)) =
    sym (append_assoc (marks items) (closing_before end ∷ marks rest) m) ∙ tails ∙ append_assoc (marks inside) (closing_before close ∷ marks more) n in
    let within = same_trees items inside (closing_before end ∷ (marks rest ++ m)) (closing_before close ∷ (marks more ++ n)) grouped tt tt in
    let behind = same_trees rest more m n (ap (drop 1) within.1) f g in
    let closes : closing_before end ≡ closing_before close = cc within.1 in
    let ends : end ≡ close = cc closes in
    ((λ i. a_list (place i) (ends i) (within.0 i) (behind.0 i)), behind.1)
same_trees _ _ m n e f g = absurd (cc)

pub same_marks : (s t : Trees) → marks s ≡ marks t → s ≡ t
same_marks s t e = (same_trees s t [] [] (append-nil (marks s) ∙ e ∙ sym (append-nil (marks t))) tt tt).0

pub same_parts : (bytes : List ℕ) (ps qs : List Part) → Splits bytes ps [] → Splits bytes qs [] → qs ≡ ps
same_parts bytes ps qs f g = by found.0 found.1 found.2
  where
    found : (more : List Part) × (qs ≡ ps ++ more) × Splits [] more []
    found = begins bytes ps qs [] [] f g (omega arith)

    by : (more : List Part) → qs ≡ ps ++ more → Splits [] more [] → qs ≡ ps
    by [] e splits = e ∙ append-nil ps
    by (p ∷ more) e splits = absurd (omega (arith, splits-size [] (p ∷ more) [] splits, size-some p splits.2))
