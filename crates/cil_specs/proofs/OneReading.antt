-- A text spells one list of trees at most.
use Rattle.std.proofs.Common.{◌≡◌, ℕ, List, [], ◌∷◌, ◌++◌, length, refl, ap, sym, ◌∙◌, subst, append_assoc, append-nil, drop}
use Rattle.cil_specs.specs.Trees.{Trees, none, a_word, a_string, a_list, Mark, word_at, string_at, opening_at, closing_before, marks, told, Reads}
use Rattle.cil_specs.proofs.Stuck.{same-front}

-- nothing, or a ) and what follows
abbrev BeginsOutside : List Mark → Type 0
BeginsOutside [] = Unit {0}
BeginsOutside (word_at at text ∷ ms) = ⊥
BeginsOutside (string_at at text ∷ ms) = ⊥
BeginsOutside (opening_at at ∷ ms) = ⊥
BeginsOutside (closing_before end ∷ ms) = Unit {0}

outside : (m : List Mark) (mark : Mark) (ms : List Mark) → BeginsOutside m → m ≡ mark ∷ ms → BeginsOutside (mark ∷ ms)
outside m mark ms f e = subst BeginsOutside e f

-- trees of the same marks are the same, where nothing or a ) follows
same-trees : (s t : Trees) (m n : List Mark) → marks s ++ m ≡ marks t ++ n → BeginsOutside m → BeginsOutside n → (s ≡ t) × (m ≡ n)
same-trees none none m n e f g = (refl, e)
same-trees none (a_word at text rest) m n e f g = absurd (outside m (word_at at text) (marks rest ++ n) f e)
same-trees none (a_string at text rest) m n e f g = absurd (outside m (string_at at text) (marks rest ++ n) f e)
same-trees none (a_list at end items rest) m n e f g = absurd (outside m (opening_at at) _ f e)
same-trees (a_word at text rest) none m n e f g = absurd (outside n (word_at at text) (marks rest ++ m) g (sym e))
same-trees (a_string at text rest) none m n e f g = absurd (outside n (string_at at text) (marks rest ++ m) g (sym e))
same-trees (a_list at end items rest) none m n e f g = absurd (outside n (opening_at at) _ g (sym e))
same-trees (a_word at text rest) (a_word to other more) m n e f g =
    let head : word_at at text ≡ word_at to other = cc in
    let found = same-trees rest more m n (ap (drop 1) e) f g in
    let place : at ≡ to = cc in
    let bytes : text ≡ other = cc in
    ((λ i. a_word (place i) (bytes i) (found.0 i)), found.1)
same-trees (a_string at text rest) (a_string to other more) m n e f g =
    let found = same-trees rest more m n (ap (drop 1) e) f g in
    let place : at ≡ to = cc in
    let bytes : text ≡ other = cc in
    ((λ i. a_string (place i) (bytes i) (found.0 i)), found.1)
same-trees (a_list at end items rest) (a_list to close inside more) m n e f g =
    let place : at ≡ to = cc in
    let tails : (marks items ++ closing_before end ∷ marks rest) ++ m ≡ (marks inside ++ closing_before close ∷ marks more) ++ n = ap (drop 1) e in
    let grouped : marks items ++ (closing_before end ∷ (marks rest ++ m)) ≡ marks inside ++ (closing_before close ∷ (marks more ++ n)) =
    sym (append_assoc (marks items) (closing_before end ∷ marks rest) m) ∙ tails ∙ append_assoc (marks inside) (closing_before close ∷ marks more) n in
    let within = same-trees items inside (closing_before end ∷ (marks rest ++ m)) (closing_before close ∷ (marks more ++ n)) grouped tt tt in
    let behind = same-trees rest more m n (ap (drop 1) within.1) f g in
    let closes : closing_before end ≡ closing_before close = cc within.1 in
    let ends : end ≡ close = cc closes in
    ((λ i. a_list (place i) (ends i) (within.0 i) (behind.0 i)), behind.1)
same-trees (a_word at text rest) (a_string to other more) m n e f g = absurd (let h : word_at at text ∷ (marks rest ++ m) ≡ string_at to other ∷ (marks more ++ n) = e in cc)
same-trees (a_word at text rest) (a_list to close inside more) m n e f g = absurd (cc)
same-trees (a_string at text rest) (a_word to other more) m n e f g = absurd (cc)
same-trees (a_string at text rest) (a_list to close inside more) m n e f g = absurd (cc)
same-trees (a_list at end items rest) (a_word to other more) m n e f g = absurd (cc)
same-trees (a_list at end items rest) (a_string to other more) m n e f g = absurd (cc)

-- a text spells one list of trees at most
pub one-reading : (bytes : List ℕ) (s t : Trees) → Reads bytes s → Reads bytes t → s ≡ t
one-reading bytes s t (ps, clean, is) (qs, pure, js) =
    let same : qs ≡ ps = (same-front bytes (length bytes) [] [] ps qs clean pure).0 in
    (same-trees s t [] [] (append-nil (marks s) ∙ sym is ∙ ap (told bytes 0) (sym same) ∙ js ∙ sym (append-nil (marks t))) tt tt).0
