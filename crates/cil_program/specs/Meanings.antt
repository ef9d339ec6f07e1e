-- What the codes of refusals mean, in words.
use Rattle.std.specs.Prelude.{ℕ, ◌==◌, Bool, true, false, cond, List, [], ◌∷◌, ◌++◌, map, codes}
use Rattle.std.specs.Borrow.{Bor}
use Rattle.cil_store_specs.specs.Next.{Refusal, at_place, by_store, for_memory}
use Rattle.cil_store_specs.specs.Script.{refusal_line}
use Rattle.cil_program.specs.declared.command_line.meanings.TheConstants.{MEANINGS}

-- codes and their meanings, as the code has them
abbrev pub rows_of : List (ℕ × Bor (List ℕ)) → List (ℕ × List ℕ)
rows_of = map (λ row. (row.0, row.1.now))

-- the meaning by the first row that has a code
abbrev pub first_meaning : List (ℕ × List ℕ) → ℕ → List ℕ
first_meaning [] code = []
first_meaning ((known, meaning) ∷ rows) code = cond (known == code) meaning (first_meaning rows code)

-- the codes and their meanings
unfoldable pub meanings : List (ℕ × List ℕ)
meanings = map (λ row. (row.0, row.1.now)) MEANINGS

abbrev pub meaning_of : ℕ → List ℕ
meaning_of code = first_meaning meanings code

abbrev pub meaning_line : ℕ → List ℕ
meaning_line code = codes "note: " ++ (meaning_of code ++ codes "\n")

abbrev pub code_of : Refusal → ℕ
code_of (by_store code word) = code
code_of (at_place code module_name at word) = code
code_of for_memory = 60

-- the line of a refusal, and behind it what its code means where it is explained
abbrev pub refusal_text : Bool → Refusal → List ℕ
refusal_text false refusal = refusal_line refusal
refusal_text true refusal = refusal_line refusal ++ meaning_line (code_of refusal)
