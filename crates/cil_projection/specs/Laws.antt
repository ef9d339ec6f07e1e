-- What the laws say of projections.
use Rattle.std.specs.Prelude.{◌≡◌, ◌⊎◌, IsTrue, ℕ, List, [], ◌∷◌, ◌++◌, Bool, true, false, cond, not, ◌&&◌, ◌||◌, map}
use Rattle.std.specs.Bool.{beq}
use Rattle.std.specs.Option.{option_map_or}
use Rattle.cil_specs.specs.Place.{place_at}
use Rattle.cil_specs.specs.Trees.{Trees, none, a_word, a_string, a_list}
use Rattle.cil_specs.specs.Shape.{is_among, keywords}
use Rattle.cil_projection.specs.declared.kinds.TheConstants.{KINDS}
use Rattle.cil_projection.specs.declared.part.Part.{Part}
use Rattle.cil_projection.specs.Pieces.{Piece, copied}
use Rattle.cil_projection.specs.Conditions.{branch_value, containers}
use Rattle.cil_projection.specs.Statements.{behind_first, rules}

-- whether each list begins with a word of the language, in blocks and optionals too
abbrev pub has_keywords : Trees → Bool
has_keywords none = true
has_keywords (a_word at word rest) = has_keywords rest
has_keywords (a_string at text rest) = has_keywords rest
has_keywords (a_list at end (a_word place word (a_word second id body)) rest) =
    is_among keywords word && ((not (is_among containers word) || has_keywords body) && has_keywords rest)
has_keywords (a_list at end (a_word place word arguments) rest) = is_among keywords word && has_keywords rest
has_keywords (a_list at end items rest) = false

-- the line of the byte at an offset
abbrev pub line_at : List ℕ → ℕ → ℕ
line_at bytes at = (place_at bytes at).line

-- A list with this first word is a statement of the language that holds no others, and stands from one offset up to another.
abbrev pub IsStatementAt : List ℕ → ℕ → ℕ → ℕ → ℕ → Type 0
IsStatementAt word at end from to = IsTrue (is_among keywords word) × (is_among containers word ≡ false) × (from ≡ at) × (to ≡ end)

-- such a statement stands there among trees, in blocks and optionals too
abbrev pub HasLanguageStatement : Trees → ℕ → ℕ → Type 0
HasLanguageStatement none from to = ⊥
HasLanguageStatement (a_word at word rest) from to = HasLanguageStatement rest from to
HasLanguageStatement (a_string at text rest) from to = HasLanguageStatement rest from to
HasLanguageStatement (a_list at end (a_word place word (a_word second id body)) rest) from to =
    IsStatementAt word at.offset end from to ⊎ ((IsTrue (is_among containers word) × HasLanguageStatement body from to) ⊎ HasLanguageStatement rest from to)
HasLanguageStatement (a_list at end (a_word place word arguments) rest) from to = IsStatementAt word at.offset end from to ⊎ HasLanguageStatement rest from to
HasLanguageStatement (a_list at end items rest) from to = HasLanguageStatement rest from to

-- a part of the text is copied
abbrev pub IsCopied : ℕ → ℕ → List Piece → Type 0
IsCopied from to pieces = (front behind : List Piece) × (pieces ≡ front ++ copied from to ∷ behind)

-- which parts of the text are copied
abbrev pub copies : List Piece → List (ℕ × ℕ)
copies [] = []
copies (copied from to ∷ pieces) = (from, to) ∷ copies pieces
copies (piece ∷ pieces) = copies pieces

-- where the access vector rules among trees stand
abbrev pub rule_parts : Trees → List (ℕ × ℕ)
rule_parts none = []
rule_parts (a_word at word rest) = rule_parts rest
rule_parts (a_string at text rest) = rule_parts rest
rule_parts (a_list at end (a_word place word arguments) rest) = cond (is_among rules word) ((at.offset, end) ∷ []) [] ++ rule_parts rest
rule_parts (a_list at end items rest) = rule_parts rest

-- the same for those in branches
abbrev pub branch_parts : Trees → List (ℕ × ℕ)
branch_parts none = []
branch_parts (a_word at word rest) = branch_parts rest
branch_parts (a_string at text rest) = branch_parts rest
branch_parts (a_list at end items rest) = rule_parts (behind_first items) ++ branch_parts rest

-- what stands in the branch for a value, where there is one
abbrev pub trees_for : Bool → Trees → Trees
trees_for holds none = none
trees_for holds (a_word at word rest) = trees_for holds rest
trees_for holds (a_string at text rest) = trees_for holds rest
trees_for holds (a_list at end items rest) = cond (option_map_or (beq holds) (branch_value items) false) (behind_first items) (trees_for holds rest)

-- the first words of forms
abbrev pub first_words : List (List ℕ × List Part) → List (List ℕ)
first_words = map (λ form. form.0)

-- the first words of the kinds that are listed
abbrev pub kind_words : List (List ℕ)
kind_words = map (λ kind. kind.0.now) KINDS
