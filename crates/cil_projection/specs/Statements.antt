-- What a text is projected onto.
use Rattle.std.specs.Prelude.{◌≡◌, ℕ, ◌+◌, ◌⊎◌, min, nat_eq, fold, Bool, true, false, cond, ◌||◌, List, [], ◌∷◌, ◌++◌, Option, Some, None, codes, bytes_eq, length, position, get_or, set}
use Rattle.std.specs.List.{starts_with}
use Rattle.std.specs.Option.{option_map_or, option_or}
use Rattle.cil_specs.specs.Names.{Word}
use Rattle.cil_specs.specs.Lookup.{with_name}
use Rattle.cil_specs.specs.TextFault.{TextFault, reserved}
use Rattle.cil_specs.specs.Reading.{IsReadingFault}
use Rattle.cil_specs.specs.Trees.{Trees, Reads, none, a_word, a_string, a_list}
use Rattle.cil_specs.specs.Shape.{is_among}
use Rattle.cil_projection.specs.declared.table.Table.{Table}
use Rattle.cil_projection.specs.declared.table.Table.TheVariants.{Types, Booleans, Tunables}
use Rattle.cil_projection.specs.declared.part.Part.TheVariants.{Name, Target, ClassPermissions, Class, Ignored}
use Rattle.cil_projection.specs.Pieces.{Piece, copied, blanked, taken, rendered}
use Rattle.cil_projection.specs.Forms.{joined, or_else, fit, forms, fitting, names_in, name_or_operator}
use Rattle.cil_projection.specs.Conditions.{Settings, are_branches, containers, first_value, list_value}

-- the first words of access vector rules, and of type rules
abbrev pub rules : List (List ℕ)
rules = codes "allow" ∷ codes "auditallow" ∷ codes "dontaudit" ∷ codes "neverallow" ∷ []

abbrev pub type_rules : List (List ℕ)
type_rules = codes "typetransition" ∷ codes "typechange" ∷ codes "typemember" ∷ []

abbrev pub branches : List (List ℕ)
branches = codes "true" ∷ codes "false" ∷ []

-- Whether the rules of a branch are taken where the condition's value is `holds`.
abbrev pub is_taken : Settings → Bool → List ℕ → Bool
is_taken settings holds branch = settings.both || bytes_eq branch (cond holds (codes "true") (codes "false"))

-- the names that a type rule needs
abbrev pub type_rule_needs : Trees → Option (List Piece)
type_rule_needs arguments =
    or_else (fit (Name Types ∷ Target ∷ Class ∷ Name Types ∷ []) arguments) (fit (Name Types ∷ Target ∷ Class ∷ Ignored ∷ Name Types ∷ []) arguments)

-- what holds of a word and the trees behind it, for the list that is the first of trees and has them
abbrev pub of_first_list : (List ℕ → Trees → Option (List Piece)) → Trees → Option (List Piece)
of_first_list needs (a_list at end (a_word place word arguments) rest) = needs word arguments
of_first_list needs trees = None

-- the names that a rule in a branch needs beside those that it names where it stands
abbrev pub rule_needs : Bool → List ℕ → Trees → Option (List Piece)
rule_needs stays word arguments =
    cond (is_among rules word) (cond stays (Some []) (fit (Name Types ∷ Target ∷ ClassPermissions ∷ []) arguments))
    (cond (is_among type_rules word) (joined (Some (taken word ∷ [])) (type_rule_needs arguments)) None)

abbrev pub rules_need : Bool → Trees → Option (List Piece)
rules_need stay none = Some []
rules_need stay (a_list at end (a_word place word arguments) rest) = joined (rule_needs stay word arguments) (rules_need stay rest)
rules_need stay trees = None

-- the names that a branch needs
abbrev pub branch_needs : Settings → Bool → List ℕ → Trees → Option (List Piece)
branch_needs settings holds branch inner = cond (is_among branches branch) (rules_need (is_taken settings holds branch) inner) None

-- the names that the rules of branches need, those left out that stand in the projection
abbrev pub branches_need : Settings → Bool → Trees → Option (List Piece)
branches_need settings holds none = Some []
branches_need settings holds (a_list at end (a_word place branch inner) rest) = joined (branch_needs settings holds branch inner) (branches_need settings holds rest)
branches_need settings holds trees = None

-- From an offset on up to another: access vector rules as they are, and all else blanked.
abbrev pub kept_rules : ℕ → Trees → ℕ → List Piece
kept_rules from none to = blanked from to ∷ []
kept_rules from (a_word at word rest) to = kept_rules from rest to
kept_rules from (a_string at text rest) to = kept_rules from rest to
kept_rules from (a_list at end (a_word place word arguments) rest) to =
    cond (is_among rules word) (blanked from at.offset ∷ copied at.offset end ∷ kept_rules end rest to) (kept_rules from rest to)
kept_rules from (a_list at end items rest) to = kept_rules from rest to

-- the same for the branches of a conditional statement, of which those that are taken keep their rules
abbrev pub kept_branches : Settings → Bool → ℕ → Trees → ℕ → List Piece
kept_branches settings holds from none to = blanked from to ∷ []
kept_branches settings holds from (a_word at word rest) to = kept_branches settings holds from rest to
kept_branches settings holds from (a_string at text rest) to = kept_branches settings holds from rest to
kept_branches settings holds from (a_list at end (a_word place branch inner) rest) to =
    cond (is_taken settings holds branch) (kept_rules from inner end ++ kept_branches settings holds end rest to) (kept_branches settings holds from rest to)
kept_branches settings holds from (a_list at end items rest) to = kept_branches settings holds from rest to

-- the names, which are of a table, and the value of a condition, which is the first of trees
abbrev pub condition_names : Table → Trees → List Piece
condition_names table none = []
condition_names table (a_word at word inner) = name_or_operator table word
condition_names table (a_string at text inner) = []
condition_names table (a_list at end items inner) = names_in table items

abbrev pub condition_value : Settings → Trees → Option Bool
condition_value settings trees = first_value settings.value trees

-- A conditional statement from an offset up to another: the rules of its taken branches where they stand, and behind it the names that it
-- needs otherwise. `names` are those of its condition.
abbrev pub chosen : Settings → ℕ → ℕ → Option Bool → List Piece → Trees → Option (List Piece)
chosen settings from to None names inner = None
chosen settings from to (Some holds) names inner = cond (are_branches inner)
    (joined (Some (kept_branches settings holds from inner to ++ (taken (codes "booleanif") ∷ names))) (branches_need settings holds inner)) None

-- the trees behind the first
abbrev pub behind_first : Trees → Trees
behind_first none = none
behind_first (a_word at word rest) = rest
behind_first (a_string at text rest) = rest
behind_first (a_list at end items rest) = rest

abbrev pub conditional : Settings → ℕ → ℕ → Trees → Option (List Piece)
conditional settings from to arguments = chosen settings from to (condition_value settings arguments) (condition_names Booleans arguments) (behind_first arguments)

-- A statement by its names alone: blanked, and its names behind it.
abbrev pub by_names : ℕ → ℕ → List ℕ → Trees → Option (List Piece)
by_names from to word arguments = fitting from to forms word arguments

-- a statement with this first word, from an offset up to another, that holds no other
abbrev pub statement : Settings → ℕ → ℕ → List ℕ → Trees → Option (List Piece)
statement settings from to word arguments =
    cond (bytes_eq word (codes "booleanif")) (conditional settings from to arguments) (by_names from to word arguments)

-- the pieces that are there, or the bytes as they are
abbrev pub or_copied : ℕ → ℕ → Option (List Piece) → List Piece
or_copied from to (Some found) = found
or_copied from to None = copied from to ∷ []

-- What stands between statements: it stays, or it is blanked.
abbrev pub between : Bool → ℕ → ℕ → Piece
between stays from to = cond stays (copied from to) (blanked from to)

-- the value of a condition of tunables, where these are its branches
abbrev pub value_for : Option Bool → Trees → Option Bool
value_for value inner = cond (are_branches inner) value None

abbrev mutual
  -- Statements one after the other, from an offset on up to another, with what stands between them, which stays or is blanked.
  pub projected : Settings → Bool → ℕ → Trees → ℕ → List Piece
  projected settings stays from none to = between stays from to ∷ []
  projected settings stays from (a_word at word rest) to = projected settings stays from rest to
  projected settings stays from (a_string at text rest) to = projected settings stays from rest to
  projected settings stays from (a_list at end items rest) to =
      between stays from at.offset ∷ (one_projected settings at.offset end items ++ projected settings stays end rest to)

  -- the statement that a list of these trees is
  pub one_projected : Settings → ℕ → ℕ → Trees → List Piece
  one_projected settings from to none = copied from to ∷ []
  one_projected settings from to (a_word place word arguments) =
      cond (is_among containers word) (body_projected settings from to arguments)
      (cond (bytes_eq word (codes "tunableif")) (tunable_projected settings from to arguments)
      (or_copied from to (statement settings from to word arguments)))
  one_projected settings from to (a_string place text rest) = copied from to ∷ []
  one_projected settings from to (a_list place end items rest) = copied from to ∷ []

  -- a block or an optional with these arguments
  pub body_projected : Settings → ℕ → ℕ → Trees → List Piece
  body_projected settings from to none = copied from to ∷ []
  body_projected settings from to (a_word place id body) = projected settings true from body to
  body_projected settings from to (a_string place text rest) = copied from to ∷ []
  body_projected settings from to (a_list place end items rest) = copied from to ∷ []

  -- A `tunableif` with these arguments: the statements of the branch that holds where they stand, and behind them the names of the condition.
  pub tunable_projected : Settings → ℕ → ℕ → Trees → List Piece
  tunable_projected settings from to none = copied from to ∷ []
  tunable_projected settings from to (a_word at word inner) =
      option_map_or (λ holds. branch_projected settings holds from to inner ++ (taken (codes "tunableif") ∷ name_or_operator Tunables word))
      (value_for (settings.value word) inner) (copied from to ∷ [])
  tunable_projected settings from to (a_string at text inner) = copied from to ∷ []
  tunable_projected settings from to (a_list at end items inner) =
      option_map_or (λ holds. branch_projected settings holds from to inner ++ (taken (codes "tunableif") ∷ names_in Tunables items))
      (value_for (list_value settings.value items) inner) (copied from to ∷ [])

  -- the statements of the branch for a value, where there is one, and all else blanked
  pub branch_projected : Settings → Bool → ℕ → ℕ → Trees → List Piece
  branch_projected settings holds from to none = blanked from to ∷ []
  branch_projected settings holds from to (a_word at word rest) = branch_projected settings holds from to rest
  branch_projected settings holds from to (a_string at text rest) = branch_projected settings holds from to rest
  branch_projected settings holds from to (a_list at end items rest) =
      inner_projected settings holds from to items (branch_projected settings holds from to rest)

  -- the statements of a branch of these trees, where it is for a value, or else other pieces
  pub inner_projected : Settings → Bool → ℕ → ℕ → Trees → List Piece → List Piece
  inner_projected settings holds from to none others = others
  inner_projected settings holds from to (a_word place branch inner) others =
      cond (bytes_eq branch (cond holds (codes "true") (codes "false"))) (projected settings false from inner to) others
  inner_projected settings holds from to (a_string place text rest) others = others
  inner_projected settings holds from to (a_list place end items rest) others = others

-- the bytes that begin the names that a projection makes
abbrev pub mark : List ℕ
mark = codes "cilsem__"

-- whether a word has them in it
abbrev pub has_mark : List ℕ → Bool
has_mark [] = false
has_mark (b ∷ word) = starts_with nat_eq (b ∷ word) mark || has_mark word

-- the first word with them, if any
abbrev pub first_marked : Trees → Option Word
first_marked none = None
first_marked (a_word at word rest) = cond (has_mark word) (Some (record { at = at; text = word })) (first_marked rest)
first_marked (a_string at text rest) = first_marked rest
first_marked (a_list at end items rest) = option_or (first_marked items) (first_marked rest)

-- Why a text has no projection: a reading fault, or the first word that could be taken for a name that a projection makes.
abbrev pub IsMarkFault : List ℕ → TextFault → Type 0
IsMarkFault text fault = (trees : Trees) × (word : Word) × Reads text trees × (first_marked trees ≡ Some word) × (fault ≡ record { kind = reserved; at = word.at; word = word.text })

abbrev pub IsProjectionFault : List ℕ → TextFault → Type 0
IsProjectionFault text fault = IsReadingFault text fault ⊎ IsMarkFault text fault

-- the text's projection
abbrev pub Projects : Settings → List ℕ → List ℕ → Type 0
Projects settings text bytes = (trees : Trees) × Reads text trees × (first_marked trees ≡ None) × (bytes ≡ rendered text (projected settings true 0 trees (length text)))

-- what was taken by its names: the first words, each once, how many statements have each, and how many there are
pub record Counts : Type 0 where
  pub keywords : List (List ℕ)
  pub numbers : List ℕ
  pub statements : ℕ

abbrev pub no_counts : Counts
no_counts = record { keywords = []; numbers = []; statements = 0 }

-- one more, up to the greatest number
abbrev pub one_more : ℕ → ℕ
one_more n = min (n + 1) 18446744073709551615

-- how many statements have this first word
abbrev pub number_of : Counts → List ℕ → ℕ
number_of counts keyword = option_map_or (λ i. get_or counts.numbers i 0) (position (bytes_eq keyword) counts.keywords) 0

abbrev pub counted : Counts → Piece → Counts
counted counts (taken keyword) = record {
  keywords = with_name counts.keywords keyword;
  numbers = option_map_or (λ i. set counts.numbers i (one_more (get_or counts.numbers i 0))) (position (bytes_eq keyword) counts.keywords) (counts.numbers ++ (1 ∷ []));
  statements = one_more counts.statements;
}
counted counts piece = counts

abbrev pub Tallies : Settings → List ℕ → Counts → Counts → Type 0
Tallies settings text before after = (trees : Trees) × Reads text trees × (after ≡ fold counted before (projected settings true 0 trees (length text)))
