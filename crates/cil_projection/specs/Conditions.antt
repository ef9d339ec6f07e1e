-- The values of conditions.
use Rattle.std.specs.Prelude.{Bool, true, false, cond, not, is_some, ◌&&◌, ◌||◌, ℕ, List, [], ◌∷◌, ◌++◌, ◌≡◌, Option, Some, None, option_map, fold, position, get_or, set, codes, bytes_eq}
use Rattle.std.specs.Bool.{beq}
use Rattle.std.specs.Option.{option_map_or}
use Rattle.cil_specs.specs.Trees.{Trees, Reads, none, a_word, a_string, a_list, are_lists}
use Rattle.cil_specs.specs.Shape.{is_among}
use Rattle.cil_specs.specs.Lookup.{with_name}
use Rattle.cil_projection.specs.declared.booleans.Value.{Value}
use Rattle.cil_projection.specs.declared.booleans.Value.TheVariants.{Set, Own, Both}
use Rattle.cil_projection.specs.Pieces.{last_component}
use Rattle.cil_projection.specs.Forms.{operators, truth_word}

-- the first words of statements that hold others
abbrev pub containers : List (List ℕ)
containers = codes "block" ∷ codes "optional" ∷ []

-- What is taken of conditional statements: the rules of both branches or of the one that holds; and the values of names, where they have
-- one.
pub record Settings : Type 0 where
  pub both : Bool
  pub value : List ℕ → Option Bool

-- a value in front of others, where both are there
abbrev pub in_front : Option Bool → Option (List Bool) → Option (List Bool)
in_front None values = None
in_front (Some x) None = None
in_front (Some x) (Some values) = Some (x ∷ values)

-- the value of an operator of one operand, and of one of two
abbrev pub opposite : List ℕ → Bool → Option Bool
opposite operator x = cond (bytes_eq operator (codes "not")) (Some (not x)) None

abbrev pub combined : List ℕ → Bool → Bool → Option Bool
combined operator x y =
    cond (bytes_eq operator (codes "and")) (Some (x && y))
    (cond (bytes_eq operator (codes "or")) (Some (x || y))
    (cond (is_among (codes "xor" ∷ codes "neq" ∷ []) operator) (Some (not (beq x y)))
    (cond (bytes_eq operator (codes "eq")) (Some (beq x y)) None)))

-- the value of a list that begins with a word, whose value as a name is `named`, and goes on with operands
abbrev pub applied : List ℕ → Option Bool → Option (List Bool) → Option Bool
applied word named (Some []) = named
applied word named (Some (x ∷ [])) = opposite word x
applied word named (Some (x ∷ y ∷ [])) = combined word x y
applied word named (Some (x ∷ y ∷ z ∷ more)) = None
applied word named None = None

abbrev mutual
  -- the values of conditions one after the other
  pub values : (List ℕ → Option Bool) → Trees → Option (List Bool)
  values value none = Some []
  values value (a_word at word rest) = in_front (value word) (values value rest)
  values value (a_string at text rest) = None
  values value (a_list at end items rest) = in_front (list_value value items) (values value rest)

  -- the value of a condition that is a list of these trees; a list of one list has that list's
  pub list_value : (List ℕ → Option Bool) → Trees → Option Bool
  list_value value none = None
  list_value value (a_word place word operands) = applied word (value word) (values value operands)
  list_value value (a_string place text rest) = None
  list_value value (a_list place end items none) = list_value value items
  list_value value (a_list place end items rest) = None

-- the value of the first of trees
abbrev pub first_value : (List ℕ → Option Bool) → Trees → Option Bool
first_value value none = None
first_value value (a_word at word rest) = value word
first_value value (a_string at text rest) = None
first_value value (a_list at end items rest) = list_value value items

-- Values were added: those that are there, or none are.
abbrev pub AddsValues : List Bool → List Bool → Bool → Option (List Bool) → Type 0
AddsValues before after true found = option_map (λ values. before ++ values) found ≡ Some after
AddsValues before after false found = found ≡ None

-- What is known of booleans and tunables: whether the rules of both branches are taken, and names with their values.
pub record Known : Type 0 where
  pub both : Bool
  pub names : List (List ℕ)
  pub values : List Value

-- The value of a name: none where it was declared with both. One without a declaration is false.
abbrev pub truth : Value → Option Bool
truth (Set b) = Some b
truth (Own b) = Some b
truth Both = None

abbrev pub value_in : List (List ℕ) → List Value → List ℕ → Option Bool
value_in names values name = option_map_or (λ i. truth (get_or values i Both)) (position (bytes_eq name) names) (Some false)

-- names are told apart by their last components, and an operator is none
abbrev pub settings_of : Known → Settings
settings_of known = record { both = known.both; value = λ name. cond (is_among operators name) None (value_in known.names known.values (last_component name)) }

-- a value, and another declaration of its name
abbrev pub again : Value → Bool → Value
again (Own true) false = Both
again (Own false) true = Both
again value b = value

-- a name that isn't there is added
abbrev pub appended : Known → List ℕ → Value → Known
appended known name value = record known { names = with_name known.names name; values = known.values ++ (value ∷ []) }

-- a declaration of a name is noted
abbrev pub noted : Known → List ℕ × Bool → Known
noted known (name, b) =
    option_map_or (λ i. record known { values = set known.values i (again (get_or known.values i Both) b) }) (position (bytes_eq name) known.names)
    (appended known name (Own b))

-- the value of a name is set
abbrev pub with_value : Known → List ℕ → Bool → Known
with_value known name b =
    option_map_or (λ i. record known { values = set known.values i (Set b) }) (position (bytes_eq name) known.names)
    (appended known name (Set b))

-- the value that the first word of a branch is, where there are lists behind it, one at least, and nothing else
abbrev pub branch_value : Trees → Option Bool
branch_value (a_word place word (a_list at end items rest)) = cond (are_lists rest) (truth_word word) None
branch_value items = None

-- whether two values are there, and differ
abbrev pub differ : Option Bool → Option Bool → Bool
differ (Some x) (Some y) = not (beq x y)
differ x y = false

-- whether trees are the branches of a conditional statement: one, or one for each value
abbrev pub are_branches : Trees → Bool
are_branches (a_list at end items none) = is_some (branch_value items)
are_branches (a_list at end items (a_list place behind others none)) = differ (branch_value items) (branch_value others)
are_branches trees = false

-- what stands behind the first word of the first branch for a value
abbrev pub branch_for : Bool → Trees → Option Trees
branch_for holds none = None
branch_for holds (a_word at word rest) = branch_for holds rest
branch_for holds (a_string at text rest) = branch_for holds rest
branch_for holds (a_list at end (a_word place branch inner) rest) =
    cond (bytes_eq branch (cond holds (codes "true") (codes "false"))) (Some inner) (branch_for holds rest)
branch_for holds (a_list at end items rest) = branch_for holds rest

-- the declaration of a boolean or a tunable that a list of these trees is
abbrev pub declaration : Trees → List (List ℕ × Bool)
declaration (a_word at keyword (a_word place name (a_word spot value none))) =
    cond (is_among (codes "boolean" ∷ codes "tunable" ∷ []) keyword) (option_map_or (λ b. (name, b) ∷ []) (truth_word value) []) []
declaration items = []

abbrev mutual
  -- the declarations of booleans and tunables in trees, in blocks, optionals and the branches of `tunableif` too
  pub declarations : Trees → List (List ℕ × Bool)
  declarations none = []
  declarations (a_word at word rest) = declarations rest
  declarations (a_string at text rest) = declarations rest
  declarations (a_list at end items rest) = declared_by items ++ declarations rest

  -- those of the statement that a list of these trees is
  pub declared_by : Trees → List (List ℕ × Bool)
  declared_by none = []
  declared_by (a_word place word arguments) =
      cond (is_among containers word) (declared_inside arguments)
      (cond (bytes_eq word (codes "tunableif")) (declared_behind_condition arguments) (declaration (a_word place word arguments)))
  declared_by (a_string place text rest) = []
  declared_by (a_list place end items rest) = []

  -- those of statements behind a word: behind the name of a block or an optional, or the value of a branch
  pub declared_inside : Trees → List (List ℕ × Bool)
  declared_inside none = []
  declared_inside (a_word place word inner) = declarations inner
  declared_inside (a_string place text rest) = []
  declared_inside (a_list place end items rest) = []

  -- those of the branches behind a condition
  pub declared_behind_condition : Trees → List (List ℕ × Bool)
  declared_behind_condition none = []
  declared_behind_condition (a_word at word branches) = declared_in_branches branches
  declared_behind_condition (a_string at text branches) = declared_in_branches branches
  declared_behind_condition (a_list at end items branches) = declared_in_branches branches

  pub declared_in_branches : Trees → List (List ℕ × Bool)
  declared_in_branches none = []
  declared_in_branches (a_word at word rest) = declared_in_branches rest
  declared_in_branches (a_string at text rest) = declared_in_branches rest
  declared_in_branches (a_list at end items rest) = declared_inside items ++ declared_in_branches rest

-- declarations are noted one after the other
abbrev pub noted_all : Known → List (List ℕ × Bool) → Known
noted_all known list = fold noted known list

abbrev pub Collects : List ℕ → Known → Known → Type 0
Collects text before after = (trees : Trees) × Reads text trees × (after ≡ noted_all before (declarations trees))
