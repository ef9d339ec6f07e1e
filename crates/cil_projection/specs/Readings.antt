-- Which statements of a text stand in its projection as they are, and the trees that the projection spells.
use Rattle.std.specs.Prelude.{◌≡◌, ◌≢◌, ℕ, ◌+◌, ◌⊎◌, max, Bool, true, false, cond, List, [], ◌∷◌, length, codes, bytes_eq, Option, Some, None, IsTrue}
use Rattle.std.specs.Option.{option_map_or}
use Rattle.cil_specs.specs.Place.{Place}
use Rattle.cil_specs.specs.Trees.{Trees, Reads, none, a_word, a_string, a_list}
use Rattle.cil_specs.specs.Shape.{is_among}
use Rattle.cil_projection.specs.declared.table.Table.TheVariants.{Tunables}
use Rattle.cil_projection.specs.Pieces.{Piece, copied, declared, needed, a_class, a_permission_set, opened, permission, attribute_of, rendered}
use Rattle.cil_projection.specs.Forms.{name_or_operator, names_in}
use Rattle.cil_projection.specs.Conditions.{Settings, containers, list_value}
use Rattle.cil_projection.specs.Statements.{behind_first, condition_value, is_taken, projected, rules, statement, value_for}

-- the value of the condition of a `tunableif` with these arguments, where it has one and these are its branches
abbrev pub tunable_value : Settings → Trees → Option Bool
tunable_value settings none = None
tunable_value settings (a_word at word branches) = value_for (settings.value word) branches
tunable_value settings (a_string at text branches) = None
tunable_value settings (a_list at end items branches) = value_for (list_value settings.value items) branches

-- Trees are the last of others.
pub data AreLastOf : Trees → Trees → Type 0 where
  all_of_them : {trees : Trees} → AreLastOf trees trees
  behind_word : {at : Place} {word : List ℕ} {rest trees : Trees} → AreLastOf (a_word at word rest) trees → AreLastOf rest trees
  behind_string : {at : Place} {text : List ℕ} {rest trees : Trees} → AreLastOf (a_string at text rest) trees → AreLastOf rest trees
  behind_list : {at : Place} {end : ℕ} {items rest trees : Trees} → AreLastOf (a_list at end items rest) trees → AreLastOf rest trees

-- Statements of a text of these trees and this length, from one of them to the last beside it. They are the text's own, or they stand in a
-- block, in an optional or in the branch of a `tunableif` that is taken. The first offset is where the statement before them ends, or else
-- where what they stand in begins. The second is where that ends. What stands between them stays, but not in a branch.
pub data AreStatements (settings : Settings) (trees : Trees) (size : ℕ) : Bool → ℕ → Trees → ℕ → Type 0 where
  top : AreStatements settings trees size true 0 trees size
  past_word : {stays : Bool} {from to : ℕ} {at : Place} {word : List ℕ} {rest : Trees} → AreStatements settings trees size stays from (a_word at word rest) to
      → AreStatements settings trees size stays from rest to
  past_string : {stays : Bool} {from to : ℕ} {at : Place} {text : List ℕ} {rest : Trees} → AreStatements settings trees size stays from (a_string at text rest) to
      → AreStatements settings trees size stays from rest to
  past_list : {stays : Bool} {from to : ℕ} {at : Place} {end : ℕ} {items rest : Trees} → AreStatements settings trees size stays from (a_list at end items rest) to
      → AreStatements settings trees size stays end rest to
  in_body : {stays : Bool} {from to : ℕ} {at place second : Place} {end : ℕ} {word id : List ℕ} {body rest : Trees}
      → AreStatements settings trees size stays from (a_list at end (a_word place word (a_word second id body)) rest) to → is_among containers word ≡ true
      → AreStatements settings trees size true at.offset body end
  in_branch : {stays : Bool} {from to : ℕ} {at place spot position : Place} {end last : ℕ} {word branch : List ℕ} {arguments rest inner more : Trees} {holds : Bool}
      → AreStatements settings trees size stays from (a_list at end (a_word place word arguments) rest) to → bytes_eq word (codes "tunableif") ≡ true
      → tunable_value settings arguments ≡ Some holds → AreLastOf (a_list spot last (a_word position branch inner) more) (behind_first arguments)
      → bytes_eq branch (cond holds (codes "true") (codes "false")) ≡ true → AreStatements settings trees size false at.offset inner end

-- A statement from an offset up to another, with this first word, is not projected and stays as it is. A block or an optional has no name, a
-- `tunableif` has no value or other branches, and any other has no pieces, since it fits no form or is a `booleanif` of that kind.
pub record IsUnprojectedByWord (settings : Settings) (from to : ℕ) (word : List ℕ) (arguments : Trees) : Type 0 where
  pub without_name : is_among containers word ≡ true → (second : Place) (id : List ℕ) (body : Trees) → arguments ≢ a_word second id body
  pub without_value : is_among containers word ≡ false → bytes_eq word (codes "tunableif") ≡ true → tunable_value settings arguments ≡ None
  pub without_form : is_among containers word ≡ false → bytes_eq word (codes "tunableif") ≡ false → statement settings from to word arguments ≡ None

-- The same of a statement of these trees. One that begins with no word is not projected.
abbrev pub IsUnprojected : Settings → ℕ → ℕ → Trees → Type 0
IsUnprojected settings from to none = Unit {0}
IsUnprojected settings from to (a_word place word arguments) = IsUnprojectedByWord settings from to word arguments
IsUnprojected settings from to (a_string place text rest) = Unit {0}
IsUnprojected settings from to (a_list place end items rest) = Unit {0}

-- an access vector rule from an offset up to another is one of these trees
abbrev pub HasRule : ℕ → ℕ → Trees → Type 0
HasRule from to none = ⊥
HasRule from to (a_word at word rest) = HasRule from to rest
HasRule from to (a_string at text rest) = HasRule from to rest
HasRule from to (a_list at end (a_word place word arguments) rest) = (IsTrue (is_among rules word) × (from ≡ at.offset) × (to ≡ end)) ⊎ HasRule from to rest
HasRule from to (a_list at end items rest) = HasRule from to rest

-- it stands in one of the branches that are taken
abbrev pub BranchesHave : Settings → Bool → ℕ → ℕ → Trees → Type 0
BranchesHave settings holds from to none = ⊥
BranchesHave settings holds from to (a_word at word rest) = BranchesHave settings holds from to rest
BranchesHave settings holds from to (a_string at text rest) = BranchesHave settings holds from to rest
BranchesHave settings holds from to (a_list at end (a_word place branch inner) rest) =
    (IsTrue (is_taken settings holds branch) × HasRule from to inner) ⊎ BranchesHave settings holds from to rest
BranchesHave settings holds from to (a_list at end items rest) = BranchesHave settings holds from to rest

module _ (settings : Settings) (trees : Trees) (size : ℕ) where
  -- what stands before a statement or behind the last, where it stays
  abbrev pub IsGap : ℕ → ℕ → Type 0
  IsGap from to = AreStatements settings trees size true from none to
      ⊎ ((place : Place) × (end high : ℕ) × (items rest : Trees) × AreStatements settings trees size true from (a_list place end items rest) high × (to ≡ place.offset))

  -- a statement that is not projected
  abbrev pub IsUnprojectedStatement : ℕ → ℕ → Type 0
  IsUnprojectedStatement from to = (stays : Bool) × (low high : ℕ) × (place : Place) × (items rest : Trees) × AreStatements settings trees size stays low (a_list place to items rest) high
      × (from ≡ place.offset) × IsUnprojected settings from to items

  -- a rule of a branch that is taken, of a conditional statement
  abbrev pub IsKeptRule : ℕ → ℕ → Type 0
  IsKeptRule from to = (stays : Bool) × (low high end : ℕ) × (place at : Place) × (word : List ℕ) × (arguments rest : Trees) × (holds : Bool)
      × AreStatements settings trees size stays low (a_list place end (a_word at word arguments) rest) high × (bytes_eq word (codes "booleanif") ≡ true)
      × (condition_value settings arguments ≡ Some holds) × BranchesHave settings holds from to (behind_first arguments)

  -- Bytes of the text as they are. They stand between statements, or are a statement that is not projected or a rule of a branch that is taken.
  abbrev pub HasSource : Piece → Type 0
  HasSource (copied from to) = IsGap from to ⊎ (IsUnprojectedStatement from to ⊎ IsKeptRule from to)
  HasSource piece = Unit {0}

-- no place
abbrev pub nowhere : Place
nowhere = record { offset = 0; line = 0; column = 0 }

-- trees without their places
abbrev pub without_places : Trees → Trees
without_places none = none
without_places (a_word at word rest) = a_word nowhere word (without_places rest)
without_places (a_string at text rest) = a_string nowhere text (without_places rest)
without_places (a_list at end items rest) = a_list nowhere 0 (without_places items) (without_places rest)

-- trees, and others behind them
abbrev pub followed_by : Trees → Trees → Trees
followed_by none others = others
followed_by (a_word at word rest) others = a_word at word (followed_by rest others)
followed_by (a_string at text rest) others = a_string at text (followed_by rest others)
followed_by (a_list at end items rest) others = a_list at end items (followed_by rest others)

-- a list of trees, and others behind it
abbrev pub plain_list : Trees → Trees → Trees
plain_list items rest = a_list nowhere 0 items rest

-- words, and trees behind them
abbrev pub plain_words : List (List ℕ) → Trees → Trees
plain_words [] rest = rest
plain_words (word ∷ words) rest = a_word nowhere word (plain_words words rest)

-- the permissions that pieces begin with
abbrev pub permissions_of : List Piece → Trees
permissions_of (permission name ∷ pieces) = a_word nowhere name (permissions_of pieces)
permissions_of pieces = none

-- a class and its permissions, behind which is nothing
abbrev pub with_permissions : List ℕ → Trees → Trees
with_permissions name permissions = plain_list (plain_words (name ∷ []) (plain_list permissions none)) none

-- a rule that gives nothing, as its needs stand in it
abbrev pub needing : List (List ℕ) → List ℕ → Trees → Trees → Trees
needing names the_class permissions rest = plain_list (plain_words (codes "dontaudit" ∷ names) (with_permissions the_class permissions)) rest

-- the statements that pieces declare and need names by
abbrev pub made_trees : List Piece → Trees
made_trees [] = none
made_trees (declared table name ∷ pieces) = plain_list (plain_words (codes "typeattribute" ∷ attribute_of table name ∷ []) none) (made_trees pieces)
made_trees (needed table name ∷ pieces) =
    needing (attribute_of table name ∷ codes "cilsem__none" ∷ []) (codes "cilsem__none") none (made_trees pieces)
made_trees (a_class name ∷ pieces) = needing (codes "cilsem__none" ∷ codes "self" ∷ []) name none (made_trees pieces)
made_trees (a_permission_set name ∷ pieces) =
    plain_list (plain_words (codes "dontaudit" ∷ codes "cilsem__none" ∷ codes "self" ∷ name ∷ []) none) (made_trees pieces)
made_trees (opened name ∷ pieces) = needing (codes "cilsem__none" ∷ codes "self" ∷ []) name (permissions_of pieces) (made_trees pieces)
made_trees (piece ∷ pieces) = made_trees pieces

-- the access vector rules among trees
abbrev pub rules_of : Trees → Trees
rules_of none = none
rules_of (a_word at word rest) = rules_of rest
rules_of (a_string at text rest) = rules_of rest
rules_of (a_list at end (a_word place word arguments) rest) =
    cond (is_among rules word) (plain_list (a_word nowhere word (without_places arguments)) (rules_of rest)) (rules_of rest)
rules_of (a_list at end items rest) = rules_of rest

-- those of the branches that are taken
abbrev pub rules_taken : Settings → Bool → Trees → Trees
rules_taken settings holds none = none
rules_taken settings holds (a_word at word rest) = rules_taken settings holds rest
rules_taken settings holds (a_string at text rest) = rules_taken settings holds rest
rules_taken settings holds (a_list at end (a_word place branch inner) rest) =
    cond (is_taken settings holds branch) (followed_by (rules_of inner) (rules_taken settings holds rest)) (rules_taken settings holds rest)
rules_taken settings holds (a_list at end items rest) = rules_taken settings holds rest

-- what stays of a statement with this first word that is taken by its names
abbrev pub stays_of : Settings → List ℕ → Trees → Trees
stays_of settings word arguments = cond (bytes_eq word (codes "booleanif"))
    (option_map_or (λ holds. rules_taken settings holds (behind_first arguments)) (condition_value settings arguments) none) none

-- What a statement becomes: what stays of it, and what its pieces make. One without pieces is not projected, and stays as it is.
abbrev pub or_unprojected : Trees → Trees → Option (List Piece) → Trees
or_unprojected items kept None = plain_list (without_places items) none
or_unprojected items kept (Some pieces) = followed_by kept (made_trees pieces)

abbrev mutual
  -- The trees that these become in the projection, without places. Those that are no lists stay, or they don't.
  pub projected_trees : Settings → Bool → Trees → Trees
  projected_trees settings stays none = none
  projected_trees settings stays (a_word at word rest) = cond stays (a_word nowhere word (projected_trees settings stays rest)) (projected_trees settings stays rest)
  projected_trees settings stays (a_string at text rest) = cond stays (a_string nowhere text (projected_trees settings stays rest)) (projected_trees settings stays rest)
  projected_trees settings stays (a_list at end items rest) = followed_by (one_tree settings at.offset end items) (projected_trees settings stays rest)

  -- those of the statement that a list of these trees is
  pub one_tree : Settings → ℕ → ℕ → Trees → Trees
  one_tree settings from to none = plain_list none none
  one_tree settings from to (a_word place word arguments) =
      cond (is_among containers word) (body_trees settings word arguments)
      (cond (bytes_eq word (codes "tunableif")) (tunable_trees settings word arguments)
      (or_unprojected (a_word place word arguments) (stays_of settings word arguments) (statement settings from to word arguments)))
  one_tree settings from to (a_string place text rest) = plain_list (without_places (a_string place text rest)) none
  one_tree settings from to (a_list place end items rest) = plain_list (without_places (a_list place end items rest)) none

  -- those of a block or an optional with these arguments
  pub body_trees : Settings → List ℕ → Trees → Trees
  body_trees settings word none = plain_list (plain_words (word ∷ []) none) none
  body_trees settings word (a_word place id body) = plain_list (plain_words (word ∷ id ∷ []) (projected_trees settings true body)) none
  body_trees settings word (a_string place text rest) = plain_list (plain_words (word ∷ []) (without_places (a_string place text rest))) none
  body_trees settings word (a_list place end items rest) = plain_list (plain_words (word ∷ []) (without_places (a_list place end items rest))) none

  -- those of a `tunableif` with these arguments
  pub tunable_trees : Settings → List ℕ → Trees → Trees
  tunable_trees settings keyword none = plain_list (plain_words (keyword ∷ []) none) none
  tunable_trees settings keyword (a_word at word branches) =
      option_map_or (λ holds. followed_by (branch_trees settings holds branches) (made_trees (name_or_operator Tunables word)))
      (value_for (settings.value word) branches) (plain_list (plain_words (keyword ∷ []) (without_places (a_word at word branches))) none)
  tunable_trees settings keyword (a_string at text branches) = plain_list (plain_words (keyword ∷ []) (without_places (a_string at text branches))) none
  tunable_trees settings keyword (a_list at end items branches) =
      option_map_or (λ holds. followed_by (branch_trees settings holds branches) (made_trees (names_in Tunables items)))
      (value_for (list_value settings.value items) branches) (plain_list (plain_words (keyword ∷ []) (without_places (a_list at end items branches))) none)

  -- those of the branch for a value
  pub branch_trees : Settings → Bool → Trees → Trees
  branch_trees settings holds none = none
  branch_trees settings holds (a_word at word rest) = branch_trees settings holds rest
  branch_trees settings holds (a_string at text rest) = branch_trees settings holds rest
  branch_trees settings holds (a_list at end items rest) = inner_trees settings holds items (branch_trees settings holds rest)

  -- those of a branch of these trees, where it is for a value, or else others
  pub inner_trees : Settings → Bool → Trees → Trees → Trees
  inner_trees settings holds none others = others
  inner_trees settings holds (a_word place branch inner) others =
      cond (bytes_eq branch (cond holds (codes "true") (codes "false"))) (projected_trees settings false inner) others
  inner_trees settings holds (a_string place text rest) others = others
  inner_trees settings holds (a_list place end items rest) others = others

-- how many lists are open at most
abbrev pub depth : Trees → ℕ
depth none = 0
depth (a_word at word rest) = depth rest
depth (a_string at text rest) = depth rest
depth (a_list at end items rest) = max (depth items + 1) (depth rest)

-- the text's projection is a text that spells the trees of its projection
abbrev pub IsRead : Settings → List ℕ → Trees → Type 0
IsRead settings text trees = (found : Trees) × Reads (rendered text (projected settings true 0 trees (length text))) found
    × (without_places found ≡ projected_trees settings true trees)

-- these trees are a first word and arguments
abbrev pub AreStatement : List ℕ → Trees → Trees → Type 0
AreStatement word arguments none = ⊥
AreStatement word arguments (a_word place first rest) = (word ≡ first) × (arguments ≡ rest)
AreStatement word arguments (a_string place text rest) = ⊥
AreStatement word arguments (a_list place end items rest) = ⊥

abbrev mutual
  -- a list of a first word and arguments is one of trees, or of those in their blocks and optionals
  pub HasStatement : List ℕ → Trees → Trees → Type 0
  HasStatement word arguments none = ⊥
  HasStatement word arguments (a_word at text rest) = HasStatement word arguments rest
  HasStatement word arguments (a_string at text rest) = HasStatement word arguments rest
  HasStatement word arguments (a_list at end items rest) = AreStatement word arguments items ⊎ (BodyHas word arguments items ⊎ HasStatement word arguments rest)

  -- one of those in the block or the optional that a list of these trees is
  pub BodyHas : List ℕ → Trees → Trees → Type 0
  BodyHas word arguments none = ⊥
  BodyHas word arguments (a_word place text rest) = IsTrue (is_among containers text) × NamedBodyHas word arguments rest
  BodyHas word arguments (a_string place text rest) = ⊥
  BodyHas word arguments (a_list place end items rest) = ⊥

  pub NamedBodyHas : List ℕ → Trees → Trees → Type 0
  NamedBodyHas word arguments none = ⊥
  NamedBodyHas word arguments (a_word place id body) = HasStatement word arguments body
  NamedBodyHas word arguments (a_string place text rest) = ⊥
  NamedBodyHas word arguments (a_list place end items rest) = ⊥

-- A statement of a text of these trees and this length is not projected. It has this first word and, but for places, these arguments.
abbrev pub IsUnprojectedInText : Settings → Trees → ℕ → List ℕ → Trees → Type 0
IsUnprojectedInText settings trees size word arguments = (stays : Bool) × (low high end : ℕ) × (at place : Place) × (operands rest : Trees)
    × AreStatements settings trees size stays low (a_list at end (a_word place word operands) rest) high × IsUnprojectedByWord settings at.offset end word operands
    × (arguments ≡ without_places operands)
