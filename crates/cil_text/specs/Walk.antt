-- What the walk over trees finds.
use Rattle.std.specs.Prelude.{◌≡◌, ℕ, ◌⊎◌, Bool, true, false, ◌||◌, List, [], ◌∷◌, map, IsTrue, Option, MatchOption, Result, MatchResult}
use Rattle.std.specs.List.{AllByRecursion}
use Rattle.cil_specs.specs.Place.{Place}
use Rattle.cil_specs.specs.TextFault as spec
use Rattle.cil_specs.specs.TextFault.{IsNoLater}
use Rattle.cil_specs.specs.Names.{Word, Role, name_fault}
use Rattle.cil_specs.specs.Trees.{Trees, none, a_list, in_order}
use Rattle.cil_specs.specs.Statements as spec_statements
use Rattle.cil_specs.specs.Statements.{Form, words_of, is_optional, Statements}
use Rattle.cil_specs.specs.Shape.{is_among, outside_optionals, put_word, Fits, IsAllowed, Shapes, IsAtWord, IsGoodWord, IsListFault, IsInnerFault, IsShapeFault}
use Rattle.cil_text.specs.Image.{place_of, kind_of, shown, trees_of, word_of, statement_then}
use Rattle.cil_text.specs.Keyword.{opens, spelling}
use Rattle.cil_text.specs.declared.keyword.Keyword.{Keyword}
use Rattle.cil_reader.specs.declared.word.Word as code
use Rattle.cil_reader.specs.declared.fault.TextFaultKind.TheVariants.{NotInOptional}
use Rattle.cil_reader.specs.declared.fault.ShownWord.TheVariants.{Text}
use Rattle.cil_reader.specs.declared.fault.TextFault.{TextFault}
use Rattle.cil_reader.specs.declared.fault.TextFault.TheVariants.{Memory, Found}
use Rattle.cil_text.specs.declared.statement.Statement.{Statement}
use Rattle.cil_reader.specs.declared.tree.TreeSlice.{TreeSlice}

-- words that stand in places of one role
abbrev pub in_role : Role → List Word → List (Role × Word)
in_role role words = map (λ word. (role, word)) words

-- each word is spelt and free as its place asks
abbrev pub AreGood : List (Role × Word) → Type 0
AreGood words = AllByRecursion IsGoodWord words

-- the fault of the first of the words that is not
abbrev pub IsFirstBad : List (Role × Word) → spec.TextFault → Type 0
IsFirstBad [] fault = ⊥
IsFirstBad ((role, word) ∷ words) fault = MatchOption (name_fault role word.text) (IsFirstBad words fault) (λ kind. IsAtWord fault kind word)

-- the fault is found in the text, and P holds of it
abbrev pub IsFoundAs : (spec.TextFault → Type 0) → TextFault → Type 0
IsFoundAs P Memory = ⊥
IsFoundAs P (Found kind at word) = P (record { kind = kind_of kind; at = place_of at; word = shown word })

-- the words are good, or the error is the fault of the first that is not
abbrev pub Checks : {T : Type 0} → List (Role × Word) → Result T TextFault → Type 0
Checks words result = MatchResult result (λ _. AreGood words) (IsFoundAs (IsFirstBad words))

-- the first word may not stand there; or it may, and this is the fault of the first word that is not as its place asks
abbrev pub IsHeadingFault : Bool → Keyword → code.Word → Form → TextFault → Type 0
IsHeadingFault inside keyword first form fault =
    ((inside ≡ true) × (is_among outside_optionals (spelling keyword) ≡ true) × (fault ≡ Found NotInOptional first.at (Text first.text)))
    ⊎ ((IsTrue inside → is_among outside_optionals (spelling keyword) ≡ false) × IsFoundAs (IsFirstBad (words_of form)) fault)

-- the parts are this word, which is the keyword, and these operands
abbrev pub BeginsAs : Trees → code.Word → Keyword → Trees → Type 0
BeginsAs parts first keyword operands = (parts ≡ put_word (word_of first) operands) × (first.text.now ≡ spelling keyword)

-- the word is this keyword, that of a statement that may hold others
abbrev pub IsOpener : Keyword → code.Word → Type 0
IsOpener keyword first = (opens keyword ≡ true) × (first.text.now ≡ spelling keyword)

-- the word is this keyword, that of a statement that holds no others
abbrev pub IsLeafWord : Keyword → code.Word → Type 0
IsLeafWord keyword first = (opens keyword ≡ false) × (first.text.now ≡ spelling keyword)

-- A list of the parts fits the form, its statement may stand there, and the words that are its own are good. Its inner statements
-- are left.
pub record IsHeading (inside : Bool) (parts : Trees) (form : Form) (inner : Trees) : Type 0 where
  pub fits : Fits parts form inner
  pub allowed : IsAllowed inside parts
  pub good : AreGood (words_of form)

-- such a list, and the statements inside it
pub record IsScope (inside : Bool) (parts : Trees) (form : Form) (body : Statements) : Type 0 where
  pub inner : Trees
  pub heading : IsHeading inside parts form inner
  pub holds : Shapes (inside || is_optional form) inner body

-- a list of the parts spells the statement
pub record IsStatement {A : Type 0} (inside : Bool) (at : Place) (parts : Trees) (s : Statement A) : Type 0 where
  pub form : Form
  pub inner : Trees
  pub body : Statements
  pub is : (more : Statements) → statement_then s more ≡ spec_statements.statement at form body more
  pub fits : Fits parts form inner
  pub allowed : IsAllowed inside parts
  pub good : AreGood (words_of form)
  pub holds : Shapes (inside || is_optional form) inner body

-- a fault of a list of the parts, or of the statements inside it
abbrev pub IsFaultOf : Bool → Place → Trees → spec.TextFault → Type 0
IsFaultOf inside at parts fault = IsListFault inside at parts fault ⊎ IsInnerFault inside parts fault

-- the first of these, where the parts stand in order
pub record IsFirstOf (inside : Bool) (at : Place) (parts : Trees) (fault : spec.TextFault) : Type 0 where
  pub is : IsFaultOf inside at parts fault
  pub first : (low high : ℕ) → IsTrue (in_order low parts high) → (other : spec.TextFault) → IsFaultOf inside at parts other → IsNoLater fault other

-- the first of the shape faults of trees, where these stand in order
pub record IsFirstAmong (inside : Bool) (trees : Trees) (fault : spec.TextFault) : Type 0 where
  pub is : IsShapeFault inside trees fault
  pub first : (low high : ℕ) → IsTrue (in_order low trees high) → (other : spec.TextFault) → IsShapeFault inside trees other → IsNoLater fault other

-- the first of the trees is a list that spells the statement, outside optionals, and these stand behind it
pub record IsInFront {A : Type 0} (trees : Trees) (s : Statement A) (behind : Trees) : Type 0 where
  pub at : Place
  pub end : ℕ
  pub parts : Trees
  pub is : trees ≡ a_list at end parts behind
  pub spelt : IsStatement false at parts s

-- no trees, or the statement that the first of them spells, with those behind it
abbrev pub IsNext : {A : Type 0} → Trees → Option (Statement A × TreeSlice) → Type 0
IsNext trees next = MatchOption next (trees ≡ none) (λ found. IsInFront trees found.0 (trees_of found.1))
