-- The attributes of a policy by numbers, in the order of the statements that declare them, and which of them set statements mention.
use Rattle.std.specs.Prelude.{◌≡◌, ◌↔◌, ◌<◌, ℕ, List, length, take, slice_get, slice_index, Option, Some, None, IsTrue, Contains, Vec, if◌then◌else◌}
use Rattle.std.specs.List.{count_by, position}
use Rattle.std.specs.Option.{option_map, option_and_then}
use Rattle.cil_specs.specs.Names.{Word}
use Rattle.cil_specs.specs.Expr.{WordExpr, leaves}
use Rattle.cil_specs.specs.Statements.{attribute_set}
use Rattle.cil_specs.specs.Joined.{Placed}
use Rattle.cil_specs.specs.Lookup.{types, leads, is_same, is_attribute}
use Rattle.cil_dependence.specs.Graph.{IsEdge}
use Rattle.cil_check.specs.declared.attribute_graph.AttributeNumbers.{AttributeNumbers}

-- how many attributes some statements declare
abbrev pub attribute_count : List Placed → ℕ
attribute_count statements = count_by (λ s. is_attribute s.form) statements

-- The statement at a place declares the attribute of a number: so many are declared in front of it.
pub record IsNumbered (policy : List Placed) (n : ℕ) (i : ℕ) (s : Placed) : Type 0 where
  pub at : slice_get policy i ≡ Some s
  pub is : IsTrue (is_attribute s.form)
  pub number : attribute_count (take i policy) ≡ n

-- Of so many first statements of a policy each has the number of attributes that those in front of it declare, and each attribute the
-- place of its statement.
pub record HaveNumbers (policy : List Placed) (n : ℕ) (numbers places : List ℕ) : Type 0 where
  pub long : length numbers ≡ n
  pub numbers_are : (i : ℕ) → i < n → slice_index numbers i ≡ attribute_count (take i policy)
  pub many : length places ≡ attribute_count (take n policy)
  pub places_are : (a : ℕ) → a < length places → (s : Placed) × IsNumbered policy a (slice_index places a) s

-- the same of all statements
abbrev pub AreAttributesOf : {A : Type 0} → AttributeNumbers A → List Placed → Type 0
AreAttributesOf attributes policy = HaveNumbers policy (length policy) attributes.numbers.items attributes.places.items

-- the number of the attribute that a statement declares, if it declares one
abbrev pub number_of : List Placed → Placed → Option ℕ
number_of policy s =
    if is_attribute s.form then option_map (λ i. attribute_count (take i policy)) (position (is_same types s) policy) else None

-- the number of the attribute that a word leads to, if it leads to one
abbrev pub number_led : List Placed → List (List ℕ) → Word → Option ℕ
number_led policy namespace word = option_and_then (number_of policy) (leads policy types namespace word.text)

-- a set statement is of the attribute of one number, and its expression mentions that of another, under whatever operator
pub record Mentions (policy : List Placed) (s : Placed) (a b : ℕ) : Type 0 where
  pub attribute : Word
  pub expr : WordExpr
  pub form : s.form ≡ attribute_set attribute expr
  pub of_attribute : number_led policy s.namespace attribute ≡ Some a
  pub word : Word
  pub mentioned : Contains (leaves expr) word
  pub other : number_led policy s.namespace word ≡ Some b

-- so is one of these statements
pub record AreMentioned (policy statements : List Placed) (a b : ℕ) : Type 0 where
  pub s : Placed
  pub there : Contains statements s
  pub mentions : Mentions policy s a b

-- The nodes of the graph are the attributes of a policy by their numbers. An edge leads from one to another where a set statement of the
-- one mentions the other.
pub record IsGraphOf {A : Type 0} (policy : List Placed) (graph : List (Vec ℕ A)) : Type 0 where
  pub nodes : length graph ≡ attribute_count policy
  pub edges : (a b : ℕ) → IsEdge graph a b ↔ AreMentioned policy policy a b
