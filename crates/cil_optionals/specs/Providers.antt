-- What the nodes of names need.
use Rattle.std.specs.Prelude.{◌≡◌, ◌⊎◌, ◌<◌, ◌^◌, ℕ, ◌+◌, Bool, true, List, [], ◌∷◌, length, slice_get, is_some, Option, Some, None, IsTrue}
use Rattle.std.specs.List.{list_all}
use Rattle.std.specs.Option.{option_to_list}
use Rattle.cil_specs.specs.Joined.{Placed}
use Rattle.cil_specs.specs.Lookup.{Table, scopes, declared_in, outward}
use Rattle.cil_specs.specs.Kept.{Optionals, AreApart}
use Rattle.cil_bind.specs.Policy.{IsBoundTo}
use Rattle.cil_bind.specs.declared.rows.Row.{Row}
use Rattle.cil_bind.specs.declared.joined.NamedModule.{NamedModule}
use Rattle.cil_bind.specs.declared.policy.Policy.{Policy}
use Rattle.cil_needs.specs.Needs.{are_met, is_need_below}
use Rattle.cil_bind.specs.Nested.{AreNested}
use Rattle.cil_optionals.specs.Nodes.{declared_table, declared_text, AreNodesOf}
use Rattle.cil_needs.specs.declared.greatest.Need.{Need}

-- The policy is bound to the statements of the joined policy, its rows have the numbers of their optionals, and places have 32 bits.
pub record IsReady {A : Type 0} (p : Policy A) (parsed : List (NamedModule A)) (policy : List Placed) : Type 0 where
  pub bound : IsBoundTo p parsed policy
  pub nested : AreNested p.rows.items policy
  pub apart : AreApart policy
  pub few : length p.rows.items < 2 ^ 32

-- where a plain name leads from the namespace around one
abbrev pub further_out : List Placed → Table → List (List ℕ) → List ℕ → Option Placed
further_out policy table [] name = None
further_out policy table (inner ∷ outer) name = outward policy table outer name

-- the node of the name that the statement of a place declares, where the policy has so many statements
abbrev pub node_of_name : ℕ → Option ℕ → Option ℕ
node_of_name count None = None
node_of_name count (Some q) = Some (count + 1 + q)

-- a first node, and that of a declaration, if there is one
abbrev pub alternatives : ℕ → ℕ → Option ℕ → List ℕ
alternatives count first next = first ∷ option_to_list (node_of_name count next)

-- a statement declares a name that isn't that of a block or an optional
pub record IsDeclaration (s : Placed) : Type 0 where
  pub some : IsTrue (is_some (declared_in (declared_table s.form) s.form))
  pub other : declared_table s.form ≡ scopes → ⊥

-- The name that a statement declares is provided: by it, in an optional that is there, or by what the name leads to further out.
pub record IsFurther (policy : List Placed) (has : ℕ → Bool) (s : Placed) : Type 0 where
  pub place : ℕ
  pub found : Placed
  pub at : slice_get policy place ≡ Some found
  pub further : further_out policy (declared_table s.form) s.namespace (declared_text s.form) ≡ Some found
  pub there : has (length policy + 1 + place) ≡ true

abbrev pub IsProvidedBy : List Placed → (ℕ → Bool) → Row → Placed → Type 0
IsProvidedBy policy has row s = (has row.optional ≡ true) ⊎ IsFurther policy has s

-- the needs are met by what a set provides, and where they are met, each of the first declarations is provided
pub record AreProviders (policy : List Placed) (rows : List Row) (n : ℕ) (needs : List Need) : Type 0 where
  pub below : list_all (is_need_below (length policy + length policy + 1)) needs ≡ true
  pub met : (set : Optionals) (has : ℕ → Bool) → AreNodesOf policy set has → are_met has needs ≡ true
  pub each : (has : ℕ → Bool) → are_met has needs ≡ true → has 0 ≡ true → (p : ℕ) (row : Row) (s : Placed) → p < n → slice_get rows p ≡ Some row → slice_get policy p ≡ Some s
      → IsDeclaration s → has (length policy + 1 + p) ≡ true → IsProvidedBy policy has row s
