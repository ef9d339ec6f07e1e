-- What the statements in optionals need, and the optionals inside others.
use Rattle.std.specs.Prelude.{◌≡◌, ◌<◌, ◌↔◌, ℕ, suc, Some, ◌+◌, Bool, true, ◌&&◌, nat_lt, List, [], ◌++◌, length, slice_get, Contains, IsTrue}
use Rattle.std.specs.List.{list_all}
use Rattle.cil_specs.specs.Statements.{is_optional}
use Rattle.cil_specs.specs.Joined.{Placed}
use Rattle.cil_specs.specs.PolicyFault.{missing_words}
use Rattle.cil_specs.specs.Kept.{Optionals, is_within, restricted}
use Rattle.cil_bind.specs.declared.rows.Row.{Row}
use Rattle.cil_needs.specs.Needs.{are_met, meeting}
use Rattle.cil_optionals.specs.Nodes.{AreNodesOf}
use Rattle.cil_optionals.specs.Providers.{AreProviders}
use Rattle.cil_needs.specs.declared.greatest.Need.{Need}

-- whether a need is that of an optional of a policy of so many statements, and the nodes are those of the policy
abbrev pub is_need_within : ℕ → Need → Bool
is_need_within count need = nat_lt 0 need.optional && (nat_lt need.optional (count + 1) && list_all (λ n. nat_lt n (count + count + 1)) (meeting need))

-- Each statement in optionals all of which are in a set has its names found.
abbrev pub AreFoundWithin : List Placed → Optionals → Type 0
AreFoundWithin policy set = (s : Placed) → Contains policy s → (s.optionals ≡ [] → ⊥) → IsTrue (is_within set s) → missing_words (restricted set policy) s ≡ []

-- The needs are met by what a set has where the statements within it have their names found, and where they are met, an optional that is
-- there stands in none that isn't.
pub record AreOthers (policy : List Placed) (rows : List Row) (needs : List Need) : Type 0 where
  pub below : list_all (is_need_within (length policy)) needs ≡ true
  pub inside : (has : ℕ → Bool) → are_met has needs ≡ true → has 0 ≡ true → (k : ℕ) (row : Row) (s : Placed) → slice_get rows k ≡ Some row → slice_get policy k ≡ Some s → IsTrue (is_optional s.form)
      → has (suc k) ≡ true → has row.optional ≡ true
  pub found : (set : Optionals) (has : ℕ → Bool) → AreNodesOf policy set has → (are_met has needs ≡ true) ↔ AreFoundWithin policy set

-- an optional has a need that nothing meets
pub record HasUnmet (needs : List Need) (optional : ℕ) : Type 0 where
  pub place : ℕ
  pub need : Need
  pub at : slice_get needs place ≡ Some need
  pub optional_is : need.optional ≡ optional
  pub none : meeting need ≡ []

-- so many rows are gone over for what their statements need, and so many for what their optionals do
pub record AreOthersTo (policy : List Placed) (rows : List Row) (n m : ℕ) (needs : List Need) : Type 0 where
  pub below : list_all (is_need_within (length policy)) needs ≡ true
  pub inside : (has : ℕ → Bool) → are_met has needs ≡ true → has 0 ≡ true → (k : ℕ) (row : Row) (s : Placed) → k < m → slice_get rows k ≡ Some row → slice_get policy k ≡ Some s → IsTrue (is_optional s.form)
      → has (suc k) ≡ true → has row.optional ≡ true
  pub found : (set : Optionals) (has : ℕ → Bool) → AreNodesOf policy set has → (are_met has needs ≡ true)
      ↔ ((i : ℕ) (s : Placed) → i < n → slice_get policy i ≡ Some s → (s.optionals ≡ [] → ⊥) → is_within set s ≡ true → missing_words (restricted set policy) s ≡ [])

-- the needs are those of names, and behind them those of statements and optionals
pub record AreNeeds (policy : List Placed) (rows : List Row) (needs : List Need) : Type 0 where
  pub providers : List Need
  pub others : List Need
  pub are : needs ≡ providers ++ others
  pub providers_are : AreProviders policy rows (length policy) providers
  pub others_are : AreOthers policy rows others
