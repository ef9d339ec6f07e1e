-- Marks of the rows that changed.
use Rattle.std.specs.Prelude.{◌≡◌, ◌<◌, ℕ, Bool, false, List, length, nat_lt, slice_index_or}
use Rattle.cil_recorded.specs.Recorded.{State}
use Rattle.cil_expression.specs.declared.expression.Element.{Element}
use Rattle.cil_member_rows.specs.Rows.{count_before, count_now}
use Rattle.cil_resolve.specs.declared.numbered.NumberedRule.{NumberedRule}
use Rattle.cil_resolve.specs.declared.numbered.ResolvedTarget.{ResolvedTarget}
use Rattle.cil_rule_reach.specs.Reaches.{aims_by, has_by, reaches_by}

abbrev pub is_marked : List Bool → ℕ → Bool
is_marked marks a = slice_index_or marks a false

-- a row without a mark has the members that it had
abbrev pub MarksWhatChanged : State → List Bool → Type 0
MarksWhatChanged rows marks = (a t : ℕ) → a < length marks → is_marked marks a ≡ false → nat_lt 0 (count_before rows a t) ≡ nat_lt 0 (count_now rows a t)

-- the row of a symbol has the members that it had
abbrev pub StaysRow : State → ℕ → Type 0
StaysRow rows a = (t : ℕ) → nat_lt 0 (count_before rows a t) ≡ nat_lt 0 (count_now rows a t)

-- an element, a target and a rule of a policy, by the symbols of its names, hold, aim at and reach what they did
abbrev pub StaysElement : State → List ℕ → Element → Type 0
StaysElement rows symbols element = (t : ℕ)
    → has_by (count_before rows) symbols element t ≡ has_by (count_now rows) symbols element t

abbrev pub StaysTarget : State → List ℕ → ResolvedTarget → Type 0
StaysTarget rows symbols target = (s t : ℕ)
    → aims_by (count_before rows) symbols target s t ≡ aims_by (count_now rows) symbols target s t

abbrev pub StaysReach : {A : Type 0} → State → List ℕ → NumberedRule A → Type 0
StaysReach rows symbols rule = (s t : ℕ)
    → reaches_by (count_before rows) symbols rule s t ≡ reaches_by (count_now rows) symbols rule s t
