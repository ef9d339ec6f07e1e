-- The types that elements hold, by symbols and by the numbers of their names.
use Rattle.std.specs.Prelude.{◌≡◌, ◌&&◌, ◌^◌, ◌≤◌, ℕ, Bool, IsTrue, false, List, length, slice_index}
use Rattle.cil_expression.specs.declared.expression.Element.{Element}
use Rattle.cil_member_rows.specs.Rows.{count_now}
use Rattle.cil_resolve.specs.Below.{is_element_below}
use Rattle.cil_rule_reach.specs.Reaches.{has_by}
use Rattle.cil_violations.specs.declared.members.Members.{Members}

-- for each number of a name its symbol
abbrev pub symbols_in : {A : Type 0} → Members A → List ℕ
symbols_in members = members.numbering.now.symbols

-- whether an element is of a name of the policy
abbrev pub is_known : {A : Type 0} → Members A → Element → Bool
is_known members element = is_element_below (length (symbols_in members)) element

-- whether an element holds a type, by the symbol of that type
abbrev pub holds_symbol : {A : Type 0} → Members A → Element → ℕ → Bool
holds_symbol members element t = has_by (count_now members.rows.now) (symbols_in members) element t

-- whether two elements hold it
abbrev pub both_hold : {A : Type 0} → Members A → Element → Element → ℕ → Bool
both_hold members first second t = holds_symbol members first t && holds_symbol members second t

-- whether an element holds a type, by the number of its name
abbrev pub is_held_in : {A : Type 0} → Members A → Element → ℕ → Bool
is_held_in members element ty = holds_symbol members element (slice_index (symbols_in members) ty)

-- whether two elements hold it
abbrev pub are_both_held : {A : Type 0} → Members A → Element → Element → ℕ → Bool
are_both_held members first second ty = is_held_in members first ty && is_held_in members second ty

-- the symbols of types that elements hold fit in a word
abbrev pub AreShort : {A : Type 0} → Members A → Type 0
AreShort members =
    (element : Element) (t : ℕ) → IsTrue (is_known members element) → 2 ^ 64 ≤ t
    → holds_symbol members element t ≡ false
