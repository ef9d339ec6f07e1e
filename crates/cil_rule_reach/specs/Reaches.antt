-- What the rules of a policy reach, by symbols.
use Rattle.std.specs.Prelude.{◌==◌, ◌&&◌, ℕ, Bool, List, nat_lt, slice_index}
use Rattle.std.specs.List.{list_any}
use Rattle.cil_expression.specs.declared.expression.Element.{Element}
use Rattle.cil_expression.specs.declared.expression.Element.TheVariants.{«Type», Attribute}
use Rattle.cil_keyed_lines.specs.Keyed.{is_kind}
use Rattle.cil_keyed_lines.specs.declared.symbol_key.SymbolKey.{SymbolKey}
use Rattle.cil_recorded.specs.Recorded.{State}
use Rattle.cil_member_rows.specs.Rows.{count_before, count_now}
use Rattle.cil_resolve.specs.Numbers.{given_in}
use Rattle.cil_resolve.specs.declared.numbered.NumberedRule.{NumberedRule}
use Rattle.cil_resolve.specs.declared.numbered.ResolvedTarget.{ResolvedTarget}
use Rattle.cil_resolve.specs.declared.numbered.ResolvedTarget.TheVariants as aims
use Rattle.cil_resolve.specs.declared.set_permissions.ClassPermission.{ClassPermission}
use Rattle.cil_rule_shifts.specs.declared.permit.Permit.{Permit}
use Rattle.cil_rule_reach.specs.declared.symbol_members.SymbolMembers.{SymbolMembers}
use Rattle.cil_rule_reach.specs.declared.symbol_members.When.{When}
use Rattle.cil_rule_reach.specs.declared.symbol_members.When.TheVariants.{Before, Now}

-- how many set statements of an attribute hold a type, before the steps or now, by symbols
abbrev pub members_at : When → State → ℕ → ℕ → ℕ
members_at Before rows = count_before rows
members_at Now rows = count_now rows

abbrev pub members_of : {A : Type 0} → SymbolMembers A → ℕ → ℕ → ℕ
members_of members = members_at members.when members.rows.now

-- whether an element holds a type: it is that type, or the type is a member of that attribute
abbrev pub has_by : (ℕ → ℕ → ℕ) → List ℕ → Element → ℕ → Bool
has_by members symbols («Type» n) t = slice_index symbols n == t
has_by members symbols (Attribute a) t = nat_lt 0 (members (slice_index symbols a) t)

-- whether a target takes in a type where the other is the source
abbrev pub aims_by : (ℕ → ℕ → ℕ) → List ℕ → ResolvedTarget → ℕ → ℕ → Bool
aims_by members symbols aims.Itself s t = s == t
aims_by members symbols (aims.Element element) s t = has_by members symbols element t

-- a permission of a class by their symbols
abbrev pub permit_by : List ℕ → ClassPermission → Permit
permit_by symbols g = record { class = slice_index symbols g.class; permission = slice_index symbols g.permission }

-- whether a rule permits a permission of a class
abbrev pub permits_by : {A : Type 0} → List ℕ → NumberedRule A → ℕ → ℕ → Bool
permits_by symbols rule class permission = list_any (λ g. (slice_index symbols g.class == class) && (slice_index symbols g.permission == permission)) (given_in rule.permissions)

-- whether it reaches a target from a source
abbrev pub reaches_by : {A : Type 0} → (ℕ → ℕ → ℕ) → List ℕ → NumberedRule A → ℕ → ℕ → Bool
reaches_by members symbols rule s t = has_by members symbols rule.source s && aims_by members symbols rule.target s t

-- whether a rule gives an access, by its kind and the symbols of its names
unfoldable pub covers_by : {A : Type 0} → (ℕ → ℕ → ℕ) → List ℕ → NumberedRule A → SymbolKey → ℕ → Bool
covers_by members symbols rule key t = is_kind rule.kind key.kind
    && (reaches_by members symbols rule key.source t && permits_by symbols rule key.class key.permission)
