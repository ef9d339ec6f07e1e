-- The numbers of permissions that are known, while statements are lowered.
use Rattle.std.specs.Prelude.{◌≡◌, ℕ, ◌==◌, List, [], ◌∷◌, map, slice_get, slice_index_or, Option, Some, None, IsTrue, if◌then◌else◌}
use Rattle.std.specs.List.{list_all}
use Rattle.cil_specs.specs.Joined.{Placed}
use Rattle.cil_specs.specs.Lookup.{has_name}
use Rattle.std.specs.Rc.{rc_value}
use Rattle.std.specs.Option.{option_and_then}
use Rattle.cil_parse.specs.Lexicon.{AreNumbersOf}
use Rattle.cil_parse.specs.Parsed.{names_of, permission_lists_of}
use Rattle.cil_parse.specs.declared.parsed.ParsedModule.{ParsedModule}
use Rattle.cil_check.specs.declared.bound.Seen.{Seen}
use Rattle.cil_specs.specs.Names.{Word}
use Rattle.cil_specs.specs.Expr.{WordExpr}
use Rattle.cil_specs.specs.Rule.{class_name}
use Rattle.cil_resolve.specs.Lowering.{AddsRule, ArePermissions, AreRules, IsIn, IsLowering, IsRuleOfClass, NamesPermissions, modules_of, rule_if}
use Rattle.cil_resolve.specs.declared.numbered.NumberedPermissions.{NumberedPermissions}
use Rattle.cil_resolve.specs.declared.numbered.NumberedRule.{NumberedRule}
use Rattle.cil_bind.specs.declared.joined.Joined.{Joined}
use Rattle.cil_resolve.specs.Numbering.{AreNumbersIn, listed_names}
use Rattle.cil_resolve.specs.declared.known_permissions.KnownPermissions.{KnownPermissions}
use Rattle.cil_resolve.specs.declared.lowering.Lowering.{Lowering}

-- the numbers that are known of a module's list
abbrev pub known_at : {A : Type 0} → KnownPermissions A → ℕ → ℕ → Option (List ℕ)
known_at k m n = if k.«module» == m then option_and_then (λ lists. slice_get (rc_value {X = List (List ℕ) × List ℕ} lists).0 n) k.lists else None

-- the lists of permissions of a module
abbrev pub lists_of : {A : Type 0} → Joined A → ℕ → List (List (List ℕ))
lists_of joined m = slice_index_or (map (λ d. permission_lists_of d.«module».now) joined.modules.items) m []

-- a list of permissions of a module
abbrev pub list_at : {A : Type 0} → Joined A → ℕ → ℕ → List (List ℕ)
list_at joined m n = slice_index_or (lists_of joined m) n []

-- Permissions that statements list have these numbers.
abbrev pub HaveNumbers : List (List ℕ) → List Placed → List (List ℕ) → List ℕ → Type 0
HaveNumbers names policy some numbers = IsTrue (list_all (has_name (listed_names policy)) some) → AreNumbersIn names some numbers

-- the numbers are those of the permissions of a module's list, whose names have these numbers
abbrev pub AreListNumbers : {A : Type 0} → Lowering A → ParsedModule A → List ℕ → ℕ → List ℕ → Type 0
AreListNumbers l m words n numbers = (policy : List Placed) → IsLowering l policy → AreNumbersOf l.checker.now.bound.policy.now.names words (names_of m)
    → HaveNumbers l.numbering.now.names.items policy (slice_index_or (permission_lists_of m) n []) numbers

-- what is known are the numbers of the lists
abbrev pub KnowNumbers : {A : Type 0} → Lowering A → KnownPermissions A → List Placed → Type 0
KnowNumbers l known policy = (m n : ℕ) (numbers : List ℕ) → known_at known m n ≡ Some numbers
    → HaveNumbers l.numbering.now.names.items policy (list_at l.checker.now.bound.joined.now m n) numbers

-- What is known stays right.
abbrev pub StayKnown : {A : Type 0} → Lowering A → KnownPermissions A → KnownPermissions A → Type 0
StayKnown l before after = (policy : List Placed) → IsLowering l policy → KnowNumbers l before policy → KnowNumbers l after policy

-- the statement that is seen stands at this place, and names permissions of the class that this reference of it leads to
abbrev pub NamesAt : {A : Type 0} → Lowering A → Seen A → ℕ → ℕ → Type 0
NamesAt l seen i k = (policy : List Placed) × (s : Placed) × (the_class : Word) × (permissions : WordExpr) × IsIn l seen policy s × (slice_get policy i ≡ Some s) × NamesPermissions s.form k the_class permissions

-- these are what it permits
abbrev pub PermitsAt : {A : Type 0} → Lowering A → Seen A → KnownPermissions A → ℕ → ℕ → NumberedPermissions A → Type 0
PermitsAt l seen known i k p = (policy : List Placed) (s : Placed) (the_class : Word) (permissions : WordExpr) → IsIn l seen policy s → slice_get policy i ≡ Some s → KnowNumbers l known policy
    → NamesPermissions s.form k the_class permissions → ArePermissions l.numbering.now.names.items policy (class_name policy s.namespace the_class) permissions p

-- the rule is that of this place, which is one of a class
abbrev pub IsRuleAt : {A : Type 0} → Lowering A → KnownPermissions A → ℕ → NumberedRule A → Type 0
IsRuleAt l known i r = (policy : List Placed) (s : Placed) → IsLowering l policy → slice_get policy i ≡ Some s → IsRuleOfClass s.form → KnowNumbers l known policy
    → AreRules (modules_of l.checker.now.bound.joined.now) l.numbering.now.names.items policy (r ∷ []) (rule_if policy s)

-- behind some rules stands that of this place
abbrev pub AddsRuleAt : {A : Type 0} → Lowering A → KnownPermissions A → ℕ → List (NumberedRule A) → List (NumberedRule A) → Type 0
AddsRuleAt l known i before after = (policy : List Placed) (s : Placed) → IsLowering l policy → slice_get policy i ≡ Some s → IsRuleOfClass s.form → KnowNumbers l known policy
    → AddsRule (modules_of l.checker.now.bound.joined.now) l.numbering.now.names.items policy s before after
