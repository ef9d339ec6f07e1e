-- The counters of a policy.
use Rattle.std.specs.Prelude.{◌≡◌, ◌+◌, ◌≤◌, ℕ, Bool, false, List, length, max, Option, None, Some, bytes_eq, nat_lt, position, unwrap_or}
use Rattle.cil_specs.specs.Rule.{Atom}
use Rattle.cil_text.specs.Image.{rule_kind_of}
use Rattle.cil_parse.specs.Lexicon.{AreNumbersOf}
use Rattle.cil_text.specs.declared.statement.RuleKind.{RuleKind}
use Rattle.cil_keyed_lines.specs.declared.symbol_key.SymbolKey.{SymbolKey}
use Rattle.cil_member_rows.specs.Rows as member_rows
use Rattle.cil_member_updates.specs.Policy.{AreCounts, AreKept}
use Rattle.cil_resolve.specs.Resolved.{meaning_in}
use Rattle.cil_resolve.specs.declared.resolved.Resolved.{Resolved}
use Rattle.cil_keyed_lines.specs.Keyed as access_tables
use Rattle.cil_table_updates.specs.Policies.{count_named}
use Rattle.cil_counters.specs.declared.counters.Counters.{Counters}
use Rattle.cil_counters.specs.declared.policy_symbols.PolicySymbols.{PolicySymbols}

-- The names of a policy have symbols, and the counters say of each attribute and type how many of its set statements make the one a
-- member of the other, and of each access how many of its rules give it.
pub record IsCounted {A : Type 0} (names : List (List ℕ)) (r : Resolved A) (members : ℕ → ℕ → ℕ) (counts : SymbolKey → ℕ → ℕ) : Type 0 where
  pub symbols : List ℕ
  pub numbers : AreNumbersOf names symbols r.names.items
  pub are_members : AreCounts names r members
  pub are_counts : (key : SymbolKey) (t : ℕ) → counts key t ≡ count_named names (meaning_in r) key t

-- These are the symbols of a policy's names, and of its kept types.
pub record AreSymbolsOf {A B : Type 0} (names : List (List ℕ)) (r : Resolved A) (s : PolicySymbols B) : Type 0 where
  pub numbers : AreNumbersOf names s.numbering.symbols r.names.items
  pub count : s.numbering.count ≤ length names
  pub kept : AreKept names r s.kept

-- those of the policy that steps lead to; where no steps lead to another, of the policy before
abbrev pub symbols_now : {A : Type 0} → Counters A → PolicySymbols A
symbols_now c = unwrap_or c.next c.policy

-- A policy has these symbols and counters.
pub record IsCountedBy {A B : Type 0} (names : List (List ℕ)) (r : Resolved A) (s : PolicySymbols B) (members : ℕ → ℕ → ℕ) (counts : SymbolKey → ℕ → ℕ) : Type 0 where
  pub symbols : AreSymbolsOf names r s
  pub counted : IsCounted names r members counts

-- it has them now, and it had them before the steps
abbrev pub IsNow : {A B : Type 0} → Resolved A → Counters B → Type 0
IsNow r c = IsCountedBy c.names r (symbols_now c) (member_rows.count_now c.rows) (access_tables.count_now c.tables)

abbrev pub WasBefore : {A B : Type 0} → Resolved A → Counters B → Type 0
WasBefore r c = IsCountedBy c.names r c.policy (member_rows.count_before c.rows) (access_tables.count_before c.tables)

-- the names of a policy have symbols
abbrev pub HasNames : {A B : Type 0} → Resolved A → Counters B → Type 0
HasNames r c = (symbols : List ℕ) × AreNumbersOf c.names symbols r.names.items

-- There are no more names with symbols than there were, or than two policies have.
abbrev pub HasFewNames : {A B C : Type 0} → (one other : Resolved A) (before : Counters B) (after : Counters C) → Type 0
HasFewNames one other before after = length after.names ≤ max (length before.names) (length one.names.items + length other.names.items)

-- No counter of an access is above the number of rules of two policies that give it.
abbrev pub AreBounded : {A B C : Type 0} → (one : Resolved A) (other : Resolved B) → Counters C → Type 0
AreBounded one other c = (key : SymbolKey) (t : ℕ)
    → access_tables.count_now c.tables key t ≤ count_named c.names (meaning_in one) key t + count_named c.names (meaning_in other) key t

-- how many steps there are that `undo` would take back
abbrev pub steps_in : {A : Type 0} → Counters A → ℕ
steps_in c = member_rows.steps_in c.rows + access_tables.steps_in c.tables

-- There are no steps: the counters of these symbols are these, now and before.
pub record AreReset {A : Type 0} (symbols : List (List ℕ)) (s : PolicySymbols A) (rows : ℕ → ℕ → ℕ) (counts : SymbolKey → ℕ → ℕ) (c : Counters A) : Type 0 where
  pub none : steps_in c ≡ 0
  pub names : c.names ≡ symbols
  pub policy : c.policy ≡ s
  pub next : c.next ≡ None
  pub members : (a t : ℕ) → member_rows.count_now c.rows a t ≡ rows a t
  pub members_before : (a t : ℕ) → member_rows.count_before c.rows a t ≡ rows a t
  pub accesses : (key : SymbolKey) (t : ℕ) → access_tables.count_now c.tables key t ≡ counts key t
  pub accesses_before : (key : SymbolKey) (t : ℕ) → access_tables.count_before c.tables key t ≡ counts key t

-- they are those of before the steps
abbrev pub AreTakenBack : {A : Type 0} → (old new : Counters A) → Type 0
AreTakenBack old = AreReset old.names old.policy (member_rows.count_before old.rows) (access_tables.count_before old.tables)

-- they stay
abbrev pub AreSettled : {A : Type 0} → (old new : Counters A) → Type 0
AreSettled old = AreReset old.names (symbols_now old) (member_rows.count_now old.rows) (access_tables.count_now old.tables)

-- whether the counter of an attribute and a type is above 0, where both have symbols
abbrev pub has_at : (ℕ → ℕ → ℕ) → Option ℕ → Option ℕ → Bool
has_at members None t = false
has_at members (Some a) None = false
has_at members (Some a) (Some t) = nat_lt 0 (members a t)

abbrev pub has_named : {A : Type 0} → Counters A → List ℕ → List ℕ → Bool
has_named c attribute ty = has_at (member_rows.count_now c.rows) (position (bytes_eq attribute) c.names) (position (bytes_eq ty) c.names)

-- whether it was before the steps
abbrev pub had_named : {A : Type 0} → Counters A → List ℕ → List ℕ → Bool
had_named c attribute ty = has_at (member_rows.count_before c.rows) (position (bytes_eq attribute) c.names) (position (bytes_eq ty) c.names)

-- the counter of an access of a kind, where all its names have symbols; 0 elsewhere
abbrev pub count_at : (SymbolKey → ℕ → ℕ) → RuleKind → Option ℕ → Option ℕ → Option ℕ → Option ℕ → ℕ
count_at counts kind None target class permission = 0
count_at counts kind (Some s) None class permission = 0
count_at counts kind (Some s) (Some t) None permission = 0
count_at counts kind (Some s) (Some t) (Some c) None = 0
count_at counts kind (Some s) (Some t) (Some c) (Some p) = counts (record { kind = kind; source = s; class = c; permission = p }) t

abbrev pub count_with : {A : Type 0} → Counters A → RuleKind → (source target class permission : List ℕ) → ℕ
count_with c kind source target class permission =
    count_at (access_tables.count_now c.tables) kind (position (bytes_eq source) c.names) (position (bytes_eq target) c.names) (position (bytes_eq class) c.names) (position (bytes_eq permission) c.names)

-- the access of these names
abbrev pub atom_with : RuleKind → (source target class permission : List ℕ) → Atom
atom_with kind source target class permission = record { kind = rule_kind_of kind; source = source; target = target; the_class = class; permission = permission }
