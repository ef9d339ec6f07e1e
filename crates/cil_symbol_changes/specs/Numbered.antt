-- Accesses by symbols, by the numbers of their names.
use Rattle.std.specs.Prelude.{◌≡◌, ℕ, ◌<◌, Bool, true, false, List, cond, length, slice_index}
use Rattle.cil_accesses.specs.declared.access.AccessNumbers.{AccessNumbers}
use Rattle.cil_keyed_lines.specs.declared.symbol_key.SymbolKey.{SymbolKey}
use Rattle.cil_text.specs.declared.statement.RuleKind.{RuleKind}
use Rattle.cil_text.specs.declared.statement.RuleKind.TheVariants.{Allow, AuditAllow, DontAudit, NeverAllow}

-- the access of a key and a target, with the numbers at the places of their symbols
abbrev pub access_by : List ℕ → SymbolKey → ℕ → AccessNumbers
access_by numbers key target = record {
  kind = key.kind;
  source = slice_index numbers key.source;
  target = slice_index numbers target;
  class = slice_index numbers key.class;
  permission = slice_index numbers key.permission;
}

-- each of its symbols has a number
pub record IsNumbered (numbers : List ℕ) (key : SymbolKey) (target : ℕ) : Type 0 where
  pub source : key.source < length numbers
  pub among : target < length numbers
  pub the_class : key.class < length numbers
  pub permission : key.permission < length numbers

-- the symbols of each counter that is above 0 have numbers
abbrev pub ArePresentNumbered : List ℕ → (SymbolKey → ℕ → ℕ) → Type 0
ArePresentNumbered numbers counts = (key : SymbolKey) (t : ℕ) → 0 < counts key t → IsNumbered numbers key t

-- an access by numbers whose counter was 0 and is above 0
pub record IsNew (numbers : List ℕ) (was is : SymbolKey → ℕ → ℕ) (a : AccessNumbers) : Type 0 where
  pub key : SymbolKey
  pub target : ℕ
  pub absent : was key target ≡ 0
  pub present : 0 < is key target
  pub same : a ≡ access_by numbers key target

-- an access by numbers whose counter is above 0: it is new where nothing was
abbrev pub IsPresent : List ℕ → (SymbolKey → ℕ → ℕ) → AccessNumbers → Type 0
IsPresent numbers counts = IsNew numbers (λ key t. 0) counts

-- whether a listing has the accesses of a kind
abbrev pub is_listed : RuleKind → Bool
is_listed Allow = true
is_listed AuditAllow = true
is_listed DontAudit = true
is_listed NeverAllow = false

-- the counters of the accesses that a listing has: the others are taken as 0
abbrev pub listed : (SymbolKey → ℕ → ℕ) → SymbolKey → ℕ → ℕ
listed counts key t = cond (is_listed key.kind) (counts key t) 0
