-- A policy by symbols, and the counters of its members.
use Rattle.std.specs.Prelude.{◌≡◌, ℕ, List, Contains, bytes_eq, count_by, slice_index}
use Rattle.std.specs.List.{IsDistinct}
use Rattle.cil_parse.specs.Lexicon.{AreNumbersOf}
use Rattle.cil_specs.specs.Expr.{leaves}
use Rattle.cil_specs.specs.Rule.{Element}
use Rattle.cil_recorded.specs.Recorded.{State}
use Rattle.cil_member_rows.specs.Rows.{count_before, count_now}
use Rattle.cil_resolve.specs.Resolved.{meaning_in}
use Rattle.cil_resolve.specs.Sets.{sets_in}
use Rattle.cil_resolve.specs.declared.resolved.Resolved.{Resolved}
use Rattle.cil_member_updates.specs.Counts.{one_if}
use Rattle.cil_member_updates.specs.Places.{set_at}
use Rattle.cil_symbols.specs.Numbered.{Numbered}
use Rattle.cil_member_updates.specs.declared.side.Side.{Side}
use Rattle.cil_member_updates.specs.declared.when.When.{When}
use Rattle.cil_member_updates.specs.declared.when.When.TheVariants.{Before, Now}
use Rattle.cil_member_updates.specs.Bits.{AreBits, Cover}
use Rattle.cil_member_updates.specs.Given.{element_holds, gives, keeps, IsUnchanged}

-- the numbering is that of the policy's names among the symbols
abbrev pub IsNumbering : {A : Type 0} → List (List ℕ) → Resolved A → Numbered → Type 0
IsNumbering symbols r n = AreNumbersOf symbols n.symbols r.names.items

-- the bits tell which symbols are of kept types, in words
abbrev pub AreKept : {A : Type 0} → List (List ℕ) → Resolved A → List ℕ → Type 0
AreKept symbols r words = (w : ℕ) → AreBits (keeps symbols (meaning_in r)) w (slice_index words w)

-- a policy with its numbering among distinct symbols and with its kept types
pub record IsSide {A : Type 0} (symbols : List (List ℕ)) (side : Side A) : Type 0 where
  pub distinct : IsDistinct bytes_eq symbols
  pub numbers : IsNumbering symbols side.resolved.now side.numbering.now
  pub kept : AreKept symbols side.resolved.now side.kept.now

-- the counters before the steps, or now
abbrev pub counts_at : When → State → ℕ → ℕ → ℕ
counts_at Before s = count_before s
counts_at Now s = count_now s

-- Each counter says how many set statements of a policy are of the attribute and hold the type; that is none where a symbol has no
-- name, or the policy not that name.
abbrev pub AreCounts : {A : Type 0} → List (List ℕ) → Resolved A → (ℕ → ℕ → ℕ) → Type 0
AreCounts symbols r counts = (a t : ℕ) → counts a t ≡ count_by (gives symbols (meaning_in r) a t) (sets_in r)

-- 1 where the set statement at a place is and does, and 0 elsewhere
unfoldable pub given : {A : Type 0} → List (List ℕ) → Resolved A → ℕ → ℕ → ℕ → ℕ
given symbols r i a t = one_if (gives symbols (meaning_in r) a t (set_at r i))

-- each name of the expression of the set statement at a place fails where the bit isn't set
abbrev pub CoverNames : {A : Type 0} → List (List ℕ) → Resolved A → ℕ → ℕ → ℕ → Type 0
CoverNames symbols r i word bits = (element : Element) → Contains (leaves (set_at r i).expr) element → Cover (element_holds symbols (meaning_in r) element) word bits

-- each attribute that it mentions has the same members before and now there
abbrev pub AreUnchanged : {A : Type 0} → List (List ℕ) → (before now : ℕ → ℕ → ℕ) → Resolved A → ℕ → ℕ → ℕ → Type 0
AreUnchanged symbols before now r i word bits = (element : Element) → Contains (leaves (set_at r i).expr) element → IsUnchanged symbols before now element word bits
