-- The statements that stay when others are left out, and their new places.
use Rattle.std.specs.Prelude.{◌≡◌, ◌≤◌, ◌+◌, ℕ, Bool, false, List, [], ◌∷◌, filter, length, take, drop, slice_get, slice_index_or, Option, None, Some, ◌⊎◌, if◌then◌else◌}
use Rattle.cil_specs.specs.Joined.{Placed}
use Rattle.cil_parse.specs.Parsed.{citations_of, texts_of}
use Rattle.cil_parse.specs.declared.citations.Citation.{Citation}
use Rattle.cil_parse.specs.declared.row.StatementKind.{StatementKind}
use Rattle.cil_bind.specs.Rows.{kinds_told}
use Rattle.cil_bind.specs.Words.{IsLed}
use Rattle.cil_bind.specs.declared.joined.NamedModule.{NamedModule}
use Rattle.cil_bind.specs.declared.moves.Moves.{Moves}
use Rattle.cil_bind.specs.declared.rows.Row.{Row}

-- whether the innermost optional of a row is marked
abbrev pub mark : List Bool → Row → Bool
mark kept row = slice_index_or kept row.optional false

-- the new places of rows, the first of which that stays comes to this place; none of a row that is left out
abbrev pub places_told : List Bool → ℕ → List Row → List (Option ℕ)
places_told kept n [] = []
places_told kept n (row ∷ rows) = if mark kept row then Some n ∷ places_told kept (n + 1) rows else None ∷ places_told kept n rows

-- Of the first rows of all, those that stay come first, with their kinds, and they have these new places; the rows behind are as they were.
pub record AreKeptTo {A : Type 0} (kept : List Bool) (all rows : List Row) (kinds : List StatementKind) (moves : Moves A) (i : ℕ) : Type 0 where
  pub front : take moves.count rows ≡ filter (mark kept) (take i all)
  pub rest : drop i rows ≡ drop i all
  pub behind : moves.count ≤ i
  pub within : i ≤ length all
  pub long : length rows ≡ length all
  pub kinds_are : take moves.count kinds ≡ kinds_told (take moves.count rows)
  pub kinds_long : length kinds ≡ length rows
  pub places_are : moves.places.items ≡ places_told kept 0 (take i all)

-- what is looked up led nowhere and does so still, or it led to a statement that is at this place now
abbrev pub IsMovedTo : List (Option ℕ) → Option ℕ → Option ℕ → Type 0
IsMovedTo places None found = found ≡ None
IsMovedTo places (Some i) found = (p : ℕ) × (slice_index_or places i None ≡ Some p) × (found ≡ Some p)

-- the same of what led somewhere, by its number
abbrev pub IsMoved : List (Option ℕ) → List (Option ℕ) → ℕ → Option ℕ → Type 0
IsMoved places led n found = (lead : Option ℕ) × (slice_get led n ≡ Some lead) × IsMovedTo places lead found

-- what is looked up leads there, or led to a statement that is there now
abbrev pub IsFound : List (List ℕ) → List (List ℕ) → List (List ℕ) → List Placed → List (Option ℕ) → List ℕ → List (Option ℕ) → ℕ → Citation → Option ℕ → Type 0
IsFound names spaces texts policy places from led n c found = IsLed names spaces texts policy c (slice_index_or from n 0) found ⊎ IsMoved places led n found

-- the same of each of what is looked up
abbrev pub AreFound : List (List ℕ) → List (List ℕ) → List (List ℕ) → List Placed → List (Option ℕ) → List Citation → List ℕ → List (Option ℕ) → List (Option ℕ) → Type 0
AreFound names spaces texts policy places citations from led leads = (n : ℕ) (c : Citation) → slice_get citations n ≡ Some c
    → IsFound names spaces texts policy places from led n c (slice_index_or leads n None)

-- the same of each of some modules
abbrev pub AreAllFound : {A : Type 0} → List (List ℕ) → List (List ℕ) → List Placed → List (NamedModule A) → List (Option ℕ) → List (List ℕ) → List (List (Option ℕ)) → List (List (Option ℕ)) → Type 0
AreAllFound {A} names spaces policy parsed places from led leads = (k : ℕ) (m : NamedModule A) → slice_get parsed k ≡ Some m
    → AreFound names spaces (texts_of m.«module».now) policy places (citations_of m.«module».now) (slice_index_or from k []) (slice_index_or led k []) (slice_index_or leads k [])
