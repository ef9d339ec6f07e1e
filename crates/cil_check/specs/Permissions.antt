-- Permissions by numbers.
use Rattle.std.specs.Prelude.{◌≡◌, ℕ, ◌<◌, ◌==◌, ◌&&◌, Bool, true, false, List, map, length, slice_get, Some}
use Rattle.std.specs.List.{list_any}
use Rattle.cil_specs.specs.Joined.{Placed}
use Rattle.cil_specs.specs.Lookup.{has_name, texts, distinct, own_permissions}
use Rattle.cil_parse.specs.declared.row.StatementKind.{StatementKind}
use Rattle.cil_parse.specs.declared.row.StatementKind.TheVariants as statements
use Rattle.cil_bind.specs.Lookup.{word_at}
use Rattle.cil_check.specs.declared.permissions.Listed.{Listed}

-- whether this is the permission of a number, listed by the class or the common of a place
abbrev pub is_listed : ℕ → ℕ → Listed → Bool
is_listed owner word listed = owner == listed.owner && word == listed.word

-- Of the statements of a policy, each lists the permissions that the keys have.
abbrev pub HaveListed : List (List ℕ) → List Placed → List Listed → Type 0
HaveListed names policy keys = (i : ℕ) (s : Placed) → slice_get policy i ≡ Some s → (n : ℕ) → n < length names → list_any (is_listed i n) keys ≡ has_name (texts (own_permissions s.form)) (word_at names n)

-- Each of some statements has the list of the numbers of the permissions that it lists, each once.
abbrev pub HaveWords : List (List ℕ) → List Placed → List (List ℕ) → Type 0
HaveWords names statements lists = map (map (slice_get names)) lists ≡ map (λ s. map Some (distinct (texts (own_permissions s.form)))) statements

-- whether statements of a kind list permissions of their own
abbrev pub lists_own : StatementKind → Bool
lists_own statements.Common = true
lists_own statements.Class = true
lists_own _ = false
