-- How many set statements make a type a member of an attribute.
use Rattle.std.specs.Prelude.{ℕ, Bool, ◌&&◌, List, bytes_eq, cond, count_by}
use Rattle.cil_specs.specs.Meaning.{Meaning, is_in}
use Rattle.cil_specs.specs.Rule.{SetStatement}

-- whether a set statement is of the attribute, and its expression holds the type
abbrev pub gives_member : Meaning → List ℕ → List ℕ → SetStatement → Bool
gives_member meaning a t s = bytes_eq a s.attribute && is_in meaning s.expr t

-- how many of these do
abbrev pub gives_count : Meaning → List ℕ → List ℕ → List SetStatement → ℕ
gives_count meaning a t sets = count_by (gives_member meaning a t) sets

-- 1 or 0
abbrev pub one_if : Bool → ℕ
one_if b = cond b 1 0
