-- What the symbols of names stand for.
use Rattle.std.specs.Prelude.{◌≡◌, ◌<◌, ◌≤◌, ◌^◌, ◌&&◌, ℕ, Bool, List, [], bytes_eq, length, nat_lt, slice_index_or}
use Rattle.std.specs.List.{IsDistinct}
use Rattle.cil_specs.specs.Meaning.{Meaning}
use Rattle.cil_specs.specs.Members.{is_member}
use Rattle.cil_specs.specs.Rule.{Atom}
use Rattle.cil_parse.specs.Lexicon.{AreNumbersOf}
use Rattle.cil_resolve.specs.Resolved.{meaning_in}
use Rattle.cil_resolve.specs.declared.resolved.Resolved.{Resolved}
use Rattle.cil_text.specs.Image.{rule_kind_of}
use Rattle.cil_keyed_lines.specs.declared.symbol_key.SymbolKey.{SymbolKey}

-- the name of a symbol
abbrev pub name_at : List (List ℕ) → ℕ → List ℕ
name_at names symbol = slice_index_or names symbol []

-- whether the symbols of an access are those of names
abbrev pub is_named : List (List ℕ) → SymbolKey → ℕ → Bool
is_named names key t = (nat_lt key.source (length names) && nat_lt t (length names)) && (nat_lt key.class (length names) && nat_lt key.permission (length names))

-- the access whose names have these symbols
abbrev pub atom_of : List (List ℕ) → SymbolKey → ℕ → Atom
atom_of names key t = record {
  kind = rule_kind_of key.kind;
  source = name_at names key.source;
  target = name_at names t;
  the_class = name_at names key.class;
  permission = name_at names key.permission;
}

-- The counters say who is a member of which attribute of a policy. What is no symbol of a name is none.
pub record AreMembersOf (names : List (List ℕ)) (meaning : Meaning) (members : ℕ → ℕ → ℕ) : Type 0 where
  pub are : (a t : ℕ) → a < length names → t < length names → nat_lt 0 (members a t) ≡ is_member meaning (name_at names a) (name_at names t)
  pub no_attribute : (a t : ℕ) → length names ≤ a → members a t ≡ 0
  pub no_type : (a t : ℕ) → length names ≤ t → members a t ≡ 0

-- The counters say so by the symbols of a policy's names, which are their numbers among distinct names.
pub record AreMembersBy {A : Type 0} (r : Resolved A) (symbols : List ℕ) (members : ℕ → ℕ → ℕ) : Type 0 where
  pub names : List (List ℕ)
  pub distinct : IsDistinct bytes_eq names
  pub short : length names < 2 ^ 64
  pub numbers : AreNumbersOf names symbols r.names.items
  pub are : AreMembersOf names (meaning_in r) members
