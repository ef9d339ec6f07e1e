-- The faults of a text.
use Rattle.std.specs.Prelude.{◌≡◌, ℕ, ◌<◌, ◌≤◌, ◌⊎◌, List}
use Rattle.cil_specs.specs.Place.{Place}

pub data TextFaultKind : Type 0 where
  bad_byte : TextFaultKind
  unbalanced : TextFaultKind
  unclosed : TextFaultKind
  unclosed_string : TextFaultKind
  too_deep : TextFaultKind
  bare_word : TextFaultKind
  unsupported : TextFaultKind
  misshapen : TextFaultKind
  bad_name : TextFaultKind
  reserved : TextFaultKind
  not_in_optional : TextFaultKind

-- the code in a reply
abbrev pub code_of : TextFaultKind → ℕ
code_of bad_byte = 10
code_of unbalanced = 11
code_of unclosed = 12
code_of unclosed_string = 13
code_of too_deep = 14
code_of bare_word = 15
code_of unsupported = 20
code_of misshapen = 21
code_of bad_name = 22
code_of reserved = 23
code_of not_in_optional = 24

-- what is wrong, where, and the word that a reply shows
pub record TextFault : Type 0 where
  pub kind : TextFaultKind
  pub at : Place
  pub word : List ℕ

-- the one stands at a lesser offset, or at the same offset with no greater code
abbrev pub IsNoLater : TextFault → TextFault → Type 0
IsNoLater f g = (f.at.offset < g.at.offset) ⊎ ((f.at.offset ≡ g.at.offset) × (code_of f.kind ≤ code_of g.kind))
