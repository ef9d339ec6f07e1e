-- Two policies by symbols, and how many of their rules give an access.
use Rattle.std.specs.Prelude.{◌≡◌, ◌≤◌, ℕ, IsTrue, List, Contains, cond, length, Some, slice_get}
use Rattle.std.specs.List.{list_all}
use Rattle.cil_specs.specs.Meaning.{Meaning, count_of}
use Rattle.cil_keyed_lines.specs.Keyed.{Keyed, count_now}
use Rattle.cil_resolve.specs.Below.{is_rule_below}
use Rattle.cil_resolve.specs.Consistent.{is_consistent}
use Rattle.cil_resolve.specs.Numbers.{GivesNumbered, keeps_no_list}
use Rattle.cil_resolve.specs.declared.numbered.NumberedRule.{NumberedRule}
use Rattle.cil_parse.specs.Lexicon.{AreNumbersOf}
use Rattle.cil_keyed_lines.specs.declared.symbol_key.SymbolKey.{SymbolKey}
use Rattle.cil_resolve.specs.Resolved.{meaning_in}
use Rattle.cil_rule_reach.specs.Named.{atom_of, is_named, AreMembersOf}
use Rattle.cil_rule_reach.specs.Reaches.{members_of}
use Rattle.cil_table_updates.specs.declared.policy.Named.{Named}
use Rattle.cil_table_updates.specs.declared.policy.Policy.{Policy}

-- how many rules of a policy give the access whose names have these symbols; 0 where one of them is the symbol of no name
abbrev pub count_named : List (List ℕ) → Meaning → SymbolKey → ℕ → ℕ
count_named names meaning key t = cond (is_named names key t) (count_of meaning (atom_of names key t)) 0

-- No two symbols are those of one name.
abbrev pub AreApart : List (List ℕ) → Type 0
AreApart names = (i j : ℕ) (name : List ℕ) → slice_get names i ≡ Some name → slice_get names j ≡ Some name → i ≡ j

-- A policy has the symbols of its names, and the members of its attributes.
pub record IsPolicy {A : Type 0} (names : List (List ℕ)) (p : Policy A) : Type 0 where
  pub numbers : AreNumbersOf names p.numbering.now.symbols p.resolved.now.names.items
  pub members : AreMembersOf names (meaning_in p.resolved.now) (members_of p.members)
  pub symbols : length names ≤ p.members.symbols

-- the counters of lines say how many rules of a policy give each access
abbrev pub AreCountsOf : List (List ℕ) → Meaning → Keyed → Type 0
AreCountsOf names meaning lines = (key : SymbolKey) (t : ℕ) → count_now lines key t ≡ count_named names meaning key t

-- The names of a policy have these symbols.
pub record HasSymbols {A : Type 0} (names : List (List ℕ)) (p : Named A) : Type 0 where
  pub numbers : AreNumbersOf names p.numbering.now.symbols p.resolved.now.names.items
  pub count : p.numbering.now.count ≤ length names

-- The rules of a policy have names that it has, name what it declares, and give the permissions at their numbers. Those that keep an
-- expression have no plain list.
pub record HasSoundRules {A : Type 0} (p : Policy A) : Type 0 where
  pub below : IsTrue (list_all (is_rule_below (length p.resolved.now.names.items)) p.resolved.now.rules.items)
  pub no_lists : IsTrue (list_all keeps_no_list p.resolved.now.rules.items)
  pub consistent : IsTrue (is_consistent (meaning_in p.resolved.now))
  pub permitted : (rule : NumberedRule A) → Contains p.resolved.now.rules.items rule → GivesNumbered (meaning_in p.resolved.now) p.resolved.now.modules.items p.resolved.now.names.items rule
