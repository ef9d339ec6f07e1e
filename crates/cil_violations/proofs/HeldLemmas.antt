-- What elements hold, by the numbers of names and by full names.
use Rattle.cil_violations.proofs.Common.{◌≡◌, ◌∙◌, ℕ, ◌<◌, true, List, [], bytes_eq, length, slice_get, slice_index, Some, sym, ap, arith, get_or_from_slice_get, slice_get_within, holds, is_element_below, element_of, meaning_in, name_in, Resolved, is_held_in, symbols_in, AreShort}
use Rattle.cil_bind.proofs.NamespaceLemmas.{distinct-place}
use Rattle.cil_expression.specs.declared.expression.Element.{Element}
use Rattle.cil_expression.specs.declared.expression.Element.TheVariants.{«Type»}
use Rattle.cil_member_rows.specs.Rows.{count_now}
use Rattle.cil_resolve.specs.Consistent.{is_element_of}
use Rattle.cil_rule_reach.specs.Named.{AreMembersBy}
use Rattle.cil_rule_reach.proofs.NamedLemmas.{as-many, element-kept, has-named, has-none, same-symbol, symbol-name, symbol-within}
use Rattle.cil_violations.specs.declared.members.Members.{Members}

module _ {A : Type 0} (r : Resolved A) (members : Members A)
    (are : AreMembersBy r (symbols_in members) (count_now members.rows.now)) where
  apart : (i j : ℕ) (name : List ℕ) → slice_get are.names i ≡ Some name → slice_get are.names j ≡ Some name → i ≡ j
  apart i j name here there =
      distinct-place are.names i j are.distinct (slice_get_within are.names i name here)
      (slice_get_within are.names j name there)
      (get_or_from_slice_get are.names i name [] here ∙ sym (get_or_from_slice_get are.names j name [] there))

  -- each name of the policy has a symbol
  pub long : length (symbols_in members) ≡ length r.names.items
  long = as-many r are.names (symbols_in members) apart are.numbers

  pub known : (element : Element) → is_element_below (length r.names.items) element ≡ true
      → is_element_below (length (symbols_in members)) element ≡ true
  known element below = ap (λ n. is_element_below n element) long ∙ below

  pub short : AreShort members
  short element t is far =
      let few = are.short in
      has-none r are.names (symbols_in members) apart are.numbers (count_now members.rows.now) are.are element t
      (ap (λ n. is_element_below n element) (sym long) ∙ is) (omega (arith, few, far))

  -- an element that is declared holds by numbers what it does by names
  pub held-named : (element : Element) → is_element_below (length r.names.items) element ≡ true
      → is_element_of (meaning_in r).types (meaning_in r).attributes (element_of r.names.items element) ≡ true
      → (t : ℕ) → t < length r.names.items → is_held_in members element t
      ≡ holds (meaning_in r) (element_of r.names.items element) (name_in r t)
  held-named element below declared t low =
      has-named r are.names (symbols_in members) apart are.numbers (count_now members.rows.now) are.are element
      (slice_index (symbols_in members) t) below
      (element-kept (meaning_in r) (element_of r.names.items element) declared)
      (symbol-within r are.names (symbols_in members) apart are.numbers t low)
      ∙ ap (holds (meaning_in r) (element_of r.names.items element))
      (symbol-name r are.names (symbols_in members) apart are.numbers t low)

  -- types are the same where their names are
  pub same-held : (source t : ℕ) → source < length r.names.items → t < length r.names.items
      → is_held_in members («Type» source) t ≡ bytes_eq (name_in r source) (name_in r t)
  same-held source t source_low low =
      same-symbol r are.names (symbols_in members) apart are.numbers source (slice_index (symbols_in members) t)
      source_low (symbol-within r are.names (symbols_in members) apart are.numbers t low)
      ∙ ap (bytes_eq (name_in r source)) (symbol-name r are.names (symbols_in members) apart are.numbers t low)
