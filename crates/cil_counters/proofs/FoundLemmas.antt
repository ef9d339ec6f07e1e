-- An access that is in the table of one policy alone has a counter that isn't what it was.
use Rattle.cil_counters.proofs.Common.{◌≡◌, ◌≢◌, ℕ, true, List, [], bytes_eq, length, nat_lt, Option, None, Some, position, refl, sym, ap, ◌∙◌, subst, list_all, get_or_from_slice_get, has_name, count_of, is_in_table, keeps_type, Atom, rule_kind_of, RuleKind, Allow, AuditAllow, DontAudit, NeverAllow, SymbolKey, is_rule_below, meaning_in, AreChanges, Resolved, found-name, atom_of, name_at, atom_with, count_at, IsCounted}
use Rattle.cil_specs.specs.Statements as spec
use Rattle.cil_specs.specs.Statements.{allow, auditallow, dontaudit, neverallow}
use Rattle.cil_specs.specs.Report.{Changes}
use Rattle.cil_resolve.specs.declared.numbered.NumberedRule.{NumberedRule}
use Rattle.cil_delta_specs.specs.Work.{AdjustsFew}
use Rattle.cil_table_updates.specs.Adjusted.{AdjustsAtLeast, AdjustsAtMost, Counter}
use Rattle.cil_table_updates.proofs.FewLemmas.{adjusts-few}
use Rattle.cil_counters.proofs.ToldLemmas.{told-accesses}

-- a kind of rules as the code has it
abbrev kind_for : spec.RuleKind → RuleKind
kind_for allow = Allow
kind_for auditallow = AuditAllow
kind_for dontaudit = DontAudit
kind_for neverallow = NeverAllow

kind-for-is : (kind : spec.RuleKind) → rule_kind_of (kind_for kind) ≡ kind
kind-for-is allow = refl
kind-for-is auditallow = refl
kind-for-is dontaudit = refl
kind-for-is neverallow = refl

-- a symbol, or any number where there is none
abbrev number : Option ℕ → ℕ
number None = 0
number (Some n) = n

abbrev key_of : RuleKind → Option ℕ → Option ℕ → Option ℕ → SymbolKey
key_of kind source class permission = record { kind = kind; source = number source; class = number class; permission = number permission }

-- the rules of a policy name what it has
pub rules-below : {A : Type 0} (r : Resolved A) (rules : List (NumberedRule A)) → rules ≡ r.rules.items → list_all (is_rule_below (length r.names.items)) rules ≡ true → list_all (is_rule_below (length r.names.items)) r.rules.items ≡ true
rules-below r rules is = subst (λ l. list_all (is_rule_below (length r.names.items)) l ≡ true) is

module _ (names : List (List ℕ)) where
  abbrev place : List ℕ → Option ℕ
  place name = position (bytes_eq name) names

  -- the counter of an access all of whose names have symbols
  abbrev pub found : Atom → Counter
  found a = record { key = key_of (kind_for a.kind) (place a.source) (place a.the_class) (place a.permission); target = number (place a.target) }

  name-of : (name : List ℕ) (i : ℕ) → place name ≡ Some i → name_at names i ≡ name
  name-of name i at = get_or_from_slice_get names i name [] (found-name names name i at)

  by-places : (kind : RuleKind) (was is : SymbolKey → ℕ → ℕ) (source target class permission : List ℕ) (p q s t : Option ℕ) → place source ≡ p → place target ≡ q → place class ≡ s → place permission ≡ t
      → count_at was kind p q s t ≢ count_at is kind p q s t
      → (atom_of names (key_of kind p s t) (number q) ≡ atom_with kind source target class permission) × (was (key_of kind p s t) (number q) ≢ is (key_of kind p s t) (number q))
  by-places kind was is source target class permission None q s t at_source at_target at_class at_permission other = absurd (other refl)
  by-places kind was is source target class permission (Some i) None s t at_source at_target at_class at_permission other = absurd (other refl)
  by-places kind was is source target class permission (Some i) (Some j) None t at_source at_target at_class at_permission other = absurd (other refl)
  by-places kind was is source target class permission (Some i) (Some j) (Some k) None at_source at_target at_class at_permission other = absurd (other refl)
  by-places kind was is source target class permission (Some i) (Some j) (Some k) (Some l) at_source at_target at_class at_permission other =
      let first = name-of source i at_source in
      let second = name-of target j at_target in
      let third = name-of class k at_class in
      let fourth = name-of permission l at_permission in
      ((λ n. record { kind = rule_kind_of kind; source = first n; target = second n; the_class = third n; permission = fourth n }), other)

  module _ {A : Type 0} (old new : Resolved A) (old_members new_members : ℕ → ℕ → ℕ) (was is : SymbolKey → ℕ → ℕ) (old_counted : IsCounted names old old_members was) (new_counted : IsCounted names new new_members is)
      (old_types : (name : List ℕ) → keeps_type (meaning_in old) name ≡ true → has_name old.names.items name ≡ true) (new_types : (name : List ℕ) → keeps_type (meaning_in new) name ≡ true → has_name new.names.items name ≡ true)
      (old_below : list_all (is_rule_below (length old.names.items)) old.rules.items ≡ true) (new_below : list_all (is_rule_below (length new.names.items)) new.rules.items ≡ true) where
    pub tells : (a : Atom) → is_in_table (meaning_in old) a ≢ is_in_table (meaning_in new) a
        → (atom_of names (found a).key (found a).target ≡ a) × (was (found a).key (found a).target ≢ is (found a).key (found a).target)
    tells a other =
        let kind = kind_for a.kind in
        let whole : atom_with kind a.source a.target a.the_class a.permission ≡ a = λ n. record { kind = kind-for-is a.kind n; source = a.source; target = a.target; the_class = a.the_class; permission = a.permission } in
        let old_told = told-accesses names old old_members was old_counted old_types old_below kind a.source a.target a.the_class a.permission ∙ ap (count_of (meaning_in old)) whole in
        let new_told = told-accesses names new new_members is new_counted new_types new_below kind a.source a.target a.the_class a.permission ∙ ap (count_of (meaning_in new)) whole in
        let there = by-places kind was is a.source a.target a.the_class a.permission (place a.source) (place a.target) (place a.the_class) (place a.permission) refl refl refl refl
        (λ same. other (ap (nat_lt 0) (sym old_told ∙ same ∙ new_told))) in
        (there.0 ∙ whole, there.1)

    -- so the adjustments are few
    pub adjusts : (changes : Changes) → AreChanges (is_in_table (meaning_in old)) (is_in_table (meaning_in new)) changes → (before after : ℕ) → AdjustsAtMost (meaning_in old) (meaning_in new) before after → AdjustsAtLeast was is before after
        → AdjustsFew (meaning_in old) (meaning_in new) changes before after
    adjusts = adjusts-few names (meaning_in old) (meaning_in new) was is found tells
