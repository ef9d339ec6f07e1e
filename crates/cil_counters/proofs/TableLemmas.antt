-- The access table of a policy by full names, told by its counters.
use Rattle.cil_counters.proofs.Common.{◌≡◌, ℕ, ◌<◌, ◌&&◌, cond, List, nat_lt, refl, ap, ◌∙◌, arith, and_parts, is_in_table, is_listed, rule_kind_of, RuleKind, Allow, AuditAllow, DontAudit, NeverAllow, SymbolKey, meaning_in, Resolved, IsCounted}
use Rattle.std.proofs.Math.Bool.{and-true}
use Rattle.cil_rules.specs.Rows as rows
use Rattle.cil_symbol_changes.specs.Counts.{has_risen}
use Rattle.cil_symbol_changes.specs.Numbered as numbered
use Rattle.cil_symbol_changes.specs.Numbered.{listed}
use Rattle.cil_counters.proofs.ChangedLemmas.{counted-atom, AreTold}

-- what a listing has is counted
some-counted : (kind : RuleKind) (n : ℕ) → 0 < cond (numbered.is_listed kind) n 0 → 0 < n
some-counted Allow n above = above
some-counted AuditAllow n above = above
some-counted DontAudit n above = above
some-counted NeverAllow n above = absurd (omega (arith, above))

-- and is of a kind that it has
some-listed : (kind : RuleKind) (n : ℕ) → has_risen 0 (cond (numbered.is_listed kind) n 0) ≡ (is_listed (rule_kind_of kind) && nat_lt 0 n)
some-listed Allow n = and-true (nat_lt 0 n)
some-listed AuditAllow n = and-true (nat_lt 0 n)
some-listed DontAudit n = and-true (nat_lt 0 n)
some-listed NeverAllow n = refl

-- the counters tell what a listing has of the table
pub listed-told : {A : Type 0} (symbols : List (List ℕ)) (r : Resolved A) (members : ℕ → ℕ → ℕ) (counts : SymbolKey → ℕ → ℕ) → IsCounted symbols r members counts
    → AreTold symbols (is_in_table (meaning_in r)) (rows.listed (is_in_table (meaning_in r))) counts (λ key t. 0) (listed counts)
listed-told symbols r members counts is_counted = record {
  counted = λ key t some. some-counted key.kind (counts key t) some;
  within = λ a there. (and_parts (is_listed a.kind) (is_in_table (meaning_in r) a) there).1;
  risen = λ key t named.
      some-listed key.kind (counts key t)
      ∙ ap (λ n. is_listed (rule_kind_of key.kind) && nat_lt 0 n) (counted-atom symbols r members counts is_counted key t named);
}
