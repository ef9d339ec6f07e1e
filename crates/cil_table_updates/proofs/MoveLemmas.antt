-- A rule's counters moved by what it reaches and permits.
use Rattle.cil_table_updates.proofs.Common.{◌≡◌, ℕ, ◌&&◌, Bool, true, false, List, Some, slice_get, subst, refl, sym, ap, ◌∙◌, same_Some, is_kind, SymbolKey, NumberedRule, aims_by, covers_by, has_by, permits_by, granted, has_permit, has_source, one_if, reaches, takes, Permit, Reach, given, gives_by, IsReplaced, PermitTheSame, StaysReach, Policy, is_plain_list}
use Rattle.cil_recorded.specs.Recorded.{State}
use Rattle.cil_text.specs.declared.statement.RuleKind.{RuleKind}
use Rattle.cil_table_updates.proofs.GivenLemmas.{given-rule}

and-front : (a k b : Bool) → (a && (k && b)) ≡ (k && (a && b))
and-front true k b = refl
and-front false true b = refl
and-front false false b = refl

module _ {B : Type 0} (kind : RuleKind) (reach : Reach B) (permits : List Permit) where
  -- what reaches nothing gives nothing
  pub gives-nothing : ((s : ℕ) → has_source reach s ≡ false) → (key : SymbolKey) (t : ℕ) → granted kind reach permits key t ≡ false
  gives-nothing none key t =
      ap (λ b. (b && takes reach.targets key.source t) && (is_kind kind key.kind && has_permit permits key.class key.permission)) (none key.source)

  -- what a rule of the kind reaches and permits it covers
  pub gives-covered : {A : Type 0} (members : ℕ → ℕ → ℕ) (symbols : List ℕ) (rule : NumberedRule A) → kind ≡ rule.kind
      → ((s : ℕ) → has_source reach s ≡ has_by members symbols rule.source s) → ((s t : ℕ) → takes reach.targets s t ≡ aims_by members symbols rule.target s t)
      → ((s t c p : ℕ) → (reaches reach s t && has_permit permits c p) ≡ (reaches reach s t && permits_by symbols rule c p)) → (key : SymbolKey) (t : ℕ) → granted kind reach permits key t ≡ covers_by members symbols rule key t
  unfolding covers_by
  gives-covered members symbols rule same sources targets permitted key t =
      and-front (reaches reach key.source t) (is_kind kind key.kind) (has_permit permits key.class key.permission)
      ∙ ap (λ b. is_kind kind key.kind && b) (permitted key.source t key.class key.permission)
      ∙ λ i. is_kind (same i) key.kind && ((sources key.source i && targets key.source t i) && permits_by symbols rule key.class key.permission)

-- a rule that is passed over gives what it did
module _ {A : Type 0} (rows : State) (old : Policy A) (i : ℕ) (new : Policy A) (j : ℕ) (replaced : IsReplaced rows old i new j) where
  covers-same : StaysReach rows new.numbering.now.symbols replaced.new_rule → PermitTheSame old replaced.old_rule new replaced.new_rule → (key : SymbolKey) (t : ℕ)
      → gives_by old key t replaced.old_rule ≡ gives_by new key t replaced.new_rule
  unfolding covers_by
  covers-same stays permits key t n =
      is_kind (replaced.kind n) key.kind && ((replaced.reached key.source t ∙ stays key.source t ∙ sym (replaced.reaches key.source t)) n && permits key.class key.permission n)

  pub stays-given : (one rule : NumberedRule A) → slice_get old.resolved.now.rules.items i ≡ Some one → slice_get new.resolved.now.rules.items j ≡ Some rule
      → StaysReach rows new.numbering.now.symbols rule → PermitTheSame old one new rule → (key : SymbolKey) (t : ℕ) → given old key t i ≡ given new key t j
  stays-given one rule here there stays permits key t =
      let first = same_Some one replaced.old_rule (sym here ∙ replaced.here) in
      let second = same_Some rule replaced.new_rule (sym there ∙ replaced.there) in
      given-rule old key t i replaced.old_rule replaced.here
      ∙ ap one_if (covers-same (subst (StaysReach rows new.numbering.now.symbols) second stays)
      (subst (λ (r : NumberedRule A). PermitTheSame old r new replaced.new_rule) first (subst (λ (r : NumberedRule A). PermitTheSame old one new r) second permits)) key t)
      ∙ sym (given-rule new key t j replaced.new_rule replaced.there)

  -- so does one with a plain list that reaches what it did
  pub plainly-given : (rule : NumberedRule A) → slice_get new.resolved.now.rules.items j ≡ Some rule → is_plain_list rule ≡ true → StaysReach rows new.numbering.now.symbols rule
      → (key : SymbolKey) (t : ℕ) → given old key t i ≡ given new key t j
  plainly-given rule there plain stays key t =
      let second = same_Some rule replaced.new_rule (sym there ∙ replaced.there) in
      let permits = replaced.permits (subst (λ (r : NumberedRule A). is_plain_list r ≡ true) second plain) in
      stays-given replaced.old_rule rule replaced.here there stays (subst (λ (r : NumberedRule A). PermitTheSame old replaced.old_rule new r) (sym second) permits) key t
