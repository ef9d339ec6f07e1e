-- Rules that two policies have one behind the other.
use Rattle.cil_matching.proofs.Common.{◌≡◌, ◌∙◌, ℕ, ◌+◌, ◌<◌, true, inl, inr, List, [], Option, Some, refl, length, slice_get, slice_index_or, sym, ap, subst, arith, cases_lt, slice_get_within, Equal, Rule, SetStatement, IsSameRule, IsSameSet, rule_cmp, meaning_in, sets_in, AreNumbers, AreSameAt, Spot, rule_spot, set_spot, StandAlike, numbered_in}
use Rattle.cil_resolve.specs.Below.{is_set_below}
use Rattle.cil_resolve.specs.Numbers.{rule_of, set_of}
use Rattle.cil_resolve.specs.declared.numbered.NumberedRule.{NumberedRule}
use Rattle.cil_resolve.specs.declared.numbered.NumberedSet.{NumberedSet}
use Rattle.cil_resolve.specs.declared.resolved.Resolved.{Resolved}
use Rattle.cil_matching.specs.Paired.{ArePaired, ArePairedSets, AreSameUntil}
use Rattle.cil_matching.specs.declared.compared.Modules.{Modules}
use Rattle.cil_matching.proofs.MatchedLemmas.{to-mapped}
use Rattle.cil_matching.proofs.PlaceLemmas.{contents-tell}
use Rattle.cil_matching.proofs.SetLemmas.{set-stands, sets-tell}
use Rattle.cil_matching.proofs.SpotLemmas.{tied-spots}

module _ {A : Type 0} (p q : Resolved A) where
  abbrev old_rule : NumberedRule A → Rule
  old_rule x = rule_of p.modules.items p.names.items x

  abbrev new_rule : NumberedRule A → Rule
  new_rule y = rule_of q.modules.items q.names.items y

  -- Rules in pairs are the same, where the modules are those of two rules that stand alike.
  pub pair-same : (numbers : List (Option ℕ)) → AreNumbers p.names.items q.names.items numbers → (modules : Modules) (x y a b : NumberedRule A) → modules.old ≡ x.module → modules.new ≡ y.module
      → rule_cmp (new_rule y) (old_rule x) ≡ Equal → (k l : ℕ) → slice_get p.rules.items k ≡ Some a → slice_get q.rules.items l ≡ Some b → ArePaired numbers modules a b
      → AreSameAt IsSameRule (meaning_in p).rules (meaning_in q).rules k l
  pair-same numbers are modules x y a b one two alike k l at other_at paired =
      let here = to-mapped old_rule p.rules.items k a at in
      let there = to-mapped new_rule q.rules.items l b other_at in
      let spots : rule_spot (new_rule y) ≡ rule_spot (old_rule x) = tied-spots (rule_spot (new_rule y)) (rule_spot (old_rule x)) alike in
      record {
        statement = old_rule a;
        other = new_rule b;
        here = here;
        there = there;
        same = (
          ap (λ m. slice_index_or p.modules.items m []) (paired.here ∙ one) ∙ sym (ap (λ (t : Spot). t.module_name) spots) ∙ ap (λ m. slice_index_or q.modules.items m []) (sym (paired.there ∙ two)),
          paired.offset,
          (contents-tell p q numbers are k l a b true at other_at (λ is. paired.says, λ says. refl) (old_rule a) (new_rule b) here there).0 refl,
        );
      }

-- one more statement
pub same-more : {S : Type 0} (IsSame : S → S → Type 0) (old new : List S) (i j k l : ℕ) → l + i ≡ k + j → AreSameAt IsSame old new k l → AreSameUntil IsSame old new i j k → AreSameUntil IsSame old new i j (k + 1)
same-more IsSame old new i j k l is same before m n low high where_is = elim (cases_lt m k) [
  | inl earlier ↦ before m n low earlier where_is
  | inr last ↦
      let here : k ≡ m = omega (arith, high, last) in
      let there : l ≡ n = omega (arith, is, where_is, here) in
      subst (λ x. AreSameAt IsSame old new x n) here (subst (AreSameAt IsSame old new k) there same)
]

module _ {A : Type 0} (p q : Resolved A) where
  abbrev old_set : NumberedSet A → SetStatement
  old_set x = set_of p.modules.items p.names.items x

  abbrev new_set : NumberedSet A → SetStatement
  new_set y = set_of q.modules.items q.names.items y

  -- So are set statements in pairs.
  pub set-pair-same : (numbers : List (Option ℕ)) → AreNumbers p.names.items q.names.items numbers → (modules : Modules) (i j : ℕ) (x y : NumberedSet A) → modules.old ≡ x.module → modules.new ≡ y.module
      → slice_get (numbered_in p) i ≡ Some x → slice_get (numbered_in q) j ≡ Some y → StandAlike p q i j
      → (k l : ℕ) (a b : NumberedSet A) → slice_get (numbered_in p) k ≡ Some a → slice_get (numbered_in q) l ≡ Some b → is_set_below (length p.names.items) a ≡ true → is_set_below (length q.names.items) b ≡ true
      → ArePairedSets numbers modules a b → AreSameAt IsSameSet (sets_in p) (sets_in q) k l
  set-pair-same numbers are modules i j x y one two mine its alike k l a b at other_at low below paired =
      let here = to-mapped old_set (numbered_in p) k a at in
      let there = to-mapped new_set (numbered_in q) l b other_at in
      record {
        statement = old_set a;
        other = new_set b;
        here = here;
        there = there;
        same = (sets-tell p q k l stand numbers are a b true at other_at low below (sym paired.says) (old_set a) (new_set b) here there).0 refl;
      }
    where
      first : set_spot (old_set x) ≡ set_spot (new_set y)
      first =
          let spot = to-mapped set_spot (sets_in p) i (old_set x) (to-mapped old_set (numbered_in p) i x mine) in
          sym (set-stands q j y its (set_spot (old_set x)) (alike (set_spot (old_set x)) spot))

      spots : set_spot (new_set b) ≡ set_spot (old_set a)
      spots =
          let name = ap (λ m. slice_index_or q.modules.items m []) (paired.there ∙ two) ∙ sym (ap (λ (t : Spot). t.module_name) first) ∙ ap (λ m. slice_index_or p.modules.items m []) (sym (paired.here ∙ one)) in
          λ n. record { module_name = name n; offset = sym paired.offset n }

      stand : StandAlike p q k l
      stand spot is =
          to-mapped set_spot (sets_in q) l (new_set b) (to-mapped new_set (numbered_in q) l b other_at) ∙ ap Some (spots ∙ set-stands p k a at spot is)

-- from the next ones on
pub same-next : {S : Type 0} (IsSame : S → S → Type 0) (old new : List S) (i j until next last : ℕ) → next ≡ j + 1 → last ≡ until → AreSameUntil IsSame old new i j until → AreSameUntil IsSame old new (i + 1) next last
same-next IsSame old new i j until next last more end same k l low high is = same k l (omega (arith, low)) (omega (arith, high, end)) (omega (arith, is, more))

-- there is a place for the next one
pub same-room : {S : Type 0} (IsSame : S → S → Type 0) (old new : List S) (i j until : ℕ) → AreSameUntil IsSame old new i j until → i < until → j < length new
same-room IsSame old new i j until same low =
    let next = same i j (omega arith) low (omega arith) in
    slice_get_within new j next.other next.there
