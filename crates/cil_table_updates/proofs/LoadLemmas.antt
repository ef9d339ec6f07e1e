-- The counters that rise where a first policy is counted are those of accesses that its rules give.
use Rattle.cil_table_updates.proofs.Common.{◌≡◌, ◌≢◌, ℕ, ◌+◌, ◌<◌, ◌&&◌, true, List, get_or, length, map, nat_lt, refl, sym, ap, ◌∙◌, subst, inr, arith, Contains, lt-ltb, ltb-true, length-map, All-contains, All-map, Contains-get_or, below, RisesBy, sum_below, sum-differs, sum-zero, gives, Meaning, Atom, IsSameRule, Rule, SymbolKey, rule_of, meaning_in, comes, AdjustsAtLeast, AdjustsAtMost, Counter, given, AreApart, HasSoundRules, IsPolicy, Policy}
use Rattle.cil_sums.proofs.PairLemmas.{at-most-all, mapped, pairs-map}
use Rattle.cil_delta_specs.specs.Dirty.{HasGiver, OnlyOne}
use Rattle.cil_matching.specs.Spot as spots
use Rattle.cil_matching.specs.Spot.{rule_spot}
use Rattle.cil_table_updates.proofs.AdjustedLemmas.{and-both, counted-some}
use Rattle.cil_table_updates.proofs.DirtyLemmas.{at-place, atom, given-by-names, named, nowhere, one-pair, read-place}

module _ {A : Type 0} (names : List (List ℕ)) (apart : AreApart names) (p : Policy A) (is : IsPolicy names p) (sound : HasSoundRules p) (rules_apart : spots.AreApart (map rule_spot (meaning_in p.resolved.now).rules)) where
  abbrev now : Meaning
  now = meaning_in p.resolved.now

  -- a rule of a place of the policy gives the access
  record IsCome (j : ℕ) (c : Counter) : Type 0 where
    within : j < length now.rules
    is_named : named names apart c ≡ true
    gives_it : gives now (at-place now.rules j) (atom names apart c) ≡ true

  come : (j : ℕ) (c : Counter) → j < length now.rules → comes p j c ≡ true → IsCome j c
  come j c within it =
      let parts = and-both (named names apart c) _ (counted-some (named names apart c && gives now (at-place now.rules j) (atom names apart c))
      ∙ sym (ap (nat_lt 0) (given-by-names names apart p is sound c j (at-place now.rules j) (read-place now.rules j within))) ∙ it) in
      record { within = within; is_named = parts.0; gives_it = parts.1 }

  abbrev pair : ℕ × Counter → Rule × Atom
  pair q = (at-place now.rules q.0, atom names apart q.1)

  module _ (before after : ℕ) (rises : RisesBy (below (comes p) (length now.rules)) before after) where
    those-come : (q : ℕ × Counter) → Contains rises.those q → IsCome q.0 q.1
    those-come q has =
        let parts = and-both (nat_lt q.0 (length now.rules)) _ ((rises.exact q).0 has) in
        come q.0 q.1 (ltb-true q.0 (length now.rules) parts.0) parts.1

    named-at-most : (old : Meaning) → length old.rules ≡ 0 → AdjustsAtMost old now before after
    named-at-most old none = record {
      pairs = map pair rises.those;
      dirty = record {
        each =
            All-map (λ (x : Rule × Atom). OnlyOne (HasGiver old x.0 x.1) (HasGiver now x.0 x.1)) pair rises.those
            (λ k d inside.
            let q = get_or rises.those k d in
            let at = those-come q (Contains-get_or rises.those k d inside) in
            inr ((at-place now.rules q.0, Contains-get_or now.rules q.0 nowhere at.within, (refl, refl, refl), at.gives_it), λ giver. omega (arith, giver.1.1, none)));
        once =
            pairs-map pair (λ (x y : Rule × Atom). ¬ (IsSameRule x.0 y.0 × (x.1 ≡ y.1))) rises.those rises.once
            (λ q r q_has r_has other both.
            let q_is = those-come q q_has in
            let r_is = those-come r r_has in
            other (one-pair names apart now.rules rules_apart q r q_is.within r_is.within q_is.is_named r_is.is_named both.0 both.1));
      };
      at_most = omega (arith, length-map rises.those pair, rises.at_most);
    }

  -- where there was no rule, each of these accesses is one that a rule gives in the new policy alone
  pub load-at-most : (before after : ℕ) → RisesBy (below (comes p) (length p.resolved.now.rules.items)) before after → (old : Meaning) → length old.rules ≡ 0 → AdjustsAtMost old now before after
  load-at-most before after rises =
      named-at-most before after (subst (λ n. RisesBy (below (comes p) n) before after) (sym (length-map p.resolved.now.rules.items (rule_of p.resolved.now.modules.items p.resolved.now.names.items))) rises)

-- each counter that isn't what it was is one that rose
module _ {A : Type 0} (p : Policy A) (n before after : ℕ) (rises : RisesBy (below (comes p) n) before after)
    (was is : SymbolKey → ℕ → ℕ)
    (put : (key : SymbolKey) (t : ℕ) → is key t ≡ was key t + sum_below (given p key t) n) where
  abbrev counter_of : ℕ × Counter → Counter
  counter_of q = q.1

  other-rose : (c : Counter) → was c.key c.target ≢ is c.key c.target → Contains (map counter_of rises.those) c
  other-rose c other =
      let at = sum-differs (given p c.key c.target) (λ i. 0) n (λ same. other (omega (arith, same, sum-zero (λ i. 0) n (λ i within. refl), put c.key c.target))) in
      mapped counter_of rises.those (at.0, c) ((rises.exact (at.0, c)).1 (ap (λ b. b && comes p at.0 c) (lt-ltb at.0 n at.1) ∙ lt-ltb 0 (given p c.key c.target at.0) (positive (given p c.key c.target at.0) at.2)))
    where
      positive : (x : ℕ) → x ≢ 0 → 0 < x
      positive x some = omega (arith, some)

  pub load-at-least : AdjustsAtLeast was is before after
  load-at-least counters others once =
      let few = at-most-all counters (map counter_of rises.those) once (λ c has. other-rose c (All-contains (λ d. was d.key d.target ≢ is d.key d.target) counters c others has)) in
      omega (arith, few, length-map rises.those counter_of, rises.at_least)
