-- What bounds the adjustments by counters bounds them by the changes between the lines.
use Rattle.cil_table_updates.proofs.Common.{◌≡◌, ◌≢◌, ℕ, ◌&&◌, Bool, true, false, Equal, Less, List, ◌++◌, get_or, map, not, refl, sym, ap, ◌∙◌, inl, inr, arith, true≢false, AllPairs, Contains, length-append, length-map, All-map, Contains-append_cases, Contains-get_or, Meaning, is_in_table, Atom, SymbolKey, atom_of, AdjustsAtLeast, AdjustsAtMost, Counter}
use Rattle.std.specs.List.Sorted.{IsStrictlySortedBy}
use Rattle.std.proofs.lemmas.Cmp.{tied_itself}
use Rattle.std.proofs.lemmas.Map.Keys.{Less-from_sorted}
use Rattle.cil_sums.proofs.PairLemmas.{pairs-append, pairs-map}
use Rattle.cil_specs.specs.Report.{atom_cmp, AreChanges, Changes}
use Rattle.cil_specs.proofs.ReportLemmas.{atom_total}
use Rattle.cil_delta_specs.specs.Work.{AdjustsFew}

-- what ascends is apart
pub atoms-apart : (atoms : List Atom) → IsStrictlySortedBy atom_cmp atoms → AllPairs (λ a b. a ≢ b) atoms
atoms-apart atoms ordered i j d less within same =
    never (sym (Less-from_sorted atom_cmp atoms i j d ordered less within) ∙ ap (atom_cmp (get_or atoms i d)) (sym same) ∙ tied_itself atom_total (get_or atoms i d))
  where
    never : Less ≡ Equal → ⊥
    never e = cc

-- a test that holds where another doesn't
one-alone : (a b : Bool) → (a && not b) ≡ true → (a ≡ true) × (b ≡ false)
one-alone true false is = (refl, refl)
one-alone true true is = absurd (true≢false (sym is))
one-alone false b is = absurd (true≢false (sym is))

-- Each access that is in the table of one policy alone has a counter that isn't what it was.
module _ (names : List (List ℕ)) (old new : Meaning) (was is : SymbolKey → ℕ → ℕ) (found : Atom → Counter)
    (tells : (a : Atom) → is_in_table old a ≢ is_in_table new a
    → (atom_of names (found a).key (found a).target ≡ a)
    × (was (found a).key (found a).target ≢ is (found a).key (found a).target))
    (changes : Changes) (are : AreChanges (is_in_table old) (is_in_table new) changes) where
  abbrev atoms : List Atom
  atoms = changes.added ++ changes.removed

  added-is : (a : Atom) → Contains changes.added a → (is_in_table new a ≡ true) × (is_in_table old a ≡ false)
  added-is a has = one-alone (is_in_table new a) (is_in_table old a) ((are.added.exact a).0 has)

  removed-is : (a : Atom) → Contains changes.removed a → (is_in_table old a ≡ true) × (is_in_table new a ≡ false)
  removed-is a has = one-alone (is_in_table old a) (is_in_table new a) ((are.removed.exact a).0 has)

  other : (a : Atom) → Contains atoms a → is_in_table old a ≢ is_in_table new a
  other a has =
      elim (Contains-append_cases changes.added changes.removed a has) [
        | inl came ↦ let at = added-is a came in λ same. true≢false (sym at.0 ∙ sym same ∙ at.1)
        | inr went ↦ let at = removed-is a went in λ same. true≢false (sym at.0 ∙ same ∙ at.1)
      ]

  once : AllPairs (λ a b. a ≢ b) atoms
  once =
      pairs-append (λ a b. a ≢ b) changes.added changes.removed (atoms-apart changes.added are.added.ordered) (atoms-apart changes.removed are.removed.ordered)
      (λ a b came went same. true≢false (sym (added-is a came).0 ∙ ap (is_in_table new) same ∙ (removed-is b went).1))

  pub adjusts-few : (before after : ℕ) → AdjustsAtMost old new before after → AdjustsAtLeast was is before after → AdjustsFew old new changes before after
  adjusts-few before after most least =
      let enough = least (map found atoms)
      (All-map (λ c. was c.key c.target ≢ is c.key c.target) found atoms
      (λ k d within. let a = get_or atoms k d in (tells a (other a (Contains-get_or atoms k d within))).1))
      (pairs-map found (λ c d. c ≢ d) atoms once
      (λ a b a_has b_has apart same. apart (sym (tells a (other a a_has)).0 ∙ ap (λ (c : Counter). atom_of names c.key c.target) same ∙ (tells b (other b b_has)).0))) in
      record {
        pairs = most.pairs;
        dirty = most.dirty;
        at_most = most.at_most;
        at_least = omega (arith, enough, length-map atoms found, length-append changes.added changes.removed);
      }
