-- The types that two rules have in common.
use Rattle.cil_violations.proofs.Common.{◌≡◌, ◌∙◌, ℕ, ◌+◌, ◌<◌, ◌&&◌, true, false, List, [], ◌∷◌, ◌++◌, length, get_or, take, slice_get, MatchOption, Option, None, Some, true≢false, refl, sym, ap, subst, arith, is_target_below, NumberedRule, aim_of, are_both_held, both_hold, is_held_in, is_known, symbols_in, if_there, hits, names_in, rows_at, rows_of, rules_in, source_rows, sources_of, target_rows, targets_of, tests_of, IsSearch, RowNumbers, Tests, NoneFromWord, IsFirstWordFrom, Search}
use Rattle.std.specs.Option.{is_some}
use Rattle.std.proofs.lemmas.Grind.{common_steps}
use Rattle.cil_expression.specs.declared.expression.Element.{Element}
use Rattle.std.proofs.Common.{flat_map}
use Rattle.cil_resolve.specs.declared.numbered.ResolvedTarget.TheVariants as targets
use Rattle.cil_violations.specs.Rows.{IsPair}
use Rattle.cil_violations.specs.declared.row.Pair.{Pair}
use Rattle.cil_violations.proofs.HeldLemmas.{known, long}
use Rattle.cil_violations.proofs.HitLemmas.{hits-none}
use Rattle.cil_violations.proofs.MeaningLemmas.{rule-sound}
use Rattle.cil_violations.proofs.TestLemmas.{aim-below}

-- where each part of a list is empty the list is
flat-none : {X Y : Type 0} (f : X → List Y) → ((x : X) → f x ≡ []) → (xs : List X) → flat_map f xs ≡ []
flat-none f none [] = refl
flat-none f none (x ∷ xs) = ap (λ l. l ++ flat_map f xs) (none x) ∙ flat-none f none xs

-- what stands for one more item goes behind the others
pub part-more : {Y : Type 0} (f : ℕ → List Y) (old mid new : List Y) (xs : List ℕ) (k : ℕ) → k < length xs
    → mid ≡ old ++ flat_map f (take k xs) → new ≡ mid ++ f (get_or xs k 0)
    → new ≡ old ++ flat_map f (take (k + 1) xs)
part-more f old mid new xs k within so_far more = grind (arith, common_steps, within, so_far, more)

-- so do the rows of one more source
pub source-more : {A : Type 0} (s : Search A) (pair : Pair) → IsPair s pair → (before old new : List RowNumbers) (sources targets : List ℕ) (k : ℕ) → sources ≡ sources_of s pair.never pair.allowed → k < length sources
    → targets ≡ targets_of s pair.never pair.allowed (get_or sources k 0)
    → old ≡ before ++ flat_map (target_rows (tests_of s) (names_in s) pair.never pair.allowed) (take k (sources_of s pair.never pair.allowed))
    → new ≡ old ++ flat_map (rows_at pair.never pair.allowed pair.classes.now (get_or sources k 0)) targets
    → new ≡ before ++ flat_map (target_rows (tests_of s) (names_in s) pair.never pair.allowed) (take (k + 1) (sources_of s pair.never pair.allowed))
source-more s pair is before old new sources targets k are within aimed so_far more =
    let rows = target_rows (tests_of s) (names_in s) pair.never pair.allowed in
    part-more rows before old new (sources_of s pair.never pair.allowed) k (subst (λ l. k < length l) are within) so_far
    (more ∙ (λ i. old ++ flat_map (rows_at pair.never pair.allowed (is.classes i) (get_or sources k 0)) (aimed i)) ∙ ap (λ l. old ++ rows (get_or l k 0)) are)

-- without targets there are no rows
pub no-targets : (tests : Tests) (names never allowed : ℕ)
    → ((source : ℕ) → [] ≡ hits (tests.target never allowed source) 0 names)
    → source_rows tests names never allowed ≡ []
no-targets tests names never allowed none =
    flat-none (target_rows tests names never allowed)
    (λ source. ap (flat_map (rows_at never allowed (hits (tests.the_class never allowed) 0 names) source)) (sym (none source)))
    (hits (tests.source never allowed) 0 names)

module _ {A : Type 0} (s : Search A) (is : IsSearch s) (i : ℕ) (rule : NumberedRule A)
    (at : slice_get (rules_in s) i ≡ Some rule) where
  -- what a rule names is among the names
  pub source-known : is_known s.members rule.source ≡ true
  source-known = known s.resolved.now s.members is.members rule.source
      (rule-sound s.resolved.now i rule at).source_below

  pub element-known : (element : Element) → rule.target ≡ targets.Element element → is_known s.members element ≡ true
  element-known element same =
      let below = (rule-sound s.resolved.now i rule at).target_below in
      known s.resolved.now s.members is.members element
      (subst (λ target. is_target_below (names_in s) target ≡ true) same below)

  pub aim-known : (source : ℕ) → source < names_in s → is_known s.members (aim_of rule.target source) ≡ true
  aim-known source low = known s.resolved.now s.members is.members (aim_of rule.target source)
      (aim-below (names_in s) rule.target source (rule-sound s.resolved.now i rule at).target_below low)

module _ {A : Type 0} (s : Search A) (is : IsSearch s) (i j : ℕ) (never allowed : NumberedRule A)
    (never_at : slice_get (rules_in s) i ≡ Some never) (allowed_at : slice_get (rules_in s) j ≡ Some allowed) where
  -- two rules take in the sources that the elements of both hold
  source-test : are_both_held s.members never.source allowed.source ≡ (tests_of s).source i j
  source-test k t =
      if_there (λ r. is_held_in s.members r.source t) (sym never_at k)
      && if_there (λ r. is_held_in s.members r.source t) (sym allowed_at k)

  pub source-hits : hits (are_both_held s.members never.source allowed.source) 0 (length (symbols_in s.members))
      ≡ sources_of s i j
  source-hits k = hits (source-test k) 0 (long s.resolved.now s.members is.members k)

  -- and the targets of a source likewise
  target-test : (source : ℕ) → are_both_held s.members (aim_of never.target source) (aim_of allowed.target source)
      ≡ (tests_of s).target i j source
  target-test source k t =
      if_there (λ r. is_held_in s.members (aim_of r.target source) t) (sym never_at k)
      && if_there (λ r. is_held_in s.members (aim_of r.target source) t) (sym allowed_at k)

  pub target-hits : (source : ℕ)
      → hits (are_both_held s.members (aim_of never.target source) (aim_of allowed.target source)) 0
      (length (symbols_in s.members))
      ≡ targets_of s i j source
  target-hits source k = hits (target-test source k) 0 (long s.resolved.now s.members is.members k)

  -- where no word has a symbol of both sources there are no rows
  pub no-sources : (found : Option ℕ) → is_some found ≡ false
      → MatchOption found (NoneFromWord (both_hold s.members never.source allowed.source) 0)
      (IsFirstWordFrom (both_hold s.members never.source allowed.source) 0)
      → rows_of s i j ≡ []
  no-sources (Some word) is first = absurd (true≢false is)
  no-sources None is none =
      ap (flat_map (target_rows (tests_of s) (names_in s) i j))
      (sym source-hits ∙ hits-none (are_both_held s.members never.source allowed.source)
      (length (symbols_in s.members)) 0 (λ n on. none _ (omega arith)))

  -- where both have targets of their own these are the same for each source
  pub same-targets : (first second : Element) → never.target ≡ targets.Element first
      → allowed.target ≡ targets.Element second → (source : ℕ)
      → hits (are_both_held s.members first second) 0 (length (symbols_in s.members)) ≡ targets_of s i j source
  same-targets first second never_is allowed_is source =
      (λ k. hits (are_both_held s.members (aim_of (sym never_is k) source) (aim_of (sym allowed_is k) source)) 0
      (length (symbols_in s.members))) ∙ target-hits source
