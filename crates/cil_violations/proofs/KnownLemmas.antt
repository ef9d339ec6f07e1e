-- What is kept of the classes in which rules of permission sets share a permission.
use Rattle.cil_violations.proofs.Common.{◌≡◌, ◌∙◌, ◌<◌, ◌&&◌, ℕ, Bool, true, List, length, get_or, Some, Contains, sym, ap, subst, and_parts, contains_to, get_or_default, get_or_from_slice_get, slice_get_within, AreClasses, IsOfSets, Search, StandAt, classes_of, is_allow, met_in, permissions_at, rules_in, set_at, share}
use Rattle.std.specs.Prelude.{All}
use Rattle.std.proofs.lemmas.List.Elements.{All-contains}
use Rattle.cil_violations.proofs.HitLemmas.{hits-hold}
use Rattle.cil_violations.specs.declared.known.SharedClasses.{SharedClasses}

module _ {A : Type 0} (s : Search A) where
  -- what is known of the sets of two rules is known of them
  pub stand-known : (lists : List (SharedClasses A)) → All (AreClasses s) lists → (never allowed : ℕ) {first second : ℕ}
      (place : ℕ) → set_at (rules_in s) never ≡ Some first → set_at (rules_in s) allowed ≡ Some second
      → IsOfSets lists first second place → StandAt lists (classes_of s never allowed) place
  stand-known lists all never allowed place never_is allowed_is (shared, at, first_is, second_is) =
      let low = slice_get_within lists place shared at in
      let there : Contains lists shared = (place, low, get_or_from_slice_get lists place shared shared at) in (
        shared,
        at,
        All-contains (AreClasses s) lists shared all there never allowed (never_is ∙ ap Some (sym first_is))
            (allowed_is ∙ ap Some (sym second_is)),
      )

  abbrev shares : ℕ → ℕ → Bool
  shares never allowed = share (permissions_at s never) (permissions_at s allowed)

  -- a rule that is met shares a permission
  pub met-shares : (never : ℕ) (met : List ℕ) → met ≡ met_in s never → (k : ℕ) → k < length met
      → shares never (get_or met k 0) ≡ true
  met-shares never met same k low =
      let allowed = get_or met k 0 in
      let there : Contains (met_in s never) allowed =
      subst (λ l. Contains l allowed) same (k, low, get_or_default met k allowed 0 low) in
      let (from_on, below, holds) =
      hits-hold (λ j. is_allow (rules_in s) j && shares never j) (length (rules_in s)) 0 allowed
      (contains_to (met_in s never) allowed there) in
      (and_parts (is_allow (rules_in s) allowed) (shares never allowed) holds).1
