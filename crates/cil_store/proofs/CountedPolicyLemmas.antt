-- What the engine keeps that changes its counters in place.
use Rattle.cil_store.proofs.Common.{◌≡◌, Bool, List, [], ◌∷◌, length, Option, None, Result, Ok, Err, IfOk, OnOk, OnErr, Contains, refl, sym, subst, arith, Meaning, is_in_table, meaning_of, is_listed, AreAtoms, Changes, Row, AreRows, Atom, SetStatement, CountsSome, AreSettled, AreTakenBack, IsNow, WasBefore, meaning_in, listed, rows-listed, IsMeaningOf, AreRowsOf, AreViolationsOf, Store, meaning-same, meaning_kept, AreCountersOf}
use Rattle.std.proofs.lemmas.Bool.{and_parts}
use Rattle.cil_specs.specs.Dependence.{AreTheSame}
use Rattle.cil_specs.specs.Violations.{Violation, AreViolations}
use Rattle.cil_specs.proofs.NamesLemmas.{contains-first}
use Rattle.cil_counters.specs.declared.counters.Counters.{Counters}
use Rattle.cil_symbol_changes.specs.declared.counted_changes.ChangeCounts.{ChangeCounts}
use Rattle.cil_counters.proofs.CountedLemmas.{back-before, back-now, settled-before, settled-now}
use Rattle.cil_resolve.specs.declared.resolved.Resolved.{Resolved}
use Rattle.cil_store.proofs.NothingLemmas.{no-atoms, no-violations}

-- lists of the same statements, of which one is empty
pub none-listed : (sets others : List SetStatement) → sets ≡ [] → AreTheSame sets others → length others ≡ 0
none-listed sets [] none same = refl
none-listed sets (s ∷ others) none same = let has : Contains [] s = subst (λ xs. Contains xs s) none ((same s).1 (contains-first s others)) in absurd (omega (arith, has.1))

-- what is so of the meaning of what is kept is so of each meaning of the store
pub of-kept : {A : Type 0} (store : Store) (policy : Option (Resolved A)) (P : Meaning → Type 0) → IsMeaningOf store (meaning_kept policy) → P (meaning_kept policy) → (meaning : Meaning) → IsMeaningOf store meaning → P meaning
of-kept store policy P kept is meaning meant = subst P (meaning-same store (meaning_kept policy) meaning kept meant) is

-- ---- counters of a policy

module _ {A : Type 0} (r : Resolved A) (old new : Counters A) where
  -- whose steps are taken back
  pub taken-back : WasBefore r old → AreTakenBack old new → AreCountersOf r new
  taken-back was back = record { now = back-now r old new was back; before = back-before r old new was back; settled = back.none }

  -- whose steps are kept
  pub settled : IsNow r old → AreSettled old new → AreCountersOf r new
  settled is kept = record { now = settled-now r old new is kept; before = settled-before r old new is kept; settled = kept.none }

-- ---- an engine's policy that is replaced

-- afterwards it means what the store does
pub means-after : {X E A : Type 0} (old new to : Store) (before now next : Resolved A) → IsMeaningOf old (meaning_in before) → IsMeaningOf to (meaning_in next)
    → (r : Result X E) → OnOk r (new ≡ to) → OnOk r (now ≡ next) → OnErr r (new ≡ old) → OnErr r (now ≡ before) → IsMeaningOf new (meaning_in now)
means-after old new to before now next meant means (Ok x) made is kept same = subst (λ p. IsMeaningOf new (meaning_in p)) (sym is) (subst (λ s. IsMeaningOf s (meaning_in next)) (sym made) means)
means-after old new to before now next meant means (Err e) made is kept same = subst (λ p. IsMeaningOf new (meaning_in p)) (sym same) (subst (λ s. IsMeaningOf s (meaning_in before)) (sym kept) meant)

module _ {E : Type 0} (old new to : Store) (before next : Meaning) (meant : IsMeaningOf old before) (means : IsMeaningOf to next) (P : Meaning → Meaning → Changes → Type 0) where
  -- what is told of the changes is told between what the store meant and what it means
  pub told-after : (r : Result Changes E) → OnOk r (new ≡ to) → IfOk r (P before next) → IfOk r (λ changes. (m n : Meaning) → IsMeaningOf old m → IsMeaningOf new n → P m n changes)
  told-after (Ok changes) made are = λ m n was is.
      subst (λ y. P y n changes) (meaning-same old before m meant was)
      (subst (λ y. P before y changes) (meaning-same new next n (subst (λ s. IsMeaningOf s next) (sym made) means) is) are)
  told-after (Err e) made are = tt

  -- so is what is told of changes whose numbers are known
  pub told-counted : (r : Result ChangeCounts E) → OnOk r (new ≡ to) → IfOk r (CountsSome (P before next)) → IfOk r (CountsSome (λ changes. (m n : Meaning) → IsMeaningOf old m → IsMeaningOf new n → P m n changes))
  told-counted (Ok counts) made some = record { changes = some.changes; those = told-after (Ok some.changes) made some.those; are_counts = some.are_counts }
  told-counted (Err e) made some = tt

-- ---- what is asked of a store by what is kept

-- the accesses of the policy that is kept are those of the store
pub atoms-of : {X E A : Type 0} (listing : X → List Atom) (r : Result X E) (store : Store) (policy : Option (Resolved A)) → IsMeaningOf store (meaning_kept policy) → IfOk r (λ table. AreAtoms (listed (is_in_table (meaning_kept policy))) (listing table))
    → IfOk r (λ table. (meaning : Meaning) → IsMeaningOf store meaning → AreAtoms (listed (is_in_table meaning)) (listing table))
atoms-of listing (Ok table) store policy kept are = λ meaning meant. of-kept store policy (λ m. AreAtoms (listed (is_in_table m)) (listing table)) kept are meaning meant
atoms-of listing (Err e) store policy kept are = tt

-- so are the rows of a table of them
pub rows-of-store : {X E A : Type 0} (listing : X → List Row) (r : Result X E) (store : Store) (policy : Option (Resolved A)) (table : List Atom) → IsMeaningOf store (meaning_kept policy)
    → ((meaning : Meaning) → IsMeaningOf store meaning → AreAtoms (listed (is_in_table meaning)) table) → IfOk r (λ rows. (p : Atom → Bool) → AreAtoms p table → AreRows p (listing rows)) → IfOk r (λ rows. AreRowsOf store (listing rows))
rows-of-store listing (Ok rows) store policy table kept told are =
    let meaning = meaning_kept policy in
    (meaning, kept, rows-listed (is_in_table meaning) (listing rows) (are (listed (is_in_table meaning)) (told meaning kept)))
rows-of-store listing (Err e) store policy table kept told are = tt

-- and the violations
pub violations-of-store : {X E A : Type 0} (listing : X → List Violation) (r : Result X E) (store : Store) (policy : Option (Resolved A)) (meaning : Meaning) → IsMeaningOf store (meaning_kept policy) → meaning ≡ meaning_kept policy
    → IfOk r (λ found. AreViolations meaning (listing found)) → IfOk r (λ found. AreViolationsOf store (listing found))
violations-of-store listing (Ok found) store policy meaning kept same are = (meaning_kept policy, kept, subst (λ m. AreViolations m (listing found)) same are)
violations-of-store listing (Err e) store policy meaning kept same are = tt

-- where nothing is kept the store has no violation
pub nothing-violated : {A : Type 0} (store : Store) (policy : Option (Resolved A)) → policy ≡ None → IsMeaningOf store (meaning_kept policy) → AreViolationsOf store []
nothing-violated store policy none kept = (meaning_kept policy, kept, subst (λ p. AreViolations (meaning_kept p) []) (sym none) no-violations)

-- and its listing no access
pub nothing-listed : {A : Type 0} (policy : Option (Resolved A)) → policy ≡ None → AreAtoms (listed (is_in_table (meaning_kept policy))) []
nothing-listed policy none = subst (λ p. AreAtoms (listed (is_in_table (meaning_kept p))) []) (sym none) empty-listed
  where
    empty-listed : AreAtoms (listed (is_in_table (meaning_of [] []))) []
    empty-listed = record {
      ordered = no-atoms.ordered;
      exact = λ a. ((λ has. absurd (omega (arith, has.1))), λ passes. (no-atoms.exact a).1 (and_parts (is_listed a.kind) (is_in_table (meaning_of [] []) a) passes).1);
    }
