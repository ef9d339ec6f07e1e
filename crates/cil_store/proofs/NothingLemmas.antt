-- What no statements mean, and what is asked of them.
use Rattle.cil_store.proofs.Common.{◌≡◌, List, [], ◌∷◌, length, map, false, Contains, refl, ap, sym, ◌∙◌, subst, true≢false, length-append, ℕ, arith, IsStrictlySortedBy, joined, Rule, Meaning, Means, meaning_of, is_in_table, AreAtoms, name_cmp, empty, IsMeaningOf, meaning-same, NamedModule}
use Rattle.cil_specs.specs.PolicyFault.{PolicyFaultKind, twice}
use Rattle.cil_specs.specs.Members.{is_member}
use Rattle.cil_specs.specs.Violations.{AreViolations}
use Rattle.cil_specs.specs.Kept.{Optionals, AreKept, judged, Compiles}
use Rattle.cil_resolve.specs.Modules.{AreParsedFrom}
use Rattle.cil_store.proofs.StepLemmas.{store-meaning}

-- the set of no optional
abbrev no_optional : Optionals
no_optional name at = false

-- a policy of no statements keeps none
none-kept : AreKept [] no_optional
none-kept name at = (λ kept. absurd (true≢false (sym kept)), λ is. is.1.of_policy name at is.2)

none-judged : (kind : PolicyFaultKind) → judged kind no_optional [] ≡ []
none-judged twice = refl
none-judged _ = refl

-- a policy of no statements has no fault
none-wrong : Compiles no_optional []
none-wrong fault h = absurd (omega (arith, ap length (sym h.split ∙ none-judged fault.kind), length-append h.before (h.s ∷ h.after)))

-- an empty store means what no statements do
pub none-meant : IsMeaningOf empty (meaning_of [] [])
none-meant = record { policy = []; kept = no_optional; is_policy = ([], tt, refl); means = record { are_kept = none-kept; compiles = none-wrong; is = refl } }

-- no statements mean nothing else
pub none-means : (meaning : Meaning) → (kept : Optionals) × Means (joined []) kept meaning → meaning ≡ meaning_of [] []
none-means meaning means = meaning-same empty meaning (meaning_of [] []) (store-meaning empty [] meaning tt means) none-meant

-- no access is in their table
pub no-atoms : AreAtoms (is_in_table (meaning_of [] [])) []
unfolding IsStrictlySortedBy
no-atoms = record { ordered = tt; exact = λ a. ((λ has. absurd (omega (arith, has.1))), λ e. absurd (true≢false (sym e))) }

not-in-none : (r : Rule) → Contains [] r → ⊥
not-in-none r has = omega (arith, has.1)

-- no violation is in their report
pub no-violations : AreViolations (meaning_of [] []) []
unfolding IsStrictlySortedBy
no-violations = record { ordered = tt; exact = λ v. ((λ has. absurd (omega (arith, has.1))), λ is. absurd (not-in-none v.never is.never)) }

-- no statements hold no type
pub none-held : (attribute t : List ℕ) → false ≡ is_member (meaning_of [] []) attribute t
unfolding is_member
none-held attribute t = refl

-- no modules are in order
pub none-sorted : {X : Type 0} (f : X → List ℕ) (xs : List X) → xs ≡ [] → IsStrictlySortedBy name_cmp (map f xs)
unfolding IsStrictlySortedBy
none-sorted f xs none = subst (λ l. IsStrictlySortedBy name_cmp (map f l)) (sym none) nothing
  where
    nothing : IsStrictlySortedBy name_cmp []
    nothing = tt

-- and stand for no modules
pub none-parsed : {A : Type 0} (parsed : List (NamedModule A)) → parsed ≡ [] → AreParsedFrom parsed []
none-parsed parsed none = subst (λ l. AreParsedFrom l []) (sym none) (record { spelt = tt; written = tt })
