-- How far the count of adjustments rises where a rule's counters are moved.
use Rattle.cil_table_updates.proofs.Common.{◌≡◌, ℕ, ◌+◌, ◌-◌, ◌^◌, ◌==◌, ◌&&◌, Bool, true, false, List, min, nat_lt, not, refl, sym, ap, ◌∙◌, arith, true≢false, eq-eqb, RisesBy, rises-added, rises-map, rises-same, SymbolKey, Permit, Reach, differs, granted, one_if, Counter}
use Rattle.cil_text.specs.declared.statement.RuleKind.{RuleKind}

pub and-both : (a b : Bool) → (a && b) ≡ true → (a ≡ true) × (b ≡ true)
and-both true b is = (refl, is)
and-both false b is = absurd (true≢false (sym is))

-- two tests of accesses are the same
abbrev AreAlike : (SymbolKey → ℕ → Bool) → (SymbolKey → ℕ → Bool) → Type 0
AreAlike p q = (key : SymbolKey) (t : ℕ) → p key t ≡ q key t

-- the pairs of keys and targets that a test tells of are the counters that the same test does
module _ (of_pair : SymbolKey × ℕ → Bool) (of_counter : Counter → Bool)
    (same : AreAlike (λ key t. of_pair (key, t)) (λ key t. of_counter (record { key = key; target = t }))) where
  abbrev counter : SymbolKey × ℕ → Counter
  counter p = record { key = p.0; target = p.1 }

  pub counter-rises : (before some after : ℕ) → RisesBy of_pair 0 some → after ≡ min (before + some) (2 ^ 128 - 1)
      → RisesBy of_counter before after
  counter-rises before some after rises sum =
      rises-added of_counter before some after
      (rises-map counter (λ a b alike i. ((alike i).key, (alike i).target)) of_pair of_counter
      (λ p is. sym (same p.0 p.1) ∙ is) (λ c is. ((c.key, c.target), same c.key c.target ∙ is, refl))
      0 some rises)
      (omega (arith, sum)) (omega (arith, sum))

differs-no : (a : Bool) → differs a false ≡ a
differs-no true = refl
differs-no false = refl

-- counters moved from what reaches nothing, to it, and from what one rule covers to what another does
module _ {A : Type 0} (kind : RuleKind) (was is : Reach A) (had has : List Permit) (before after : ℕ) where
  abbrev shifts_by : Counter → Bool
  shifts_by c = differs (granted kind was had c.key c.target) (granted kind is has c.key c.target)

  pub replace-rises : RisesBy shifts_by before after → (covered covers : SymbolKey → ℕ → Bool) → AreAlike (granted kind was had) covered → AreAlike (granted kind is has) covers
      → RisesBy (λ (c : Counter). differs (covered c.key c.target) (covers c.key c.target)) before after
  replace-rises rises covered covers was_same is_same =
      rises-same shifts_by (λ c. differs (covered c.key c.target) (covers c.key c.target))
      before after (λ c i. differs (was_same c.key c.target i) (is_same c.key c.target i)) rises

  pub put-rises : RisesBy shifts_by before after → (covers : SymbolKey → ℕ → Bool) → AreAlike (granted kind was had) (λ key t. false) → AreAlike (granted kind is has) covers
      → RisesBy (λ (c : Counter). covers c.key c.target) before after
  put-rises rises covers none same = replace-rises rises (λ key t. false) covers none same

  pub take-rises : RisesBy shifts_by before after → (covered : SymbolKey → ℕ → Bool) → AreAlike (granted kind is has) (λ key t. false) → AreAlike (granted kind was had) covered
      → RisesBy (λ (c : Counter). covered c.key c.target) before after
  take-rises rises covered none same =
      rises-same (λ c. differs (covered c.key c.target) false) (λ c. covered c.key c.target) before after
      (λ c. differs-no (covered c.key c.target)) (replace-rises rises covered (λ key t. false) same none)

-- what is given, as a number and as a test
pub counted-some : (b : Bool) → b ≡ nat_lt 0 (one_if b)
counted-some true = refl
counted-some false = refl

pub counted-other : (a b : Bool) → differs a b ≡ not (one_if a == one_if b)
counted-other true true = refl
counted-other true false = refl
counted-other false true = refl
counted-other false false = refl

pub no-other : (m n : ℕ) → m ≡ n → not (m == n) ≡ false
no-other m n same = ap not (eq-eqb m n same)
