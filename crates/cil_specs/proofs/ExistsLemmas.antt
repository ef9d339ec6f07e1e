-- A policy keeps optionals: of all its optionals those are taken away again and again that need what isn't there.
use Rattle.cil_specs.proofs.Common.{◌≡◌, ◌⊎◌, inl, inr, ℕ, zero, suc, ◌+◌, ◌<◌, ◌≤◌, Bool, true, false, not, ◌&&◌, ◌||◌, ◌==◌, cond, List, [], ◌∷◌, bytes_eq, refl, sym, ap, ◌∙◌, subst, arith, list_all, list_any, count_by, eqb-true, eq-eqb, cases_lt, bytes_eq-Decides, sum_by-cons, is_optional, Placed, missing_words, Optionals, is_within, restricted, is_optional_at, is_member, has_innermost, IsWithin, IsGood, AreKept, AreApart}
use Rattle.std.proofs.Common.{Contains, true≢false}
use Rattle.cil_specs.proofs.Runs.{first_true, second_true, both_true}
use Rattle.cil_specs.proofs.NamesLemmas.{contains-first, contains-other, contains-middle}
use Rattle.cil_specs.proofs.GrowsLemmas.{within-grows}
use Rattle.cil_specs.proofs.KeptLemmas.{missing-grows}
use Rattle.cil_specs.proofs.OnceLemmas.{passes-among}

is_none : {X : Type 0} → List X → Bool
is_none [] = true
is_none (x ∷ xs) = false

none-is : {X : Type 0} (xs : List X) → is_none xs ≡ true → xs ≡ []
unfolding is_none
none-is [] e = refl
none-is (x ∷ xs) e = absurd (true≢false (sym e))

is-none : {X : Type 0} (xs : List X) → xs ≡ [] → is_none xs ≡ true
unfolding is_none
is-none xs e = ap is_none e

either-true : (b c : Bool) → (b ≡ true → c ≡ true) → (not b || c) ≡ true
either-true true c f = f refl
either-true false c f = refl

if-true : (b c : Bool) → (not b || c) ≡ true → b ≡ true → c ≡ true
if-true true c e f = e
if-true false c e f = absurd (true≢false (sym f))

all-of : {X : Type 0} (p : X → Bool) (xs : List X) → ((x : X) → Contains xs x → p x ≡ true) → list_all p xs ≡ true
all-of p [] each = refl
all-of p (x ∷ xs) each = both_true (p x) (list_all p xs) (each x (contains-first x xs)) (all-of p xs (λ y c. each y (contains-other x xs y c)))

pub of-all : {X : Type 0} (p : X → Bool) (xs : List X) (x : X) → list_all p xs ≡ true → Contains xs x → p x ≡ true
of-all p [] x all c = absurd (omega (arith, c.1))
of-all p (y ∷ ys) x all (zero, within, is) = ap p (sym is) ∙ first_true (p y) (list_all p ys) all
of-all p (y ∷ ys) x all (suc k, within, is) = of-all p ys x (second_true (p y) (list_all p ys) all) (k, omega (arith, within), is)

-- a test that is wider passes more, and as many only where it passes the same
counts : {X : Type 0} (p q : X → Bool) → ((x : X) → p x ≡ true → q x ≡ true) → (xs : List X) → (count_by p xs ≤ count_by q xs) × (count_by q xs ≤ count_by p xs → (x : X) → Contains xs x → q x ≡ true → p x ≡ true)
counts p q wider [] = (omega arith, λ le x c e. absurd (omega (arith, c.1)))
counts {X} p q wider (x ∷ xs) = by (p x) refl (q x) refl (counts p q wider xs)
  where
    here : (r : X → Bool) (b : Bool) → r x ≡ b → count_by r (x ∷ xs) ≡ cond b 1 0 + count_by r xs
    here r b e = sum_by-cons (λ y. cond (r y) 1 0) x xs ∙ ap (λ c. cond c 1 0 + count_by r xs) e

    -- of the first and the others
    first : (b : Bool) → p x ≡ b → (c : Bool) → q x ≡ c → (c ≡ true → b ≡ true) → (count_by q xs ≤ count_by p xs) → ((y : X) → Contains xs y → q y ≡ true → p y ≡ true)
        → (y : X) → Contains (x ∷ xs) y → q y ≡ true → p y ≡ true
    first b e c f same le more y (zero, within, is) holds = ap p (sym is) ∙ e ∙ same (sym f ∙ ap q is ∙ holds)
    first b e c f same le more y (suc k, within, is) holds = more y (k, omega (arith, within), is) holds

    by : (b : Bool) → p x ≡ b → (c : Bool) → q x ≡ c → (count_by p xs ≤ count_by q xs) × (count_by q xs ≤ count_by p xs → (y : X) → Contains xs y → q y ≡ true → p y ≡ true)
        → (count_by p (x ∷ xs) ≤ count_by q (x ∷ xs)) × (count_by q (x ∷ xs) ≤ count_by p (x ∷ xs) → (y : X) → Contains (x ∷ xs) y → q y ≡ true → p y ≡ true)
    by true e false f more = absurd (true≢false (sym (wider x e) ∙ f))
    by true e true f more =
        let ps = here p true e in
        let qs = here q true f in (
          omega (arith, ps, qs, more.0),
          λ le. (let less : count_by q xs ≤ count_by p xs = omega (arith, ps, qs, le) in first true e true f (λ _. refl) less (more.1 less)),
        )
    by false e false f more =
        let ps = here p false e in
        let qs = here q false f in (
          omega (arith, ps, qs, more.0),
          λ le. (let less : count_by q xs ≤ count_by p xs = omega (arith, ps, qs, le) in first false e false f (λ h. h) less (more.1 less)),
        )
    by false e true f more =
        let ps = here p false e in
        let qs = here q true f in (
          omega (arith, ps, qs, more.0),
          λ le. absurd (omega (arith, ps, qs, le, more.0)),
        )

module _ (policy : List Placed) (apart : AreApart policy) where
  -- whether an optional has what it needs of a set, as far as a statement tells
  is_served : Optionals → List ℕ → ℕ → Placed → Bool
  is_served set name at s = (not (is_optional_at name at s) || is_within set s)
      && (not (bytes_eq name s.module_name && has_innermost (λ _ n. at == n) s.module_name s.optionals) || is_none (missing_words (restricted set policy) s))

  -- those of a set that do
  served : Optionals → Optionals
  served set name at = set name at && list_all (is_served set name at) policy

  served-within : (set : Optionals) → IsWithin (served set) set
  unfolding served
  served-within set name at has = first_true (set name at) (list_all (is_served set name at) policy) has

  innermost-at : (name : List ℕ) (at : ℕ) (ats : List ℕ) → has_innermost (λ _ n. at == n) name ats ≡ true → (set : Optionals) → set name at ≡ true → has_innermost set name ats ≡ true
  innermost-at name at [] e set has = absurd (true≢false (sym e))
  innermost-at name at (n ∷ ats) e set has = ap (set name) (sym (eqb-true at n e)) ∙ has

  at-innermost : (name : List ℕ) (ats : List ℕ) (set : Optionals) → has_innermost set name ats ≡ true → (at : ℕ) × (set name at ≡ true) × (has_innermost (λ _ n. at == n) name ats ≡ true)
  at-innermost name [] set e = absurd (true≢false (sym e))
  at-innermost name (n ∷ ats) set e = (n, e, eq-eqb n n refl)

  -- a good set that is within another one is within what that leaves
  good-served : (good set : Optionals) → IsGood policy good → IsWithin good set → IsWithin good (served set)
  unfolding served is_served
  good-served good set is within name at has =
      both_true (set name at) (list_all (is_served set name at) policy) (within name at has) (all-of (is_served set name at) policy each)
    where
      around : (s : Placed) → Contains policy s → is_optional_at name at s ≡ true → is_within set s ≡ true
      around s c e =
          let optional = first_true (is_optional s.form) (bytes_eq name s.module_name && at == s.at.offset) e in
          let here = second_true (is_optional s.form) (bytes_eq name s.module_name && at == s.at.offset) e in
          let named : name ≡ s.module_name = (bytes_eq-Decides name s.module_name).0 (first_true (bytes_eq name s.module_name) (at == s.at.offset) here) in
          let placed : at ≡ s.at.offset = eqb-true at s.at.offset (second_true (bytes_eq name s.module_name) (at == s.at.offset) here) in
          within-grows good set within s
          (is.around s c (both_true (is_optional s.form) (good s.module_name s.at.offset) optional ((λ i. good (sym named i) (sym placed i)) ∙ has)))

      found : (s : Placed) → Contains policy s → (bytes_eq name s.module_name && has_innermost (λ _ n. at == n) s.module_name s.optionals) ≡ true → is_none (missing_words (restricted set policy) s) ≡ true
      found s c e =
          let named : name ≡ s.module_name = (bytes_eq-Decides name s.module_name).0 (first_true (bytes_eq name s.module_name) (has_innermost (λ _ n. at == n) s.module_name s.optionals) e) in
          let direct = second_true (bytes_eq name s.module_name) (has_innermost (λ _ n. at == n) s.module_name s.optionals) e in
          is-none (missing_words (restricted set policy) s)
          (missing-grows good set policy apart within s
          (is.found s c (innermost-at s.module_name at s.optionals direct good (ap (λ n. good n at) (sym named) ∙ has))))

      each : (s : Placed) → Contains policy s → is_served set name at s ≡ true
      each s c =
          both_true (not (is_optional_at name at s) || is_within set s)
          (not (bytes_eq name s.module_name && has_innermost (λ _ n. at == n) s.module_name s.optionals) || is_none (missing_words (restricted set policy) s))
          (either-true (is_optional_at name at s) (is_within set s) (around s c))
          (either-true (bytes_eq name s.module_name && has_innermost (λ _ n. at == n) s.module_name s.optionals) (is_none (missing_words (restricted set policy) s)) (found s c))

  -- only optionals of the policy
  IsOfPolicy : Optionals → Type 0
  IsOfPolicy set = (name : List ℕ) (at : ℕ) → set name at ≡ true → list_any (is_optional_at name at) policy ≡ true

  -- a set that leaves all its members is good
  left-good : (set : Optionals) → IsOfPolicy set → IsWithin set (served set) → IsGood policy set
  unfolding served is_served IsOfPolicy
  left-good set of_policy left = record {
    of_policy = of_policy;
    around = λ s c member.
        let optional = first_true (is_optional s.form) (set s.module_name s.at.offset) member in
        let has = second_true (is_optional s.form) (set s.module_name s.at.offset) member in
        if-true (is_optional_at s.module_name s.at.offset s) (is_within set s)
        (first_true (not (is_optional_at s.module_name s.at.offset s) || is_within set s)
        (not (bytes_eq s.module_name s.module_name && has_innermost (λ _ n. s.at.offset == n) s.module_name s.optionals) || is_none (missing_words (restricted set policy) s))
        (test s.module_name s.at.offset has s c))
        (both_true (is_optional s.form) (bytes_eq s.module_name s.module_name && s.at.offset == s.at.offset) optional
        (both_true (bytes_eq s.module_name s.module_name) (s.at.offset == s.at.offset) (itself s.module_name) (eq-eqb s.at.offset s.at.offset refl)));
    found = λ s c direct.
        let at = at-innermost s.module_name s.optionals set direct in
        none-is (missing_words (restricted set policy) s)
        (if-true (bytes_eq s.module_name s.module_name && has_innermost (λ _ n. at.0 == n) s.module_name s.optionals) (is_none (missing_words (restricted set policy) s))
        (second_true (not (is_optional_at s.module_name at.0 s) || is_within set s)
        (not (bytes_eq s.module_name s.module_name && has_innermost (λ _ n. at.0 == n) s.module_name s.optionals) || is_none (missing_words (restricted set policy) s))
        (test s.module_name at.0 at.1 s c))
        (both_true (bytes_eq s.module_name s.module_name) (has_innermost (λ _ n. at.0 == n) s.module_name s.optionals) (itself s.module_name) at.2));
  }
    where
      itself : (name : List ℕ) → bytes_eq name name ≡ true
      itself name = (bytes_eq-Decides name name).1 refl

      test : (name : List ℕ) (at : ℕ) → set name at ≡ true → (s : Placed) → Contains policy s → is_served set name at s ≡ true
      test name at has s c = of-all (is_served set name at) policy s (second_true (set name at) (list_all (is_served set name at) policy) (left name at has)) c

  -- a good set in which all good sets are
  record Greatest : Type 0 where
    kept : Optionals
    good : IsGood policy kept
    above : (set : Optionals) → IsGood policy set → IsWithin set kept

  -- of a set fewer are left, or it is the greatest
  step : (set : Optionals) → IsOfPolicy set → ((good : Optionals) → IsGood policy good → IsWithin good set) → (count_by (is_member (served set)) policy < count_by (is_member set) policy) ⊎ Greatest
  unfolding IsOfPolicy
  step set of_policy above =
      let both = counts (is_member (served set)) (is_member set)
      (λ s e. both_true (is_optional s.form) (set s.module_name s.at.offset) (first_true (is_optional s.form) (served set s.module_name s.at.offset) e)
      (served-within set s.module_name s.at.offset (second_true (is_optional s.form) (served set s.module_name s.at.offset) e))) policy in
      elim (cases_lt (count_by (is_member (served set)) policy) (count_by (is_member set) policy)) [
        | inl less ↦ inl less
        | inr past ↦ inr record { kept = set; good = left-good set of_policy (same (both.1 past)); above = above }
      ]
    where
      same : ((s : Placed) → Contains policy s → is_member set s ≡ true → is_member (served set) s ≡ true) → IsWithin set (served set)
      same all name at has =
          let there = passes-among (is_optional_at name at) policy (of_policy name at has) in
          let s = there.x in
          let optional = first_true (is_optional s.form) (bytes_eq name s.module_name && at == s.at.offset) there.passes in
          let here = second_true (is_optional s.form) (bytes_eq name s.module_name && at == s.at.offset) there.passes in
          let named : name ≡ s.module_name = (bytes_eq-Decides name s.module_name).0 (first_true (bytes_eq name s.module_name) (at == s.at.offset) here) in
          let placed : at ≡ s.at.offset = eqb-true at s.at.offset (second_true (bytes_eq name s.module_name) (at == s.at.offset) here) in
          let member : is_member set s ≡ true = both_true (is_optional s.form) (set s.module_name s.at.offset) optional ((λ i. set (sym named i) (sym placed i)) ∙ has) in
          (λ i. served set (named i) (placed i))
          ∙ second_true (is_optional s.form) (served set s.module_name s.at.offset) (all s (subst (λ l. Contains l s) (sym there.split) (contains-middle there.before s there.after)) member)

  -- what is left after as many steps as a set has members
  left-over : (count : ℕ) (set : Optionals) → count_by (is_member set) policy ≤ count → IsOfPolicy set → ((good : Optionals) → IsGood policy good → IsWithin good set) → Greatest
  unfolding IsOfPolicy
  left-over zero set few of_policy above = elim (step set of_policy above) [ inl less ↦ absurd (omega (arith, few, less)) | inr greatest ↦ greatest ]
  left-over (suc n) set few of_policy above = elim (step set of_policy above) [
    | inl less ↦
        left-over n (served set) (omega (arith, few, less)) (λ name at has. of_policy name at (served-within set name at has)) (λ good is. good-served good set is (above good is))
    | inr greatest ↦ greatest
  ]

  -- the policy keeps optionals
  pub kept-exists : (kept : Optionals) × AreKept policy kept
  unfolding IsOfPolicy
  kept-exists =
      let all : Optionals = λ name at. list_any (is_optional_at name at) policy in
      let greatest = left-over (count_by (is_member all) policy) all (omega arith) (λ name at has. has) (λ good is. is.of_policy) in
      (greatest.kept, λ name at. (λ has. (greatest.kept, greatest.good, has), λ other. greatest.above other.0 other.1 name at other.2))
