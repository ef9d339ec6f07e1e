-- What is known of the numbers of permissions, as lists come.
use Rattle.cil_resolve.proofs.Common.{◌≡◌, ◌≢◌, ◌∙◌, ◌||◌, Option, eq-eqb, if◌then◌else◌, option_and_then, ℕ, zero, suc, Bool, map, list_all, first_true, second_true, same_Some, true, false, true≢false, List, [], ◌∷◌, Some, None, none-some, refl, sym, ap, subst, slice_get, bytes_eq, bytes_eq-true, list_any-append, AllByRecursion, contains-first, contains-other, Word, Form, class, common, Placed, components, own_permissions, permissions_in, texts, has_name, listed_names, known_at, list_at, HaveNumbers, IsOneName, KnowNumbers}
use Rattle.cil_bind.specs.Written.{HaveOneNames}
use Rattle.std.proofs.Common.{ne_eqb}
use Rattle.std.specs.Rc.{rc_value}
use Rattle.std.specs.declared.rc.Rc.{Rc}
use Rattle.cil_resolve.specs.declared.known_permissions.KnownPermissions.{KnownPermissions}
use Rattle.cil_resolve.specs.declared.lowering.Lowering.{Lowering}

-- what holds of all that a list is mapped to
pub mapped-passes : {X : Type 0} (p : List ℕ → Bool) (f : X → List ℕ) (xs : List X) (i : ℕ) (x : X) → list_all p (map f xs) ≡ true → slice_get xs i ≡ Some x → p (f x) ≡ true
mapped-passes p f [] i x all at = absurd (none-some x at)
mapped-passes p f (y ∷ xs) zero x all at = ap (λ z. p (f z)) (sym (same_Some y x at)) ∙ first_true (p (f y)) (list_all p (map f xs)) all
mapped-passes p f (y ∷ xs) (suc i) x all at = mapped-passes p f xs i x (second_true (p (f y)) (list_all p (map f xs)) all) at

-- a permission that words name is one name
one-text : (list : List Word) (name : List ℕ) → AllByRecursion IsOneName list → has_name (texts list) name ≡ true → components name ≡ name ∷ []
one-text [] name all has = absurd (true≢false (sym has))
one-text (w ∷ list) name all has = by (one-text list name all.1) (bytes_eq name w.text) refl
  where
    by : (has_name (texts list) name ≡ true → components name ≡ name ∷ []) → (b : Bool) → bytes_eq name w.text ≡ b → components name ≡ name ∷ []
    by more true e = subst (λ t. components t ≡ t ∷ []) (sym (bytes_eq-true name w.text e)) all.0
    by more false e = more (sym (ap (λ b. b || has_name (texts list) name) e) ∙ has)

own-one : (form : Form) → AllByRecursion IsOneName (permissions_in form) → AllByRecursion IsOneName (own_permissions form)
own-one (class id permissions) all = all
own-one (common id permissions) all = all
own-one _ all = tt

-- a permission that statements list is one name
pub listed-one : (policy : List Placed) (name : List ℕ) → HaveOneNames policy → has_name (listed_names policy) name ≡ true → components name ≡ name ∷ []
listed-one [] name all has = absurd (true≢false (sym has))
listed-one (s ∷ policy) name all has = by (listed-one policy name (λ t there. all t (contains-other s policy t there))) (has_name (texts (own_permissions s.form)) name) refl
  where
    by : (has_name (listed_names policy) name ≡ true → components name ≡ name ∷ []) → (b : Bool) → has_name (texts (own_permissions s.form)) name ≡ b → components name ≡ name ∷ []
    by more true e = one-text (own_permissions s.form) name (own-one s.form (all s (contains-first s policy)).permissions) e
    by more false e =
        more
        (sym (ap (λ b. b || has_name (listed_names policy) name) e) ∙ sym (list_any-append (bytes_eq name) (texts (own_permissions s.form)) (listed_names policy)) ∙ has)

module _ {A : Type 0} where
  -- nothing is known
  pub none-known : (l : Lowering A) (known : KnownPermissions A) (policy : List Placed) → ((m n : ℕ) → known_at known m n ≡ None) → KnowNumbers l known policy
  none-known l known policy none m n numbers found = absurd (none-some numbers (sym (none m n) ∙ found))

  -- the numbers of the lists of one module
  pub know-lists : (l : Lowering A) (known : KnownPermissions A) (policy : List Placed) (m0 : ℕ) (lists : List (List ℕ)) → ((n : ℕ) → known_at known m0 n ≡ slice_get lists n)
      → ((m n : ℕ) (some : List ℕ) → known_at known m n ≡ Some some → m ≡ m0)
      → ((n : ℕ) (numbers : List ℕ) → slice_get lists n ≡ Some numbers → HaveNumbers l.numbering.now.names.items policy (list_at l.checker.now.bound.joined.now m0 n) numbers)
      → KnowNumbers l known policy
  know-lists l known policy m0 lists here others have m n numbers found =
      let same = others m n numbers found in
      subst (λ p. HaveNumbers l.numbering.now.names.items policy (list_at l.checker.now.bound.joined.now p n) numbers) (sym same)
      (have n numbers (sym (here n) ∙ ap (λ p. known_at known p n) (sym same) ∙ found))

  -- the numbers of a list of several, if these are known
  abbrev known-in : Option (Rc (List (List ℕ) × List ℕ) A) → ℕ → Option (List ℕ)
  known-in known n = option_and_then (λ lists. slice_get (rc_value {X = List (List ℕ) × List ℕ} lists).0 n) known

  known-here : (known : KnownPermissions A) (m n : ℕ) → known.«module» ≡ m → known_at known m n ≡ known-in known.lists n
  known-here known m n here = ap (λ b. if b then known-in known.lists n else None) (eq-eqb known.«module» m here)

  -- nothing is known of another module's lists, nor where no lists are known
  pub known-other : (known : KnownPermissions A) (m n : ℕ) → known.«module» ≢ m → known_at known m n ≡ None
  known-other known m n other = ap (λ b. if b then known-in known.lists n else None) (ne_eqb known.«module» m other)

  pub known-unset : (known : KnownPermissions A) (m n : ℕ) → known.«module» ≡ m → known.lists ≡ None → known_at known m n ≡ None
  known-unset known m n here none = known-here known m n here ∙ ap (λ lists. known-in lists n) none

  -- those of a list of the module
  pub known-of : (known : KnownPermissions A) (m n : ℕ) (lists : Rc (List (List ℕ) × List ℕ) A) → known.«module» ≡ m → known.lists ≡ Some lists → known_at known m n ≡ slice_get (rc_value lists).0 n
  known-of known m n lists here some = known-here known m n here ∙ ap (λ lists. known-in lists n) some
