-- What is found with some optionals is found with more.
use Rattle.cil_specs.proofs.Common.{◌≡◌, ℕ, Bool, true, false, cond, if◌then◌else◌, List, [], ◌∷◌, Option, Some, None, is_some, refl, sym, ap, ◌∙◌, find, list_all, option_or, option_and_then, components, Placed, Table, declares, declaration, has_block, outward, nearest_block, inside, from_namespace, is_global, leads, Optionals, is_within, restricted, IsWithin, AreApart}
use Rattle.std.proofs.Common.{filter, true≢false}
use Rattle.cil_specs.proofs.Runs.{first_true, second_true, both_true}
use Rattle.cil_specs.proofs.RestrictedLemmas.{filter-yes, filter-no, has_block-restricted, nearest_block-restricted}

-- a test of all numbers by a wider one
pub all-grows : (p q : ℕ → Bool) → ((n : ℕ) → p n ≡ true → q n ≡ true) → (ns : List ℕ) → list_all p ns ≡ true → list_all q ns ≡ true
all-grows p q more [] all = refl
all-grows p q more (n ∷ ns) all = both_true (q n) (list_all q ns) (more n (first_true (p n) (list_all p ns) all)) (all-grows p q more ns (second_true (p n) (list_all p ns) all))

-- a search among what passes a wider test
find-grows : {X : Type 0} (p w v : X → Bool) → ((x : X) → w x ≡ true → v x ≡ true) → (xs : List X) → is_some (find p (filter w xs)) ≡ true → is_some (find p (filter v xs)) ≡ true
find-grows p w v more [] found = found
find-grows p w v more (x ∷ xs) found = by (w x) refl (v x) refl (find-grows p w v more xs)
  where
    either : (b : Bool) → (is_some (find p (filter w xs)) ≡ true → is_some (find p (filter v xs)) ≡ true) → is_some (cond b (Some x) (find p (filter w xs))) ≡ true → is_some (cond b (Some x) (find p (filter v xs))) ≡ true
    either true next f = refl
    either false next f = next f

    one : (b : Bool) → is_some (find p (filter v xs)) ≡ true → is_some (cond b (Some x) (find p (filter v xs))) ≡ true
    one true f = refl
    one false f = f

    by : (b : Bool) → w x ≡ b → (c : Bool) → v x ≡ c → (is_some (find p (filter w xs)) ≡ true → is_some (find p (filter v xs)) ≡ true) → is_some (find p (filter v (x ∷ xs))) ≡ true
    by true e true f next = ap (λ l. is_some (find p l)) (filter-yes v x xs f) ∙ either (p x) next (ap (λ l. is_some (find p l)) (sym (filter-yes w x xs e)) ∙ found)
    by true e false f next = absurd (true≢false (sym (more x e) ∙ f))
    by false e true f next = ap (λ l. is_some (find p l)) (filter-yes v x xs f) ∙ one (p x) (next (ap (λ l. is_some (find p l)) (sym (filter-no w x xs e)) ∙ found))
    by false e false f next = ap (λ l. is_some (find p l)) (filter-no v x xs f) ∙ next (ap (λ l. is_some (find p l)) (sym (filter-no w x xs e)) ∙ found)

or-grows : {X : Type 0} (a b c d : Option X) → (is_some a ≡ true → is_some b ≡ true) → (is_some c ≡ true → is_some d ≡ true) → is_some (option_or a c) ≡ true → is_some (option_or b d) ≡ true
or-grows a (Some x) c d first second found = refl
or-grows (Some x) None c d first second found = absurd (true≢false (sym (first refl)))
or-grows None None c d first second found = second found

-- a statement within some optionals is within more
pub within-grows : (kept more : Optionals) → IsWithin kept more → (s : Placed) → is_within kept s ≡ true → is_within more s ≡ true
within-grows kept more within s = all-grows (kept s.module_name) (more s.module_name) (within s.module_name) s.optionals

if-grows : {X : Type 0} (b : Bool) (x y z w : Option X) → (is_some x ≡ true → is_some y ≡ true) → (is_some z ≡ true → is_some w ≡ true) → is_some (if b then x else z) ≡ true → is_some (if b then y else w) ≡ true
if-grows true x y z w first second found = first found
if-grows false x y z w first second found = second found

-- What is found with some optionals is found with more, where blocks stand in none.
module _ (kept more : Optionals) (policy : List Placed) (apart : AreApart policy) (table : Table) (within : IsWithin kept more) where
  declaration-grows : (namespace : List (List ℕ)) (name : List ℕ) → is_some (declaration (restricted kept policy) table namespace name) ≡ true → is_some (declaration (restricted more policy) table namespace name) ≡ true
  declaration-grows namespace name = find-grows (declares table namespace name) (is_within kept) (is_within more) (within-grows kept more within) policy

  outward-grows : (namespace : List (List ℕ)) (name : List ℕ) → is_some (outward (restricted kept policy) table namespace name) ≡ true → is_some (outward (restricted more policy) table namespace name) ≡ true
  outward-grows [] name found = declaration-grows [] name found
  outward-grows (inner ∷ outer) name found =
      or-grows (declaration (restricted kept policy) table (inner ∷ outer) name) (declaration (restricted more policy) table (inner ∷ outer) name)
      (outward (restricted kept policy) table outer name) (outward (restricted more policy) table outer name) (declaration-grows (inner ∷ outer) name) (outward-grows outer name) found

  blocks : (namespace : List (List ℕ)) (name : List ℕ) → has_block (restricted kept policy) namespace name ≡ has_block (restricted more policy) namespace name
  blocks namespace name = has_block-restricted kept policy apart namespace name ∙ sym (has_block-restricted more policy apart namespace name)

  inside-grows : (namespace names : List (List ℕ)) → is_some (inside (restricted kept policy) table namespace names) ≡ true → is_some (inside (restricted more policy) table namespace names) ≡ true
  inside-grows namespace [] found = found
  inside-grows namespace (name ∷ []) found = declaration-grows namespace name found
  inside-grows namespace (name ∷ next ∷ others) found =
      if-grows (has_block (restricted more policy) namespace name) (inside (restricted kept policy) table (name ∷ namespace) (next ∷ others))
      (inside (restricted more policy) table (name ∷ namespace) (next ∷ others)) None None (inside-grows (name ∷ namespace) (next ∷ others)) (λ h. h)
      (ap (λ b. is_some (if b then inside (restricted kept policy) table (name ∷ namespace) (next ∷ others) else None)) (sym (blocks namespace name)) ∙ found)

  from-grows : (namespace names : List (List ℕ)) → is_some (from_namespace (restricted kept policy) table namespace names) ≡ true → is_some (from_namespace (restricted more policy) table namespace names) ≡ true
  from-grows namespace [] found = found
  from-grows namespace (name ∷ []) found = outward-grows namespace name found
  from-grows namespace (name ∷ next ∷ others) found =
      by (nearest_block (restricted more policy) namespace name)
      (ap (λ o. is_some (option_and_then (λ inner. inside (restricted kept policy) table inner (next ∷ others)) o))
      (nearest_block-restricted more policy apart namespace name ∙ sym (nearest_block-restricted kept policy apart namespace name)) ∙ found)
    where
      by : (o : Option (List (List ℕ))) → is_some (option_and_then (λ inner. inside (restricted kept policy) table inner (next ∷ others)) o) ≡ true
          → is_some (option_and_then (λ inner. inside (restricted more policy) table inner (next ∷ others)) o) ≡ true
      by None found = found
      by (Some inner) found = inside-grows inner (next ∷ others) found

  pub leads-grows : (namespace : List (List ℕ)) (text : List ℕ) → is_some (leads (restricted kept policy) table namespace text) ≡ true → is_some (leads (restricted more policy) table namespace text) ≡ true
  leads-grows namespace text =
      if-grows (is_global text) (inside (restricted kept policy) table [] (components text)) (inside (restricted more policy) table [] (components text))
      (from_namespace (restricted kept policy) table namespace (components text)) (from_namespace (restricted more policy) table namespace (components text))
      (inside-grows [] (components text)) (from-grows namespace (components text))
