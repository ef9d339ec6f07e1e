-- Where look-ups of names lead.
use Rattle.cil_resolve.proofs.Common.{◌≡◌, ◌∙◌, ℕ, Bool, true, false, List, [], ◌∷◌, Contains, Option, Some, None, is_some, refl, if◌then◌else◌, option_or, option_and_then, none-some, Word, components, Placed, Table, declared_in, declares, declaration, is_word, same_namespace, has_block, outward, nearest_block, inside, from_namespace, is_global, leads, first_true}
use Rattle.cil_optionals.proofs.FoundLemmas.{found-passes}
use Rattle.cil_resolve.proofs.ListLemmas.{find-there}

-- where a look-up leads: to a declaration among the statements
pub record IsLed (table : Table) (policy : List Placed) (t : Placed) : Type 0 where
  pub there : Contains policy t
  pub declares_it : is_some (declared_in table t.form) ≡ true

module _ (policy : List Placed) (table : Table) (t : Placed) where
  declaration-led : (namespace : List (List ℕ)) (name : List ℕ) → declaration policy table namespace name ≡ Some t → IsLed table policy t
  declaration-led namespace name e = record {
    there = find-there (declares table namespace name) policy t e;
    declares_it = by (declared_in table t.form) (first_true (is_word name (declared_in table t.form)) (same_namespace t.namespace namespace) (found-passes (declares table namespace name) policy t e));
  }
    where
      by : (o : Option Word) → is_word name o ≡ true → is_some o ≡ true
      by None is = is
      by (Some w) is = refl

  outward-led : (namespace : List (List ℕ)) (name : List ℕ) → outward policy table namespace name ≡ Some t → IsLed table policy t
  outward-led [] name e = declaration-led [] name e
  outward-led (inner ∷ outer) name e = by (declaration policy table (inner ∷ outer) name) refl e (outward-led outer name)
    where
      by : (o : Option Placed) → declaration policy table (inner ∷ outer) name ≡ o → option_or o (outward policy table outer name) ≡ Some t
          → (outward policy table outer name ≡ Some t → IsLed table policy t) → IsLed table policy t
      by None is there more = more there
      by (Some u) is there more = declaration-led (inner ∷ outer) name (is ∙ there)

  inside-led : (namespace names : List (List ℕ)) → inside policy table namespace names ≡ Some t → IsLed table policy t
  inside-led namespace [] e = absurd (none-some t e)
  inside-led namespace (name ∷ []) e = declaration-led namespace name e
  inside-led namespace (name ∷ next ∷ more) e = by (has_block policy namespace name) e (inside-led (name ∷ namespace) (next ∷ more))
    where
      by : (b : Bool) → (if b then inside policy table (name ∷ namespace) (next ∷ more) else None) ≡ Some t
          → (inside policy table (name ∷ namespace) (next ∷ more) ≡ Some t → IsLed table policy t) → IsLed table policy t
      by true there rest = rest there
      by false there rest = absurd (none-some t there)

  from-led : (namespace names : List (List ℕ)) → from_namespace policy table namespace names ≡ Some t → IsLed table policy t
  from-led namespace [] e = absurd (none-some t e)
  from-led namespace (name ∷ []) e = outward-led namespace name e
  from-led namespace (name ∷ next ∷ more) e = by (nearest_block policy namespace name) e
    where
      by : (o : Option (List (List ℕ))) → option_and_then (λ inner. inside policy table inner (next ∷ more)) o ≡ Some t → IsLed table policy t
      by None there = absurd (none-some t there)
      by (Some inner) there = inside-led inner (next ∷ more) there

  pub leads-led : (namespace : List (List ℕ)) (text : List ℕ) → leads policy table namespace text ≡ Some t → IsLed table policy t
  leads-led namespace text e = by (is_global text) e
    where
      by : (b : Bool) → (if b then inside policy table [] (components text) else from_namespace policy table namespace (components text)) ≡ Some t → IsLed table policy t
      by true there = inside-led [] (components text) there
      by false there = from-led namespace (components text) there
