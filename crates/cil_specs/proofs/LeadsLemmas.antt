-- Where a name leads by two policies whose declarations and blocks are the same.
use Rattle.cil_specs.proofs.Common.{◌≡◌, ℕ, List, [], ◌∷◌, Option, Some, None, refl, ap, ◌∙◌, if◌then◌else◌, option_or, option_and_then, components, Placed, Table, declaration, has_block, outward, nearest_block, inside, from_namespace, is_global, leads}

-- the nearest block of a name by two policies whose blocks are the same
pub nearest-same : (policy policy' : List Placed) → ((namespace : List (List ℕ)) (name : List ℕ) → has_block policy namespace name ≡ has_block policy' namespace name)
    → (namespace : List (List ℕ)) (name : List ℕ) → nearest_block policy namespace name ≡ nearest_block policy' namespace name
nearest-same policy policy' blocks [] name = λ k. if blocks [] name k then Some (name ∷ []) else None
nearest-same policy policy' blocks (inner ∷ outer) name = λ k. if blocks (inner ∷ outer) name k then Some (name ∷ inner ∷ outer) else nearest-same policy policy' blocks outer name k

module _ (policy policy' : List Placed) (table : Table)
    (declared : (namespace : List (List ℕ)) (name : List ℕ) → declaration policy table namespace name ≡ declaration policy' table namespace name)
    (blocks : (namespace : List (List ℕ)) (name : List ℕ) → has_block policy namespace name ≡ has_block policy' namespace name) where
  outward-same : (namespace : List (List ℕ)) (name : List ℕ) → outward policy table namespace name ≡ outward policy' table namespace name
  outward-same [] name = declared [] name
  outward-same (inner ∷ outer) name = λ k. option_or (declared (inner ∷ outer) name k) (outward-same outer name k)

  inside-same : (namespace names : List (List ℕ)) → inside policy table namespace names ≡ inside policy' table namespace names
  inside-same namespace [] = refl
  inside-same namespace (name ∷ []) = declared namespace name
  inside-same namespace (name ∷ next ∷ more) = λ k. if blocks namespace name k then inside-same (name ∷ namespace) (next ∷ more) k else None

  then-same : (names : List (List ℕ)) (o : Option (List (List ℕ))) → option_and_then (λ inner. inside policy table inner names) o ≡ option_and_then (λ inner. inside policy' table inner names) o
  then-same names None = refl
  then-same names (Some inner) = inside-same inner names

  from-same : (namespace names : List (List ℕ)) → from_namespace policy table namespace names ≡ from_namespace policy' table namespace names
  from-same namespace [] = refl
  from-same namespace (name ∷ []) = outward-same namespace name
  from-same namespace (name ∷ next ∷ more) =
      ap (option_and_then (λ inner. inside policy table inner (next ∷ more))) (nearest-same policy policy' blocks namespace name) ∙ then-same (next ∷ more) (nearest_block policy' namespace name)

  pub leads-same : (namespace : List (List ℕ)) (text : List ℕ) → leads policy table namespace text ≡ leads policy' table namespace text
  leads-same namespace text = λ k. if is_global text then inside-same [] (components text) k else from-same namespace (components text) k
