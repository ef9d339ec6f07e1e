-- What a reference leads to in a restricted policy, by what it leads to in the whole.
use Rattle.cil_optionals.proofs.Common.{◌≡◌, ℕ, Bool, true, false, ◌||◌, cond, List, [], ◌∷◌, find, Option, Some, None, is_some, refl, sym, ap, ◌∙◌, true≢false, if◌then◌else◌, option_or, option_and_then, none-some, same_Some, bytes_eq-Decides, Word, components, Form, block, optional, type_name, type_alias, type_attribute, common, class, class_permission, Placed, Table, types, classes, commons, permission_sets, scopes, declared_in, is_word, same_namespace, word_text, declares, declaration, has_block, outward, nearest_block, inside, from_namespace, leads, is_global, holds_of, PolicyFault, twice, IsFaultOf, Optionals, is_within, restricted, AreApart, first_true, second_true, declared-once, declared-within, one-namespace, declared_table, declared_text, is_naming, is_provided, is_single, is_plain}
use Rattle.cil_specs.proofs.RestrictedLemmas.{has_block-restricted, nearest_block-restricted}

-- the table in which a statement declares a word
pub table-of : (table : Table) (form : Form) (w : Word) → declared_in table form ≡ Some w → table ≡ declared_table form
table-of types (type_name id) w e = refl
table-of types (type_alias id) w e = refl
table-of types (type_attribute id) w e = refl
table-of classes (class id permissions) w e = refl
table-of commons (common id permissions) w e = refl
table-of permission_sets (class_permission id) w e = refl
table-of scopes (block id) w e = refl
table-of scopes (optional id) w e = refl
table-of _ _ w e = absurd (none-some w e)

-- what declares a word in another table than that of blocks and optionals
pub naming-of : (table : Table) (form : Form) (w : Word) → declared_in table form ≡ Some w → (table ≡ scopes → ⊥) → is_naming form ≡ true
naming-of table form w e other = by form (table-of table form w e) (ap (λ t. declared_in t form) (sym (table-of table form w e)) ∙ e)
  where
    by : (f : Form) → table ≡ declared_table f → declared_in (declared_table f) f ≡ Some w → is_naming f ≡ true
    by (block id) is at = absurd (other is)
    by (optional id) is at = absurd (other is)
    by (type_name id) is at = refl
    by (type_alias id) is at = refl
    by (type_attribute id) is at = refl
    by (common id permissions) is at = refl
    by (class id permissions) is at = refl
    by (class_permission id) is at = refl
    by _ is at = absurd (none-some w at)

-- what declares a name: its table, its word and its namespace are these
pub record IsNamed (table : Table) (namespace : List (List ℕ)) (name : List ℕ) (s : Placed) : Type 0 where
  pub table_is : table ≡ declared_table s.form
  pub naming : (table ≡ scopes → ⊥) → is_naming s.form ≡ true
  pub text : declared_text s.form ≡ name
  pub here : s.namespace ≡ namespace

pub declared-named : (table : Table) (namespace : List (List ℕ)) (name : List ℕ) (s : Placed) → declares table namespace name s ≡ true → IsNamed table namespace name s
declared-named table namespace name s e = by (declared_in table s.form) refl (first_true (is_word name (declared_in table s.form)) (same_namespace s.namespace namespace) e)
  where
    here : s.namespace ≡ namespace
    here = one-namespace s.namespace namespace (second_true (is_word name (declared_in table s.form)) (same_namespace s.namespace namespace) e)

    by : (o : Option Word) → declared_in table s.form ≡ o → is_word name o ≡ true → IsNamed table namespace name s
    by None at is = absurd (true≢false (sym is))
    by (Some w) at is =
        let table_is = table-of table s.form w at in
        record {
          table_is = table_is;
          naming = naming-of table s.form w at;
          text = ap (λ t. word_text (declared_in t s.form)) (sym table_is) ∙ ap word_text at ∙ (bytes_eq-Decides w.text name).0 is;
          here = here;
        }

-- what a search finds passes
pub found-passes : {X : Type 0} (p : X → Bool) (xs : List X) (x : X) → find p xs ≡ Some x → p x ≡ true
found-passes p [] x e = absurd (none-some x e)
found-passes p (y ∷ xs) x e = by (p y) refl e (found-passes p xs x)
  where
    by : (b : Bool) → p y ≡ b → cond b (Some y) (find p xs) ≡ Some x → (find p xs ≡ Some x → p x ≡ true) → p x ≡ true
    by true is e more = ap p (sym (same_Some y x e)) ∙ is
    by false is e more = more e

-- one of two is there
pub either-some : {X : Type 0} (o p : Option X) → is_some (option_or o p) ≡ (is_some o || is_some p)
either-some None p = refl
either-some (Some x) p = refl

none-of : {X : Type 0} (o : Option X) → is_some o ≡ false → o ≡ None
none-of None e = refl
none-of (Some x) e = absurd (true≢false e)

module _ (policy : List Placed) (set : Optionals) (apart : AreApart policy) (once : (fault : PolicyFault) → IsFaultOf twice policy fault → ⊥) (table : Table) (other : table ≡ scopes → ⊥) where
  abbrev some_policy : List Placed
  some_policy = restricted set policy

  -- a declaration is found if it stands within the set
  pub declaration-within : (namespace : List (List ℕ)) (name : List ℕ) → is_some (declaration some_policy table namespace name) ≡ holds_of (is_within set) (declaration policy table namespace name)
  declaration-within namespace name = declared-within set policy table namespace name (declared-once policy once table other namespace name)

  -- so it is inside a namespace
  pub inside-within : (namespace names : List (List ℕ)) → is_some (inside some_policy table namespace names) ≡ holds_of (is_within set) (inside policy table namespace names)
  inside-within namespace [] = refl
  inside-within namespace (name ∷ []) = declaration-within namespace name
  inside-within namespace (name ∷ next ∷ more) =
      ap (λ b. is_some (if b then inside some_policy table (name ∷ namespace) (next ∷ more) else None)) (has_block-restricted set policy apart namespace name)
      ∙ by (has_block policy namespace name) (inside-within (name ∷ namespace) (next ∷ more))
    where
      by : (b : Bool) → is_some (inside some_policy table (name ∷ namespace) (next ∷ more)) ≡ holds_of (is_within set) (inside policy table (name ∷ namespace) (next ∷ more))
          → is_some (if b then inside some_policy table (name ∷ namespace) (next ∷ more) else None) ≡ holds_of (is_within set) (if b then inside policy table (name ∷ namespace) (next ∷ more) else None)
      by true more_is = more_is
      by false more_is = refl

  -- a name that is declared is looked up from where it is declared
  named-provided : (namespace : List (List ℕ)) (name : List ℕ) (s : Placed) → IsNamed table namespace name s → is_some (outward some_policy table namespace name) ≡ is_provided some_policy s
  named-provided namespace name s is =
      (λ k. is_some (outward some_policy (is.table_is k) namespace name)) ∙ (λ k. is_some (outward some_policy (declared_table s.form) (sym is.here k) name)) ∙ (λ k. is_some (outward some_policy (declared_table s.form) s.namespace (sym is.text k)))
      ∙ ap (λ b. if b then is_some (outward some_policy (declared_table s.form) s.namespace (declared_text s.form)) else true) (sym (is.naming other))

  declaration-provided : (namespace : List (List ℕ)) (name : List ℕ) (s : Placed) → declaration policy table namespace name ≡ Some s → is_some (outward some_policy table namespace name) ≡ is_provided some_policy s
  declaration-provided namespace name s e =
      named-provided namespace name s (declared-named table namespace name s (found-passes (declares table namespace name) policy s e))

  -- a plain name is found if the one that it leads to is
  pub outward-provided : (namespace : List (List ℕ)) (name : List ℕ) → is_some (outward some_policy table namespace name) ≡ holds_of (is_provided some_policy) (outward policy table namespace name)
  outward-provided [] name = by (declaration policy table [] name) refl
    where
      by : (o : Option Placed) → declaration policy table [] name ≡ o → is_some (outward some_policy table [] name) ≡ holds_of (is_provided some_policy) (declaration policy table [] name)
      by None e = declaration-within [] name ∙ ap (holds_of (is_within set)) e ∙ ap (holds_of (is_provided some_policy)) (sym e)
      by (Some s) e = declaration-provided [] name s e ∙ ap (holds_of (is_provided some_policy)) (sym e)
  outward-provided (inner ∷ outer) name = by (declaration policy table (inner ∷ outer) name) refl (outward-provided outer name)
    where
      by : (o : Option Placed) → declaration policy table (inner ∷ outer) name ≡ o → is_some (outward some_policy table outer name) ≡ holds_of (is_provided some_policy) (outward policy table outer name)
          → is_some (outward some_policy table (inner ∷ outer) name) ≡ holds_of (is_provided some_policy) (option_or (declaration policy table (inner ∷ outer) name) (outward policy table outer name))
      by None e more =
          ap (λ o. is_some (option_or o (outward some_policy table outer name)))
          (none-of (declaration some_policy table (inner ∷ outer) name) (declaration-within (inner ∷ outer) name ∙ ap (holds_of (is_within set)) e))
          ∙ more ∙ ap (λ o. holds_of (is_provided some_policy) (option_or o (outward policy table outer name))) (sym e)
      by (Some s) e more = declaration-provided (inner ∷ outer) name s e ∙ ap (λ o. holds_of (is_provided some_policy) (option_or o (outward policy table outer name))) (sym e)

  -- how a reference is found: a plain name as it is provided, another where it leads within the set
  abbrev pub finds : List ℕ → Placed → Bool
  finds text s = if is_plain text then is_provided some_policy s else is_within set s

  local-found : (namespace names : List (List ℕ)) → is_some (from_namespace some_policy table namespace names)
      ≡ holds_of (λ s. if is_single names then is_provided some_policy s else is_within set s) (from_namespace policy table namespace names)
  local-found namespace [] = refl
  local-found namespace (name ∷ []) = outward-provided namespace name
  local-found namespace (name ∷ next ∷ more) =
      ap (λ o. is_some (option_and_then (λ inner. inside some_policy table inner (next ∷ more)) o)) (nearest_block-restricted set policy apart namespace name) ∙ by (nearest_block policy namespace name)
    where
      by : (o : Option (List (List ℕ))) → is_some (option_and_then (λ inner. inside some_policy table inner (next ∷ more)) o) ≡ holds_of (is_within set) (option_and_then (λ inner. inside policy table inner (next ∷ more)) o)
      by None = refl
      by (Some inner) = inside-within inner (next ∷ more)

  -- a reference is found by what it leads to in the whole policy
  pub leads-found : (namespace : List (List ℕ)) (text : List ℕ) → is_some (leads some_policy table namespace text) ≡ holds_of (finds text) (leads policy table namespace text)
  leads-found namespace text = by (is_global text)
    where
      by : (b : Bool) → is_some (if b then inside some_policy table [] (components text) else from_namespace some_policy table namespace (components text))
          ≡ holds_of (λ s. if (if b then false else is_single (components text)) then is_provided some_policy s else is_within set s) (if b then inside policy table [] (components text) else from_namespace policy table namespace (components text))
      by true = inside-within [] (components text)
      by false = local-found namespace (components text)
