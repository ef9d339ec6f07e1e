-- The commons of classes.
use Rattle.cil_resolve.proofs.Common.{◌≡◌, ℕ, Bool, true, false, ◌||◌, List, [], ◌∷◌, ◌++◌, flat_map, filter, append_assoc, Contains, Option, Some, None, is_some, refl, sym, ap, ◌∙◌, subst, true≢false, append-nil, if◌then◌else◌, cond, find, list_any, option_and_then, Word, Form, block, optional, type_name, type_alias, alias_actual, type_attribute, attribute_set, common, class, class_common, class_order, class_permission, class_permission_set, rule, Placed, commons, classes, references, leads, gives_common, is_same, holds_of, common_permissions, permissions_of, own_permissions, texts, listed_by, declared_in, second_common, has_earlier_common, common_words, contains-first, or-false, list_any-append, kind_of, IsFaultless, lists_own, IsFirstOf, none-there, common_in, common_of}
use Rattle.std.proofs.Common.{slice_get}
use Rattle.cil_check.proofs.FirstsLemmas.{same-test}
use Rattle.cil_check.proofs.PositionLemmas.{any-same}
use Rattle.cil_resolve.proofs.FaultlessLemmas.{contains-filter, no-faulty}
use Rattle.cil_check.specs.Associations.{first_at, gives, HasFirsts}
use Rattle.cil_check.specs.declared.firsts.Association.TheVariants.{Common}
use Rattle.std.proofs.lemmas.List.Quantifiers.{position-Some}
use Rattle.cil_resolve.proofs.ElementLemmas.{find-place}
use Rattle.cil_optionals.proofs.FoundLemmas.{found-passes}

common-form : (policy : List Placed) (s : Placed) (namespace : List (List ℕ)) (form : Form) → gives_common policy s namespace form ≡ true → (the_class the_common : Word) × (form ≡ class_common the_class the_common)
common-form policy s namespace (class_common the_class the_common) e = (the_class, the_common, refl)
common-form policy s namespace _ e = absurd (true≢false (sym e))

-- whether a statement gives a common to the class
abbrev pub giving : List Placed → Placed → Placed → Bool
giving policy s t = gives_common policy s t.namespace t.form

-- the statement that is noted for a class, and its common
pub record IsCommonAt (policy : List Placed) (s : Placed) (n : ℕ) : Type 0 where
  pub t : Placed
  pub the_common : Word
  pub at : slice_get policy n ≡ Some t
  pub refers : slice_get (references t.form) 1 ≡ Some (commons, the_common)
  pub is : leads policy commons t.namespace the_common.text ≡ common_of policy s

module _ (policy : List Placed) (firsts : List (ℕ × ℕ)) (i : ℕ) (s : Placed) (has : HasFirsts Common policy firsts) (at : slice_get policy i ≡ Some s) (first : IsFirstOf classes policy i) where
  found : find (giving policy s) policy ≡ option_and_then (slice_get policy) (first_at firsts i)
  found = find-place (giving policy s) (gives Common policy s) (λ t. refl) policy ∙ ap (option_and_then (slice_get policy)) (sym (has i s at first))

  -- no statement gives a common where none is noted
  pub no-common : first_at firsts i ≡ None → common_of policy s ≡ None
  no-common none = ap (option_and_then (λ t. common_in policy t.namespace t.form)) (found ∙ ap (option_and_then (slice_get policy)) none)

  pub common-at : (n : ℕ) → first_at firsts i ≡ Some n → IsCommonAt policy s n
  common-at n noted = by (slice_get policy n) refl
    where
      here : find (giving policy s) policy ≡ slice_get policy n
      here = found ∙ ap (option_and_then (slice_get policy)) noted

      by : (o : Option Placed) → slice_get policy n ≡ o → IsCommonAt policy s n
      by None e = absurd (none-there policy n e (position-Some (gives Common policy s) policy n s (sym (has i s at first) ∙ noted)).0)
      by (Some t) e =
          let form = common-form policy s t.namespace t.form (found-passes (giving policy s) policy t (here ∙ e)) in
          record {
            t = t;
            the_common = form.1;
            at = e;
            refers = ap (λ f. slice_get (references f) 1) form.2;
            is = ap (common_in policy t.namespace) (sym form.2) ∙ sym (ap (option_and_then (λ u. common_in policy u.namespace u.form)) (here ∙ e));
          }

-- a statement gives alike to two that are told alike
giving-same : (policy : List Placed) (s u : Placed) → ((t : Placed) → is_same classes s t ≡ is_same classes u t) → (namespace : List (List ℕ)) (form : Form) → gives_common policy s namespace form ≡ gives_common policy u namespace form
giving-same policy s u same namespace (class_common the_class the_common) = by (leads policy classes namespace the_class.text)
  where
    by : (o : Option Placed) → holds_of (is_same classes s) o ≡ holds_of (is_same classes u) o
    by None = refl
    by (Some t) = same t
giving-same policy s u same namespace (block id) = refl
giving-same policy s u same namespace _ = refl

module _ (policy : List Placed) (faultless : IsFaultless policy) (s : Placed) where
  -- no two statements give a common to a class
  no-two : (before : List Placed) (t : Placed) (after : List Placed) → policy ≡ before ++ t ∷ after → giving policy s t ≡ true → list_any (giving policy s) before ≡ true → ⊥
  no-two before t after split gives_it earlier =
      let form = common-form policy s t.namespace t.form gives_it in
      by form.0 form.1 form.2 (leads policy classes t.namespace form.0.text) refl (sym (ap (gives_common policy s t.namespace) form.2) ∙ gives_it)
    where
      by : (the_class the_common : Word) → t.form ≡ class_common the_class the_common → (o : Option Placed) → leads policy classes t.namespace the_class.text ≡ o
          → holds_of (is_same classes s) (leads policy classes t.namespace the_class.text) ≡ true → ⊥
      by the_class the_common form None led same = true≢false (sym same ∙ ap (holds_of (is_same classes s)) led)
      by the_class the_common form (Some u) led same =
          let alike = same-test classes s u (ap (holds_of (is_same classes s)) (sym led) ∙ same) in
          let again : has_earlier_common policy before t.namespace the_class ≡ true =
          ap (holds_of (λ v. list_any (giving policy v) before)) led ∙ any-same (giving policy u) (giving policy s) (λ v. sym (giving-same policy s u alike v.namespace v.form)) before ∙ earlier in
          no-faulty policy faultless second_common before t after split the_class
          (subst (λ f. Contains (filter (has_earlier_common policy before t.namespace) (common_words f)) the_class) (sym form)
          (contains-filter (has_earlier_common policy before t.namespace) (the_class ∷ []) the_class (contains-first the_class []) again))

  -- what statements give to a class by commons
  abbrev given : Placed → List (List ℕ)
  given t = if giving policy s t then common_permissions policy t.namespace t.form else []

  given-none : (before rest : List Placed) → policy ≡ before ++ rest → list_any (giving policy s) before ≡ true → flat_map given rest ≡ []
  given-none before [] split earlier = refl
  given-none before (t ∷ rest) split earlier =
      by (giving policy s t) refl (given-none (before ++ t ∷ []) rest (split ∙ sym (append_assoc before (t ∷ []) rest)) (list_any-append (giving policy s) before (t ∷ []) ∙ ap (λ b. b || (giving policy s t || false)) earlier))
    where
      by : (b : Bool) → giving policy s t ≡ b → flat_map given rest ≡ [] → (if giving policy s t then common_permissions policy t.namespace t.form else []) ++ flat_map given rest ≡ []
      by true e more = absurd (no-two before t rest split e earlier)
      by false e more = (λ j. (if e j then common_permissions policy t.namespace t.form else []) ++ more j)

  abbrev permissions_in_common : Option Placed → List (List ℕ)
  permissions_in_common None = []
  permissions_in_common (Some t) = common_permissions policy t.namespace t.form

  given-one : (before rest : List Placed) → policy ≡ before ++ rest → list_any (giving policy s) before ≡ false → flat_map given rest ≡ permissions_in_common (find (giving policy s) rest)
  given-one before [] split none = refl
  given-one before (t ∷ rest) split none = by (giving policy s t) refl (λ e. given-one (before ++ t ∷ []) rest next (any ∙ e))
    where
      next : policy ≡ (before ++ t ∷ []) ++ rest
      next = split ∙ sym (append_assoc before (t ∷ []) rest)

      any : list_any (giving policy s) (before ++ t ∷ []) ≡ giving policy s t
      any = list_any-append (giving policy s) before (t ∷ []) ∙ ap (λ b. b || (giving policy s t || false)) none ∙ or-false (giving policy s t)

      own : List (List ℕ)
      own = common_permissions policy t.namespace t.form

      by : (b : Bool) → giving policy s t ≡ b → (giving policy s t ≡ false → flat_map given rest ≡ permissions_in_common (find (giving policy s) rest)) → flat_map given (t ∷ rest) ≡ permissions_in_common (find (giving policy s) (t ∷ rest))
      by true e more =
          (λ j. (if e j then own else []) ++ given-none (before ++ t ∷ []) rest next (any ∙ e) j) ∙ append-nil own ∙ ap permissions_in_common (sym (ap (λ b. cond b (Some t) (find (giving policy s) rest)) e))
      by false e more = (λ j. (if e j then own else []) ++ more e j) ∙ ap permissions_in_common (sym (ap (λ b. cond b (Some t) (find (giving policy s) rest)) e))

  common-listed : (namespace : List (List ℕ)) (form : Form) → common_permissions policy namespace form ≡ listed_by (common_in policy namespace form)
  common-listed namespace (class_common the_class the_common) = refl
  common-listed namespace _ = refl

  -- the permissions of a class are its own and those of its common
  pub class-permissions : permissions_of policy s ≡ texts (own_permissions s.form) ++ listed_by (common_of policy s)
  class-permissions = ap (λ l. texts (own_permissions s.form) ++ l) (given-one [] policy refl refl ∙ by (find (giving policy s) policy))
    where
      by : (o : Option Placed) → permissions_in_common o ≡ listed_by (option_and_then (λ t. common_in policy t.namespace t.form) o)
      by None = refl
      by (Some t) = common-listed t.namespace t.form

-- a common lists permissions
pub common-lists : (form : Form) → is_some (declared_in commons form) ≡ true → lists_own (kind_of form) ≡ true
common-lists (common id permissions) e = refl
common-lists _ e = absurd (true≢false (sym e))
