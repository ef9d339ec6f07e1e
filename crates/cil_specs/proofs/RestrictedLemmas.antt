-- What is found among the statements that pass a test, and that what stands apart is found alike whatever is kept.
use Rattle.cil_specs.proofs.Common.{◌≡◌, ℕ, Bool, true, false, ◌||◌, cond, if◌then◌else◌, List, [], ◌∷◌, ◌++◌, Option, Some, None, is_some, not, bytes_eq, refl, sym, ap, ◌∙◌, list_all, list_any, Word, Form, block, common, class, class_common, stands_apart, Placed, Table, classes, commons, declared_in, is_word, same_namespace, declares, declaration, block_name, is_block, has_block, nearest_block, leads, holds_of, is_same, listed_by, gives_common, common_permissions, permissions_of, own_permissions, texts, is_lacking, Optionals, is_within, restricted, AreApart}
use Rattle.std.proofs.Common.{filter, flat_map, find, Contains, true≢false}
use Rattle.cil_specs.proofs.Runs.{first_true}
use Rattle.cil_specs.proofs.NamesLemmas.{contains-first, contains-other}
use Rattle.cil_specs.proofs.LeadsLemmas.{nearest-same, leads-same}

-- Of what passes a test w, tests and functions that see nothing else.
module _ {X : Type 0} (w : X → Bool) where
  pub filter-yes : (x : X) (xs : List X) → w x ≡ true → filter w (x ∷ xs) ≡ x ∷ filter w xs
  filter-yes x xs e = ap (λ b. cond b (x ∷ filter w xs) (filter w xs)) e

  pub filter-no : (x : X) (xs : List X) → w x ≡ false → filter w (x ∷ xs) ≡ filter w xs
  filter-no x xs e = ap (λ b. cond b (x ∷ filter w xs) (filter w xs)) e

  pub find-passed : (p : X → Bool) (xs : List X) → ((x : X) → Contains xs x → p x ≡ true → w x ≡ true) → find p (filter w xs) ≡ find p xs
  find-passed p [] passes = refl
  find-passed p (x ∷ xs) passes = by (w x) refl (p x) refl (find-passed p xs (λ y c. passes y (contains-other x xs y c)))
    where
      by : (b : Bool) → w x ≡ b → (c : Bool) → p x ≡ c → find p (filter w xs) ≡ find p xs → find p (filter w (x ∷ xs)) ≡ cond (p x) (Some x) (find p xs)
      by true e c f more = ap (find p) (filter-yes x xs e) ∙ ap (cond (p x) (Some x)) more
      by false e true f more = absurd (true≢false (sym (passes x (contains-first x xs) f) ∙ e))
      by false e false f more = ap (find p) (filter-no x xs e) ∙ more ∙ ap (λ b. cond b (Some x) (find p xs)) (sym f)

  pub any-passed : (p : X → Bool) (xs : List X) → ((x : X) → Contains xs x → p x ≡ true → w x ≡ true) → list_any p (filter w xs) ≡ list_any p xs
  any-passed p [] passes = refl
  any-passed p (x ∷ xs) passes = by (w x) refl (p x) refl (any-passed p xs (λ y c. passes y (contains-other x xs y c)))
    where
      by : (b : Bool) → w x ≡ b → (c : Bool) → p x ≡ c → list_any p (filter w xs) ≡ list_any p xs → list_any p (filter w (x ∷ xs)) ≡ (p x || list_any p xs)
      by true e c f more = ap (list_any p) (filter-yes x xs e) ∙ ap (λ b. p x || b) more
      by false e true f more = absurd (true≢false (sym (passes x (contains-first x xs) f) ∙ e))
      by false e false f more = ap (list_any p) (filter-no x xs e) ∙ more ∙ ap (λ b. b || list_any p xs) (sym f)

  pub flat_map-passed : {Z : Type 0} (g : X → List Z) (xs : List X) → ((x : X) → Contains xs x → w x ≡ false → g x ≡ []) → flat_map g (filter w xs) ≡ flat_map g xs
  flat_map-passed g [] none = refl
  flat_map-passed g (x ∷ xs) none = by (w x) refl (flat_map-passed g xs (λ y c. none y (contains-other x xs y c)))
    where
      by : (b : Bool) → w x ≡ b → flat_map g (filter w xs) ≡ flat_map g xs → flat_map g (filter w (x ∷ xs)) ≡ g x ++ flat_map g xs
      by true e more = ap (flat_map g) (filter-yes x xs e) ∙ ap (λ l. g x ++ l) more
      by false e more = ap (flat_map g) (filter-no x xs e) ∙ more ∙ ap (λ l. l ++ flat_map g xs) (sym (none x (contains-first x xs) e))

pub word-some : (name : List ℕ) (o : Option Word) → is_word name o ≡ true → is_some o ≡ true
word-some name None e = e
word-some name (Some w) e = refl

-- what declares a name in a table has a word there
pub declares-some : (table : Table) (namespace : List (List ℕ)) (name : List ℕ) (s : Placed) → declares table namespace name s ≡ true → is_some (declared_in table s.form) ≡ true
declares-some table namespace name s e = word-some name (declared_in table s.form) (first_true (is_word name (declared_in table s.form)) (same_namespace s.namespace namespace) e)

-- what declares a name in the table stands in no optional
abbrev pub StandsApart : Table → Type 0
StandsApart table = (form : Form) → is_some (declared_in table form) ≡ true → stands_apart form ≡ true

pub classes-apart : StandsApart classes
classes-apart (class id permissions) e = refl
classes-apart _ e = absurd (true≢false (sym e))

pub commons-apart : StandsApart commons
commons-apart (common id permissions) e = refl
commons-apart _ e = absurd (true≢false (sym e))

block-apart : (form : Form) → is_some (block_name form) ≡ true → stands_apart form ≡ true
block-apart (block id) e = refl
block-apart _ e = absurd (true≢false (sym e))

gives-apart : (policy : List Placed) (the_class : Placed) (namespace : List (List ℕ)) (form : Form) → gives_common policy the_class namespace form ≡ true → stands_apart form ≡ true
gives-apart policy the_class namespace (class_common word the_common) e = refl
gives-apart policy the_class namespace _ e = absurd (true≢false (sym e))

module _ (set : Optionals) (policy : List Placed) (apart : AreApart policy) where
  -- what stands apart stands within any optionals
  pub within-apart : (s : Placed) → Contains policy s → stands_apart s.form ≡ true → is_within set s ≡ true
  within-apart s is_in stands = ap (list_all (set s.module_name)) (apart s is_in stands)

  pub has_block-restricted : (namespace : List (List ℕ)) (name : List ℕ) → has_block (restricted set policy) namespace name ≡ has_block policy namespace name
  has_block-restricted namespace name =
      any-passed (is_within set) (is_block namespace name) policy
      (λ s is_in e. within-apart s is_in (block-apart s.form (word-some name (block_name s.form) (first_true (is_word name (block_name s.form)) (same_namespace s.namespace namespace) e))))

  pub nearest_block-restricted : (namespace : List (List ℕ)) (name : List ℕ) → nearest_block (restricted set policy) namespace name ≡ nearest_block policy namespace name
  nearest_block-restricted = nearest-same (restricted set policy) policy has_block-restricted

  declaration-restricted : (table : Table) → StandsApart table → (namespace : List (List ℕ)) (name : List ℕ) → declaration (restricted set policy) table namespace name ≡ declaration policy table namespace name
  declaration-restricted table stands namespace name =
      find-passed (is_within set) (declares table namespace name) policy (λ s is_in e. within-apart s is_in (stands s.form (declares-some table namespace name s e)))

  -- classes and commons are found alike
  pub leads-restricted : (table : Table) → StandsApart table → (namespace : List (List ℕ)) (text : List ℕ) → leads (restricted set policy) table namespace text ≡ leads policy table namespace text
  leads-restricted table stands = leads-same (restricted set policy) policy table (declaration-restricted table stands) has_block-restricted

  gives_common-restricted : (the_class : Placed) (namespace : List (List ℕ)) (form : Form) → gives_common (restricted set policy) the_class namespace form ≡ gives_common policy the_class namespace form
  gives_common-restricted the_class namespace (class_common word the_common) = ap (holds_of (is_same classes the_class)) (leads-restricted classes classes-apart namespace word.text)
  gives_common-restricted the_class namespace _ = refl

  common_permissions-restricted : (namespace : List (List ℕ)) (form : Form) → common_permissions (restricted set policy) namespace form ≡ common_permissions policy namespace form
  common_permissions-restricted namespace (class_common word the_common) = ap listed_by (leads-restricted commons commons-apart namespace the_common.text)
  common_permissions-restricted namespace _ = refl

  -- so are the permissions of a class
  pub permissions-restricted : (s : Placed) → permissions_of (restricted set policy) s ≡ permissions_of policy s
  permissions-restricted s =
      ap (λ l. texts (own_permissions s.form) ++ l)
      ((λ k. flat_map (λ t. if gives_common-restricted s t.namespace t.form k then common_permissions-restricted t.namespace t.form k else []) (restricted set policy))
      ∙ flat_map-passed (is_within set) (λ t. if gives_common policy s t.namespace t.form then common_permissions policy t.namespace t.form else []) policy none)
    where
      none : (t : Placed) → Contains policy t → is_within set t ≡ false → (if gives_common policy s t.namespace t.form then common_permissions policy t.namespace t.form else []) ≡ []
      none t is_in out = by (gives_common policy s t.namespace t.form) refl
        where
          by : (b : Bool) → gives_common policy s t.namespace t.form ≡ b → (if b then common_permissions policy t.namespace t.form else []) ≡ []
          by true e = absurd (true≢false (sym (within-apart t is_in (gives-apart policy s t.namespace t.form e)) ∙ out))
          by false e = refl

  -- and the permissions that a class lacks
  pub lacking-restricted : (namespace : List (List ℕ)) (r : Word × Word) → is_lacking (restricted set policy) namespace r ≡ is_lacking policy namespace r
  lacking-restricted namespace (the_class, word) =
      λ k. holds_of (λ s. not (list_any (bytes_eq word.text) (permissions-restricted s k))) (leads-restricted classes classes-apart namespace the_class.text k)
