-- Names that are declared twice: what a statement declares, and the same of other statements.
use Rattle.cil_specs.proofs.Common.{◌≡◌, Bool, true, false, ◌||◌, cond, List, [], ◌∷◌, ◌++◌, Option, Some, None, if◌then◌else◌, refl, sym, ap, ◌∙◌, subst, append-nil, get_or, drop, arith, list_any, option_to_list, none-some, Word, Form, block, optional, type_name, type_alias, alias_actual, type_attribute, attribute_set, common, class, class_common, class_order, class_permission, class_permission_set, rule, Placed, Table, types, classes, commons, permission_sets, scopes, declared_in, PolicyFault, twice, is_again, tables, twice_words, IsFaultOf}
use Rattle.std.proofs.Common.{filter, flat_map, Contains, true≢false}
use Rattle.cil_specs.proofs.RestrictedLemmas.{filter-yes, filter-no}

-- the table that a statement declares a name in, if it declares one
pub table_in : Form → Table
table_in (block id) = scopes
table_in (optional id) = scopes
table_in (common id permissions) = commons
table_in (class id permissions) = classes
table_in (class_permission id) = permission_sets
table_in _ = types

pub table-in : (table : Table) (form : Form) (w : Word) → declared_in table form ≡ Some w → table ≡ table_in form
unfolding table_in
table-in types (type_name id) w e = refl
table-in types (type_alias id) w e = refl
table-in types (type_attribute id) w e = refl
table-in classes (class id permissions) w e = refl
table-in commons (common id permissions) w e = refl
table-in permission_sets (class_permission id) w e = refl
table-in scopes (block id) w e = refl
table-in scopes (optional id) w e = refl
table-in _ _ w e = absurd (none-some w e)

-- the words that a statement declares, by a test for each table
abbrev chosen : (Table → Word → Bool) → Form → List Word
chosen again form = flat_map (λ table. filter (again table) (option_to_list (declared_in table form))) tables

-- a statement declares a name in one table alone
chosen-in : (again : Table → Word → Bool) (form : Form) → chosen again form ≡ filter (again (table_in form)) (option_to_list (declared_in (table_in form) form))
unfolding table_in
chosen-in again (alias_actual alias actual) = refl
chosen-in again (attribute_set attribute expr) = refl
chosen-in again (class_common the_class the_common) = refl
chosen-in again (class_order the_classes) = refl
chosen-in again (class_permission_set set the_class permissions) = refl
chosen-in again (rule kind source target permissions) = refl
chosen-in again _ = append-nil _

chosen-some : (again : Table → Word → Bool) (table : Table) (form : Form) (w : Word) → declared_in table form ≡ Some w → chosen again form ≡ (if again table w then w ∷ [] else [])
chosen-some again table form w e =
    chosen-in again form ∙ ap (λ t. filter (again t) (option_to_list (declared_in t form))) (sym (table-in table form w e)) ∙ ap (λ o. filter (again table) (option_to_list o)) e

chosen-none : (again : Table → Word → Bool) (form : Form) → ((table : Table) → declared_in table form ≡ None) → chosen again form ≡ []
chosen-none again form none = chosen-in again form ∙ ap (λ o. filter (again (table_in form)) (option_to_list o)) (none (table_in form))

abbrev again_among : List Placed → Placed → Table → Word → Bool
again_among before s table id = list_any (is_again table s id) before

-- the name of a statement behind others, by whether it is declared again
pub twice-some : (before : List Placed) (s : Placed) (table : Table) (w : Word) → declared_in table s.form ≡ Some w → twice_words before s ≡ (if list_any (is_again table s w) before then w ∷ [] else [])
twice-some before s table w e = chosen-some (again_among before s) table s.form w e

pub twice-nothing : (before : List Placed) (s : Placed) → ((table : Table) → declared_in table s.form ≡ None) → twice_words before s ≡ []
twice-nothing before s none = chosen-none (again_among before s) s.form none

contains-none : {X : Type 0} (x : X) → Contains [] x → ⊥
contains-none x c = omega (arith, c.1)

-- a name that is declared again behind some statements is so behind more
twice-more : (before more : List Placed) (s : Placed) (w : Word) → ((p : Placed → Bool) → list_any p before ≡ true → list_any p more ≡ true) → Contains (twice_words before s) w → Contains (twice_words more s) w
twice-more before more s w grows c =
    subst (λ l. Contains l w) (sym (chosen-in (again_among more s) s.form))
    (by (declared_in (table_in s.form) s.form) (subst (λ l. Contains l w) (chosen-in (again_among before s) s.form) c))
  where
    one : (v : Word) (b d : Bool) → (b ≡ true → d ≡ true) → Contains (cond b (v ∷ []) []) w → Contains (cond d (v ∷ []) []) w
    one v false d f c = absurd (contains-none w c)
    one v true d f c = subst (λ x. Contains (cond x (v ∷ []) []) w) (sym (f refl)) c

    by : (o : Option Word) → Contains (filter (again_among before s (table_in s.form)) (option_to_list o)) w → Contains (filter (again_among more s (table_in s.form)) (option_to_list o)) w
    by None c = c
    by (Some v) c = one v (again_among before s (table_in s.form) v) (again_among more s (table_in s.form) v) (grows (is_again (table_in s.form) s v)) c

-- an element that passes, among others
pub record PassesAmong {X : Type 0} (p : X → Bool) (xs : List X) : Type 0 where
  pub before : List X
  pub x : X
  pub after : List X
  pub split : xs ≡ before ++ x ∷ after
  pub passes : p x ≡ true

pub passes-among : {X : Type 0} (p : X → Bool) (xs : List X) → list_any p xs ≡ true → PassesAmong p xs
passes-among p [] e = absurd (true≢false (sym e))
passes-among p (x ∷ xs) e = by (passes-among p xs) (p x) refl e
  where
    by : (list_any p xs ≡ true → PassesAmong p xs) → (b : Bool) → p x ≡ b → (b || list_any p xs) ≡ true → PassesAmong p (x ∷ xs)
    by others true here any = record { before = []; x = x; after = xs; split = refl; passes = here }
    by others false here any = let more = others any in record { before = x ∷ more.before; x = more.x; after = more.after; split = ap (λ l. x ∷ l) more.split; passes = more.passes }

pub any-middle : {X : Type 0} (p : X → Bool) (before : List X) (x : X) (after : List X) → p x ≡ true → list_any p (before ++ x ∷ after) ≡ true
any-middle p [] x after e = ap (λ b. b || list_any p after) e
any-middle p (y ∷ before) x after e = by (p y) (any-middle p before x after e)
  where
    by : (b : Bool) → list_any p (before ++ x ∷ after) ≡ true → (b || list_any p (before ++ x ∷ after)) ≡ true
    by true more = refl
    by false more = more

-- no name of a policy is declared twice
abbrev pub IsOnce : List Placed → Type 0
IsOnce policy = (fault : PolicyFault) → IsFaultOf twice policy fault → ⊥

-- where one that passes a test stands among all
pub record Split {X : Type 0} (w : X → Bool) (xs : List X) (before' : List X) (x : X) : Type 0 where
  pub before : List X
  pub after : List X
  pub split : xs ≡ before ++ x ∷ after
  pub passes : w x ≡ true
  pub in_front : before' ≡ filter w before

no-split : {X : Type 0} (before : List X) (x : X) (after : List X) → [] ≡ before ++ x ∷ after → ⊥
no-split [] x after e = cc e
no-split (z ∷ before) x after e = cc e

pub filter-split : {X : Type 0} (w : X → Bool) (xs before : List X) (x : X) (after : List X) → filter w xs ≡ before ++ x ∷ after → Split w xs before x
filter-split w [] before x after e = absurd (no-split before x after e)
filter-split {X} w (y ∷ xs) before x after e = by (filter-split w xs) (w y) refl before e
  where
    by : ((before : List X) (x : X) (after : List X) → filter w xs ≡ before ++ x ∷ after → Split w xs before x) → (b : Bool) → w y ≡ b
        → (before : List X) → filter w (y ∷ xs) ≡ before ++ x ∷ after → Split w (y ∷ xs) before x
    by more true is [] e =
        let here : x ≡ y = ap (λ l. get_or l 0 x) (sym e ∙ filter-yes w y xs is) in
        record { before = []; after = xs; split = ap (λ z. z ∷ xs) (sym here); passes = ap w here ∙ is; in_front = refl }
    by more true is (z ∷ before) e =
        let here = sym (filter-yes w y xs is) ∙ e in
        let rest = more before x after (ap (drop 1) here) in
        record {
          before = y ∷ rest.before;
          after = rest.after;
          split = ap (λ l. y ∷ l) rest.split;
          passes = rest.passes;
          in_front = (λ k. sym (ap (λ l. get_or l 0 z) here) k ∷ rest.in_front k) ∙ sym (filter-yes w y rest.before is);
        }
    by more false is before e =
        let rest = more before x after (sym (filter-no w y xs is) ∙ e) in
        record {
          before = y ∷ rest.before;
          after = rest.after;
          split = ap (λ l. y ∷ l) rest.split;
          passes = rest.passes;
          in_front = rest.in_front ∙ sym (filter-no w y rest.before is);
        }

any-filtered : {X : Type 0} (w test : X → Bool) (xs : List X) → list_any test (filter w xs) ≡ true → list_any test xs ≡ true
any-filtered w test [] any = any
any-filtered w test (x ∷ xs) any = by (w x) refl (test x) refl (any-filtered w test xs)
  where
    by : (b : Bool) → w x ≡ b → (c : Bool) → test x ≡ c → (list_any test (filter w xs) ≡ true → list_any test xs ≡ true) → (test x || list_any test xs) ≡ true
    by b e true f more = ap (λ d. d || list_any test xs) f
    by true e false f more = ap (λ d. d || list_any test xs) f ∙ more (sym (ap (λ d. d || list_any test (filter w xs)) f) ∙ sym (ap (list_any test) (filter-yes w x xs e)) ∙ any)
    by false e false f more = ap (λ d. d || list_any test xs) f ∙ more (sym (ap (list_any test) (filter-no w x xs e)) ∙ any)

-- what is declared twice among some of the statements is so among all
pub once-filtered : (w : Placed → Bool) (policy : List Placed) → IsOnce policy → IsOnce (filter w policy)
once-filtered w policy once fault is =
    let one = filter-split w policy is.before is.s is.after is.split in
    once fault record {
      before = one.before;
      s = is.s;
      after = one.after;
      word = is.word;
      split = one.split;
      is_faulty = twice-more (filter w one.before) one.before is.s is.word (λ test. any-filtered w test one.before) (subst (λ l. Contains l is.word) (λ i. twice_words (one.in_front i) is.s) is.is_faulty);
      is_at = is.is_at;
    }
