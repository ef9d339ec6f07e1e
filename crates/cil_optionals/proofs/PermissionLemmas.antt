-- The permissions of classes.
use Rattle.cil_optionals.proofs.Common.{◌≡◌, ℕ, zero, suc, ◌+◌, ◌<◌, ◌≤◌, ◌==◌, ◌&&◌, ◌||◌, not, Bool, true, false, List, [], ◌∷◌, ◌++◌, map, flat_map, length, take, position, get_or, slice_get, Option, Some, None, bytes_eq, refl, sym, ap, ◌∙◌, true≢false, add-one, arith, inl, inr, if◌then◌else◌, list_all, list_any, none-some, same_Some, get_or_from_slice_get, slice_get-get_or, eqb-true, eq-eqb, ne_eqb, cases_eq, take_all, list_any-append, position-Some, bytes_eq-Decides, Word, Form, class_common, class_permission_set, anonymous, by_name, rule, itself, the_named, Placed, is_lacking, first_true, second_true, both_true, one-namespace, IsFirstOf, IsLead, names-next, spread, own-listed, none-listed, take-length, take-last, any-last, NumberedWord, are_there, lists, commons_at, gift, given_at, last_bound, names_permissions, gives_common, lists_at, common_passes, gives_passing, permissions_in, IsUpTo, SeenPermissions, HavePermissions, Permission}
use Rattle.std.proofs.Math.Bool.{or-false}
use Rattle.indexmap.specs.IndexSet.{insert_key}
use Rattle.cil_specs.specs.Lookup.{Table, classes, commons, declared_in, declares, same_namespace, is_word, is_same, word_text, holds_of, leads, references, named_permissions, texts, own_permissions, has_name, listed_by, gives_common as gives_common_to, common_permissions, permissions_of}
use Rattle.cil_bind.specs.Binding.{AreLeads}
use Rattle.cil_bind.specs.Listing.{lists_own}
use Rattle.cil_parse.specs.Forms.{kind_of, permissions_in as listed_in}
use Rattle.cil_optionals.specs.declared.listed.Listed.{Listed}
use Rattle.cil_optionals.specs.contracts.listed.PermissionPartialEq.TheImpl as permission_eq

pub derived-permission : (p : Permission) → (permission_eq.eq-value).it p ≡ (λ other. (p.place == other.place) && bytes_eq p.name.now other.name.now)
derived-permission p = refl

and-false : (b : Bool) → (b && false) ≡ false
and-false true = refl
and-false false = refl

-- one permission more
pub lists-insert : (keys : List Permission) (p : Permission) (i : ℕ) (name : List ℕ) → lists (insert_key (permission_eq.eq-value).it keys p) i name ≡ (lists keys i name || (i == p.place && bytes_eq name p.name.now))
lists-insert keys p i name = by (list_any ((permission_eq.eq-value).it p) keys) refl
  where
    there : list_any ((permission_eq.eq-value).it p) keys ≡ true → (i == p.place && bytes_eq name p.name.now) ≡ true → lists keys i name ≡ true
    there has is =
        let place : i ≡ p.place = eqb-true i p.place (first_true (i == p.place) (bytes_eq name p.name.now) is) in
        let named : name ≡ p.name.now = (bytes_eq-Decides name p.name.now).0 (second_true (i == p.place) (bytes_eq name p.name.now) is) in
        (λ k. lists keys (place k) (named k)) ∙ ap (λ test. list_any test keys) (sym (derived-permission p)) ∙ has

    same : (a b : Bool) → (b ≡ true → a ≡ true) → a ≡ (a || b)
    same true b h = refl
    same false true h = h refl
    same false false h = refl

    by : (b : Bool) → list_any ((permission_eq.eq-value).it p) keys ≡ b → lists (if b then keys else keys ++ p ∷ []) i name ≡ (lists keys i name || (i == p.place && bytes_eq name p.name.now))
    by true has = same (lists keys i name) (i == p.place && bytes_eq name p.name.now) (there has)
    by false has = any-last (λ q. (i == q.place) && bytes_eq name q.name.now) keys p

-- one word more
pub words-next : (list : List Word) (k : ℕ) (w : Word) (place i : ℕ) (name : List ℕ) (first old new : Bool) → slice_get list k ≡ Some w → old ≡ (first || (i == place && has_name (texts (take k list)) name))
    → new ≡ (old || (i == place && bytes_eq name w.text)) → new ≡ (first || (i == place && has_name (texts (take (k + 1) list)) name))
words-next list k w place i name first old new at so_far added =
    added ∙ ap (λ b. b || (i == place && bytes_eq name w.text)) so_far ∙ spread first (i == place) (has_name (texts (take k list)) name) (bytes_eq name w.text)
    ∙ ap (λ b. first || (i == place && b)) (sym (names-next list k w name at))

-- what is read behind the end of words
abbrev pub no_word : NumberedWord
no_word = record { at = record { offset = 0; line = 0; column = 0 }; text = 0 }

-- all up to a place pass
pub all-next : {X : Type 0} (p : X → Bool) (xs : List X) (i : ℕ) (x : X) → slice_get xs i ≡ Some x → p x ≡ true → list_all p (take i xs) ≡ true → list_all p (take (i + 1) xs) ≡ true
all-next p xs i x at passes all = ap (λ k. list_all p (take k xs)) (add-one i) ∙ by xs i at all
  where
    by : (ys : List _) (k : ℕ) → slice_get ys k ≡ Some x → list_all p (take k ys) ≡ true → list_all p (take (suc k) ys) ≡ true
    by [] k here more = absurd (none-some x here)
    by (y ∷ ys) zero here more = both_true (p y) true (ap p (same_Some y x here) ∙ passes) refl
    by (y ∷ ys) (suc k) here more = both_true (p y) (list_all p (take (suc k) ys)) (first_true (p y) (list_all p (take k ys)) more) (by ys k here (second_true (p y) (list_all p (take k ys)) more))

pub not-all : {X : Type 0} (p : X → Bool) (xs : List X) (i : ℕ) (x : X) → slice_get xs i ≡ Some x → p x ≡ false → list_all p xs ≡ false
not-all p [] i x at fails = absurd (none-some x at)
not-all p (y ∷ xs) zero x at fails = ap (λ b. b && list_all p xs) (ap p (same_Some y x at) ∙ fails)
not-all p (y ∷ xs) (suc i) x at fails = ap (λ b. p y && b) (not-all p xs i x at fails) ∙ and-false (p y)

-- of two that declare one name, both are told alike
word-text : (name : List ℕ) (o : Option Word) → is_word name o ≡ true → word_text o ≡ name
word-text name None e = absurd (true≢false (sym e))
word-text name (Some w) e = (bytes_eq-Decides w.text name).0 e

same-test : (table : Table) (s t : Placed) → is_same table s t ≡ true → (u : Placed) → is_same table s u ≡ is_same table t u
same-test table s t e u =
    let name = word_text (declared_in table s.form) in
    let named = word-text name (declared_in table t.form) (first_true (is_word name (declared_in table t.form)) (same_namespace t.namespace s.namespace) e) in
    let spaced = one-namespace t.namespace s.namespace (second_true (is_word name (declared_in table t.form)) (same_namespace t.namespace s.namespace) e) in
    λ k. declares table (sym spaced k) (sym named k) u

-- of two that are the first of their names, both declare one name exactly if they stand at one place
first-same : (table : Table) (policy : List Placed) (i k : ℕ) (s t : Placed) → slice_get policy i ≡ Some s → IsFirstOf table policy i → slice_get policy k ≡ Some t
    → IsFirstOf table policy k → is_same table s t ≡ (i == k)
first-same table policy i k s t is first at earliest = by (is_same table s t) (i == k) refl refl
  where
    itself_there : is_same table s s ≡ true
    itself_there = ap (is_same table s) (sym (get_or_from_slice_get policy i s s is)) ∙ (position-Some (is_same table s) policy i s (first s is)).1

    by : (b c : Bool) → is_same table s t ≡ b → (i == k) ≡ c → b ≡ c
    by true true e f = refl
    by false false e f = refl
    by true false e f =
        let one : i ≡ k = same_Some i k (sym (first s is) ∙ (λ j. position (λ u. same-test table s t e u j) policy) ∙ earliest t at) in
        sym (eq-eqb i k one) ∙ f
    by false true e f =
        let one : s ≡ t = same_Some s t (sym is ∙ ap (slice_get policy) (eqb-true i k f) ∙ at) in
        sym e ∙ ap (is_same table s) (sym one) ∙ itself_there

-- a lead declares the name of the first at a place exactly if it is that place
lead-same : (table : Table) (policy : List Placed) (i k : ℕ) (s : Placed) (lead : Option Placed) → slice_get policy i ≡ Some s → IsFirstOf table policy i
    → IsLead table policy (Some k) lead → (i == k) ≡ holds_of (is_same table s) lead
lead-same table policy i k s lead is first led = by (slice_get policy k) refl
  where
    by : (u : Option Placed) → slice_get policy k ≡ u → (i == k) ≡ holds_of (is_same table s) lead
    by None e = absurd (none-some (get_or policy k s) (sym e ∙ slice_get-get_or policy k s led.within))
    by (Some u) e = sym (first-same table policy i k s u is first e led.first) ∙ ap (holds_of (is_same table s)) (sym e ∙ led.is)

-- what statements give by their kinds
gives-none : (policy : List Placed) (s t : Placed) (test : Placed → Bool) → gives_common (kind_of t.form) ≡ false → gives_passing policy s test t ≡ false
gives-none policy s t test = by t.form
  where
    by : (form : Form) → gives_common (kind_of form) ≡ false → (gives_common_to policy s t.namespace form && common_passes policy test t.namespace form) ≡ false
    by (class_common the_class the_common) is = absurd (true≢false is)
    by _ is = refl

own-gives : (form : Form) → lists_own (kind_of form) ≡ true → gives_common (kind_of form) ≡ false
own-gives (class_common the_class the_common) is = absurd (true≢false (sym is))
own-gives (rule kind source itself (anonymous the_class permissions)) is = refl
own-gives (rule kind source itself (by_name set)) is = refl
own-gives (rule kind source (the_named word) (anonymous the_class permissions)) is = refl
own-gives (rule kind source (the_named word) (by_name set)) is = refl
own-gives _ is = refl

-- what stands at a place of a list with one more
holds-last : (test : Placed → Bool) (xs : List Placed) (t : Placed) (n j : ℕ) → length xs ≡ n → holds_of test (slice_get (xs ++ t ∷ []) j) ≡ (holds_of test (slice_get xs j) || ((j == n) && test t))
holds-last test xs t n j long = by xs n j long
  where
    equal : (m k : ℕ) → (m == k) ≡ (suc m == suc k)
    equal m k = elim (cases_eq m k) [
      | inl same ↦ eq-eqb m k same ∙ sym (eq-eqb (suc m) (suc k) (ap suc same))
      | inr other ↦ ne_eqb m k other ∙ sym (ne_eqb (suc m) (suc k) (λ e. other (omega (arith, e))))
    ]

    by : (ys : List Placed) (m k : ℕ) → length ys ≡ m → holds_of test (slice_get (ys ++ t ∷ []) k) ≡ (holds_of test (slice_get ys k) || ((k == m) && test t))
    by [] m zero e = ap (λ b. b && test t) (sym (eq-eqb 0 m e))
    by [] m (suc k) e = ap (λ b. b && test t) (sym (ne_eqb (suc k) m (λ same. absurd (omega (arith, same, e)))))
    by (y ∷ ys) m zero e = sym (or-false (test y)) ∙ ap (λ b. test y || (b && test t)) (sym (ne_eqb 0 m (λ same. absurd (omega (arith, same, e)))))
    by (y ∷ ys) m (suc k) e = by ys (length ys) k refl ∙ ap (λ b. holds_of test (slice_get ys k) || (b && test t)) (equal k (length ys) ∙ ap (λ n. suc k == n) e)

-- one statement more
upto-next : {A : Type 0} (policy : List Placed) (i : ℕ) (t : Placed) (old new : Listed A) → slice_get policy i ≡ Some t
    → ((place : ℕ) (name : List ℕ) → lists new.listed.keys place name ≡ (lists old.listed.keys place name || (place == i && has_name (texts (own_permissions t.form)) name)))
    → ((k : ℕ) (s : Placed) (test : Placed → Bool) → slice_get policy k ≡ Some s → IsFirstOf classes policy k → list_any (λ c. holds_of test (slice_get policy c)) (commons_at new.given.items k)
    ≡ (list_any (λ c. holds_of test (slice_get policy c)) (commons_at old.given.items k) || gives_passing policy s test t))
    → IsUpTo policy i old → IsUpTo policy (i + 1) new
upto-next policy i t old new at listed given are = record {
  listed = λ place name.
      listed place name ∙ ap (λ b. b || (place == i && has_name (texts (own_permissions t.form)) name)) (are.listed place name)
      ∙ sym (ap (λ l. lists_at l place name) (take-last policy i t at) ∙ holds-last (λ s. has_name (texts (own_permissions s.form)) name) (take i policy) t i place (take-length policy i t at));
  given = λ k s test here first.
      given k s test here first ∙ ap (λ b. b || gives_passing policy s test t) (are.given k s test here first)
      ∙ sym (ap (list_any (gives_passing policy s test)) (take-last policy i t at) ∙ any-last (gives_passing policy s test) (take i policy) t);
}

adds-none : (form : Form) → lists_own (kind_of form) ≡ false → (name : List ℕ) (a e : Bool) → a ≡ (a || (e && has_name (texts (own_permissions form)) name))
adds-none form is name a e = sym (ap (λ l. a || (e && has_name (texts l) name)) (none-listed form is) ∙ ap (λ b. a || b) (and-false e) ∙ or-false a)

-- it lists permissions
pub upto-lists : {A : Type 0} (policy : List Placed) (i : ℕ) (t : Placed) (old new : Listed A) → slice_get policy i ≡ Some t → lists_own (kind_of t.form) ≡ true
    → ((place : ℕ) (name : List ℕ) → lists new.listed.keys place name ≡ (lists old.listed.keys place name || (place == i && has_name (texts (listed_in t.form)) name)))
    → new.given.items ≡ old.given.items → IsUpTo policy i old → IsUpTo policy (i + 1) new
upto-lists policy i t old new at own listed same are =
    upto-next policy i t old new at
    (λ place name. listed place name ∙ ap (λ l. lists old.listed.keys place name || (place == i && has_name (texts l) name)) (own-listed t.form own))
    (λ k s test here first.
    ap (λ l. list_any (λ c. holds_of test (slice_get policy c)) (commons_at l k)) same ∙ sym (or-false (list_any (λ c. holds_of test (slice_get policy c)) (commons_at old.given.items k)))
    ∙ ap (λ b. list_any (λ c. holds_of test (slice_get policy c)) (commons_at old.given.items k) || b) (sym (gives-none policy s t test (own-gives t.form own))))
    are

-- it gives nothing
pub upto-other : {A : Type 0} (policy : List Placed) (i : ℕ) (t : Placed) (p : Listed A) → slice_get policy i ≡ Some t → lists_own (kind_of t.form) ≡ false → gives_common (kind_of t.form) ≡ false
    → IsUpTo policy i p → IsUpTo policy (i + 1) p
upto-other policy i t p at own gives are =
    upto-next policy i t p p at
    (λ place name. adds-none t.form own name (lists p.listed.keys place name) (place == i))
    (λ k s test here first.
    sym (or-false (list_any (λ c. holds_of test (slice_get policy c)) (commons_at p.given.items k)))
    ∙ ap (λ b. list_any (λ c. holds_of test (slice_get policy c)) (commons_at p.given.items k) || b) (sym (gives-none policy s t test gives)))
    are

-- what it gives by what its references are bound to
given-by : (policy : List Placed) (k : ℕ) (s : Placed) (test : Placed → Bool) → slice_get policy k ≡ Some s → IsFirstOf classes policy k → (namespace : List (List ℕ)) (form : Form) → gives_common (kind_of form) ≡ true
    → (bound : List (Option ℕ)) → AreLeads policy namespace (references form) bound
    → list_any (λ c. holds_of test (slice_get policy c)) (given_at (gift bound) k) ≡ (gives_common_to policy s namespace form && common_passes policy test namespace form)
given-by policy k s test here first namespace (class_common the_class the_common) is (None ∷ second ∷ []) (led, (other, end)) =
    ap (λ o. holds_of (is_same classes s) o && holds_of test (leads policy commons namespace the_common.text)) led.is
given-by policy k s test here first namespace (class_common the_class the_common) is (Some c ∷ None ∷ []) (led, (other, end)) =
    sym (and-false (holds_of (is_same classes s) (leads policy classes namespace the_class.text))) ∙ ap (λ o. holds_of (is_same classes s) (leads policy classes namespace the_class.text) && holds_of test o) other.is
given-by policy k s test here first namespace (class_common the_class the_common) is (Some c ∷ Some d ∷ []) (led, (other, end)) =
    by (k == c) ∙ (λ j. lead-same classes policy k c s (leads policy classes namespace the_class.text) here first led j && holds_of test (other.is j))
  where
    by : (b : Bool) → list_any (λ m. holds_of test (slice_get policy m)) (if b then d ∷ [] else []) ≡ (b && holds_of test (slice_get policy d))
    by true = or-false (holds_of test (slice_get policy d))
    by false = refl
given-by policy k s test here first namespace (class_common the_class the_common) is [] are = absurd are
given-by policy k s test here first namespace (class_common the_class the_common) is (b ∷ []) are = absurd are.1
given-by policy k s test here first namespace (class_common the_class the_common) is (None ∷ b ∷ e ∷ more) are = absurd are.1.1
given-by policy k s test here first namespace (class_common the_class the_common) is (Some c ∷ None ∷ e ∷ more) are = absurd are.1.1
given-by policy k s test here first namespace (class_common the_class the_common) is (Some c ∷ Some d ∷ e ∷ more) are = absurd are.1.1
given-by policy k s test here first namespace (rule kind source itself (anonymous the_class permissions)) is bound are = absurd (true≢false (sym is))
given-by policy k s test here first namespace (rule kind source itself (by_name set)) is bound are = absurd (true≢false (sym is))
given-by policy k s test here first namespace (rule kind source (the_named word) (anonymous the_class permissions)) is bound are = absurd (true≢false (sym is))
given-by policy k s test here first namespace (rule kind source (the_named word) (by_name set)) is bound are = absurd (true≢false (sym is))
given-by policy k s test here first namespace _ is bound are = absurd (true≢false (sym is))

gives-lists : (form : Form) → gives_common (kind_of form) ≡ true → lists_own (kind_of form) ≡ false
gives-lists (class_common the_class the_common) is = refl
gives-lists (rule kind source itself (anonymous the_class permissions)) is = refl
gives-lists (rule kind source itself (by_name set)) is = refl
gives-lists (rule kind source (the_named word) (anonymous the_class permissions)) is = refl
gives-lists (rule kind source (the_named word) (by_name set)) is = refl
gives-lists _ is = absurd (true≢false (sym is))

-- it gives a common to a class
pub upto-gives : {A : Type 0} (policy : List Placed) (i : ℕ) (t : Placed) (bound : List (Option ℕ)) (old new : Listed A) → slice_get policy i ≡ Some t → gives_common (kind_of t.form) ≡ true
    → AreLeads policy t.namespace (references t.form) bound → ((k : ℕ) → commons_at new.given.items k ≡ commons_at old.given.items k ++ given_at (gift bound) k)
    → new.listed.keys ≡ old.listed.keys → IsUpTo policy i old → IsUpTo policy (i + 1) new
upto-gives policy i t bound old new at gives leads_are given same are =
    upto-next policy i t old new at
    (λ place name. ap (λ l. lists l place name) same ∙ adds-none t.form (gives-lists t.form gives) name (lists old.listed.keys place name) (place == i))
    (λ k s test here first.
    ap (list_any (λ c. holds_of test (slice_get policy c))) (given k) ∙ list_any-append (λ c. holds_of test (slice_get policy c)) (commons_at old.given.items k) (given_at (gift bound) k)
    ∙ ap (λ b. list_any (λ c. holds_of test (slice_get policy c)) (commons_at old.given.items k) || b) (given-by policy k s test here first t.namespace t.form gives bound leads_are))
    are

-- nothing is taken up
pub upto-none : {A : Type 0} (policy : List Placed) (p : Listed A) → p.listed.keys ≡ [] → ((i : ℕ) → commons_at p.given.items i ≡ []) → IsUpTo policy 0 p
upto-none policy p none empty = record {
  listed = λ place name. ap (λ l. lists l place name) none;
  given = λ i s test here first. ap (list_any (λ c. holds_of test (slice_get policy c))) (empty i);
}

-- whether one of several lists has a name
any-flat : {X : Type 0} (test : List ℕ → Bool) (f : X → List (List ℕ)) (p : X → Bool) → ((x : X) → list_any test (f x) ≡ p x) → (xs : List X) → list_any test (flat_map f xs) ≡ list_any p xs
any-flat test f p same [] = refl
any-flat test f p same (x ∷ xs) = list_any-append test (f x) (flat_map f xs) ∙ (λ k. same x k || any-flat test f p same xs k)

given-permissions : (policy : List Placed) (s : Placed) (name : List ℕ) (t : Placed)
    → list_any (bytes_eq name) (if gives_common_to policy s t.namespace t.form then common_permissions policy t.namespace t.form else []) ≡ gives_passing policy s (λ u. has_name (texts (own_permissions u.form)) name) t
given-permissions policy s name t = by (gives_common_to policy s t.namespace t.form) ∙ ap (λ b. gives_common_to policy s t.namespace t.form && b) (of-form t.form)
  where
    by : (b : Bool) → list_any (bytes_eq name) (if b then common_permissions policy t.namespace t.form else []) ≡ (b && list_any (bytes_eq name) (common_permissions policy t.namespace t.form))
    by true = refl
    by false = refl

    of-lead : (o : Option Placed) → list_any (bytes_eq name) (listed_by o) ≡ holds_of (λ u. has_name (texts (own_permissions u.form)) name) o
    of-lead None = refl
    of-lead (Some u) = refl

    of-form : (form : Form) → list_any (bytes_eq name) (common_permissions policy t.namespace form) ≡ common_passes policy (λ u. has_name (texts (own_permissions u.form)) name) t.namespace form
    of-form (class_common the_class the_common) = of-lead (leads policy commons t.namespace the_common.text)
    of-form _ = refl

-- all are taken up
pub upto-all : {A : Type 0} (policy : List Placed) (n : ℕ) (p : Listed A) → length policy ≤ n → IsUpTo policy n p → HavePermissions policy (permissions_in p)
upto-all policy n p past are i s name at first =
    (λ k. listed i k || list_any (λ c. listed c k) (commons_at p.given.items i))
    ∙ ap (λ o. holds_of passes o || list_any (λ c. holds_of passes (slice_get policy c)) (commons_at p.given.items i)) at
    ∙ ap (λ b. passes s || b) (are.given i s passes at first ∙ ap (list_any (gives_passing policy s passes)) (take_all n policy past))
    ∙ sym (list_any-append (bytes_eq name) (texts (own_permissions s.form)) (flat_map given policy) ∙ ap (λ b. passes s || b) (any-flat (bytes_eq name) given (gives_passing policy s passes) (given-permissions policy s name) policy))
  where
    passes : Placed → Bool
    passes u = has_name (texts (own_permissions u.form)) name

    given : Placed → List (List ℕ)
    given t = if gives_common_to policy s t.namespace t.form then common_permissions policy t.namespace t.form else []

    listed : (c : ℕ) → lists p.listed.keys c name ≡ lists_at policy c name
    listed c = are.listed c name ∙ ap (λ l. lists_at l c name) (take_all n policy past)

-- the class whose permissions a statement names
pub record NamesPermissions (policy : List Placed) (namespace : List (List ℕ)) (form : Form) (bound : List (Option ℕ)) : Type 0 where
  pub the_class : Word
  pub named : named_permissions form ≡ map (λ w. (the_class, w)) (listed_in form)
  pub lead : IsLead classes policy (last_bound bound) (leads policy classes namespace the_class.text)

pub named-class : (policy : List Placed) (namespace : List (List ℕ)) (form : Form) → names_permissions (kind_of form) ≡ true → (bound : List (Option ℕ)) → AreLeads policy namespace (references form) bound
    → NamesPermissions policy namespace form bound
named-class policy namespace (class_permission_set set the_class permissions) is (a ∷ b ∷ []) are = record { the_class = the_class; named = refl; lead = are.1.0 }
named-class policy namespace (class_permission_set set the_class permissions) is [] are = absurd are
named-class policy namespace (class_permission_set set the_class permissions) is (a ∷ []) are = absurd are.1
named-class policy namespace (class_permission_set set the_class permissions) is (a ∷ b ∷ c ∷ more) are = absurd are.1.1
named-class policy namespace (rule kind source itself (anonymous the_class permissions)) is (a ∷ b ∷ []) are = record { the_class = the_class; named = refl; lead = are.1.0 }
named-class policy namespace (rule kind source itself (anonymous the_class permissions)) is [] are = absurd are
named-class policy namespace (rule kind source itself (anonymous the_class permissions)) is (a ∷ []) are = absurd are.1
named-class policy namespace (rule kind source itself (anonymous the_class permissions)) is (a ∷ b ∷ c ∷ more) are = absurd are.1.1
named-class policy namespace (rule kind source (the_named word) (anonymous the_class permissions)) is (a ∷ b ∷ c ∷ []) are = record { the_class = the_class; named = refl; lead = are.1.1.0 }
named-class policy namespace (rule kind source (the_named word) (anonymous the_class permissions)) is [] are = absurd are
named-class policy namespace (rule kind source (the_named word) (anonymous the_class permissions)) is (a ∷ []) are = absurd are.1
named-class policy namespace (rule kind source (the_named word) (anonymous the_class permissions)) is (a ∷ b ∷ []) are = absurd are.1.1
named-class policy namespace (rule kind source (the_named word) (anonymous the_class permissions)) is (a ∷ b ∷ c ∷ d ∷ more) are = absurd are.1.1.1
named-class policy namespace (rule kind source itself (by_name set)) is bound are = absurd (true≢false (sym is))
named-class policy namespace (rule kind source (the_named word) (by_name set)) is bound are = absurd (true≢false (sym is))
named-class policy namespace _ is bound are = absurd (true≢false (sym is))

pub names-none : (form : Form) → names_permissions (kind_of form) ≡ false → named_permissions form ≡ []
names-none (class_permission_set set the_class permissions) is = absurd (true≢false is)
names-none (rule kind source itself (anonymous the_class permissions)) is = absurd (true≢false is)
names-none (rule kind source (the_named word) (anonymous the_class permissions)) is = absurd (true≢false is)
names-none (rule kind source itself (by_name set)) is = refl
names-none (rule kind source (the_named word) (by_name set)) is = refl
names-none _ is = refl

abbrev lacking : Option Placed → List Placed → List ℕ → Bool
lacking lead policy text = holds_of (λ s. not (list_any (bytes_eq text) (permissions_of policy s))) lead

-- a class that isn't found lacks nothing
pub there-none : (policy : List Placed) (namespace : List (List ℕ)) (the_class : Word) (words : List Word) → IsLead classes policy None (leads policy classes namespace the_class.text)
    → are_there policy namespace (map (λ w. (the_class, w)) words) ≡ true
there-none policy namespace the_class [] led = refl
there-none policy namespace the_class (w ∷ words) led =
    both_true (not (is_lacking policy namespace (the_class, w))) (are_there policy namespace (map (λ v. (the_class, v)) words))
    (ap (λ o. not (lacking o policy w.text)) (sym led.is)) (there-none policy namespace the_class words led)

-- one that is has what it is seen to have
pub there-some : (policy : List Placed) (seen : SeenPermissions) (namespace : List (List ℕ)) (the_class : Word) (words : List Word) (place : ℕ) → HavePermissions policy seen
    → IsLead classes policy (Some place) (leads policy classes namespace the_class.text)
    → list_all (λ w. seen place w.text) words ≡ are_there policy namespace (map (λ w. (the_class, w)) words)
there-some policy seen namespace the_class [] place have led = refl
there-some policy seen namespace the_class (w ∷ words) place have led = λ k. one (slice_get policy place) refl k && there-some policy seen namespace the_class words place have led k
  where
    twice-not : (b : Bool) → b ≡ not (not b)
    twice-not true = refl
    twice-not false = refl

    one : (o : Option Placed) → slice_get policy place ≡ o → seen place w.text ≡ not (is_lacking policy namespace (the_class, w))
    one None e = absurd (absent policy place led.within e)
      where
        absent : (xs : List Placed) (j : ℕ) → j < length xs → slice_get xs j ≡ None → ⊥
        absent [] j less none = omega (arith, less)
        absent (x ∷ xs) zero less none = none-some x (sym none)
        absent (x ∷ xs) (suc j) less none = absent xs j (omega (arith, less)) none
    one (Some s) e =
        have place s w.text e led.first ∙ twice-not (list_any (bytes_eq w.text) (permissions_of policy s))
        ∙ ap (λ o. not (lacking o policy w.text)) (sym e ∙ led.is)
