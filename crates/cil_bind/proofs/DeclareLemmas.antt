-- What statements declare, and the entries that have it.
use Rattle.cil_bind.proofs.Common.{◌≡◌, ℕ, zero, suc, ◌+◌, ◌<◌, ◌≤◌, Bool, true, false, not, ◌&&◌, ◌==◌, cond, List, [], ◌∷◌, ◌++◌, length, get_or, take, drop, Contains, Option, Some, None, is_some, bytes_eq, position, if◌then◌else◌, refl, sym, ap, ◌∙◌, subst, add-one, append_assoc, true≢false, arith, list_any, AllByRecursion, lookup, option_or, eqb-true, eq-eqb, le-ltb, none-some, same_Some, get_or_from_slice_get, position-Some, take_all, take-append-drop, Word, is_optional, Placed, Table, types, classes, commons, permission_sets, scopes, declared_in, declares, is_word, same_namespace, both_true, first_true, second_true, contains-first, stands, same_place, later, earlier, table-in, twice-some, twice-nothing, PassesAmong, passes-among, any-middle, one-namespace, word_at, named, namespace_at, table_of, table_index, is_key, HaveDeclared, IsDeclared, IsRow, AreRows, AreNumbered, IsOnce, IsTaken, is_optional_row, kind_of, kinds_of, kinds_told, Key, Row, StatementKind}
use Rattle.std.proofs.Common.{slice_get}
use Rattle.indexmap.specs.IndexMap.{insert_entry}
use Rattle.cil_specs.specs.PolicyFault.{twice, is_again, twice_words}
use Rattle.cil_parse.specs.declared.table.Table as code
use Rattle.cil_parse.specs.declared.table.Table.TheVariants.{Types, Classes, Commons, PermissionSets, Scopes}
use Rattle.cil_lookup.proofs.NamespaceLemmas.{bytes_eq-refl, bytes_eq-true, distinct-place}
use Rattle.cil_bind.proofs.PlaceLemmas.{get-there}
use Rattle.cil_bind.proofs.PositionLemmas.{at_if, is_before, any-before, any-position, position-append, around-at, take-length, take-next}

pub same-bool : (a b : Bool) → (a ≡ true → b ≡ true) → (b ≡ true → a ≡ true) → a ≡ b
same-bool true true f g = refl
same-bool true false f g = absurd (true≢false (sym (f refl)))
same-bool false true f g = absurd (true≢false (sym (g refl)))
same-bool false false f g = refl

-- the entries with a new one
pub lookup-push : {V : Type 0} (test : Key → Bool) (entries : List (Key × V)) (key : Key) (n : V) → lookup test (entries ++ (key, n) ∷ []) ≡ option_or (lookup test entries) (cond (test key) (Some n) None)
lookup-push test [] key n = refl
lookup-push test (e ∷ entries) key n = by (lookup-push test entries key n) (test e.0)
  where
    by : lookup test (entries ++ (key, n) ∷ []) ≡ option_or (lookup test entries) (cond (test key) (Some n) None) → (b : Bool)
        → cond b (Some e.1) (lookup test (entries ++ (key, n) ∷ [])) ≡ option_or (cond b (Some e.1) (lookup test entries)) (cond (test key) (Some n) None)
    by more true = refl
    by more false = more

insert-new : {V : Type 0} (eq : Key → Key → Bool) (entries : List (Key × V)) (key : Key) (n : V) → is_some (lookup (eq key) entries) ≡ false → insert_entry eq entries key n ≡ entries ++ (key, n) ∷ []
insert-new eq [] key n none = refl
insert-new eq (e ∷ entries) key n none = by (insert-new eq entries key n) (eq key e.0) none
  where
    by : (is_some (lookup (eq key) entries) ≡ false → insert_entry eq entries key n ≡ entries ++ (key, n) ∷ []) → (b : Bool) → is_some (cond b (Some e.1) (lookup (eq key) entries)) ≡ false
        → cond b ((e.0, n) ∷ entries) (e ∷ insert_entry eq entries key n) ≡ e ∷ (entries ++ (key, n) ∷ [])
    by more true f = absurd (true≢false f)
    by more false f = ap (λ l. e ∷ l) (more f)

pub put-new : {V : Type 0} (eq : Key → Key → Bool) (entries new : List (Key × V)) (key : Key) (n : V) → lookup (eq key) entries ≡ None → new ≡ insert_entry eq entries key n → new ≡ entries ++ (key, n) ∷ []
put-new eq entries new key n none e = e ∙ insert-new eq entries key n (ap is_some none)

-- a word that has a name
record HasName (name : List ℕ) (found : Option Word) : Type 0 where
  word : Word
  is : found ≡ Some word
  named : word.text ≡ name

has-name : (name : List ℕ) (found : Option Word) → is_word name found ≡ true → HasName name found
has-name name None e = absurd (true≢false (sym e))
has-name name (Some w) e = record { word = w; is = refl; named = bytes_eq-true w.text name e }

not-true : (b : Bool) → (b ≡ true → ⊥) → b ≡ false
not-true true never = absurd (never refl)
not-true false never = refl

from-not : (b : Bool) → not b ≡ true → b ≡ false
from-not true e = absurd (true≢false (sym e))
from-not false e = refl

-- Behind an optional that declares a name all that declare it are optionals, where no name is declared twice.
once-optional : (table : Table) (namespace : List (List ℕ)) (name : List ℕ) (policy front : List Placed) (f : Placed) (between : List Placed) (t : Placed) (after : List Placed) → IsOnce policy
    → policy ≡ (front ++ f ∷ between) ++ t ∷ after → declares table namespace name f ≡ true → declares table namespace name t ≡ true → is_optional f.form ≡ true → is_optional t.form ≡ true
once-optional table namespace name policy front f between t after once split first here both = by (is_optional t.form) refl
  where
    w : HasName name (declared_in table t.form)
    w = has-name name (declared_in table t.form) (first_true (is_word name (declared_in table t.form)) (same_namespace t.namespace namespace) here)

    inside : t.namespace ≡ namespace
    inside = one-namespace t.namespace namespace (second_true (is_word name (declared_in table t.form)) (same_namespace t.namespace namespace) here)

    again : is_optional t.form ≡ false → is_again table t w.word f ≡ true
    again e =
        both_true (declares table t.namespace w.word.text f) (not (is_optional t.form && is_optional f.form)) ((λ i. declares table (inside i) (w.named i) f) ∙ first)
        (ap (λ b. not (b && is_optional f.form)) e)

    by : (b : Bool) → is_optional t.form ≡ b → is_optional t.form ≡ true
    by true e = e
    by false e = absurd (once _ record {
      before = front ++ f ∷ between;
      s = t;
      after = after;
      word = w.word;
      split = split;
      is_faulty = subst (λ l. Contains l w.word)
          (sym (twice-some (front ++ f ∷ between) t table w.word w.is ∙ ap (λ b. if b then w.word ∷ [] else []) (any-middle (is_again table t w.word) front f between (again e)))) (contains-first w.word []);
      is_at = refl;
    })

-- The name of a statement is declared again if the first that declares it and the statement aren't both optionals.
again-first : (policy front : List Placed) (f : Placed) (back : List Placed) (s : Placed) (table : Table) (w : Word) → IsOnce policy → policy ≡ front ++ f ∷ back
    → list_any (declares table s.namespace w.text) front ≡ false → declares table s.namespace w.text f ≡ true → list_any (is_again table s w) policy ≡ not (is_optional s.form && is_optional f.form)
again-first policy front f back s table w once split none first = by (is_optional s.form && is_optional f.form) refl
  where
    -- one that passes among them is an optional too
    never : (is_optional s.form && is_optional f.form) ≡ true → PassesAmong (is_again table s w) policy → ⊥
    never e one = true≢false (sym (both_true (is_optional s.form) (is_optional one.x.form) (first_true (is_optional s.form) (is_optional f.form) e) too) ∙ apart)
      where
        there : declares table s.namespace w.text one.x ≡ true
        there = first_true (declares table s.namespace w.text one.x) (not (is_optional s.form && is_optional one.x.form)) one.passes

        apart : (is_optional s.form && is_optional one.x.form) ≡ false
        apart = from-not (is_optional s.form && is_optional one.x.form) (second_true (declares table s.namespace w.text one.x) (not (is_optional s.form && is_optional one.x.form)) one.passes)

        too : is_optional one.x.form ≡ true
        too = elim (stands front f back one.before one.x one.after (sym split ∙ one.split)) [
          | same_place same x ↦ ap (λ t. is_optional t.form) x ∙ second_true (is_optional s.form) (is_optional f.form) e
          | later between others before behind ↦
              once-optional table s.namespace w.text policy front f between one.x one.after once (one.split ∙ ap (λ l. l ++ one.x ∷ one.after) before) first there (second_true (is_optional s.form) (is_optional f.form) e)
          | earlier between before ↦ absurd (true≢false (sym (any-middle (declares table s.namespace w.text) one.before one.x between there) ∙ ap (list_any (declares table s.namespace w.text)) (sym before) ∙ none))
        ]

    by : (b : Bool) → (is_optional s.form && is_optional f.form) ≡ b → list_any (is_again table s w) policy ≡ not b
    by false e = ap (list_any (is_again table s w)) split ∙ any-middle (is_again table s w) front f back (both_true (declares table s.namespace w.text f) (not (is_optional s.form && is_optional f.form)) first (ap not e))
    by true e = not-true (list_any (is_again table s w) policy) (λ any. never e (passes-among (is_again table s w) policy any))

pub same-table : (t u : code.Table) → (table_index t == table_index u) ≡ true → table_of t ≡ table_of u
same-table Types Types e = refl
same-table Classes Classes e = refl
same-table Commons Commons e = refl
same-table PermissionSets PermissionSets e = refl
same-table Scopes Scopes e = refl
same-table _ _ e = absurd (true≢false (sym e))

index : Table → ℕ
index types = 0
index classes = 1
index commons = 2
index permission_sets = 3
index scopes = 4

table-same : (t u : code.Table) → table_of t ≡ table_of u → (table_index t == table_index u) ≡ true
unfolding index
table-same Types Types e = refl
table-same Classes Classes e = refl
table-same Commons Commons e = refl
table-same PermissionSets PermissionSets e = refl
table-same Scopes Scopes e = refl
table-same _ _ e = absurd (omega (arith, ap index e))

-- a statement that declares a name declares it in one table and one namespace
record IsNamed (s : Placed) (table u : Table) (namespace : List (List ℕ)) (name : List ℕ) (w : Word) : Type 0 where
  tables : table ≡ u
  names : name ≡ w.text
  space : s.namespace ≡ namespace

declares-same : (s : Placed) (table u : Table) (namespace : List (List ℕ)) (name : List ℕ) (w : Word) → declared_in u s.form ≡ Some w → declares table namespace name s ≡ true → IsNamed s table u namespace name w
declares-same s table u namespace name w e t =
    let found = has-name name (declared_in table s.form) (first_true (is_word name (declared_in table s.form)) (same_namespace s.namespace namespace) t) in
    let same : table ≡ u = table-in table s.form found.word found.is ∙ sym (table-in u s.form w e) in
    let words : found.word ≡ w = same_Some found.word w (sym found.is ∙ ap (λ v. declared_in v s.form) same ∙ e) in
    record {
      tables = same;
      names = sym found.named ∙ ap (λ v. v.text) words;
      space = one-namespace s.namespace namespace (second_true (is_word name (declared_in table s.form)) (same_namespace s.namespace namespace) t);
    }

or-none : {X : Type 0} (o : Option X) → option_or o None ≡ o
or-none (Some x) = refl
or-none None = refl

-- a statement that declares nothing
nothing-declared : (table : Table) (namespace : List (List ℕ)) (name : List ℕ) (s : Placed) → declared_in table s.form ≡ None → declares table namespace name s ≡ false
nothing-declared table namespace name s none = ap (λ o. is_word name o && same_namespace s.namespace namespace) none

-- whether the name of a statement is declared again, by the first that declares it
again-known : (policy : List Placed) (s : Placed) (table : Table) (w : Word) (k : ℕ) (f : Placed) → IsOnce policy → position (declares table s.namespace w.text) policy ≡ Some k → slice_get policy k ≡ Some f
    → list_any (is_again table s w) policy ≡ not (is_optional s.form && is_optional f.form)
again-known policy s table w k f once first at =
    again-first policy (take k policy) f (drop (k + 1) policy) s table w once (around-at policy k f at)
    (any-before (declares table s.namespace w.text) k policy ∙ ap (λ o. is_before o k) first ∙ le-ltb k k (omega arith))
    (ap (declares table s.namespace w.text) (sym (get_or_from_slice_get policy k f f at)) ∙ (position-Some (declares table s.namespace w.text) policy k f first).1)

pub same_namespace-refl : (a : List (List ℕ)) → same_namespace a a ≡ true
same_namespace-refl [] = refl
same_namespace-refl (x ∷ a) = both_true (bytes_eq x x) (same_namespace a a) (bytes_eq-refl x) (same_namespace-refl a)

-- numbers of distinct words stand for different words
word-once : (names : List (List ℕ)) (spaces : List (List ℕ)) (v w : ℕ) → AreNumbered names spaces → v < length names → w < length names → word_at names v ≡ word_at names w → v ≡ w
word-once names spaces v w are low high e = distinct-place names v w are.names_distinct low high e

pub named-once : (names spaces : List (List ℕ)) (a b : List ℕ) → AreNumbered names spaces → AllByRecursion (λ w. w < length names) a → AllByRecursion (λ w. w < length names) b → named names a ≡ named names b → a ≡ b
named-once names spaces [] [] are low high e = refl
named-once names spaces [] (w ∷ b) are low high e = cc
named-once names spaces (v ∷ a) [] are low high e = cc
named-once names spaces (v ∷ a) (w ∷ b) are low high e =
    let first = word-once names spaces v w are low.0 high.0 (ap (λ l. get_or l 0 []) e) in
    let rest = named-once names spaces a b are low.1 high.1 (ap (drop 1) e) in
    λ i. first i ∷ rest i

all-at : {X : Type 0} (P : X → Type 0) (d : X) (xs : List X) (i : ℕ) → AllByRecursion P xs → i < length xs → P (get_or xs i d)
all-at P d [] i all low = absurd (omega arith)
all-at P d (x ∷ xs) zero all low = all.0
all-at P d (x ∷ xs) (suc i) all low = all-at P d xs i all.1 (omega arith)

-- numbers of namespaces stand for different namespaces
pub namespace-once : (names spaces : List (List ℕ)) (m n : ℕ) → AreNumbered names spaces → m < length spaces → n < length spaces → namespace_at names spaces m ≡ namespace_at names spaces n → m ≡ n
namespace-once names spaces m n are low high e =
    distinct-place spaces m n are.spaces_distinct low high
    (named-once names spaces (get_or spaces m []) (get_or spaces n []) are (all-at (AllByRecursion (λ w. w < length names)) [] spaces m are.within low) (all-at (AllByRecursion (λ w. w < length names)) [] spaces n are.within high) e)

-- the key of a name is that of what declares it
key-declares : (names spaces : List (List ℕ)) (s : Placed) (key : Key) (w : Word) (table : code.Table) (n v : ℕ) → AreNumbered names spaces → key.namespace < length spaces → n < length spaces → v < length names → key.word < length names
    → namespace_at names spaces key.namespace ≡ s.namespace → declared_in (table_of key.table) s.form ≡ Some w → w.text ≡ word_at names key.word
    → is_key table n v key ≡ declares (table_of table) (namespace_at names spaces n) (word_at names v) s
key-declares names spaces s key w table n v are low high small little here e text =
    same-bool (is_key table n v key) (declares (table_of table) (namespace_at names spaces n) (word_at names v) s) to from
  where
    to : is_key table n v key ≡ true → declares (table_of table) (namespace_at names spaces n) (word_at names v) s ≡ true
    to t =
        let others = second_true (table_index table == table_index key.table) (n == key.namespace && v == key.word) t in
        let tables_same = same-table table key.table (first_true (table_index table == table_index key.table) (n == key.namespace && v == key.word) t) in
        let number : n ≡ key.namespace = eqb-true n key.namespace (first_true (n == key.namespace) (v == key.word) others) in
        let words : v ≡ key.word = eqb-true v key.word (second_true (n == key.namespace) (v == key.word) others) in
        both_true (is_word (word_at names v) (declared_in (table_of table) s.form)) (same_namespace s.namespace (namespace_at names spaces n))
        (ap (λ o. is_word (word_at names v) o) (ap (λ u. declared_in u s.form) tables_same ∙ e) ∙ ap (bytes_eq w.text) (ap (word_at names) words ∙ sym text) ∙ bytes_eq-refl w.text)
        (ap (λ k. same_namespace s.namespace (namespace_at names spaces k)) number ∙ ap (same_namespace s.namespace) here ∙ same_namespace-refl s.namespace)

    from : declares (table_of table) (namespace_at names spaces n) (word_at names v) s ≡ true → is_key table n v key ≡ true
    from t =
        let same = declares-same s (table_of table) (table_of key.table) (namespace_at names spaces n) (word_at names v) w e t in
        let words : v ≡ key.word = word-once names spaces v key.word are small little (same.names ∙ text) in
        let number : n ≡ key.namespace = namespace-once names spaces n key.namespace are high low (sym same.space ∙ sym here) in
        both_true (table_index table == table_index key.table) (n == key.namespace && v == key.word) (table-same table key.table same.tables)
        (both_true (n == key.namespace) (v == key.word) (eq-eqb n key.namespace number) (eq-eqb v key.word words))

pub taken-nothing : (names spaces : List (List ℕ)) (policy : List Placed) (s : Placed) (entries : List (Key × ℕ)) → ((table : Table) → declared_in table s.form ≡ None) → HaveDeclared names spaces entries policy
    → IsTaken names spaces policy s entries false
taken-nothing names spaces policy s entries none has = record {
  once = λ _. (
    twice-nothing policy s none,
    λ table n v within small. has table n v within small ∙ sym (
        position-append (declares (table_of table) (namespace_at names spaces n) (word_at names v)) policy s
        ∙ ap (λ b. option_or (position (declares (table_of table) (namespace_at names spaces n) (word_at names v)) policy) (at_if b (length policy))) (nothing-declared (table_of table) (namespace_at names spaces n) (word_at names v) s (none (table_of table)))
        ∙ or-none (position (declares (table_of table) (namespace_at names spaces n) (word_at names v)) policy)),
  );
  twice = λ e. absurd (true≢false (sym e));
}

-- the row of a statement
pub row-at : (names spaces : List (List ℕ)) (rows : List Row) (policy : List Placed) (i : ℕ) (row : Row) (s : Placed) → AreRows names spaces rows policy → slice_get rows i ≡ Some row → slice_get policy i ≡ Some s → IsRow names spaces row s
row-at names spaces [] policy i row s are at here = absurd (none-some row at)
row-at names spaces (r ∷ rows) [] i row s are at here = absurd are
row-at names spaces (r ∷ rows) (p ∷ policy) zero row s are at here = subst (IsRow names spaces row) (same_Some p s here) (subst (λ q. IsRow names spaces q p) (same_Some r row at) are.0)
row-at names spaces (r ∷ rows) (p ∷ policy) (suc i) row s are at here = row-at names spaces rows policy i row s are.1 at here

pub rows-length : (names spaces : List (List ℕ)) (rows : List Row) (policy : List Placed) → AreRows names spaces rows policy → length rows ≡ length policy
rows-length names spaces [] [] are = refl
rows-length names spaces [] (p ∷ policy) are = absurd are
rows-length names spaces (r ∷ rows) [] are = absurd are
rows-length names spaces (r ∷ rows) (p ∷ policy) are = ap suc (rows-length names spaces rows policy are.1)

-- the kind of a statement, as the rows tell it
pub kind-told : (names spaces : List (List ℕ)) (rows : List Row) (policy : List Placed) (k : ℕ) (s : Placed) (d : StatementKind) → AreRows names spaces rows policy → slice_get policy k ≡ Some s → get_or (kinds_told rows) k d ≡ kind_of s.form
kind-told names spaces [] [] k s d are at = absurd (none-some s at)
kind-told names spaces [] (p ∷ policy) k s d are at = absurd are
kind-told names spaces (r ∷ rows) [] k s d are at = absurd are
kind-told names spaces (r ∷ rows) (p ∷ policy) zero s d are at = are.0.kind ∙ ap (λ q. kind_of q.form) (same_Some p s at)
kind-told names spaces (r ∷ rows) (p ∷ policy) (suc k) s d are at = kind-told names spaces rows policy k s d are.1 at

pub kinds-are : (names spaces : List (List ℕ)) (rows : List Row) (policy : List Placed) → AreRows names spaces rows policy → kinds_told rows ≡ kinds_of policy
kinds-are names spaces [] [] are = refl
kinds-are names spaces [] (p ∷ policy) are = absurd are
kinds-are names spaces (r ∷ rows) [] are = absurd are
kinds-are names spaces (r ∷ rows) (p ∷ policy) are = λ i. are.0.kind i ∷ kinds-are names spaces rows policy are.1 i

optional-at : (names spaces : List (List ℕ)) (rows : List Row) (policy : List Placed) (k : ℕ) (f : Placed) → AreRows names spaces rows policy → slice_get policy k ≡ Some f → is_optional_row (slice_get rows k) ≡ is_optional f.form
optional-at names spaces [] [] k f are at = absurd (none-some f at)
optional-at names spaces [] (p ∷ policy) k f are at = absurd are
optional-at names spaces (r ∷ rows) [] k f are at = absurd are
optional-at names spaces (r ∷ rows) (p ∷ policy) zero f are at = are.0.optional ∙ ap (λ q. is_optional q.form) (same_Some p f at)
optional-at names spaces (r ∷ rows) (p ∷ policy) (suc k) f are at = optional-at names spaces rows policy k f are.1 at

get-front : {X : Type 0} (xs : List X) (i j : ℕ) (x : X) → slice_get (take i xs) j ≡ Some x → slice_get xs j ≡ Some x
get-front [] zero j x at = absurd (none-some x at)
get-front [] (suc i) j x at = absurd (none-some x at)
get-front (y ∷ xs) zero j x at = absurd (none-some x at)
get-front (y ∷ xs) (suc i) zero x at = at
get-front (y ∷ xs) (suc i) (suc j) x at = get-front xs i j x at

-- the place of the first that declares the name of a statement, in the entries
known : (names spaces : List (List ℕ)) (before : List Placed) (s : Placed) (table : code.Table) (n v : ℕ) (w : Word) (entries : List (Key × ℕ)) → HaveDeclared names spaces entries before → n < length spaces → v < length names
    → namespace_at names spaces n ≡ s.namespace → w.text ≡ word_at names v → lookup (is_key table n v) entries ≡ position (declares (table_of table) s.namespace w.text) before
known names spaces before s table n v w entries has low small here text = has table n v low small ∙ (λ i. position (declares (table_of table) (here i) (sym text i)) before)

-- a name that the entries have
pub taken-found : (names spaces : List (List ℕ)) (rows : List Row) (policy : List Placed) (i : ℕ) (row : Row) (s : Placed) (table : code.Table) (v : ℕ) (entries : List (Key × ℕ)) (k : ℕ) (again : Bool)
    → AreRows names spaces rows policy → HaveDeclared names spaces entries (take i policy) → IsOnce (take i policy) → slice_get rows i ≡ Some row → slice_get policy i ≡ Some s → row.declares ≡ Some (table, v)
    → lookup (is_key table row.namespace v) entries ≡ Some k → again ≡ not (row.is_optional && is_optional_row (slice_get rows k)) → IsTaken names spaces (take i policy) s entries again
taken-found names spaces rows policy i row s table v entries k again are has once at here declares_it there is = record {
  once = λ e. (words ∙ ap (λ b. if b then w ∷ [] else []) (sym same ∙ e), stays);
  twice = λ e. (w, words ∙ ap (λ b. if b then w ∷ [] else []) (sym same ∙ e));
}
  where
    before : List Placed
    before = take i policy

    is_row : IsRow names spaces row s
    is_row = row-at names spaces rows policy i row s are at here

    named_so : (v < length names) × ((word : Word) × (declared_in (table_of table) s.form ≡ Some word) × (word.text ≡ word_at names v))
    named_so = subst (λ d. IsDeclared names d s.form) declares_it is_row.declares

    w : Word
    w = named_so.1.0

    first : position (declares (table_of table) s.namespace w.text) before ≡ Some k
    first = sym (known names spaces before s table row.namespace v w entries has is_row.within named_so.0 is_row.here named_so.1.2) ∙ there

    low : k < length before
    low = inside before first
      where
        inside : (xs : List Placed) → position (declares (table_of table) s.namespace w.text) xs ≡ Some k → k < length xs
        inside [] at = cc
        inside (x ∷ xs) at = (position-Some (declares (table_of table) s.namespace w.text) (x ∷ xs) k x at).0

    f : (x : Placed) × (slice_get before k ≡ Some x)
    f = get-there before k low

    same : again ≡ list_any (is_again (table_of table) s w) before
    same =
        is ∙ ap not ((λ j. is_row.optional j && optional-at names spaces rows policy k f.0 are (get-front policy i k f.0 f.1) j))
        ∙ sym (again-known before s (table_of table) w k f.0 once first f.1)

    words : twice_words before s ≡ (if list_any (is_again (table_of table) s w) before then w ∷ [] else [])
    words = twice-some before s (table_of table) w named_so.1.1

    stays : HaveDeclared names spaces entries (before ++ s ∷ [])
    stays t n u within small =
        has t n u within small ∙ sym (position-append (declares (table_of t) (namespace_at names spaces n) (word_at names u)) before s
        ∙ by (table_of t) (namespace_at names spaces n) (word_at names u) (declares (table_of t) (namespace_at names spaces n) (word_at names u) s) refl)
      where
        by : (t : Table) (namespace : List (List ℕ)) (name : List ℕ) (b : Bool) → declares t namespace name s ≡ b
            → option_or (position (declares t namespace name) before) (at_if (declares t namespace name s) (length before)) ≡ position (declares t namespace name) before
        by t namespace name false apart = ap (λ b. option_or (position (declares t namespace name) before) (at_if b (length before))) apart ∙ or-none (position (declares t namespace name) before)
        by t namespace name true alike =
            let declared_there : position (declares t namespace name) before ≡ Some k =
            let one = declares-same s t (table_of table) namespace name w named_so.1.1 alike in
            (λ j. position (declares (one.tables j) (sym one.space j) (one.names j)) before) ∙ first in
            ap (λ o. option_or o (at_if (declares t namespace name s) (length before))) declared_there ∙ sym declared_there

-- a name that the entries don't have
pub taken-new : (names spaces : List (List ℕ)) (rows : List Row) (policy : List Placed) (i : ℕ) (row : Row) (s : Placed) (key : Key) (entries new : List (Key × ℕ))
    → AreNumbered names spaces → AreRows names spaces rows policy → HaveDeclared names spaces entries (take i policy) → slice_get rows i ≡ Some row → slice_get policy i ≡ Some s
    → row.declares ≡ Some (key.table, key.word) → key.namespace ≡ row.namespace → lookup (is_key key.table key.namespace key.word) entries ≡ None → new ≡ entries ++ (key, i) ∷ []
    → IsTaken names spaces (take i policy) s new false
taken-new names spaces rows policy i row s key entries new nums are has at here declares_it space_is absent pushed = record {
  once = λ _. (twice-some before s (table_of key.table) w named_so.1.1 ∙ ap (λ b. if b then w ∷ [] else []) never, more);
  twice = λ e. absurd (true≢false (sym e));
}
  where
    before : List Placed
    before = take i policy

    is_row : IsRow names spaces row s
    is_row = row-at names spaces rows policy i row s are at here

    named_so : (key.word < length names) × ((word : Word) × (declared_in (table_of key.table) s.form ≡ Some word) × (word.text ≡ word_at names key.word))
    named_so = subst (λ d. IsDeclared names d s.form) declares_it is_row.declares

    w : Word
    w = named_so.1.0

    low : key.namespace < length spaces
    low = subst (λ n. n < length spaces) (sym space_is) is_row.within

    space : namespace_at names spaces key.namespace ≡ s.namespace
    space = ap (namespace_at names spaces) space_is ∙ is_row.here

    none : list_any (declares (table_of key.table) s.namespace w.text) before ≡ false
    none =
        any-position (declares (table_of key.table) s.namespace w.text) before
        ∙ ap is_some (sym (known names spaces before s key.table key.namespace key.word w entries has low named_so.0 space named_so.1.2) ∙ absent)

    never : list_any (is_again (table_of key.table) s w) before ≡ false
    never = not-true (list_any (is_again (table_of key.table) s w) before) λ any.
        let one = passes-among (is_again (table_of key.table) s w) before any in
        true≢false (
        sym (any-middle (declares (table_of key.table) s.namespace w.text) one.before one.x one.after
        (first_true (declares (table_of key.table) s.namespace w.text one.x) (not (is_optional s.form && is_optional one.x.form)) one.passes))
        ∙ ap (list_any (declares (table_of key.table) s.namespace w.text)) (sym one.split) ∙ none)

    long : length before ≡ i
    long = take-length policy i s here

    more : HaveDeclared names spaces new (before ++ s ∷ [])
    more table n v within small =
        ap (lookup (is_key table n v)) pushed ∙ lookup-push (is_key table n v) entries key i
        ∙ (λ j. option_or (has table n v within small j) (cond (key-declares names spaces s key w table n v nums low within small named_so.0 space named_so.1.1 named_so.1.2 j) (Some (sym long j)) None))
        ∙ sym (position-append (declares (table_of table) (namespace_at names spaces n) (word_at names v)) before s)

-- no name is declared twice with one statement more
pub once-push : (before : List Placed) (s : Placed) → IsOnce before → twice_words before s ≡ [] → IsOnce (before ++ s ∷ [])
once-push before s once none fault is = elim (stands before s [] is.before is.s is.after is.split) [
  | same_place front x ↦ absurd (omega (arith, (subst (λ l. Contains l is.word) ((λ j. twice_words (front j) (x j)) ∙ none) is.is_faulty).1))
  | later between rest a b ↦ absurd (no-split between is.s rest b)
  | earlier between a ↦ once fault record { before = is.before; s = is.s; after = between; word = is.word; split = a; is_faulty = is.is_faulty; is_at = is.is_at }
]
  where
    no-split : (between : List Placed) (x : Placed) (rest : List Placed) → [] ≡ between ++ x ∷ rest → ⊥
    no-split [] x rest e = cc
    no-split (z ∷ between) x rest e = cc

-- the row at a place
pub row-here : (rows : List Row) (i : ℕ) (d : Row) → i < length rows → slice_get rows i ≡ Some (get_or rows i d)
row-here [] i d low = absurd (omega arith)
row-here (r ∷ rows) zero d low = refl
row-here (r ∷ rows) (suc i) d low = row-here rows i d (omega arith)

-- what stands in front of the next place, where what stands at this one is taken up
pub taken-next : (names spaces : List (List ℕ)) (rows : List Row) (policy : List Placed) (i : ℕ) (entries : List (Key × ℕ)) (again : Bool) → AreRows names spaces rows policy → i < length rows → IsOnce (take i policy)
    → ((s : Placed) → slice_get policy i ≡ Some s → IsTaken names spaces (take i policy) s entries again) → again ≡ false → HaveDeclared names spaces entries (take (i + 1) policy) × IsOnce (take (i + 1) policy)
taken-next names spaces rows policy i entries again are low once taken e =
    let s = get-there policy i (subst (λ n. i < n) (rows-length names spaces rows policy are) low) in
    let now = (taken s.0 s.1).once e in
    let next : take (i + 1) policy ≡ take i policy ++ s.0 ∷ [] = rw add-one (take-next policy i s.0 s.1) in
    (subst (HaveDeclared names spaces entries) (sym next) now.1, subst IsOnce (sym next) (once-push (take i policy) s.0 once now.0))

pub taken-twice : (names spaces : List (List ℕ)) (rows : List Row) (policy : List Placed) (i : ℕ) (entries : List (Key × ℕ)) (again : Bool) → AreRows names spaces rows policy → i < length rows
    → ((s : Placed) → slice_get policy i ≡ Some s → IsTaken names spaces (take i policy) s entries again) → again ≡ true
    → (s : Placed) × (word : Word) × (slice_get policy i ≡ Some s) × (twice_words (take i policy) s ≡ word ∷ [])
taken-twice names spaces rows policy i entries again are low taken e =
    let s = get-there policy i (subst (λ n. i < n) (rows-length names spaces rows policy are) low) in
    let now = (taken s.0 s.1).twice e in
    (s.0, now.0, s.1, now.1)

-- in front of no statement
pub none-taken : (names spaces : List (List ℕ)) (policy : List Placed) (entries : List (Key × ℕ)) → entries ≡ [] → HaveDeclared names spaces entries (take 0 policy) × IsOnce (take 0 policy)
none-taken names spaces policy entries none =
    (λ table n w within small. ap (lookup (is_key table n w)) none, λ fault is. no-split is.before is.s is.after is.split)
  where
    no-split : (before : List Placed) (x : Placed) (rest : List Placed) → [] ≡ before ++ x ∷ rest → ⊥
    no-split [] x rest e = cc
    no-split (z ∷ before) x rest e = cc

-- in front of the end are all
pub all-taken : (names spaces : List (List ℕ)) (rows : List Row) (policy : List Placed) (i : ℕ) → AreRows names spaces rows policy → length rows ≤ i → take i policy ≡ policy
all-taken names spaces rows policy i are past = take_all i policy (subst (λ n. n ≤ i) (rows-length names spaces rows policy are) past)

-- no name is declared twice in front of a place where none is in the whole policy
pub once-front : (policy : List Placed) (i : ℕ) → IsOnce policy → IsOnce (take i policy)
once-front policy i once fault is =
    once fault record {
      before = is.before;
      s = is.s;
      after = is.after ++ drop i policy;
      word = is.word;
      split = sym (take-append-drop i policy) ∙ ap (λ l. l ++ drop i policy) is.split ∙ append_assoc is.before (is.s ∷ is.after) (drop i policy);
      is_faulty = is.is_faulty;
      is_at = is.is_at;
    }

-- a statement that declares a name again is a fault of its policy
twice-faulty : (policy : List Placed) (i : ℕ) (s : Placed) (word : Word) → slice_get policy i ≡ Some s → twice_words (take i policy) s ≡ word ∷ [] → IsOnce policy → ⊥
twice-faulty policy i s word at is once =
    once (record { kind = twice; module_name = s.module_name; at = word.at; word = word.text }) record {
      before = take i policy;
      s = s;
      after = drop (i + 1) policy;
      word = word;
      split = around-at policy i s at;
      is_faulty = subst (λ l. Contains l word) (sym is) (contains-first word []);
      is_at = refl;
    }

-- where none is, the next statement's name is taken up too
pub taken-once : (names spaces : List (List ℕ)) (rows : List Row) (policy : List Placed) (i : ℕ) (entries : List (Key × ℕ)) (again : Bool) → AreRows names spaces rows policy → i < length rows → IsOnce policy
    → ((s : Placed) → slice_get policy i ≡ Some s → IsTaken names spaces (take i policy) s entries again) → HaveDeclared names spaces entries (take (i + 1) policy)
taken-once names spaces rows policy i entries false are low once taken = (taken-next names spaces rows policy i entries false are low (once-front policy i once) taken refl).0
taken-once names spaces rows policy i entries true are low once taken =
    let found = taken-twice names spaces rows policy i entries true are low taken refl in
    absurd (twice-faulty policy i found.0 found.1 found.2 found.3 once)
