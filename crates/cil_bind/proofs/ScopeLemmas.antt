-- Statements of a joined policy by numbers.
use Rattle.cil_bind.proofs.Common.{◌≡◌, ◌⊎◌, inl, inr, ℕ, zero, suc, ◌<◌, ◌≤◌, List, [], ◌∷◌, ◌++◌, length, get_or, Contains, Option, Some, None, false, bytes_eq, refl, sym, ap, ◌∙◌, subst, append-nil, arith, length-append, AllByRecursion, IsDistinct, option_map, get_or_append_left, none-some, same_Some, Word, true≢false, Form, block, class, class_permission, common, type_name, rule, anonymous, by_name, itself, the_named, is_optional, Placed, Table, types, classes, commons, permission_sets, scopes, declared_in, read, kind_of, NumberedWord, word_at, named, namespace_at, table_of, IsDeclared, IsRow, AreRows, AreNumbered, Opens, IsOpenedIn, Stands, block_word, is_optional_kind, StatementKind, Row, declares_name}
use Rattle.std.proofs.Common.{slice_get}
use Rattle.cil_text.specs.Image.{place_of}
use Rattle.cil_parse.specs.declared.table.Table as code
use Rattle.cil_parse.specs.declared.row.StatementKind.TheVariants as kinds

-- one name more is a list more
pub kept-more : (old new : List (List ℕ)) (word : List ℕ) → (new ≡ old) ⊎ (new ≡ old ++ word ∷ []) → (more : List (List ℕ)) × (new ≡ old ++ more)
kept-more old new word (inl e) = ([], e ∙ sym (append-nil old))
kept-more old new word (inr e) = (word ∷ [], e)

pub get-is : (xs : List (List ℕ)) (n : ℕ) (x : List ℕ) → slice_get xs n ≡ Some x → (n < length xs) × (get_or xs n [] ≡ x)
get-is [] n x e = absurd (none-some x e)
get-is (y ∷ xs) zero x e = (omega arith, same_Some y x e)
get-is (y ∷ xs) (suc n) x e = let rest = get-is xs n x e in (omega (arith, rest.0), rest.1)

abbrev as_word : NumberedWord → List ℕ → Word
as_word at t = record { at = place_of at.at; text = t }

pub read-text : (texts : List (List ℕ)) (at : NumberedWord) (word : Word) → read texts at ≡ Some word → word.text ≡ get_or texts at.text []
read-text texts at word e = by (slice_get texts at.text) refl e
  where
    by : (o : Option (List ℕ)) → slice_get texts at.text ≡ o → option_map (as_word at) o ≡ Some word → word.text ≡ get_or texts at.text []
    by None is e = absurd (none-some word e)
    by (Some t) is e = ap (λ w. w.text) (sym (same_Some (as_word at t) word e)) ∙ sym (get-is texts at.text t is).1

pub read-place : (texts : List (List ℕ)) (at : NumberedWord) (word : Word) → read texts at ≡ Some word → place_of at.at ≡ word.at
read-place texts at word e = by (slice_get texts at.text) e
  where
    by : (o : Option (List ℕ)) → option_map (as_word at) o ≡ Some word → place_of at.at ≡ word.at
    by None e = absurd (none-some word e)
    by (Some t) e = ap (λ w. w.at) (same_Some (as_word at t) word e)

pub read-within : (texts : List (List ℕ)) (at : NumberedWord) (word : Word) → read texts at ≡ Some word → at.text < length texts
read-within texts at word e = by (slice_get texts at.text) refl e
  where
    by : (o : Option (List ℕ)) → slice_get texts at.text ≡ o → option_map (as_word at) o ≡ Some word → at.text < length texts
    by None is e = absurd (none-some word e)
    by (Some t) is e = (get-is texts at.text t is).0

-- a word that was numbered is that of the statement
pub declared-is : (names texts : List (List ℕ)) (n : ℕ) (at : NumberedWord) (table : code.Table) (f form : Form) (word : Word) → declared_in (table_of table) f ≡ Some word → read texts at ≡ Some word → f ≡ form
    → slice_get names n ≡ Some (get_or texts at.text []) → IsDeclared names (Some (table, n)) form
declared-is names texts n at table f form word declares is same named_it =
    let there = get-is names n (get_or texts at.text []) named_it in
    (there.0, (word, subst (λ x. declared_in (table_of table) x ≡ Some word) same declares, read-text texts at word is ∙ sym there.1))

-- The facts are kept by names and namespaces more.

word-grows : (names more : List (List ℕ)) (w : ℕ) → w < length names → word_at (names ++ more) w ≡ word_at names w
word-grows names more w low = get_or_append_left names more [] w low

named-grows : (names more : List (List ℕ)) (space : List ℕ) → AllByRecursion (λ w. w < length names) space → named (names ++ more) space ≡ named names space
named-grows names more [] all = refl
named-grows names more (w ∷ space) all = λ i. word-grows names more w all.0 i ∷ named-grows names more space all.1 i

all-get : {X : Type 0} (P : X → Type 0) (d : X) (xs : List X) (i : ℕ) → AllByRecursion P xs → i < length xs → P (get_or xs i d)
all-get P d [] i all low = absurd (omega arith)
all-get P d (x ∷ xs) zero all low = all.0
all-get P d (x ∷ xs) (suc i) all low = all-get P d xs i all.1 (omega arith)

pub space-within : (names spaces : List (List ℕ)) (n : ℕ) → AreNumbered names spaces → n < length spaces → AllByRecursion (λ w. w < length names) (get_or spaces n [])
space-within names spaces n are low = all-get (AllByRecursion (λ w. w < length names)) [] spaces n are.within low

namespace-grows : (names spaces more others : List (List ℕ)) (n : ℕ) → AreNumbered names spaces → n < length spaces → namespace_at (names ++ more) (spaces ++ others) n ≡ namespace_at names spaces n
namespace-grows names spaces more others n are low =
    ap (named (names ++ more)) (get_or_append_left spaces others [] n low) ∙ named-grows names more (get_or spaces n []) (space-within names spaces n are low)

declared-grows : (names more : List (List ℕ)) (found : Option (code.Table × ℕ)) (form : Form) → IsDeclared names found form → IsDeclared (names ++ more) found form
declared-grows names more None form is = is
declared-grows names more (Some (table, w)) form is =
    let long = length-append names more in
    (omega (arith, is.0), (is.1.0, is.1.1, is.1.2 ∙ sym (word-grows names more w is.0)))

row-grows : (names spaces more others : List (List ℕ)) (row : Row) (s : Placed) → AreNumbered names spaces → IsRow names spaces row s → IsRow (names ++ more) (spaces ++ others) row s
row-grows names spaces more others row s are is =
    let long = length-append spaces others in
    record {
      within = (let l = is.within in omega arith);
      here = namespace-grows names spaces more others row.namespace are is.within ∙ is.here;
      declares = declared-grows names more row.declares s.form is.declares;
      kind = is.kind;
      optional = is.optional;
      inside = λ id e. let inner = is.inside id e in (omega (arith, inner.0), namespace-grows names spaces more others row.inside are inner.0 ∙ inner.1);
    }

rows-grow : (names spaces more others : List (List ℕ)) (rows : List Row) (policy : List Placed) → AreNumbered names spaces → AreRows names spaces rows policy → AreRows (names ++ more) (spaces ++ others) rows policy
rows-grow names spaces more others [] [] are all = tt
rows-grow names spaces more others [] (s ∷ policy) are all = all
rows-grow names spaces more others (row ∷ rows) [] are all = all
rows-grow names spaces more others (row ∷ rows) (s ∷ policy) are all = (row-grows names spaces more others row s are all.0, rows-grow names spaces more others rows policy are all.1)

rows-push : (names spaces : List (List ℕ)) (rows : List Row) (policy : List Placed) (row : Row) (s : Placed) → AreRows names spaces rows policy → IsRow names spaces row s → AreRows names spaces (rows ++ row ∷ []) (policy ++ s ∷ [])
rows-push names spaces [] [] row s all is = (is, tt)
rows-push names spaces [] (t ∷ policy) row s all is = absurd all
rows-push names spaces (r ∷ rows) [] row s all is = absurd all
rows-push names spaces (r ∷ rows) (t ∷ policy) row s all is = (all.0, rows-push names spaces rows policy row s all.1 is)

contains-more : (policy : List Placed) (s t : Placed) → Contains policy s → Contains (policy ++ t ∷ []) s
contains-more policy s t (i, low, is) =
    let long = length-append policy (t ∷ []) in
    (i, omega arith, is_more)
  where
    is_more : get_or (policy ++ t ∷ []) i s ≡ s
    is_more = get_or_append_left policy (t ∷ []) s i low ∙ is

contains-last : (policy : List Placed) (s : Placed) → Contains (policy ++ s ∷ []) s
contains-last policy s = (length policy, (let long = length-append policy (s ∷ []) in omega arith), last policy)
  where
    last : (xs : List Placed) → get_or (xs ++ s ∷ []) (length xs) s ≡ s
    last [] = refl
    last (x ∷ xs) = last xs

all-from-contains : {X : Type 0} (P : X → Type 0) (xs : List X) → ((x : X) → Contains xs x → P x) → AllByRecursion P xs
all-from-contains P [] all = tt
all-from-contains P (x ∷ xs) all = (all x (0, omega arith, refl), all-from-contains P xs (λ y c. all y (suc c.0, omega (arith, c.1), c.2)))

all-contains : {X : Type 0} (P : X → Type 0) (xs : List X) (x : X) → AllByRecursion P xs → Contains xs x → P x
all-contains P xs x all (i, low, is) = subst P is (all-get P x xs i all low)

all-more : (names more : List (List ℕ)) (space : List ℕ) → AllByRecursion (λ w. w < length names) space → AllByRecursion (λ w. w < length (names ++ more)) space
all-more names more [] all = tt
all-more names more (w ∷ space) all = (let long = length-append names more in omega (arith, all.0), all-more names more space all.1)

-- the kinds of forms
pub kind-block : (form : Form) → kind_of form ≡ kinds.Block → (id : Word) × (form ≡ block id)
kind-block (block id) e = (id, refl)
kind-block (rule kind source itself (anonymous the_class permissions)) e = cc
kind-block (rule kind source itself (by_name set)) e = cc
kind-block (rule kind source (the_named target) (anonymous the_class permissions)) e = cc
kind-block (rule kind source (the_named target) (by_name set)) e = cc
kind-block _ e = cc

pub kind-optional : (form : Form) → is_optional_kind (kind_of form) ≡ is_optional form
kind-optional (rule kind source itself (anonymous the_class permissions)) = refl
kind-optional (rule kind source itself (by_name set)) = refl
kind-optional (rule kind source (the_named target) (anonymous the_class permissions)) = refl
kind-optional (rule kind source (the_named target) (by_name set)) = refl
kind-optional _ = refl

-- a statement of a kind that declares no name declares none
pub kind-nothing : (table : Table) (form : Form) → declares_name (kind_of form) ≡ false → declared_in table form ≡ None
kind-nothing types (type_name id) e = absurd (true≢false e)
kind-nothing types _ e = cc
kind-nothing classes (class id permissions) e = absurd (true≢false e)
kind-nothing classes _ e = cc
kind-nothing commons (common id permissions) e = absurd (true≢false e)
kind-nothing commons _ e = cc
kind-nothing permission_sets (class_permission id) e = absurd (true≢false e)
kind-nothing permission_sets _ e = cc
kind-nothing scopes (block id) e = absurd (true≢false e)
kind-nothing scopes _ e = cc

-- the word of a block
word-block : (kind : StatementKind) (found : Option (code.Table × ℕ)) (w : ℕ) → block_word kind found ≡ Some w → (kind ≡ kinds.Block) × ((table : code.Table) × (found ≡ Some (table, w)))
word-block kinds.Block None w e = absurd (none-some w e)
word-block kinds.Block (Some (table, v)) w e = (refl, (table, ap (λ x. Some (table, x)) (same_Some v w e)))
word-block _ found w e = absurd (none-some w e)

-- what a block declares is its word
block-declares : (names : List (List ℕ)) (found : Option (code.Table × ℕ)) (form : Form) (id : Word) → form ≡ block id → IsDeclared names found form → (w : ℕ) × (table : code.Table) × (found ≡ Some (table, w)) × (w < length names) × (id.text ≡ word_at names w)
block-declares names None form id e is = absurd (none-some id (sym (is scopes) ∙ ap (declared_in scopes) e))
block-declares names (Some (table, w)) form id e is =
    let it : Some is.1.0 ≡ declared_in (table_of table) (block id) = sym is.1.1 ∙ ap (declared_in (table_of table)) e in
    (w, table, refl, is.0, ap (λ v. v.text) (by (table_of table) is.1.0 it) ∙ is.1.2)
  where
    by : (t : Table) (word : Word) → Some word ≡ declared_in t (block id) → id ≡ word
    by types word e = absurd (none-some word (sym e))
    by classes word e = absurd (none-some word (sym e))
    by commons word e = absurd (none-some word (sym e))
    by permission_sets word e = absurd (none-some word (sym e))
    by scopes word e = sym (same_Some word id e)

-- One statement more stands, where its row has these numbers.
pub stands-next : (names spaces more spaces' : List (List ℕ)) (rows : List Row) (policy : List Placed) (row : Row) (s : Placed) → Stands names spaces rows policy
    → (IsDistinct bytes_eq names → IsDistinct bytes_eq (names ++ more)) → row.namespace < length spaces → namespace_at names spaces row.namespace ≡ s.namespace → IsDeclared (names ++ more) row.declares s.form
    → row.kind ≡ kind_of s.form → row.is_optional ≡ is_optional s.form → Opens spaces spaces' row.namespace (block_word (kind_of s.form) row.declares) row.inside → Stands (names ++ more) spaces' (rows ++ row ∷ []) (policy ++ s ∷ [])
stands-next names spaces more spaces' rows policy row s was distinct low here declares kind is_opt opens = record {
  numbered = numbered;
  global = ap (λ l. get_or l 0 []) opens.kept.1 ∙ get_or_append_left spaces opens.kept.0 [] 0 (omega arith) ∙ was.global;
  rows_are = rows-push names' spaces' rows policy row s (subst (λ l. AreRows names' l rows policy) (sym opens.kept.1) (rows-grow names spaces more opens.kept.0 rows policy was.numbered was.rows_are)) is_row;
  opened_by = λ space there. elim (opens.exact space there) [ inl old ↦ old-space space old | inr new ↦ inr (new-space space new) ];
}
  where
    names' : List (List ℕ)
    names' = names ++ more

    wide : length names ≤ length names'
    wide = let long = length-append names more in omega arith

    -- a space of before
    old-space : (space : List ℕ) → Contains spaces space → IsOpenedIn names' (policy ++ s ∷ []) space
    old-space space there = elim (was.opened_by space there) [
      | inl none ↦ inl none
      | inr by ↦ inr (by.0, by.1, contains-more policy by.0 s by.2, by.3, named-grows names more space (all-contains (AllByRecursion (λ w. w < length names)) spaces space was.numbered.within there) ∙ by.4)
    ]

    -- the word of a block is its name
    word-is : (w : ℕ) → block_word (kind_of s.form) row.declares ≡ Some w → (id : Word) × (s.form ≡ block id) × (w < length names') × (id.text ≡ word_at names' w)
    word-is w e =
        let found = word-block (kind_of s.form) row.declares w e in
        let id = kind-block s.form found.0 in
        let it = block-declares names' row.declares s.form id.0 id.1 declares in
        let same : it.0 ≡ w = ap number_of (sym it.2 ∙ found.1.1) in
        (id.0, id.1, subst (λ n. n < length names') same it.3, it.4 ∙ ap (word_at names') same)
      where
        number_of : Option (code.Table × ℕ) → ℕ
        number_of None = 0
        number_of (Some (table, n)) = n

    space-here : named names' (get_or spaces row.namespace []) ≡ s.namespace
    space-here = named-grows names more (get_or spaces row.namespace []) (space-within names spaces row.namespace was.numbered low) ∙ here

    new-space : (space : List ℕ) → (w : ℕ) × (block_word (kind_of s.form) row.declares ≡ Some w) × (space ≡ w ∷ get_or spaces row.namespace [])
        → (t : Placed) × (id : Word) × Contains (policy ++ s ∷ []) t × (t.form ≡ block id) × (named names' space ≡ id.text ∷ t.namespace)
    new-space space (w, e, is) =
        let it = word-is w e in
        (s, it.0, contains-last policy s, it.1, ap (named names') is ∙ (λ i. sym it.3 i ∷ space-here i))

    numbered : AreNumbered names' spaces'
    numbered = record {
      names_distinct = distinct was.numbered.names_distinct;
      spaces_distinct = opens.distinct was.numbered.spaces_distinct;
      within = all-from-contains (AllByRecursion (λ w. w < length names')) spaces' λ space there. elim (opens.exact space there) [
        | inl old ↦ all-more names more space (all-contains (AllByRecursion (λ w. w < length names)) spaces space was.numbered.within old)
        | inr new ↦ subst (AllByRecursion (λ w. w < length names')) (sym new.2) ((word-is new.0 new.1).2, all-more names more (get_or spaces row.namespace []) (space-within names spaces row.namespace was.numbered low))
      ];
    }

    is_row : IsRow names' spaces' row s
    is_row = record {
      within = (let long = ap length opens.kept.1 ∙ length-append spaces opens.kept.0 in omega (arith, low));
      here = ap (λ l. namespace_at names' l row.namespace) opens.kept.1 ∙ namespace-grows names spaces more opens.kept.0 row.namespace was.numbered low ∙ here;
      declares = declares;
      kind = kind;
      optional = is_opt;
      inside = inside;
    }
      where
        inside : (id : Word) → s.form ≡ block id → (row.inside < length spaces') × (namespace_at names' spaces' row.inside ≡ id.text ∷ s.namespace)
        inside id e =
            let it = block-declares names' row.declares s.form id e declares in
            let w : block_word (kind_of s.form) row.declares ≡ Some it.0 = λ i. block_word (kind_of (e i)) (it.2 i) in
            let opened = opens.opened it.0 w in
            (opened.0, ap (named names') opened.1 ∙ (λ i. sym it.4 i ∷ space-here i))
