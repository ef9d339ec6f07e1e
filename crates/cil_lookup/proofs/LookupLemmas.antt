-- What look-ups by numbers find is what the definitions lead to.
use Rattle.std.proofs.Common.{◌≡◌, ◌⊎◌, inl, inr, ℕ, zero, suc, ◌+◌, ◌<◌, ◌≤◌, ◌==◌, Bool, true, false, ◌&&◌, cond, List, [], ◌∷◌, length, get_or, drop, slice_get, Option, Some, None, IfSome, IfNone, is_some, All, position, nat_eq, nat_lt, Contains, refl, sym, ap, ◌∙◌, subst, arith, true≢false, add-one, drop-cons, if◌then◌else◌}
use Rattle.std.specs.List.{find, position_or_len}
use Rattle.std.specs.Option.{option_or, option_and_then}
use Rattle.std.proofs.Math.ListN.{drop_of_length-le}
use Rattle.std.proofs.lemmas.Bool.{cases_lt, eqb-true}
use Rattle.std.proofs.lemmas.Bool.Decides.{Decides-ltb}
use Rattle.std.proofs.lemmas.List.Elements.{Contains-get_or}
use Rattle.std.proofs.lemmas.List.Folds.{find_at}
use Rattle.std.proofs.lemmas.List.Quantifiers.{position-Some}
use Rattle.std.proofs.lemmas.Option.{slice_get_past, slice_get_cases, get_or_from_slice_get}
use Rattle.cil_specs.specs.Names.{Word, components}
use Rattle.cil_specs.specs.Joined.{Placed}
use Rattle.cil_specs.specs.Lookup.{Table, declared_in, is_word, declares, is_same, same_namespace, declaration, has_block, outward, nearest_block, inside, from_namespace, leads, is_global, word_text}
use Rattle.cil_specs.proofs.Runs.{first_true, second_true}
use Rattle.cil_specs.proofs.DeclaredLemmas.{one-namespace}
use Rattle.cil_lookup.specs.Lookup.{word_at, named, namespace_at, path_of, table_index, is_key, AreOpened, IsFirstOf, IsLead, AreWithin}
use Rattle.cil_parse.specs.declared.table.Table as code
use Rattle.cil_parse.specs.declared.table.Table.TheVariants.{Types, Classes, Commons, PermissionSets, Scopes}
use Rattle.cil_lookup.specs.declared.lookup.Key.{Key}
use Rattle.cil_parse.specs.contracts.table.TablePartialEq.TheImpl as table_eq
use Rattle.cil_lookup.specs.contracts.lookup.KeyPartialEq.TheImpl as key_eq
use Rattle.cil_lookup.proofs.NamespaceLemmas.{bytes_eq-true}

-- what stands where a test is found is what the search finds
position-get : {X : Type 0} (p : X → Bool) (xs : List X) → option_and_then (slice_get xs) (position p xs) ≡ find p xs
position-get p xs = by (nat_lt (position_or_len p xs) (length xs)) refl
  where
    by : (r : Bool) → nat_lt (position_or_len p xs) (length xs) ≡ r → option_and_then (slice_get xs) (position p xs) ≡ find p xs
    by true e = ap (λ r. option_and_then (slice_get xs) (cond r (Some (position_or_len p xs)) None)) e ∙ sym (find_at p xs)
    by false e = ap (λ r. option_and_then (slice_get xs) (cond r (Some (position_or_len p xs)) None)) e ∙ sym (find_at p xs ∙ slice_get_past xs (position_or_len p xs) (past (cases_lt (position_or_len p xs) (length xs))))
      where
        past : (position_or_len p xs < length xs) ⊎ (length xs ≤ position_or_len p xs) → length xs ≤ position_or_len p xs
        past (inl less) = absurd (true≢false (sym ((Decides-ltb (position_or_len p xs) (length xs)).1 less) ∙ e))
        past (inr le) = le

if-some : {X : Type 0} (o : Option X) (P : X → Type 0) → ((x : X) → o ≡ Some x → P x) → IfSome o P
if-some None P h = tt
if-some (Some x) P h = h x refl

-- what declares the name declares the same as what is found
declares-same : (table : Table) (namespace : List (List ℕ)) (name : List ℕ) (s : Placed) → declares table namespace name s ≡ true → is_same table s ≡ declares table namespace name
declares-same table namespace name s e =
    let names = found (declared_in table s.form) (first_true (is_word name (declared_in table s.form)) (same_namespace s.namespace namespace) e) in
    let spaces = one-namespace s.namespace namespace (second_true (is_word name (declared_in table s.form)) (same_namespace s.namespace namespace) e) in
    λ i. declares table (spaces i) (names i)
  where
    found : (w : Option Word) → is_word name w ≡ true → word_text w ≡ name
    found None e = absurd (true≢false (sym e))
    found (Some w) e = bytes_eq-true w.text name e

-- a declaration, by its place
pub declaration-lead : (table : Table) (policy : List Placed) (namespace : List (List ℕ)) (name : List ℕ) (found : Option ℕ) → found ≡ position (declares table namespace name) policy
    → IsLead table policy found (declaration policy table namespace name)
declaration-lead table policy namespace name found e = subst (λ f. IsLead table policy f (declaration policy table namespace name)) (sym e) (record {
  is = position-get (declares table namespace name) policy;
  within = if-some (position (declares table namespace name) policy) (λ i. i < length policy) within;
  first = if-some (position (declares table namespace name) policy) (IsFirstOf table policy) first;
})
  where
    within : (i : ℕ) → position (declares table namespace name) policy ≡ Some i → i < length policy
    within i at = inside-list policy at
      where
        inside-list : (xs : List Placed) → position (declares table namespace name) xs ≡ Some i → i < length xs
        inside-list [] at = cc
        inside-list (x ∷ xs) at = (position-Some (declares table namespace name) (x ∷ xs) i x at).0

    first : (i : ℕ) → position (declares table namespace name) policy ≡ Some i → IsFirstOf table policy i
    first i at s here =
        let passes = (position-Some (declares table namespace name) policy i s at).1 in
        ap (λ p. position p policy) (declares-same table namespace name s (ap (declares table namespace name) (sym (get_or_from_slice_get policy i s s here)) ∙ passes)) ∙ at

-- nothing leads nowhere
pub no-lead : (table : Table) (policy : List Placed) (lead : Option Placed) → lead ≡ None → IsLead table policy None lead
no-lead table policy lead e = record { is = sym e; within = tt; first = tt }

-- a plain name is looked up here first
pub outward-here : (table : Table) (policy : List Placed) (namespace : List (List ℕ)) (name : List ℕ) (i : ℕ)
    → IsLead table policy (Some i) (declaration policy table namespace name) → IsLead table policy (Some i) (outward policy table namespace name)
outward-here table policy [] name i lead = lead
outward-here table policy (inner ∷ outer) name i lead = subst (IsLead table policy (Some i)) (by (slice_get_cases policy i).1) lead
  where
    here : Option Placed
    here = declaration policy table (inner ∷ outer) name

    by : ((x : Placed) × (i < length policy) × (slice_get policy i ≡ Some x) × (get_or policy i x ≡ x)) ⊎ ((length policy ≤ i) × (slice_get policy i ≡ None))
        → here ≡ outward policy table (inner ∷ outer) name
    by (inl (x, low, at, same)) =
        let found : here ≡ Some x = sym lead.is ∙ at in
        found ∙ sym (ap (λ o. option_or o (outward policy table outer name)) found)
    by (inr (past, at)) = absurd (let l = lead.within in omega arith)

pub outward-global : (table : Table) (policy : List Placed) (namespace : List (List ℕ)) (name : List ℕ) → namespace ≡ []
    → IsLead table policy None (declaration policy table namespace name) → IsLead table policy None (outward policy table namespace name)
outward-global table policy namespace name e lead =
    subst (λ n. IsLead table policy None (outward policy table n name)) (sym e) (subst (λ n. IsLead table policy None (declaration policy table n name)) e lead)

outward-cons : (table : Table) (policy : List Placed) (namespace : List (List ℕ)) (name inner : List ℕ) (outer : List (List ℕ)) → namespace ≡ inner ∷ outer
    → IsLead table policy None (declaration policy table namespace name) → outward policy table namespace name ≡ outward policy table outer name
outward-cons table policy namespace name inner outer e lead =
    ap (λ n. outward policy table n name) e
    ∙ ap (λ o. option_or o (outward policy table outer name)) (ap (λ n. declaration policy table n name) (sym e) ∙ sym lead.is)

-- the namespace around one
pub around : (names spaces : List (List ℕ)) (n m w : ℕ) → get_or spaces n [] ≡ w ∷ get_or spaces m [] → namespace_at names spaces n ≡ word_at names w ∷ namespace_at names spaces m
around names spaces n m w e = ap (named names) e

pub outward-next : (table : Table) (policy : List Placed) (names spaces : List (List ℕ)) (n m w : ℕ) (name : List ℕ) → get_or spaces n [] ≡ w ∷ get_or spaces m []
    → IsLead table policy None (declaration policy table (namespace_at names spaces n) name) → outward policy table (namespace_at names spaces n) name ≡ outward policy table (namespace_at names spaces m) name
outward-next table policy names spaces n m w name e lead =
    outward-cons table policy (namespace_at names spaces n) name (word_at names w) (namespace_at names spaces m) (around names spaces n m w e) lead

-- whether there is a block, by the namespaces
pub has_block-true : (names spaces : List (List ℕ)) (policy : List Placed) (n m w : ℕ) → AreOpened names spaces policy → n < length spaces → w < length names → m < length spaces
    → get_or spaces m [] ≡ w ∷ get_or spaces n [] → has_block policy (namespace_at names spaces n) (word_at names w) ≡ true
has_block-true names spaces policy n m w opened low below within e = (opened n w low below).0 (subst (Contains spaces) e (Contains-get_or spaces m [] within))

pub has_block-false : (names spaces : List (List ℕ)) (policy : List Placed) (n w : ℕ) → AreOpened names spaces policy → n < length spaces → w < length names
    → (Contains spaces (w ∷ get_or spaces n []) → ⊥) → has_block policy (namespace_at names spaces n) (word_at names w) ≡ false
has_block-false names spaces policy n w opened low below absent = by (has_block policy (namespace_at names spaces n) (word_at names w)) refl
  where
    by : (r : Bool) → has_block policy (namespace_at names spaces n) (word_at names w) ≡ r → has_block policy (namespace_at names spaces n) (word_at names w) ≡ false
    by true e = absurd (absent ((opened n w low below).1 e))
    by false e = e

pub nearest-here : (policy : List Placed) (namespace : List (List ℕ)) (name : List ℕ) → has_block policy namespace name ≡ true → nearest_block policy namespace name ≡ Some (name ∷ namespace)
nearest-here policy [] name e = ap (λ b. if b then Some (name ∷ []) else None) e
nearest-here policy (inner ∷ outer) name e = ap (λ b. if b then Some (name ∷ inner ∷ outer) else nearest_block policy outer name) e

pub nearest-global : (policy : List Placed) (namespace : List (List ℕ)) (name : List ℕ) → namespace ≡ [] → has_block policy namespace name ≡ false → nearest_block policy namespace name ≡ None
nearest-global policy namespace name e absent =
    ap (λ n. nearest_block policy n name) e ∙ ap (λ b. if b then Some (name ∷ []) else None) (ap (λ n. has_block policy n name) (sym e) ∙ absent)

pub nearest-next : (policy : List Placed) (namespace : List (List ℕ)) (name inner : List ℕ) (outer : List (List ℕ)) → namespace ≡ inner ∷ outer → has_block policy namespace name ≡ false
    → nearest_block policy namespace name ≡ nearest_block policy outer name
nearest-next policy namespace name inner outer e absent =
    ap (λ n. nearest_block policy n name) e
    ∙ ap (λ b. if b then Some (name ∷ inner ∷ outer) else nearest_block policy outer name) (ap (λ n. has_block policy n name) (sym e) ∙ absent)

-- names between dots, of which there is one more
pub inside-next : (table : Table) (policy : List Placed) (namespace : List (List ℕ)) (name next : List ℕ) (more : List (List ℕ)) → has_block policy namespace name ≡ true
    → inside policy table namespace (name ∷ next ∷ more) ≡ inside policy table (name ∷ namespace) (next ∷ more)
inside-next table policy namespace name next more e = ap (λ b. if b then inside policy table (name ∷ namespace) (next ∷ more) else None) e

pub inside-stop : (table : Table) (policy : List Placed) (namespace : List (List ℕ)) (name next : List ℕ) (more : List (List ℕ)) → has_block policy namespace name ≡ false
    → inside policy table namespace (name ∷ next ∷ more) ≡ None
inside-stop table policy namespace name next more e = ap (λ b. if b then inside policy table (name ∷ namespace) (next ∷ more) else None) e

-- the derived == of tables and of keys
pub derived-table : (t u : code.Table) → (table_eq.eq-value).it t u ≡ (table_index t == table_index u)
derived-table Types Types = refl
derived-table Classes Classes = refl
derived-table Commons Commons = refl
derived-table PermissionSets PermissionSets = refl
derived-table Scopes Scopes = refl
derived-table _ _ = refl

pub derived-key : (key : Key) → (key_eq.eq-value).it key ≡ is_key key.table key.namespace key.word
derived-key key = λ i other. derived-table key.table other.table i && (nat_eq key.namespace other.namespace && nat_eq key.word other.word)

-- a word of a module has a number
pub within-at : (names : List (List ℕ)) (words : List ℕ) (k : ℕ) → AreWithin names words → k < length words → get_or words k 0 < length names
within-at names [] k all low = absurd (omega arith)
within-at names (w ∷ words) zero all low = all.0
within-at names (w ∷ words) (suc k) all low = within-at names words k all.1 (omega arith)

-- the rest of a path from a place on
pub path-from : (names : List (List ℕ)) (words path : List ℕ) (i : ℕ) → i < length path
    → path_of names words (drop i path) ≡ word_at names (get_or words (get_or path i 0) 0) ∷ path_of names words (drop (i + 1) path)
path-from names words path i low = ap (path_of names words) (rest path i low)
  where
    rest : (xs : List ℕ) (i : ℕ) → i < length xs → drop i xs ≡ get_or xs i 0 ∷ drop (i + 1) xs
    rest xs i low = rw (add-one, drop-cons xs i 0)

-- behind a block the rest of a path is looked up inside it
pub inside-step : (table : Table) (policy : List Placed) (names spaces : List (List ℕ)) (words path : List ℕ) (n m i : ℕ) → AreOpened names spaces policy → AreWithin names words → n < length spaces → m < length spaces
    → i + 1 < length path → get_or path i 0 < length words → get_or spaces m [] ≡ get_or words (get_or path i 0) 0 ∷ get_or spaces n []
    → inside policy table (namespace_at names spaces n) (path_of names words (drop i path)) ≡ inside policy table (namespace_at names spaces m) (path_of names words (drop (i + 1) path))
inside-step table policy names spaces words path n m i opened all low within more here e =
    ap (inside policy table (namespace_at names spaces n)) (path-from names words path i (omega arith))
    ∙ (ap (λ l. inside policy table (namespace_at names spaces n) (word ∷ l)) (path-from names words path (i + 1) more)
    ∙ inside-next table policy (namespace_at names spaces n) word _ _ (has_block-true names spaces policy n m (get_or words (get_or path i 0) 0) opened low (within-at names words (get_or path i 0) all here) within e)
    ∙ ap (λ l. inside policy table (word ∷ namespace_at names spaces n) l) (sym (path-from names words path (i + 1) more)))
    ∙ ap (λ s. inside policy table s (path_of names words (drop (i + 1) path))) (sym (around names spaces m n (get_or words (get_or path i 0) 0) e))
  where
    word : List ℕ
    word = word_at names (get_or words (get_or path i 0) 0)

pub inside-none : (table : Table) (policy : List Placed) (names spaces : List (List ℕ)) (words path : List ℕ) (n i : ℕ) → AreOpened names spaces policy → AreWithin names words → n < length spaces
    → i + 1 < length path → get_or path i 0 < length words → (Contains spaces (get_or words (get_or path i 0) 0 ∷ get_or spaces n []) → ⊥)
    → inside policy table (namespace_at names spaces n) (path_of names words (drop i path)) ≡ None
inside-none table policy names spaces words path n i opened all low more here absent =
    ap (inside policy table (namespace_at names spaces n)) (path-from names words path i (omega arith))
    ∙ ap (λ l. inside policy table (namespace_at names spaces n) (word_at names (get_or words (get_or path i 0) 0) ∷ l)) (path-from names words path (i + 1) more)
    ∙ inside-stop table policy (namespace_at names spaces n) _ _ _ (has_block-false names spaces policy n (get_or words (get_or path i 0) 0) opened low (within-at names words (get_or path i 0) all here) absent)

-- the last name of a path
pub inside-last : (table : Table) (policy : List Placed) (names : List (List ℕ)) (namespace : List (List ℕ)) (words path : List ℕ) (i : ℕ) → i < length path → length path ≤ i + 1
    → inside policy table namespace (path_of names words (drop i path)) ≡ declaration policy table namespace (word_at names (get_or words (get_or path i 0) 0))
inside-last table policy names namespace words path i low last =
    ap (inside policy table namespace) (path-from names words path i low ∙ ap (λ l. word_at names (get_or words (get_or path i 0) 0) ∷ path_of names words l) (drop_of_length-le path last))

pub inside-end : (table : Table) (policy : List Placed) (names : List (List ℕ)) (namespace : List (List ℕ)) (words path : List ℕ) (i : ℕ) → length path ≤ i
    → inside policy table namespace (path_of names words (drop i path)) ≡ None
inside-end table policy names namespace words path i le = ap (λ l. inside policy table namespace (path_of names words l)) (drop_of_length-le path le)

-- a path of one name, and one of more
pub from-one : (table : Table) (policy : List Placed) (names namespace : List (List ℕ)) (words path : List ℕ) (k : ℕ) (rest : List ℕ) → path ≡ k ∷ rest → (length rest == 0) ≡ true
    → from_namespace policy table namespace (path_of names words path) ≡ outward policy table namespace (word_at names (get_or words k 0))
from-one table policy names namespace words path k [] e empty = ap (λ p. from_namespace policy table namespace (path_of names words p)) e
from-one table policy names namespace words path k (x ∷ rest) e empty = absurd (let z : suc (length rest) ≡ 0 = eqb-true (suc (length rest)) 0 empty in omega arith)

pub from-more : (table : Table) (policy : List Placed) (names namespace : List (List ℕ)) (words path : List ℕ) (k : ℕ) (rest : List ℕ) → path ≡ k ∷ rest → (length rest == 0) ≡ false
    → from_namespace policy table namespace (path_of names words path)
    ≡ option_and_then (λ inner. inside policy table inner (path_of names words rest)) (nearest_block policy namespace (word_at names (get_or words k 0)))
from-more table policy names namespace words path k [] e empty = absurd (true≢false empty)
from-more table policy names namespace words path k (x ∷ rest) e empty = ap (λ p. from_namespace policy table namespace (path_of names words p)) e

-- what holds of a path holds of its first name and of the rest
pub path-first : (words path : List ℕ) (k : ℕ) (rest : List ℕ) → path ≡ k ∷ rest → All (λ j. j < length words) path → k < length words
path-first words path k rest e all = subst (All (λ j. j < length words)) e all 0 0 (omega arith)

pub path-rest : (words path : List ℕ) (k : ℕ) (rest : List ℕ) → path ≡ k ∷ rest → All (λ j. j < length words) path → All (λ j. j < length words) rest
path-rest words path k rest e all = λ i d low. subst (All (λ j. j < length words)) e all (suc i) d (omega arith)

-- a reference with a leading dot, and one without
pub leads-global : (table : Table) (policy : List Placed) (namespace : List (List ℕ)) (text : List ℕ) (names : List (List ℕ)) → is_global text ≡ true → components text ≡ names
    → leads policy table namespace text ≡ inside policy table [] names
leads-global table policy namespace text names is parts =
    ap (λ b. if b then inside policy table [] (components text) else from_namespace policy table namespace (components text)) is ∙ ap (inside policy table []) parts

pub leads-local : (table : Table) (policy : List Placed) (namespace : List (List ℕ)) (text : List ℕ) (names : List (List ℕ)) → is_global text ≡ false → components text ≡ names
    → leads policy table namespace text ≡ from_namespace policy table namespace names
leads-local table policy namespace text names is parts =
    ap (λ b. if b then inside policy table [] (components text) else from_namespace policy table namespace (components text)) is ∙ ap (from_namespace policy table namespace) parts

-- what holds where nothing was found
pub none-fact : {P : Type 0} (o : Option ℕ) → is_some o ≡ false → IfNone o P → P
none-fact None e h = h
none-fact (Some n) e h = absurd (true≢false e)
