-- What the nodes of names need is met by what is found.
use Rattle.cil_optionals.proofs.Common.{◌≡◌, ◌⊎◌, inl, inr, ℕ, zero, suc, ◌+◌, ◌<◌, ◌≤◌, Bool, true, false, not, ◌&&◌, ◌||◌, nat_lt, cond, List, [], ◌∷◌, ◌++◌, length, get_or, slice_get, find, Option, Some, None, is_some, refl, sym, ap, ◌∙◌, subst, arith, true≢false, if◌then◌else◌, list_all, list_any, cases_lt, lt-ltb, none-some, same_Some, slice_get_within, slice_get_cases, slice_get_read, list_all-append, bytes_eq-Decides, Word, Form, type_name, type_alias, type_attribute, common, class, class_permission, Placed, Table, scopes, declared_in, is_word, same_namespace, word_text, declares, declaration, outward, holds_of, PolicyFault, twice, IsFaultOf, Optionals, is_within, restricted, AreApart, first_true, second_true, both_true, AtMostOne, declared-once, namespace_at, word_at, table_of, IsLead, Row, Policy, NamedModule, same_namespace-refl, row-at, rows-length, is_met, are_met, is_need_below, meeting, IsInnermost, AreNested, declared_table, declared_text, is_naming, is_provided, AreOptionalsOf, AreNodesOf, further_out, alternatives, IsReady, IsDeclaration, IsProvidedBy, AreProviders, Need}
use Rattle.cil_bind.specs.Rows.{IsRow, IsDeclared}
use Rattle.cil_parse.specs.declared.table.Table as code
use Rattle.cil_parse.specs.declared.table.Table.TheVariants.{Types, Classes, Commons, PermissionSets, Scopes}
use Rattle.cil_optionals.proofs.FoundLemmas.{either-some, table-of, naming-of, declaration-within, outward-provided}

-- the number of the innermost optional is that of a place of the policy, or 0
pub innermost-low : (policy : List Placed) (i n : ℕ) (s : Placed) → i < length policy → IsInnermost policy i n s → n < length policy + 1
innermost-low policy i zero s low outside = omega arith
innermost-low policy i (suc k) s low inside = (let before = inside.1 in omega (arith, low, before))

-- what a declaration names
pub declaration-naming : (s : Placed) → IsDeclaration s → is_naming s.form ≡ true
declaration-naming s is = by (declared_in (declared_table s.form) s.form) refl is.some
  where
    by : (o : Option Word) → declared_in (declared_table s.form) s.form ≡ o → is_some o ≡ true → is_naming s.form ≡ true
    by None at e = absurd (true≢false (sym e))
    by (Some w) at e = naming-of (declared_table s.form) s.form w at is.other

naming-one : (form : Form) → is_naming form ≡ true → (is_some (declared_in (declared_table form) form) ≡ true) × (declared_table form ≡ scopes → ⊥)
naming-one (type_name id) e = (refl, λ same. cc)
naming-one (type_alias id) e = (refl, λ same. cc)
naming-one (type_attribute id) e = (refl, λ same. cc)
naming-one (common id permissions) e = (refl, λ same. cc)
naming-one (class id permissions) e = (refl, λ same. cc)
naming-one (class_permission id) e = (refl, λ same. cc)
naming-one _ e = absurd (true≢false (sym e))

pub naming-declaration : (s : Placed) → is_naming s.form ≡ true → IsDeclaration s
naming-declaration s e = let is = naming-one s.form e in record { some = is.0; other = is.1 }

-- the one that passes is found
find-one : {X : Type 0} (p : X → Bool) (xs : List X) (i : ℕ) (x : X) → AtMostOne p xs → slice_get xs i ≡ Some x → p x ≡ true → find p xs ≡ Some x
find-one p [] i x one at passes = absurd (none-some x at)
find-one p (y ∷ xs) zero x one at passes = ap (λ b. cond b (Some y) (find p xs)) (ap p (same_Some y x at) ∙ passes) ∙ at
find-one p (y ∷ xs) (suc i) x one at passes = by (p y) refl (find-one p xs i x one.1 at passes)
  where
    any-there : (zs : List _) (j : ℕ) → slice_get zs j ≡ Some x → list_any p zs ≡ true
    any-there [] j e = absurd (none-some x e)
    any-there (z ∷ zs) zero e = ap (λ b. b || list_any p zs) (ap p (same_Some z x e) ∙ passes)
    any-there (z ∷ zs) (suc j) e = by-or (p z) (any-there zs j e)
      where
        by-or : (b : Bool) → list_any p zs ≡ true → (b || list_any p zs) ≡ true
        by-or true more = refl
        by-or false more = more

    by : (b : Bool) → p y ≡ b → find p xs ≡ Some x → cond b (Some y) (find p xs) ≡ Some x
    by true e more = absurd (true≢false (sym (any-there xs i at) ∙ one.0 e))
    by false e more = more

-- a number is there where the statement around which it stands is within the set
pub row-within : (rows : List Row) (policy : List Placed) (set : Optionals) (has : ℕ → Bool) → AreNested rows policy → AreOptionalsOf policy set has → (i : ℕ) (row : Row) (s : Placed)
    → slice_get rows i ≡ Some row → slice_get policy i ≡ Some s → has row.optional ≡ is_within set s
row-within rows policy set has nested are i row s at here = by row.optional (nested.around i row s at here)
  where
    by : (n : ℕ) → IsInnermost policy i n s → has n ≡ is_within set s
    by zero outside = are.none ∙ ap (list_all (set s.module_name)) (sym outside)
    by (suc k) (outer, before, there, is, one, chain) =
        are.optional_is k outer there is ∙ (λ j. set (one j) outer.at.offset && list_all (set (one j)) outer.optionals) ∙ ap (list_all (set s.module_name)) (sym chain)

module _ (policy : List Placed) (set : Optionals) (apart : AreApart policy) (once : (fault : PolicyFault) → IsFaultOf twice policy fault → ⊥) where
  abbrev some_policy : List Placed
  some_policy = restricted set policy

  -- a declaration is the first of its name
  first-of : (i : ℕ) (s : Placed) → slice_get policy i ≡ Some s → IsDeclaration s → declaration policy (declared_table s.form) s.namespace (declared_text s.form) ≡ Some s
  first-of i s at is =
      find-one (declares (declared_table s.form) s.namespace (declared_text s.form)) policy i s (declared-once policy once (declared_table s.form) is.other s.namespace (declared_text s.form)) at
      (both_true (is_word (declared_text s.form) (declared_in (declared_table s.form) s.form)) (same_namespace s.namespace s.namespace) (by (declared_in (declared_table s.form) s.form) is.some) (same_namespace-refl s.namespace))
    where
      by : (o : Option Word) → is_some o ≡ true → is_word (word_text o) o ≡ true
      by None e = absurd (true≢false (sym e))
      by (Some w) e = (bytes_eq-Decides w.text w.text).1 refl

  -- a name is provided by its declaration, if that stands within the set, or further out
  pub provided-by : (i : ℕ) (s : Placed) → slice_get policy i ≡ Some s → IsDeclaration s
      → is_provided some_policy s ≡ (is_within set s || holds_of (is_provided some_policy) (further_out policy (declared_table s.form) s.namespace (declared_text s.form)))
  provided-by i s at is = ap (λ b. if b then is_some (outward some_policy (declared_table s.form) s.namespace (declared_text s.form)) else true) (declaration-naming s is) ∙ by s.namespace refl
    where
      here : is_some (declaration some_policy (declared_table s.form) s.namespace (declared_text s.form)) ≡ is_within set s
      here = declaration-within policy set apart once (declared_table s.form) is.other s.namespace (declared_text s.form) ∙ ap (holds_of (is_within set)) (first-of i s at is)

      or-not : (b : Bool) → b ≡ (b || false)
      or-not true = refl
      or-not false = refl

      by : (n : List (List ℕ)) → s.namespace ≡ n
          → is_some (outward some_policy (declared_table s.form) n (declared_text s.form)) ≡ (is_within set s || holds_of (is_provided some_policy) (further_out policy (declared_table s.form) n (declared_text s.form)))
      by [] e = ap (λ m. is_some (declaration some_policy (declared_table s.form) m (declared_text s.form))) (sym e) ∙ here ∙ or-not (is_within set s)
      by (inner ∷ outer) e =
          either-some (declaration some_policy (declared_table s.form) (inner ∷ outer) (declared_text s.form)) (outward some_policy (declared_table s.form) outer (declared_text s.form))
          ∙ (λ k. (ap (λ m. is_some (declaration some_policy (declared_table s.form) m (declared_text s.form))) (sym e) ∙ here) k
          || outward-provided policy set apart once (declared_table s.form) is.other outer (declared_text s.form) k)

-- what a found place provides
pub place-provided : (policy : List Placed) (set : Optionals) (has : ℕ → Bool) → AreNodesOf policy set has → (table : Table) (q : ℕ) (lead : Option Placed) → IsLead table policy (Some q) lead
    → holds_of (is_provided (restricted set policy)) lead ≡ has (length policy + 1 + q)
place-provided policy set has are table q lead is = elim (slice_get_cases policy q).1 [
  | inl (t, low, at, same) ↦ ap (holds_of (is_provided (restricted set policy))) (sym is.is ∙ at) ∙ sym (are.name_is q t at)
  | inr (past, at) ↦ (let low = is.within in absurd (omega arith))
]

none-provided : (policy : List Placed) (set : Optionals) (table : Table) (lead : Option Placed) → IsLead table policy None lead → holds_of (is_provided (restricted set policy)) lead ≡ false
none-provided policy set table lead is = ap (holds_of (is_provided (restricted set policy))) (sym is.is)

-- no need of a name: it stands in no optional, or there is none
pub providers-skip : (policy : List Placed) (rows : List Row) (i : ℕ) (needs : List Need)
    → ((row : Row) (s : Placed) → slice_get rows i ≡ Some row → slice_get policy i ≡ Some s → IsDeclaration s → row.optional ≡ 0) → AreProviders policy rows i needs → AreProviders policy rows (i + 1) needs
providers-skip policy rows i needs outside are = record {
  below = are.below;
  met = are.met;
  each = λ has met none p row s less at here declared there. elim (cases_lt p i) [
    | inl lower ↦ are.each has met none p row s lower at here declared there
    | inr past ↦
        let same : p ≡ i = omega (arith, less, past) in
        inl (ap has (outside row s (sym (ap (slice_get rows) same) ∙ at) (sym (ap (slice_get policy) same) ∙ here) declared) ∙ none)
  ];
}

-- what is found for a row's name
pub record IsNext (policy : List Placed) (row : Row) (s : Placed) (next : Option ℕ) : Type 0 where
  pub declared : IsDeclaration s
  pub lead : IsLead (declared_table s.form) policy next (further_out policy (declared_table s.form) s.namespace (declared_text s.form))

-- one need more
pub providers-next : (policy : List Placed) (rows : List Row) (i : ℕ) (row : Row) (s : Placed) (next : Option ℕ) (need : Need) (needs : List Need) → AreApart policy
    → ((fault : PolicyFault) → IsFaultOf twice policy fault → ⊥) → AreNested rows policy → slice_get rows i ≡ Some row → slice_get policy i ≡ Some s → IsNext policy row s next
    → need.optional ≡ length policy + 1 + i → meeting need ≡ alternatives (length policy) row.optional next → AreProviders policy rows i needs → AreProviders policy rows (i + 1) (needs ++ need ∷ [])
providers-next policy rows i row s next need needs apart once nested at here is number from are = record {
  below = list_all-append (is_need_below all) needs (need ∷ []) ∙ both_true (list_all (is_need_below all) needs) (is_need_below all need && true) are.below
      (both_true (is_need_below all need) true
      (both_true (nat_lt 0 need.optional) (nat_lt need.optional all && list_all (λ m. nat_lt m all) (meeting need)) (lt-ltb 0 need.optional (omega (arith, number)))
      (both_true (nat_lt need.optional all) (list_all (λ m. nat_lt m all) (meeting need)) (lt-ltb need.optional all (omega (arith, number, low)))
      (ap (list_all (λ m. nat_lt m all)) from ∙ alternatives-below next is.lead)))
      refl);
  met = λ set has nodes.
      list_all-append (is_met has) needs (need ∷ []) ∙ both_true (are_met has needs) (is_met has need && true) (are.met set has nodes)
      (both_true (is_met has need) true
      ((λ k. not (has (number k)) || list_any has (from k))
      ∙ (λ k. not ((nodes.name_is i s here ∙ provided-by policy set apart once i s here is.declared) k) || list_any has (alternatives (length policy) row.optional next))
      ∙ ap (λ b. not (is_within set s || holds_of (is_provided (restricted set policy)) further) || b) (alternatives-met set has nodes next is.lead)
      ∙ excluded (is_within set s || holds_of (is_provided (restricted set policy)) further))
      refl);
  each = λ has met none p r t less at' here' declared there.
      let parts = sym (list_all-append (is_met has) needs (need ∷ [])) ∙ met in
      elim (cases_lt p i) [
        | inl lower ↦ are.each has (first_true (are_met has needs) (is_met has need && true) parts) none p r t lower at' here' declared there
        | inr past ↦
            let same : p ≡ i = omega (arith, less, past) in
            let row_is : row ≡ r = same_Some row r (sym at ∙ sym (ap (slice_get rows) same) ∙ at') in
            let s_is : s ≡ t = same_Some s t (sym here ∙ sym (ap (slice_get policy) same) ∙ here') in
            let there_is : has need.optional ≡ true = ap has (number ∙ ap (λ n. length policy + 1 + n) (sym same)) ∙ there in
            subst (λ q. IsProvidedBy policy has q t) row_is (subst (IsProvidedBy policy has row) s_is
            (chosen has next is.lead (sym (ap (list_any has) from) ∙ taken (has need.optional) (list_any has (meeting need)) there_is (first_true (is_met has need) true (second_true (are_met has needs) (is_met has need && true) parts)))))
      ];
}
  where
    all : ℕ
    all = length policy + length policy + 1

    low : i < length policy
    low = slice_get_within policy i s here

    further : Option Placed
    further = further_out policy (declared_table s.form) s.namespace (declared_text s.form)

    around : row.optional < length policy + 1
    around = innermost-low policy i row.optional s low (nested.around i row s at here)

    alternatives-below : (o : Option ℕ) → IsLead (declared_table s.form) policy o further → list_all (λ m. nat_lt m all) (alternatives (length policy) row.optional o) ≡ true
    alternatives-below None lead = both_true (nat_lt row.optional all) true (lt-ltb row.optional all (omega (arith, around))) refl
    alternatives-below (Some q) lead =
        let less = lead.within in
        both_true (nat_lt row.optional all) (nat_lt (length policy + 1 + q) all && true) (lt-ltb row.optional all (omega (arith, around)))
        (both_true (nat_lt (length policy + 1 + q) all) true (lt-ltb (length policy + 1 + q) all (omega (arith, less))) refl)

    or-none : (b : Bool) → (b || false) ≡ b
    or-none true = refl
    or-none false = refl

    alternatives-met : (set : Optionals) (has : ℕ → Bool) → AreNodesOf policy set has → (o : Option ℕ) → IsLead (declared_table s.form) policy o further
        → list_any has (alternatives (length policy) row.optional o) ≡ (is_within set s || holds_of (is_provided (restricted set policy)) further)
    alternatives-met set has nodes None lead =
        λ k. row-within rows policy set has nested nodes.optionals_are i row s at here k || sym (none-provided policy set (declared_table s.form) further lead) k
    alternatives-met set has nodes (Some q) lead =
        λ k. row-within rows policy set has nested nodes.optionals_are i row s at here k || (or-none (has (length policy + 1 + q)) ∙ sym (place-provided policy set has nodes (declared_table s.form) q further lead)) k

    excluded : (b : Bool) → (not b || b) ≡ true
    excluded true = refl
    excluded false = refl

    taken : (b c : Bool) → b ≡ true → (not b || c) ≡ true → c ≡ true
    taken true c e f = f
    taken false c e f = absurd (true≢false (sym e))

    either-of : (b c : Bool) → (b || (c || false)) ≡ true → (b ≡ true) ⊎ (c ≡ true)
    either-of true c e = inl refl
    either-of false true e = inr refl
    either-of false false e = absurd (true≢false (sym e))

    chosen : (has : ℕ → Bool) (o : Option ℕ) → IsLead (declared_table s.form) policy o further → list_any has (alternatives (length policy) row.optional o) ≡ true → IsProvidedBy policy has row s
    chosen has None lead any = inl (sym (or-none (has row.optional)) ∙ any)
    chosen has (Some q) lead any = elim (either-of (has row.optional) (has (length policy + 1 + q)) any) [
      | inl here_it ↦ inl here_it
      | inr there_it ↦ elim (slice_get_cases policy q).1 [
        | inl (t, less, at_it, same) ↦ inr (record { place = q; found = t; at = at_it; further = sym lead.is ∙ at_it; there = there_it })
        | inr (past, at_it) ↦ (let less = lead.within in absurd (omega arith))
      ]
    ]

-- no needs of no statements
pub providers-none : (policy : List Placed) (rows : List Row) (needs : List Need) → needs ≡ [] → AreProviders policy rows 0 needs
providers-none policy rows needs none = subst (AreProviders policy rows 0) (sym none) (record {
  below = refl;
  met = λ set has nodes. refl;
  each = λ has met there p row s less. absurd (omega (arith, less));
})

-- what a row declares is a declaration, but in the table of blocks and optionals
pub row-declaration : (names : List (List ℕ)) (table : code.Table) (w : ℕ) (declares_it : Option (code.Table × ℕ)) (s : Placed) → declares_it ≡ Some (table, w) → (table ≡ Scopes → ⊥) → IsDeclared names declares_it s.form
    → IsDeclaration s × (w < length names) × (table_of table ≡ declared_table s.form) × (word_at names w ≡ declared_text s.form)
row-declaration names table w declares_it s e other is = by (subst (λ o. IsDeclared names o s.form) e is)
  where
    not-scopes : (t : code.Table) → (t ≡ Scopes → ⊥) → table_of t ≡ scopes → ⊥
    not-scopes Types isnt e = cc
    not-scopes Classes isnt e = cc
    not-scopes Commons isnt e = cc
    not-scopes PermissionSets isnt e = cc
    not-scopes Scopes isnt e = isnt refl

    by : IsDeclared names (Some (table, w)) s.form → IsDeclaration s × (w < length names) × (table_of table ≡ declared_table s.form) × (word_at names w ≡ declared_text s.form)
    by (low, found) =
        let word = found.0 in
        let at = found.1 in
        let text = found.2 in
        let same = table-of (table_of table) s.form word at in
        let there : declared_in (declared_table s.form) s.form ≡ Some word = ap (λ t. declared_in t s.form) (sym same) ∙ at in
        (record { some = ap is_some there; other = λ is_scopes. not-scopes table other (same ∙ is_scopes) }, low, same, sym text ∙ ap word_text (sym there))

-- a row that declares nothing, or the name of a block or an optional
pub row-nothing : (names : List (List ℕ)) (declares_it : Option (code.Table × ℕ)) (s : Placed) → declares_it ≡ None → IsDeclared names declares_it s.form → IsDeclaration s → ⊥
row-nothing names declares_it s e is declared = true≢false (sym declared.some ∙ ap is_some (subst (λ o. IsDeclared names o s.form) e is (declared_table s.form)))

pub row-scopes : (names : List (List ℕ)) (table : code.Table) (w : ℕ) (declares_it : Option (code.Table × ℕ)) (s : Placed) → declares_it ≡ Some (table, w) → table ≡ Scopes → IsDeclared names declares_it s.form → IsDeclaration s → ⊥
row-scopes names table w declares_it s e same is declared = by (subst (λ o. IsDeclared names o s.form) (e ∙ ap (λ t. Some (t, w)) same) is)
  where
    by : IsDeclared names (Some (Scopes, w)) s.form → ⊥
    by (low, found) = declared.other (sym (table-of scopes s.form found.0 found.1))

-- a row and its statement
pub record HasRow {A : Type 0} (p : Policy A) (all : List Placed) (i : ℕ) (row : Row) : Type 0 where
  pub s : Placed
  pub row_at : slice_get p.rows.items i ≡ Some row
  pub at : slice_get all i ≡ Some s
  pub is : IsRow p.names p.lookup.namespaces row s

-- a statement stands at each place
pub statement-at : {A : Type 0} (p : Policy A) (parsed : List (NamedModule A)) (all : List Placed) (i : ℕ) → IsReady p parsed all → i < length p.rows.items → (s : Placed) × (slice_get all i ≡ Some s)
statement-at p parsed all i ready low =
    let long = rows-length p.names p.lookup.namespaces p.rows.items all ready.bound.stands.rows_are in
    elim (slice_get_cases all i).1 [
      | inl (s, less, at, same) ↦ (s, at)
      | inr (past, at) ↦ absurd (omega arith)
    ]

pub row-of : {A : Type 0} (p : Policy A) (parsed : List (NamedModule A)) (all : List Placed) (i : ℕ) (row : Row) → IsReady p parsed all → i < length p.rows.items → row ≡ get_or p.rows.items i row → HasRow p all i row
row-of p parsed all i row ready low is =
    let there : slice_get p.rows.items i ≡ Some row = slice_get_read p.rows.items (length p.rows.items) i row refl low is in
    let (s, at) = statement-at p parsed all i ready low in
    record { s = s; row_at = there; at = at; is = row-at p.names p.lookup.namespaces p.rows.items all i row s ready.bound.stands.rows_are there at }

-- the name of a row is looked up further out
pub row-next : {A : Type 0} (p : Policy A) (all : List Placed) (i : ℕ) (row : Row) (table : code.Table) (w : ℕ) (next : Option ℕ) (has : HasRow p all i row) → row.declares ≡ Some (table, w) → (table ≡ Scopes → ⊥)
    → (w < length p.names → IsLead (table_of table) all next (further_out all (table_of table) (namespace_at p.names p.lookup.namespaces row.namespace) (word_at p.names w))) → IsNext all row has.s next
row-next p all i row table w next has e other lead =
    let is = row-declaration p.names table w row.declares has.s e other has.is.declares in
    record {
      declared = is.0;
      lead = subst (λ t. IsLead t all next (further_out all t has.s.namespace (declared_text has.s.form))) is.2
          (subst (λ t. IsLead (table_of table) all next (further_out all (table_of table) has.s.namespace t)) is.3
          (subst (λ n. IsLead (table_of table) all next (further_out all (table_of table) n (word_at p.names w))) has.is.here (lead is.1)));
    }

-- the names of all statements
pub providers-all : (policy : List Placed) (rows : List Row) (i : ℕ) (needs : List Need) → length policy ≤ i → AreProviders policy rows i needs → AreProviders policy rows (length policy) needs
providers-all policy rows i needs past are = record {
  below = are.below;
  met = are.met;
  each = λ has met none p row s less. are.each has met none p row s (omega (arith, less, past));
}
