-- Of a policy of a store in order no two faults of one kind stand at one place.
use Rattle.cil_store_specs.proofs.Common.{◌≡◌, ◌⊎◌, inl, inr, ℕ, ◌+◌, ◌≤◌, Bool, true, false, not, ◌&&◌, ◌||◌, nat_le, List, [], ◌∷◌, ◌++◌, length, map, bytes_eq, Contains, refl, sym, ap, ◌∙◌, subst, arith, AllByRecursion, list_any, IsStrictlySortedBy, nat_cmp, Less, Equal, leb-true, bytes_eq-Decides, nat_cmp_total, nat_list_cmp_total, tied_itself, map-append, Module, Placed, namespace_inside, optionals_inside, placed, joined, name_cmp, Entry, Store, IsStore, entry_cmp, is_highest, active, AreModules, IsPolicyOf, first_true, second_true, all-weaker, all-append, all-contained, contains-first, contains-other, contains-cases, passed, words_in, contains-filtered, contains-left, contains-right, contains-append_cases, word-offsets}
use Rattle.cil_specs.specs.Names.{Word}
use Rattle.cil_specs.specs.Statements.{Statements, no_more, statement, statement_offsets}
use Rattle.cil_specs.specs.ModuleText.{IsModuleText}
use Rattle.cil_specs.proofs.Order.{reading-in_order}
use Rattle.cil_specs.proofs.OrderLemmas.{RiseTo, offset_of}
use Rattle.cil_specs.proofs.ShapeLemmas.{shapes_rise}
use Rattle.cil_specs.proofs.OneText.{module_text_same}

-- all words of statements, with one at the place of each statement, in the order of the text
abbrev all_words : Statements → List Word
all_words no_more = []
all_words (statement at form body more) = record { at = at; text = [] } ∷ words_in form ++ (all_words body ++ all_words more)

all-offsets : (statements : Statements) → map offset_of (all_words statements) ≡ statement_offsets statements
all-offsets no_more = refl
all-offsets (statement at form body more) =
    ap (λ ns. at.offset ∷ ns) (map-append offset_of (words_in form) (all_words body ++ all_words more)
    ∙ (λ i. word-offsets form i ++ (map-append offset_of (all_words body) (all_words more) ∙ (λ j. all-offsets body j ++ all-offsets more j)) i))

-- each word of a statement is among all words
HasWords : List Word → Placed → Type 0
HasWords words s = (w : Word) → Contains (words_in s.form) w → Contains words w

placed-words : (name : List ℕ) (namespace : List (List ℕ)) (optionals : List ℕ) (statements : Statements) → AllByRecursion (HasWords (all_words statements)) (placed name namespace optionals statements)
unfolding HasWords
placed-words name namespace optionals no_more = tt
placed-words name namespace optionals (statement at form body more) =
    let here : Word = record { at = at; text = [] } in
    let behind : List Word = all_words body ++ all_words more in
    let all : List Word = here ∷ words_in form ++ behind in
    let inner = all_words body in (
      λ w c. contains-other here (words_in form ++ behind) w (contains-left (words_in form) behind w c),
      all-append (HasWords all) (placed name (namespace_inside form namespace) (optionals_inside form at optionals) body) (placed name namespace optionals more)
          (all-weaker (HasWords (all_words body)) (HasWords all) (λ s has w c. contains-other here (words_in form ++ behind) w (contains-right (words_in form) behind w (contains-left (all_words body) (all_words more) w (has w c))))
          (placed name (namespace_inside form namespace) (optionals_inside form at optionals) body) (placed-words name (namespace_inside form namespace) (optionals_inside form at optionals) body))
          (all-weaker (HasWords (all_words more)) (HasWords all) (λ s has w c. contains-other here (words_in form ++ behind) w (contains-right (words_in form) behind w (contains-right (all_words body) (all_words more) w (has w c))))
          (placed name namespace optionals more) (placed-words name namespace optionals more)),
    )

placed-name : (name : List ℕ) (namespace : List (List ℕ)) (optionals : List ℕ) (statements : Statements) → AllByRecursion (λ s. s.module_name ≡ name) (placed name namespace optionals statements)
placed-name name namespace optionals no_more = tt
placed-name name namespace optionals (statement at form body more) = (
  refl,
  all-append (λ s. s.module_name ≡ name) (placed name (namespace_inside form namespace) (optionals_inside form at optionals) body) (placed name namespace optionals more)
      (placed-name name (namespace_inside form namespace) (optionals_inside form at optionals) body) (placed-name name namespace optionals more),
)

-- of words whose offsets rise one stands no lower than they begin
risen-low : (words : List Word) (low high : ℕ) (w : Word) → RiseTo low (map offset_of words) high → Contains words w → low ≤ w.at.offset
risen-low [] low high w rises c = absurd (omega (arith, c.1))
risen-low (x ∷ xs) low high w rises c = elim (contains-cases x xs w c) [
  | inl same ↦ (let e : x.at.offset ≡ w.at.offset = ap (λ v. v.at.offset) same in omega (arith, rises.0, e))
  | inr other ↦ omega (arith, rises.0, risen-low xs (x.at.offset + 1) high w rises.1 other)
]

-- and two with one offset are one
risen-same : (words : List Word) (low high : ℕ) (v w : Word) → RiseTo low (map offset_of words) high → Contains words v → Contains words w → v.at.offset ≡ w.at.offset → v ≡ w
risen-same [] low high v w rises a b same = absurd (omega (arith, a.1))
risen-same (x ∷ xs) low high v w rises a b same = by (contains-cases x xs v a) (contains-cases x xs w b) (λ c. risen-low xs (x.at.offset + 1) high v rises.1 c) (λ c. risen-low xs (x.at.offset + 1) high w rises.1 c)
    (λ c d. risen-same xs (x.at.offset + 1) high v w rises.1 c d same)
  where
    by : (x ≡ v) ⊎ Contains xs v → (x ≡ w) ⊎ Contains xs w → (Contains xs v → x.at.offset + 1 ≤ v.at.offset) → (Contains xs w → x.at.offset + 1 ≤ w.at.offset) → (Contains xs v → Contains xs w → v ≡ w) → v ≡ w
    by (inl p) (inl q) low_v low_w next = sym p ∙ q
    by (inl p) (inr d) low_v low_w next = absurd (omega (arith, low_w d, ap (λ u. u.at.offset) p, same))
    by (inr c) (inl q) low_v low_w next = absurd (omega (arith, low_v c, ap (λ u. u.at.offset) q, same))
    by (inr c) (inr d) low_v low_w next = next c d

-- In the text of a module.
module-rises : (bytes : List ℕ) (statements : Statements) → IsModuleText bytes statements → RiseTo 0 (map offset_of (all_words statements)) (length bytes)
module-rises bytes statements text =
    subst (λ ns. RiseTo 0 ns (length bytes)) (sym (all-offsets statements)) (shapes_rise statements false text.trees 0 (length bytes) text.shapes (reading-in_order bytes text.trees (length bytes) text.reads (omega arith)))

-- a statement of joined modules is one of a module
record IsPlacedIn (modules : List Module) (s : Placed) : Type 0 where
  of_module : Module
  is_in : Contains modules of_module
  name : s.module_name ≡ of_module.name
  words : (w : Word) → Contains (words_in s.form) w → Contains (all_words of_module.statements) w

placed-in : (modules : List Module) (s : Placed) → Contains (joined modules) s → IsPlacedIn modules s
unfolding HasWords
placed-in [] s c = absurd (omega (arith, c.1))
placed-in (m ∷ modules) s c = elim (contains-append_cases (placed m.name [] [] m.statements) (joined modules) s c) [
  | inl here ↦ record {
    of_module = m;
    is_in = contains-first m modules;
    name = all-contained (λ t. t.module_name ≡ m.name) (placed m.name [] [] m.statements) s (placed-name m.name [] [] m.statements) here;
    words = all-contained (HasWords (all_words m.statements)) (placed m.name [] [] m.statements) s (placed-words m.name [] [] m.statements) here;
  }
  | inr there ↦ (let found = placed-in modules s there in record { of_module = found.of_module; is_in = contains-other m modules found.of_module found.is_in; name = found.name; words = found.words })
]

-- a module is that of an entry
record IsOfEntry (entries : List Entry) (m : Module) : Type 0 where
  entry : Entry
  is_in : Contains entries entry
  name : m.name ≡ entry.name
  text : IsModuleText entry.text m.statements

of-entry : (entries : List Entry) (modules : List Module) (m : Module) → AreModules entries modules → Contains modules m → IsOfEntry entries m
of-entry [] [] m are c = absurd (omega (arith, c.1))
of-entry [] (n ∷ modules) m are c = absurd are
of-entry (e ∷ entries) [] m are c = absurd are
of-entry (e ∷ entries) (n ∷ modules) m are c = elim (contains-cases n modules m c) [
  | inl same ↦ record { entry = e; is_in = contains-first e entries; name = sym (ap (λ k. k.name) same) ∙ are.0; text = subst (λ k. IsModuleText e.text k.statements) same are.1 }
  | inr other ↦ (let found = of-entry entries modules m are.2 other in record { entry = found.entry; is_in = contains-other e entries found.entry found.is_in; name = found.name; text = found.text })
]

same-name-cmp : (a b : List ℕ) → a ≡ b → name_cmp a b ≡ Equal
same-name-cmp a b same = ap (name_cmp a) (sym same) ∙ tied_itself nat_list_cmp_total a

same-nat-cmp : (m n : ℕ) → m ≡ n → nat_cmp m n ≡ Equal
same-nat-cmp m n same = ap (nat_cmp m) (sym same) ∙ tied_itself nat_cmp_total m

-- entries of one name and one priority don't ascend
not-less : (a b : Entry) → a.name ≡ b.name → a.priority ≡ b.priority → entry_cmp a b ≡ Less → ⊥
not-less a b names priorities less = cc (same-name-cmp a.name b.name names, same-nat-cmp b.priority a.priority (sym priorities))

-- of entries in order two with one name and one priority are one
entry-same : (entries : List Entry) (e f : Entry) → IsStrictlySortedBy entry_cmp entries → Contains entries e → Contains entries f → e.name ≡ f.name → e.priority ≡ f.priority → e ≡ f
unfolding IsStrictlySortedBy
entry-same [] e f sorted a b names priorities = absurd (omega (arith, a.1))
entry-same (x ∷ xs) e f sorted a b names priorities = by (contains-cases x xs e a) (contains-cases x xs f b) (λ c d. entry-same xs e f sorted.1 c d names priorities)
  where
    by : (x ≡ e) ⊎ Contains xs e → (x ≡ f) ⊎ Contains xs f → (Contains xs e → Contains xs f → e ≡ f) → e ≡ f
    by (inl p) (inl q) next = sym p ∙ q
    by (inl p) (inr d) next = absurd (not-less x f (ap (λ k. k.name) p ∙ names) (ap (λ k. k.priority) p ∙ priorities) (all-contained (λ y. entry_cmp x y ≡ Less) xs f sorted.0 d))
    by (inr c) (inl q) next = absurd (not-less x e (ap (λ k. k.name) q ∙ sym names) (ap (λ k. k.priority) q ∙ sym priorities) (all-contained (λ y. entry_cmp x y ≡ Less) xs e sorted.0 c))
    by (inr c) (inr d) next = next c d

pub highest-of : (entries : List Entry) (e f : Entry) → is_highest entries e ≡ true → Contains entries f → f.name ≡ e.name → f.priority ≤ e.priority
highest-of [] e f is c names = absurd (omega (arith, c.1))
highest-of (x ∷ xs) e f is c names = elim (contains-cases x xs f c) [
  | inl same ↦ at-first (subst (λ y. (not (bytes_eq y.name e.name) || nat_le y.priority e.priority) ≡ true) same (first_true (not (bytes_eq x.name e.name) || nat_le x.priority e.priority) (is_highest xs e) is))
  | inr other ↦ highest-of xs e f (second_true (not (bytes_eq x.name e.name) || nat_le x.priority e.priority) (is_highest xs e) is) other names
]
  where
    at-first : (not (bytes_eq f.name e.name) || nat_le f.priority e.priority) ≡ true → f.priority ≤ e.priority
    at-first passes = leb-true f.priority e.priority (sym (ap (λ b. not b || nat_le f.priority e.priority) ((bytes_eq-Decides f.name e.name).1 names)) ∙ passes)

-- Of a store in order two active entries of one name are one.
active-same : (store : Store) (e f : Entry) → IsStore store → Contains (active store) e → Contains (active store) f → e.name ≡ f.name → e ≡ f
active-same store e f is_store a b names =
    let test : Entry → Bool = λ o. not (list_any (bytes_eq o.name) store.disabled) && is_highest store.entries o in
    let here : (o : Entry) → Contains (active store) o → Contains store.entries o = λ o c. contains-filtered test store.entries o c in
    let high : (o : Entry) → Contains (active store) o → is_highest store.entries o ≡ true = λ o c. second_true _ (is_highest store.entries o) (all-contained (λ x. test x ≡ true) (active store) o (passed test store.entries) c) in
    entry-same store.entries e f is_store.entries (here e a) (here f b) names
    (omega (arith, highest-of store.entries e f (high e a) (here f b) (sym names), highest-of store.entries f e (high f b) (here e a) names))

-- Of a policy of a store in order two words of one module at one offset are one.
pub one-word : (store : Store) (policy : List Placed) (s t : Placed) (v w : Word) → IsStore store → IsPolicyOf store policy → Contains policy s → Contains policy t → Contains (words_in s.form) v → Contains (words_in t.form) w
    → s.module_name ≡ t.module_name → v.at.offset ≡ w.at.offset → v ≡ w
one-word store policy s t v w is_store is_policy s_in t_in v_in w_in names offsets =
    let modules = is_policy.0 in
    let a = placed-in modules s (subst (λ p. Contains p s) is_policy.2 s_in) in
    let b = placed-in modules t (subst (λ p. Contains p t) is_policy.2 t_in) in
    let e = of-entry (active store) modules a.of_module is_policy.1 a.is_in in
    let f = of-entry (active store) modules b.of_module is_policy.1 b.is_in in
    let same : e.entry ≡ f.entry = active-same store e.entry f.entry is_store e.is_in f.is_in (sym e.name ∙ sym a.name ∙ names ∙ b.name ∙ f.name) in
    let statements : a.of_module.statements ≡ b.of_module.statements = module_text_same f.entry.text a.of_module.statements b.of_module.statements (subst (λ o. IsModuleText o.text a.of_module.statements) same e.text) f.text in
    risen-same (all_words b.of_module.statements) 0 (length f.entry.text) v w (module-rises f.entry.text b.of_module.statements f.text)
    (subst (λ ss. Contains (all_words ss) v) statements (a.words v v_in)) (b.words w w_in) offsets
