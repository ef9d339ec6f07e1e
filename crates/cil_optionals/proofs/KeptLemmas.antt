-- The marked optionals are those that a policy keeps.
use Rattle.cil_optionals.proofs.Common.{◌≡◌, inl, inr, ℕ, zero, suc, ◌+◌, ◌-◌, ◌<◌, ◌≤◌, ◌==◌, Bool, true, false, not, ◌&&◌, ◌||◌, nat_lt, List, [], ◌∷◌, ◌++◌, length, get_or, replicate, take, slice_get, position, Option, Some, None, is_some, bytes_eq, Contains, refl, sym, ap, ◌∙◌, subst, arith, true≢false, if◌then◌else◌, list_all, list_any, option_or, cases_lt, lt-ltb, ltb-true, eqb-true, eq-eqb, position-Some, get_or-take, get_or-replicate, list_all-append, none-some, same_Some, slice_get_within, slice_get_cases, slice_get_read, get_or_from_slice_get, bytes_eq-Decides, is_optional, Placed, Table, declares, declaration, outward, holds_of, PolicyFault, twice, missing_words, IsFaultOf, Optionals, is_within, is_member, is_directly_in, has_innermost, is_optional_at, restricted, IsGood, AreKept, AreApart, first_true, second_true, both_true, rows-length, Row, any-position, is_met, are_met, is_need_below, meeting, IsInnermost, AreNested, mark_at, set_of, ShowsKept, declared_table, declared_text, is_naming, is_provided, AreOptionalsOf, AreNodesOf, further_out, IsDeclaration, IsProvidedBy, AreProviders, is_need_within, AreFoundWithin, AreOthers, Need}
use Rattle.cil_bind.specs.Policy.{AreMarked}
use Rattle.cil_bind.specs.Rows.{AreRows}
use Rattle.cil_optionals.proofs.FoundLemmas.{IsNamed, declared-named, found-passes}
use Rattle.cil_optionals.proofs.ProviderLemmas.{provided-by, naming-declaration}

left : (b c : Bool) → b ≡ true → (b || c) ≡ true
left true c e = refl
left false c e = absurd (true≢false (sym e))

right : (b c : Bool) → c ≡ true → (b || c) ≡ true
right true c e = refl
right false c e = e

-- an element that passes stands at a place
any-place : {X : Type 0} (p : X → Bool) (xs : List X) (k : ℕ) (x : X) → slice_get xs k ≡ Some x → p x ≡ true → list_any p xs ≡ true
any-place p [] k x at passes = absurd (none-some x at)
any-place p (y ∷ xs) zero x at passes = ap (λ b. b || list_any p xs) (ap p (same_Some y x at) ∙ passes)
any-place p (y ∷ xs) (suc k) x at passes = by (p y) (any-place p xs k x at passes)
  where
    by : (b : Bool) → list_any p xs ≡ true → (b || list_any p xs) ≡ true
    by true more = refl
    by false more = more

place-any : {X : Type 0} (p : X → Bool) (xs : List X) → list_any p xs ≡ true → (k : ℕ) × (x : X) × (slice_get xs k ≡ Some x) × (p x ≡ true)
place-any p [] any = absurd (true≢false (sym any))
place-any p (y ∷ xs) any = by (p y) refl any (place-any p xs)
  where
    by : (b : Bool) → p y ≡ b → (b || list_any p xs) ≡ true → (list_any p xs ≡ true → (k : ℕ) × (x : _) × (slice_get xs k ≡ Some x) × (p x ≡ true)) → (k : ℕ) × (x : _) × (slice_get (y ∷ xs) k ≡ Some x) × (p x ≡ true)
    by true e a more = (0, y, refl, e)
    by false e a more = let there = more a in (suc there.0, there.1, there.2, there.3)

pub place-of : {X : Type 0} (xs : List X) (x : X) → Contains xs x → (k : ℕ) × (slice_get xs k ≡ Some x)
place-of xs x c = (c.0, slice_get_read xs (length xs) c.0 x refl c.1 (sym c.2))

pub contains-place : {X : Type 0} (xs : List X) (x : X) (k : ℕ) → slice_get xs k ≡ Some x → Contains xs x
contains-place xs x k at = (k, slice_get_within xs k x at, get_or_from_slice_get xs k x x at)

-- a set has a node by its number: up to that of the last statement as told, and behind it as a name is provided
abbrev pub name_at : List Placed → Option Placed → Bool
name_at policy None = false
name_at policy (Some s) = is_provided policy s

abbrev pub node_of : List Placed → Optionals → (ℕ → Bool) → ℕ → Bool
node_of policy set low n = if nat_lt n (length policy + 1) then low n else name_at (restricted set policy) (slice_get policy (n - (length policy + 1)))

node-low : (policy : List Placed) (set : Optionals) (low : ℕ → Bool) (n : ℕ) → n < length policy + 1 → node_of policy set low n ≡ low n
node-low policy set low n less = ap (λ b. if b then low n else name_at (restricted set policy) (slice_get policy (n - (length policy + 1)))) (lt-ltb n (length policy + 1) less)

node-name : (policy : List Placed) (set : Optionals) (low : ℕ → Bool) (p : ℕ) → node_of policy set low (length policy + 1 + p) ≡ name_at (restricted set policy) (slice_get policy p)
node-name policy set low p =
    ap (λ b. if b then low (length policy + 1 + p) else name_at (restricted set policy) (slice_get policy (length policy + 1 + p - (length policy + 1)))) (behind (nat_lt (length policy + 1 + p) (length policy + 1)) refl)
    ∙ ap (λ n. name_at (restricted set policy) (slice_get policy n)) same
  where
    same : length policy + 1 + p - (length policy + 1) ≡ p
    same = omega arith

    behind : (b : Bool) → nat_lt (length policy + 1 + p) (length policy + 1) ≡ b → nat_lt (length policy + 1 + p) (length policy + 1) ≡ false
    behind true e = absurd (let less = ltb-true (length policy + 1 + p) (length policy + 1) e in omega (arith, less))
    behind false e = e

nodes-of : (policy : List Placed) (set : Optionals) (low : ℕ → Bool) → AreOptionalsOf policy set low → AreNodesOf policy set (node_of policy set low)
nodes-of policy set low are = record {
  optionals_are = record {
    none = node-low policy set low 0 (omega arith) ∙ are.none;
    optional_is = λ k s at is. (let less = slice_get_within policy k s at in node-low policy set low (suc k) (omega (arith, less)) ∙ are.optional_is k s at is);
  };
  name_is = λ p s at. node-name policy set low p ∙ ap (name_at (restricted set policy)) at;
}

-- where a plain name leads: to a declaration of it, no further in
outward-declares : (policy : List Placed) (table : Table) (namespace : List (List ℕ)) (name : List ℕ) (t : Placed) → outward policy table namespace name ≡ Some t → IsNamed table t.namespace name t × (length t.namespace ≤ length namespace)
outward-declares policy table [] name t e =
    let named = declared-named table [] name t (found-passes (declares table [] name) policy t e) in
    (subst (λ n. IsNamed table n name t) (sym named.here) named, (let here = ap length named.here in omega (arith, here)))
outward-declares policy table (inner ∷ outer) name t e = by (declaration policy table (inner ∷ outer) name) refl e (outward-declares policy table outer name t)
  where
    by : (o : Option Placed) → declaration policy table (inner ∷ outer) name ≡ o → option_or o (outward policy table outer name) ≡ Some t
        → (outward policy table outer name ≡ Some t → IsNamed table t.namespace name t × (length t.namespace ≤ length outer)) → IsNamed table t.namespace name t × (length t.namespace ≤ length (inner ∷ outer))
    by None is there more = let rest = more there in (rest.0, (let le = rest.1 in omega (arith, le)))
    by (Some u) is there more =
        let named = declared-named table (inner ∷ outer) name t (found-passes (declares table (inner ∷ outer) name) policy t (is ∙ there)) in
        (subst (λ n. IsNamed table n name t) (sym named.here) named, (let here = ap length named.here in omega (arith, here)))

further-declares : (policy : List Placed) (table : Table) (namespace : List (List ℕ)) (name : List ℕ) (t : Placed) → further_out policy table namespace name ≡ Some t → IsNamed table t.namespace name t × (length t.namespace < length namespace)
further-declares policy table [] name t e = absurd (none-some t e)
further-declares policy table (inner ∷ outer) name t e = let rest = outward-declares policy table outer name t e in (rest.0, (let le = rest.1 in omega (arith, le)))

-- the mark of an optional
mark-of : (rows : List Row) (policy : List Placed) (marks : List Bool) → AreNested rows policy → (k : ℕ) (s : Placed) → slice_get policy k ≡ Some s → is_optional s.form ≡ true
    → set_of policy marks s.module_name s.at.offset ≡ get_or marks (suc k) false
mark-of rows policy marks nested k s at is = by (position test policy) refl
  where
    test : Placed → Bool
    test = is_optional_at s.module_name s.at.offset

    passes : test s ≡ true
    passes = both_true (is_optional s.form) (bytes_eq s.module_name s.module_name && s.at.offset == s.at.offset) is
        (both_true (bytes_eq s.module_name s.module_name) (s.at.offset == s.at.offset) ((bytes_eq-Decides s.module_name s.module_name).1 refl) (eq-eqb s.at.offset s.at.offset refl))

    by : (o : Option ℕ) → position test policy ≡ o → mark_at marks (position test policy) ≡ get_or marks (suc k) false
    by None e = absurd (true≢false (sym (any-place test policy k s at passes) ∙ any-position test policy ∙ ap is_some e))
    by (Some j) e =
        let found = position-Some test policy j s e in
        let t : Placed = get_or policy j s in
        let there : slice_get policy j ≡ Some t = slice_get_read policy (length policy) j t refl found.0 (let low = found.0 in same-read policy j s low) in
        let optional = first_true (is_optional t.form) (bytes_eq s.module_name t.module_name && s.at.offset == t.at.offset) found.1 in
        let here = second_true (is_optional t.form) (bytes_eq s.module_name t.module_name && s.at.offset == t.at.offset) found.1 in
        let named = (bytes_eq-Decides s.module_name t.module_name).0 (first_true (bytes_eq s.module_name t.module_name) (s.at.offset == t.at.offset) here) in
        let offset = eqb-true s.at.offset t.at.offset (second_true (bytes_eq s.module_name t.module_name) (s.at.offset == t.at.offset) here) in
        ap (mark_at marks) e ∙ ap (λ n. get_or marks (suc n) false) (sym (nested.told k j s t at there is optional named offset))
      where
        same-read : (xs : List Placed) (i : ℕ) (d : Placed) → i < length xs → get_or xs i d ≡ get_or xs i (get_or xs i d)
        same-read [] i d low = refl
        same-read (x ∷ xs) zero d low = refl
        same-read (x ∷ xs) (suc i) d low = same-read xs i d (omega (arith, low))

-- each statement has its row
pub rows-there : (rows : List Row) (policy : List Placed) → length rows ≡ length policy → (i : ℕ) (s : Placed) → slice_get policy i ≡ Some s → (row : Row) × (slice_get rows i ≡ Some row)
rows-there rows policy same i s at = elim (slice_get_cases rows i).1 [
  | inl (row, low, here, is) ↦ (row, here)
  | inr (past, here) ↦ (let low = slice_get_within policy i s at in absurd (omega (arith, low, past, same)))
]

-- the needs of statements are of nodes of the policy
pub within-below : (count : ℕ) (needs : List Need) → list_all (is_need_within count) needs ≡ true → list_all (is_need_below (count + count + 1)) needs ≡ true
within-below count [] all = refl
within-below count (need ∷ needs) all =
    let first = first_true (is_need_within count need) (list_all (is_need_within count) needs) all in
    let rest = second_true (nat_lt 0 need.optional) (nat_lt need.optional (count + 1) && list_all (λ n. nat_lt n (count + count + 1)) (meeting need)) first in
    let low : need.optional < count + 1 = ltb-true need.optional (count + 1) (first_true (nat_lt need.optional (count + 1)) (list_all (λ n. nat_lt n (count + count + 1)) (meeting need)) rest) in
    both_true (is_need_below (count + count + 1) need) (list_all (is_need_below (count + count + 1)) needs)
    (both_true (nat_lt 0 need.optional) (nat_lt need.optional (count + count + 1) && list_all (λ n. nat_lt n (count + count + 1)) (meeting need))
    (first_true (nat_lt 0 need.optional) (nat_lt need.optional (count + 1) && list_all (λ n. nat_lt n (count + count + 1)) (meeting need)) first)
    (both_true (nat_lt need.optional (count + count + 1)) (list_all (λ n. nat_lt n (count + count + 1)) (meeting need)) (lt-ltb need.optional (count + count + 1) (omega (arith, low)))
    (second_true (nat_lt need.optional (count + 1)) (list_all (λ n. nat_lt n (count + count + 1)) (meeting need)) rest)))
    (within-below count needs (second_true (is_need_within count need) (list_all (is_need_within count) needs) all))

pub all-below : (policy : List Placed) (rows : List Row) (lower others : List Need) → AreProviders policy rows (length policy) lower → AreOthers policy rows others
    → list_all (is_need_below (length policy + length policy + 1)) (lower ++ others) ≡ true
all-below policy rows lower others providers_are others_are =
    list_all-append (is_need_below (length policy + length policy + 1)) lower others
    ∙ both_true (list_all (is_need_below (length policy + length policy + 1)) lower) (list_all (is_need_below (length policy + length policy + 1)) others) providers_are.below (within-below (length policy) others others_are.below)

-- what is asked of the marks: they are the greatest set in which the needs are met
pub record AreGreatest (policy : List Placed) (rows : List Row) (lower others : List Need) (marks : List Bool) : Type 0 where
  pub providers_are : AreProviders policy rows (length policy) lower
  pub others_are : AreOthers policy rows others
  pub outside : get_or marks 0 false ≡ true
  pub met : are_met (λ n. get_or marks n false) (lower ++ others) ≡ true
  pub greatest : (has : ℕ → Bool) → are_met has (lower ++ others) ≡ true → (n : ℕ) → n ≤ length policy + length policy → has n ≡ true → get_or marks n false ≡ true

module _ (policy : List Placed) (rows : List Row) (row-there : (i : ℕ) (s : Placed) → slice_get policy i ≡ Some s → (row : Row) × (slice_get rows i ≡ Some row)) (nested : AreNested rows policy) (apart : AreApart policy)
    (once : (fault : PolicyFault) → IsFaultOf twice policy fault → ⊥) (lower others : List Need) (marks : List Bool) (are : AreGreatest policy rows lower others marks) where
  abbrev mark : ℕ → Bool
  mark n = get_or marks n false

  abbrev kept : Optionals
  kept = set_of policy marks

  abbrev R : List Placed
  R = restricted kept policy

  parts : (are_met mark lower && are_met mark others) ≡ true
  parts = sym (list_all-append (is_met mark) lower others) ∙ are.met

  lower-met : are_met mark lower ≡ true
  lower-met = first_true (are_met mark lower) (are_met mark others) parts

  others-met : are_met mark others ≡ true
  others-met = second_true (are_met mark lower) (are_met mark others) parts

  and_same : (b c : Bool) → (b ≡ true → c ≡ true) → (b && c) ≡ b
  and_same true c if_true = if_true refl
  and_same false c if_true = refl

  -- the mark of the optional around a statement, by those of the optionals in front of it
  around-step : (i : ℕ) (s : Placed) (n : ℕ) → IsInnermost policy i n s → ((k : ℕ) (t : Placed) (r : Row) → k < i → slice_get policy k ≡ Some t → slice_get rows k ≡ Some r → mark r.optional ≡ is_within kept t) → mark n ≡ is_within kept s
  around-step i s zero outside before = are.outside ∙ ap (list_all (kept s.module_name)) (sym outside)
  around-step i s (suc k) (outer, low, there, is, one, chain) before =
      let r = row-there k outer there in
      sym (and_same (mark (suc k)) (mark r.0.optional) (are.others_are.inside mark others-met are.outside k r.0 outer r.1 there is))
      ∙ (λ j. sym (mark-of rows policy marks nested k outer there is) j && before k outer r.0 low there r.1 j)
      ∙ (λ j. kept (one j) outer.at.offset && list_all (kept (one j)) outer.optionals) ∙ ap (list_all (kept s.module_name)) (sym chain)

  around-up : (m i : ℕ) (s : Placed) (row : Row) → i < m → slice_get policy i ≡ Some s → slice_get rows i ≡ Some row → mark row.optional ≡ is_within kept s
  around-up zero i s row low at here = absurd (omega (arith, low))
  around-up (suc m) i s row low at here = around-step i s row.optional (nested.around i row s here at) (λ k t r less there r_there. around-up m k t r (omega (arith, low, less)) there r_there)

  -- a mark tells whether a statement stands within the marked optionals
  within-marked : (i : ℕ) (s : Placed) (row : Row) → slice_get policy i ≡ Some s → slice_get rows i ≡ Some row → mark row.optional ≡ is_within kept s
  within-marked i s row = around-up (suc i) i s row (omega arith)

  optionals-marked : AreOptionalsOf policy kept mark
  optionals-marked = record {
    none = are.outside;
    optional_is = λ k s at is.
        let r = row-there k s at in
        sym (and_same (mark (suc k)) (mark r.0.optional) (are.others_are.inside mark others-met are.outside k r.0 s r.1 at is))
        ∙ (λ j. sym (mark-of rows policy marks nested k s at is) j && within-marked k s r.0 at r.1 j);
  }

  -- a marked name is provided
  provided-step : (p : ℕ) (s : Placed) (row : Row) → slice_get policy p ≡ Some s → slice_get rows p ≡ Some row → (is : IsDeclaration s) → IsProvidedBy policy mark row s
      → ((q : ℕ) (t : Placed) → slice_get policy q ≡ Some t → IsDeclaration t → length t.namespace < length s.namespace → mark (length policy + 1 + q) ≡ true → is_provided R t ≡ true) → is_provided R s ≡ true
  provided-step p s row at here is by_it before = provided-by policy kept apart once p s at is ∙ (elim by_it [
    | inl inside ↦ left (is_within kept s) (holds_of (is_provided R) further) (sym (within-marked p s row at here) ∙ inside)
    | inr out ↦ right (is_within kept s) (holds_of (is_provided R) further)
        (ap (holds_of (is_provided R)) out.further
        ∙ (let found = further-declares policy (declared_table s.form) s.namespace (declared_text s.form) out.found out.further in
        before out.place out.found out.at (naming-declaration out.found (found.0.naming is.other)) found.1 out.there))
  ])
    where
      further : Option Placed
      further = further_out policy (declared_table s.form) s.namespace (declared_text s.form)

  provided-up : (m p : ℕ) (s : Placed) → length s.namespace < m → slice_get policy p ≡ Some s → IsDeclaration s → mark (length policy + 1 + p) ≡ true → is_provided R s ≡ true
  provided-up zero p s low at is there = absurd (omega (arith, low))
  provided-up (suc m) p s low at is there =
      let r = row-there p s at in
      provided-step p s r.0 at r.1 is (are.providers_are.each mark lower-met are.outside p r.0 s (slice_get_within policy p s at) r.1 at is there)
      (λ q t at_t is_t less there_t. provided-up m q t (omega (arith, low, less)) at_t is_t there_t)

  name-marked : (p : ℕ) (s : Placed) → slice_get policy p ≡ Some s → mark (length policy + 1 + p) ≡ true → is_provided R s ≡ true
  name-marked p s at there = by (is_naming s.form) refl
    where
      by : (b : Bool) → is_naming s.form ≡ b → is_provided R s ≡ true
      by true e = provided-up (suc (length s.namespace)) p s (omega arith) at (naming-declaration s e) there
      by false e = ap (λ b. if b then is_some (outward R (declared_table s.form) s.namespace (declared_text s.form)) else true) e

  abbrev has_kept : ℕ → Bool
  has_kept = node_of policy kept mark

  kept-nodes : AreNodesOf policy kept has_kept
  kept-nodes = nodes-of policy kept mark optionals-marked

  -- what is marked is there
  marked-there : (n : ℕ) → n < length policy + length policy + 1 → mark n ≡ true → has_kept n ≡ true
  marked-there n low is = elim (cases_lt n (length policy + 1)) [
    | inl less ↦ node-low policy kept mark n less ∙ is
    | inr past ↦ by (n - (length policy + 1)) (omega (arith, past))
  ]
    where
      by : (p : ℕ) → n ≡ length policy + 1 + p → has_kept n ≡ true
      by p e = elim (slice_get_cases policy p).1 [
        | inl (s, less, at, same) ↦ ap has_kept e ∙ node-name policy kept mark p ∙ ap (name_at R) at ∙ name-marked p s at (ap mark (sym e) ∙ is)
        | inr (past, at) ↦ absurd (omega (arith, low, e, past))
      ]

  any-there : (ns : List ℕ) → list_all (λ n. nat_lt n (length policy + length policy + 1)) ns ≡ true → list_any mark ns ≡ true → list_any has_kept ns ≡ true
  any-there [] low any = any
  any-there (n ∷ ns) low any =
      by (mark n) refl any
      (any-there ns (second_true (nat_lt n (length policy + length policy + 1)) (list_all (λ m. nat_lt m (length policy + length policy + 1)) ns) low))
    where
      by : (b : Bool) → mark n ≡ b → (b || list_any mark ns) ≡ true → (list_any mark ns ≡ true → list_any has_kept ns ≡ true) → (has_kept n || list_any has_kept ns) ≡ true
      by true e a more =
          left (has_kept n) (list_any has_kept ns)
          (marked-there n (ltb-true n (length policy + length policy + 1) (first_true (nat_lt n (length policy + length policy + 1)) (list_all (λ m. nat_lt m (length policy + length policy + 1)) ns) low)) e)
      by false e a more = right (has_kept n) (list_any has_kept ns) (more a)

  -- so the needs of statements are met by it
  all-there : (needs : List Need) → list_all (is_need_within (length policy)) needs ≡ true → are_met mark needs ≡ true → are_met has_kept needs ≡ true
  all-there [] low met = refl
  all-there (need ∷ needs) low met =
      both_true (is_met has_kept need) (are_met has_kept needs) one
      (all-there needs (second_true (is_need_within (length policy) need) (list_all (is_need_within (length policy)) needs) low) (second_true (is_met mark need) (are_met mark needs) met))
    where
      first : is_need_within (length policy) need ≡ true
      first = first_true (is_need_within (length policy) need) (list_all (is_need_within (length policy)) needs) low

      rest : (nat_lt need.optional (length policy + 1) && list_all (λ n. nat_lt n (length policy + length policy + 1)) (meeting need)) ≡ true
      rest = second_true (nat_lt 0 need.optional) (nat_lt need.optional (length policy + 1) && list_all (λ n. nat_lt n (length policy + length policy + 1)) (meeting need)) first

      same : has_kept need.optional ≡ mark need.optional
      same =
          node-low policy kept mark need.optional
          (ltb-true need.optional (length policy + 1) (first_true (nat_lt need.optional (length policy + 1)) (list_all (λ n. nat_lt n (length policy + length policy + 1)) (meeting need)) rest))

      either : (b c d : Bool) → (c ≡ true → d ≡ true) → (not b || c) ≡ true → (not b || d) ≡ true
      either true c d more e = more e
      either false c d more e = refl

      one : is_met has_kept need ≡ true
      one =
          ap (λ b. not b || list_any has_kept (meeting need)) same
          ∙ either (mark need.optional) (list_any mark (meeting need)) (list_any has_kept (meeting need))
          (any-there (meeting need) (second_true (nat_lt need.optional (length policy + 1)) (list_all (λ n. nat_lt n (length policy + length policy + 1)) (meeting need)) rest))
          (first_true (is_met mark need) (are_met mark needs) met)

  kept-found : AreFoundWithin policy kept
  kept-found = (are.others_are.found kept has_kept kept-nodes).0 (all-there others are.others_are.below others-met)

  kept-of_policy : (name : List ℕ) (at : ℕ) → kept name at ≡ true → list_any (is_optional_at name at) policy ≡ true
  kept-of_policy name at has = by (position (is_optional_at name at) policy) refl
    where
      by : (o : Option ℕ) → position (is_optional_at name at) policy ≡ o → list_any (is_optional_at name at) policy ≡ true
      by None e = absurd (true≢false (sym has ∙ ap (mark_at marks) e))
      by (Some k) e = any-position (is_optional_at name at) policy ∙ ap is_some e

  kept-around : (s : Placed) → Contains policy s → is_member kept s ≡ true → is_within kept s ≡ true
  kept-around s c member =
      let here = place-of policy s c in
      let optional = first_true (is_optional s.form) (kept s.module_name s.at.offset) member in
      let r = row-there here.0 s here.1 in
      sym (within-marked here.0 s r.0 here.1 r.1)
      ∙ are.others_are.inside mark others-met are.outside here.0 r.0 s r.1 here.1 optional
      (sym (mark-of rows policy marks nested here.0 s here.1 optional) ∙ second_true (is_optional s.form) (kept s.module_name s.at.offset) member)

  -- a statement directly in a marked optional stands within them
  directly-step : (i : ℕ) (s : Placed) (row : Row) (n : ℕ) → slice_get policy i ≡ Some s → slice_get rows i ≡ Some row → row.optional ≡ n → IsInnermost policy i n s → is_directly_in kept s ≡ true → is_within kept s ≡ true
  directly-step i s row zero at here is outside directly = absurd (true≢false (sym directly ∙ ap (has_innermost kept s.module_name) outside))
  directly-step i s row (suc k) at here is (outer, low, there, optional, one, chain) directly =
      sym (within-marked i s row at here) ∙ ap mark is
      ∙ sym (mark-of rows policy marks nested k outer there optional) ∙ (λ j. kept (one j) outer.at.offset) ∙ sym (ap (has_innermost kept s.module_name) chain) ∙ directly

  kept-directly : (s : Placed) → Contains policy s → is_directly_in kept s ≡ true → missing_words R s ≡ []
  kept-directly s c directly =
      let here = place-of policy s c in
      let r = row-there here.0 s here.1 in
      kept-found s c (λ none. true≢false (sym directly ∙ ap (has_innermost kept s.module_name) none))
      (directly-step here.0 s r.0 r.0.optional here.1 r.1 refl (nested.around here.0 r.0 s r.1 here.1) directly)

  marked-good : IsGood policy kept
  marked-good = record { of_policy = kept-of_policy; around = kept-around; found = kept-directly }

  -- each good set is within the marked optionals
  abbrev optional_at : Optionals → Option Placed → Bool
  optional_at set None = false
  optional_at set (Some s) = set s.module_name s.at.offset && is_within set s

  abbrev low_of : Optionals → ℕ → Bool
  low_of set zero = true
  low_of set (suc k) = optional_at set (slice_get policy k)

  low-optionals : (set : Optionals) → AreOptionalsOf policy set (low_of set)
  low-optionals set = record { none = refl; optional_is = λ k s at is. ap (optional_at set) at }

  within-directly : (set : Optionals) (name ats : List ℕ) → (ats ≡ [] → ⊥) → list_all (set name) ats ≡ true → has_innermost set name ats ≡ true
  within-directly set name [] some all = absurd (some refl)
  within-directly set name (at ∷ ats) some all = first_true (set name at) (list_all (set name) ats) all

  good-met : (set : Optionals) → IsGood policy set → are_met (node_of policy set (low_of set)) (lower ++ others) ≡ true
  good-met set good =
      let nodes = nodes-of policy set (low_of set) (low-optionals set) in
      list_all-append (is_met (node_of policy set (low_of set))) lower others
      ∙ both_true (are_met (node_of policy set (low_of set)) lower) (are_met (node_of policy set (low_of set)) others)
      (are.providers_are.met set (node_of policy set (low_of set)) nodes)
      ((are.others_are.found set (node_of policy set (low_of set)) nodes).1 (λ s c some within. good.found s c (within-directly set s.module_name s.optionals some within)))

  good-marked : (set : Optionals) → IsGood policy set → (name : List ℕ) (at : ℕ) → set name at ≡ true → kept name at ≡ true
  good-marked set good name at has =
      let (k, s, there, is) = place-any (is_optional_at name at) policy (good.of_policy name at has) in
      let optional = first_true (is_optional s.form) (bytes_eq name s.module_name && at == s.at.offset) is in
      let here = second_true (is_optional s.form) (bytes_eq name s.module_name && at == s.at.offset) is in
      let named : name ≡ s.module_name = (bytes_eq-Decides name s.module_name).0 (first_true (bytes_eq name s.module_name) (at == s.at.offset) here) in
      let offset : at ≡ s.at.offset = eqb-true at s.at.offset (second_true (bytes_eq name s.module_name) (at == s.at.offset) here) in
      let member : set s.module_name s.at.offset ≡ true = sym (λ j. set (named j) (offset j)) ∙ has in
      let around = good.around s (contains-place policy s k there) (both_true (is_optional s.form) (set s.module_name s.at.offset) optional member) in
      let less = slice_get_within policy k s there in
      let low = node-low policy set (low_of set) (suc k) (omega (arith, less)) ∙ ap (optional_at set) there ∙ both_true (set s.module_name s.at.offset) (is_within set s) member around in
      (λ j. kept (named j) (offset j)) ∙ mark-of rows policy marks nested k s there optional
      ∙ are.greatest (node_of policy set (low_of set)) (good-met set good) (suc k) (omega (arith, less)) low

  are-kept : AreKept policy kept
  are-kept name at = (λ has. (kept, marked-good, has), λ other. good-marked other.0 other.1 name at other.2)

  marked-all : (rs : List Row) (statements : List Placed) → length rs ≡ length statements → ((i : ℕ) (s : Placed) (row : Row) → slice_get statements i ≡ Some s → slice_get rs i ≡ Some row → mark row.optional ≡ is_within kept s)
      → AreMarked kept marks rs statements
  marked-all [] [] same each = tt
  marked-all [] (s ∷ statements) same each = absurd (omega (arith, same))
  marked-all (r ∷ rs) [] same each = absurd (omega (arith, same))
  marked-all (r ∷ rs) (s ∷ statements) same each = (each 0 s r refl refl, marked-all rs statements (omega (arith, same)) (λ i t q at here. each (suc i) t q at here))

  -- the marked optionals are kept
  pub shows-kept : length rows ≡ length policy → ShowsKept policy rows marks
  shows-kept same = record {
    set = kept;
    are_kept = are-kept;
    marked = marked-all rows policy same within-marked;
    own = λ k s at is. sym (mark-of rows policy marks nested k s at is);
  }

-- and the marks behind the last number aren't needed
pub shows-taken : (policy : List Placed) (rows : List Row) (marks : List Bool) (n : ℕ) → AreNested rows policy → length policy < n → ShowsKept policy rows marks → ShowsKept policy rows (take n marks)
shows-taken policy rows marks n nested long shows = record {
  set = shows.set;
  are_kept = shows.are_kept;
  marked = by rows policy (λ i row s at here. number i row.optional s (slice_get_within policy i s here) (nested.around i row s at here)) shows.marked;
  own = λ k s at is. (let low = slice_get_within policy k s at in get_or-take n marks (suc k) false (omega (arith, low, long))) ∙ shows.own k s at is;
}
  where
    number : (i m : ℕ) (s : Placed) → i < length policy → IsInnermost policy i m s → m < n
    number i zero s low outside = omega (arith, low, long)
    number i (suc k) s low inside = (let before = inside.1 in omega (arith, low, long, before))

    by : (rs : List Row) (statements : List Placed) → ((i : ℕ) (row : Row) (s : Placed) → slice_get rs i ≡ Some row → slice_get statements i ≡ Some s → row.optional < n)
        → AreMarked shows.set marks rs statements → AreMarked shows.set (take n marks) rs statements
    by [] [] low are = are
    by [] (s ∷ statements) low are = are
    by (row ∷ rs) [] low are = are
    by (row ∷ rs) (s ∷ statements) low are = (get_or-take n marks row.optional false (low 0 row s refl refl) ∙ are.0, by rs statements (λ i r t at here. low (suc i) r t at here) are.1)

same-optionals : (names spaces : List (List ℕ)) (rows : List Row) (policy : List Placed) → AreRows names spaces rows policy → list_all (λ row. not row.is_optional) rows ≡ list_all (λ s. not (is_optional s.form)) policy
same-optionals names spaces [] [] are = refl
same-optionals names spaces [] (s ∷ policy) are = absurd are
same-optionals names spaces (row ∷ rows) [] are = absurd are
same-optionals names spaces (row ∷ rows) (s ∷ policy) are = λ k. not (are.0.optional k) && same-optionals names spaces rows policy are.1 k

all-place : {X : Type 0} (p : X → Bool) (xs : List X) (k : ℕ) (x : X) → list_all p xs ≡ true → slice_get xs k ≡ Some x → p x ≡ true
all-place p [] k x all at = absurd (none-some x at)
all-place p (y ∷ xs) zero x all at = ap p (sym (same_Some y x at)) ∙ first_true (p y) (list_all p xs) all
all-place p (y ∷ xs) (suc k) x all at = all-place p xs k x (second_true (p y) (list_all p xs) all) at

-- where there are no optionals all marks are set
module _ (names spaces : List (List ℕ)) (rows : List Row) (policy : List Placed) (are : AreRows names spaces rows policy) (nested : AreNested rows policy) (none : list_all (λ row. not row.is_optional) rows ≡ true)
    (n : ℕ) (some : 0 < n) where
  abbrev empty : Optionals
  empty name at = false

  never : (k : ℕ) (s : Placed) → slice_get policy k ≡ Some s → is_optional s.form ≡ true → ⊥
  never k s at is = true≢false (sym (all-place (λ t. not (is_optional t.form)) policy k s (sym (same-optionals names spaces rows policy are) ∙ none) at) ∙ ap not is)

  nowhere : (name : List ℕ) (at : ℕ) → list_any (is_optional_at name at) policy ≡ true → ⊥
  nowhere name at any =
      let (k, s, there, is) = place-any (is_optional_at name at) policy any in
      never k s there (first_true (is_optional s.form) (bytes_eq name s.module_name && at == s.at.offset) is)

  is-marked : (i m : ℕ) (s : Placed) → IsInnermost policy i m s → get_or (replicate n true) m false ≡ is_within empty s
  is-marked i zero s outside = get_or-replicate n 0 true false some ∙ ap (list_all (empty s.module_name)) (sym outside)
  is-marked i (suc k) s inside = absurd (never k inside.0 inside.2 inside.3)

  are-marked : (rs : List Row) (statements : List Placed) → length rs ≡ length statements → ((i : ℕ) (row : Row) (s : Placed) → slice_get rs i ≡ Some row → slice_get statements i ≡ Some s → get_or (replicate n true) row.optional false ≡ is_within empty s)
      → AreMarked empty (replicate n true) rs statements
  are-marked [] [] same each = tt
  are-marked [] (s ∷ statements) same each = absurd (omega (arith, same))
  are-marked (r ∷ rs) [] same each = absurd (omega (arith, same))
  are-marked (r ∷ rs) (s ∷ statements) same each = (each 0 r s refl refl, are-marked rs statements (omega (arith, same)) (λ i q t here at. each (suc i) q t here at))

  pub shows-all : ShowsKept policy rows (replicate n true)
  shows-all = record {
    set = empty;
    are_kept = λ name at. (λ has. absurd (true≢false (sym has)), λ other. absurd (nowhere name at (other.1.of_policy name at other.2)));
    marked = are-marked rows policy (rows-length names spaces rows policy are) (λ i row s here at. is-marked i row.optional s (nested.around i row s here at));
    own = λ k s at is. absurd (never k s at is);
  }
