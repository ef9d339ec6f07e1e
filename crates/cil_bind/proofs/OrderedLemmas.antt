-- The joined policy of modules in order stands in order.
use Rattle.cil_bind.proofs.Common.{◌≡◌, inl, inr, ℕ, zero, suc, ◌<◌, ◌≤◌, Bool, true, false, cond, List, [], ◌∷◌, ◌++◌, Some, map, filter, length, refl, sym, ap, ◌∙◌, subst, arith, true≢false, AllByRecursion, cases_order, nat_list_cmp_total, none-some, same_Some, Form, statement_offsets, rise_from, Statements, no_more, statement, Module, Placed, namespace_inside, optionals_inside, placed, joined, name_cmp, names_rise, first_true, second_true, all-weaker, all-append, all-first, all-second, all-contained, contains-first, rises-low, rises-less, rises-append, offsets_in, offsets_of, IsRising, IsBefore, AreOrdered, AreSpelt, NamedModule}
use Rattle.std.proofs.Common.{slice_get}
use Rattle.std.specs.Ordering.{is_lt, ordering_reverse}
use Rattle.std.specs.declared.cmp.Ordering.{Ordering}
use Rattle.std.specs.declared.cmp.Ordering.TheVariants.{Less, Equal, Greater}
use Rattle.cil_specs.specs.Place.{Place}
use Rattle.cil_specs.proofs.Order.{reading-in_order}
use Rattle.cil_specs.proofs.OrderLemmas.{rise_from_is}
use Rattle.cil_specs.proofs.ShapeLemmas.{shapes_rise}
use Rattle.cil_bind.specs.Written.{IsWritten, AreWritten}
use Rattle.cil_bind.proofs.FromLemmas.{all-get, placed-named}

-- lists in order one after the other
ordered-append : (xs ys : List Placed) → AreOrdered xs → AreOrdered ys → AllByRecursion (λ s. AllByRecursion (IsBefore s) ys) xs → AreOrdered (xs ++ ys)
ordered-append [] ys ordered more before = more
ordered-append (s ∷ xs) ys ordered more before = (ordered.0, all-append (IsBefore s) xs ys ordered.1 before.0, ordered-append xs ys ordered.2 more before.1)

-- the statement stands in this module, and P holds of the offsets of its ( and words
record StandsIn (name : List ℕ) (P : ℕ → Type 0) (s : Placed) : Type 0 where
  here : s.module_name ≡ name
  each : AllByRecursion P (offsets_of s)

-- the statements of one module
record IsModuleOrdered (name : List ℕ) (P : ℕ → Type 0) (policy : List Placed) : Type 0 where
  ordered : AreOrdered policy
  inside : AllByRecursion (StandsIn name P) policy

stands-weaker : (name : List ℕ) (P Q : ℕ → Type 0) → ((n : ℕ) → P n → Q n) → (policy : List Placed) → AllByRecursion (StandsIn name P) policy → AllByRecursion (StandsIn name Q) policy
stands-weaker name P Q f policy all =
    all-weaker (StandsIn name P) (StandsIn name Q) (λ t stands. record { here = stands.here; each = all-weaker P Q f (offsets_of t) stands.each }) policy all

all-both : (P Q : ℕ → Type 0) (ns : List ℕ) → AllByRecursion P ns → AllByRecursion Q ns → AllByRecursion (λ n. P n × Q n) ns
all-both P Q [] ps qs = tt
all-both P Q (n ∷ ns) ps qs = ((ps.0, qs.0), all-both P Q ns ps.1 qs.1)

-- a statement with its ( and words below a number stands before those of its module with theirs from there on
stands-before : (name : List ℕ) (Q : ℕ → Type 0) (s : Placed) (high : ℕ) → s.module_name ≡ name → AllByRecursion (λ m. m < high) (offsets_of s) → ((n : ℕ) → Q n → high ≤ n)
    → (policy : List Placed) → AllByRecursion (StandsIn name Q) policy → AllByRecursion (IsBefore s) policy
stands-before name Q s high here below least policy all =
    all-weaker (StandsIn name Q) (IsBefore s)
    (λ t stands. inr (
      here ∙ sym stands.here,
      λ m n c d.
          let less : m < high = all-contained (λ k. k < high) (offsets_of s) m below c in
          let more : high ≤ n = least n (all-contained Q (offsets_of t) n stands.each d) in
          omega arith,
    ))
    policy all

-- numbers of which P holds, from one on, and below another
abbrev From : (ℕ → Type 0) → ℕ → ℕ → Type 0
From P low n = P n × (low ≤ n)

abbrev Between : (ℕ → Type 0) → ℕ → ℕ → ℕ → Type 0
Between P low high n = P n × ((low ≤ n) × (n < high))

-- a statement, those inside it and those behind it
ordered-more : (name : List ℕ) (P : ℕ → Type 0) (s : Placed) (low high : ℕ) (inner others : List Placed) → s.module_name ≡ name → IsRising s → AllByRecursion (λ m. m < low) (offsets_of s)
    → AllByRecursion P (offsets_of s) → low ≤ high → IsModuleOrdered name (Between P low high) inner → IsModuleOrdered name (From P high) others → IsModuleOrdered name P (s ∷ (inner ++ others))
ordered-more name P s low high inner others here rising below each le inner_ordered others_ordered = record {
  ordered = (
    rising,
    all-append (IsBefore s) inner others
        (stands-before name (Between P low high) s low here below (λ n between. between.1.0) inner inner_ordered.inside)
        (stands-before name (From P high) s low here below (λ n from. (let from_high : high ≤ n = from.1 in omega arith)) others others_ordered.inside),
    ordered-append inner others inner_ordered.ordered others_ordered.ordered
        (all-weaker (StandsIn name (Between P low high)) (λ t. AllByRecursion (IsBefore t) others)
        (λ t stands. stands-before name (From P high) t high stands.here (all-weaker (Between P low high) (λ m. m < high) (λ m between. between.1.1) (offsets_of t) stands.each) (λ n from. from.1) others others_ordered.inside)
        inner inner_ordered.inside),
  );
  inside = (
    record { here = here; each = each },
    all-append (StandsIn name P) inner others (stands-weaker name (Between P low high) P (λ n between. between.0) inner inner_ordered.inside) (stands-weaker name (From P high) P (λ n from. from.0) others others_ordered.inside),
  );
}

placed-at : List ℕ → List (List ℕ) → List ℕ → Place → Form → Placed
placed-at name namespace optionals at form = record { module_name = name; at = at; form = form; namespace = namespace; optionals = optionals }

-- the statements of a module, or of one of its blocks and optionals, in the order of the text
module-ordered : (name : List ℕ) (namespace : List (List ℕ)) (optionals : List ℕ) (low : ℕ) (P : ℕ → Type 0) (statements : Statements) → rise_from low (statement_offsets statements) ≡ true
    → AllByRecursion P (statement_offsets statements) → IsModuleOrdered name P (placed name namespace optionals statements)
unfolding placed-at
module-ordered name namespace optionals low P no_more rising each = record { ordered = tt; inside = tt }
module-ordered name namespace optionals low P (statement at form body more) rising each =
    let s = placed-at name namespace optionals at form in
    let around = optionals_inside form at optionals in
    let inner = placed name (namespace_inside form namespace) around body in
    let behind = placed name namespace optionals more in
    let parts = rises-append low (offsets_of s) (statement_offsets body ++ statement_offsets more) rising in
    let others = rises-append parts.high (statement_offsets body) (statement_offsets more) parts.second in
    let each_others = all-second P (offsets_of s) (statement_offsets body ++ statement_offsets more) each in
    let inner_ordered = module-ordered name (namespace_inside form namespace) around parts.high (Between P parts.high others.high) body others.first
    (all-both P (λ n. (parts.high ≤ n) × (n < others.high)) (statement_offsets body) (all-first P (statement_offsets body) (statement_offsets more) each_others)
    (all-both (λ n. parts.high ≤ n) (λ n. n < others.high) (statement_offsets body) (rises-low parts.high (statement_offsets body) others.first) others.below)) in
    let behind_ordered = module-ordered name namespace optionals others.high (From P others.high) more others.second
    (all-both P (λ n. others.high ≤ n) (statement_offsets more) (all-second P (statement_offsets body) (statement_offsets more) each_others) (rises-low others.high (statement_offsets more) others.second)) in
    let own : IsRising s = record { rising = rises-less low 0 (offsets_of s) (omega arith) parts.first } in
    ordered-more name P s parts.high others.high inner behind refl own parts.below
    (all-first P (offsets_of s) (statement_offsets body ++ statement_offsets more) each) others.no_less inner_ordered behind_ordered

-- a name that comes first is less than all others
names_rise-first : (name : List ℕ) (names : List (List ℕ)) → names_rise (name ∷ names) ≡ true → AllByRecursion (λ n. name_cmp name n ≡ Less) names
names_rise-first name [] rise = tt
names_rise-first name (n ∷ names) rise =
    let less : name_cmp name n ≡ Less = is_less (name_cmp name n) (first_true (is_lt (name_cmp name n)) (names_rise (n ∷ names)) rise) in
    let others = names_rise-first n names (second_true (is_lt (name_cmp name n)) (names_rise (n ∷ names)) rise) in
    (less, all-weaker (λ m. name_cmp n m ≡ Less) (λ m. name_cmp name m ≡ Less) (λ m e. nat_list_cmp_total.trans name n m less e) names others)
  where
    is_less : (o : Ordering) → is_lt o ≡ true → o ≡ Less
    is_less Less e = refl
    is_less Equal e = absurd (true≢false (sym e))
    is_less Greater e = absurd (true≢false (sym e))

names_rise-others : (name : List ℕ) (names : List (List ℕ)) → names_rise (name ∷ names) ≡ true → names_rise names ≡ true
names_rise-others name [] rise = refl
names_rise-others name (n ∷ names) rise = second_true (is_lt (name_cmp name n)) (names_rise (n ∷ names)) rise

-- the names of modules are those of what spells them
pub spelt-names : {A : Type 0} (parsed : List (NamedModule A)) (modules : List Module) → AreSpelt parsed modules → map (λ m. m.name.now) parsed ≡ map (λ m. m.name) modules
spelt-names [] [] are = refl
spelt-names [] (m ∷ modules) are = absurd are
spelt-names (n ∷ parsed) [] are = absurd are
spelt-names (n ∷ parsed) (m ∷ modules) are = λ i. are.0 i ∷ spelt-names parsed modules are.2 i

-- the statements and words of the module stand one behind the other
abbrev pub AreRising : List Module → Type 0
AreRising modules = AllByRecursion (λ m. rise_from 0 (statement_offsets m.statements) ≡ true) modules

-- so they do in what a text spells
rising-written : (m : Module) → IsWritten m → rise_from 0 (statement_offsets m.statements) ≡ true
rising-written m w =
    rise_from_is 0 (statement_offsets m.statements) (length w.bytes) (shapes_rise m.statements false w.trees 0 (length w.bytes) w.shapes (reading-in_order w.bytes w.trees (length w.bytes) w.reads (omega arith)))

pub all-rising : (modules : List Module) → AreWritten modules → AreRising modules
all-rising modules written = all-weaker IsWritten (λ m. rise_from 0 (statement_offsets m.statements) ≡ true) rising-written modules written

-- the statements of a module
module_top : Module → List Placed
module_top m = placed m.name [] [] m.statements

module-top : (m : Module) → rise_from 0 (statement_offsets m.statements) ≡ true → AreOrdered (module_top m)
unfolding module_top
module-top m rising = (module-ordered m.name [] [] 0 (λ n. 0 ≤ n) m.statements rising (rises-low 0 (statement_offsets m.statements) rising)).ordered

top-then : (m : Module) (modules : List Module) → joined (m ∷ modules) ≡ module_top m ++ joined modules
unfolding module_top
top-then m modules = refl

top-named : (m : Module) → AllByRecursion (λ s. s.module_name ≡ m.name) (module_top m)
unfolding module_top
top-named m = placed-named m.name [] [] m.statements

-- what holds of each module's name holds of the module name of each statement
joined-names : (P : List ℕ → Type 0) (modules : List Module) → AllByRecursion P (map (λ m. m.name) modules) → AllByRecursion (λ s. P s.module_name) (joined modules)
joined-names P [] all = tt
joined-names P (m ∷ modules) all =
    subst (AllByRecursion (λ s. P s.module_name)) (sym (top-then m modules))
    (all-append (λ s. P s.module_name) (module_top m) (joined modules)
    (all-weaker (λ s. s.module_name ≡ m.name) (λ s. P s.module_name) (λ s here. subst P (sym here) all.0) (module_top m) (top-named m))
    (joined-names P modules all.1))

joined-rising : (modules : List Module) → names_rise (map (λ m. m.name) modules) ≡ true → AreRising modules → AreOrdered (joined modules)
joined-rising [] rise rising = tt
joined-rising (m ∷ modules) rise rising =
    let behind = joined modules in
    let greater = joined-names (λ n. name_cmp m.name n ≡ Less) modules (names_rise-first m.name (map (λ m. m.name) modules) rise) in
    subst AreOrdered (sym (top-then m modules))
    (ordered-append (module_top m) behind (module-top m rising.0)
    (joined-rising modules (names_rise-others m.name (map (λ m. m.name) modules) rise) rising.1)
    (all-weaker (λ s. s.module_name ≡ m.name) (λ s. AllByRecursion (IsBefore s) behind)
    (λ s here. all-weaker (λ t. name_cmp m.name t.module_name ≡ Less) (IsBefore s) (λ t less. inl (ap (λ n. name_cmp n t.module_name) here ∙ less)) behind greater)
    (module_top m) (top-named m)))

pub joined-ordered : (modules : List Module) → names_rise (map (λ m. m.name) modules) ≡ true → AreWritten modules → AreOrdered (joined modules)
joined-ordered modules rise written = joined-rising modules rise (all-rising modules written)

pub all-filtered : {X : Type 0} (P : X → Type 0) (p : X → Bool) (xs : List X) → AllByRecursion P xs → AllByRecursion P (filter p xs)
all-filtered P p [] all = tt
all-filtered {X} P p (x ∷ xs) all = by (all-filtered P p xs all.1) (p x)
  where
    by : AllByRecursion P (filter p xs) → (b : Bool) → AllByRecursion P (cond b (x ∷ filter p xs) (filter p xs))
    by others true = (all.0, others)
    by others false = others

-- some of the statements of a policy in order stand in order
pub ordered-filtered : (p : Placed → Bool) (policy : List Placed) → AreOrdered policy → AreOrdered (filter p policy)
ordered-filtered p [] ordered = tt
ordered-filtered p (s ∷ policy) ordered = by (ordered-filtered p policy ordered.2) (p s)
  where
    by : AreOrdered (filter p policy) → (b : Bool) → AreOrdered (cond b (s ∷ filter p policy) (filter p policy))
    by others true = (ordered.0, all-filtered (IsBefore s) p policy ordered.1, others)
    by others false = others

-- a statement among others
pub record IsAmidst (before : List Placed) (s : Placed) (after : List Placed) : Type 0 where
  pub rising : IsRising s
  pub in_front : AllByRecursion (IsBefore s) after

pub ordered-amidst : (before : List Placed) (s : Placed) (after : List Placed) → AreOrdered (before ++ s ∷ after) → IsAmidst before s after
ordered-amidst [] s after ordered = record { rising = ordered.0; in_front = ordered.1 }
ordered-amidst (t ∷ before) s after ordered =
    let more = ordered-amidst before s after ordered.2 in
    record { rising = more.rising; in_front = more.in_front }

-- of two statements of a policy in order the former stands before the latter
pub before-at : (policy : List Placed) (i k : ℕ) (s t : Placed) → AreOrdered policy → slice_get policy i ≡ Some s → slice_get policy k ≡ Some t → i < k → IsBefore s t
before-at [] i k s t ordered at there less = absurd (none-some s at)
before-at (u ∷ policy) zero zero s t ordered at there less = absurd (omega (arith, less))
before-at (u ∷ policy) zero (suc k) s t ordered at there less = subst (λ v. IsBefore v t) (same_Some u s at) (all-get (IsBefore u) policy k t ordered.1 there)
before-at (u ∷ policy) (suc i) zero s t ordered at there less = absurd (omega (arith, less))
before-at (u ∷ policy) (suc i) (suc k) s t ordered at there less = before-at policy i k s t ordered.2 at there (omega (arith, less))

-- and if they stand in one module its ( has a lesser offset
pub offsets-rise : (policy : List Placed) (i k : ℕ) (s t : Placed) → AreOrdered policy → slice_get policy i ≡ Some s → slice_get policy k ≡ Some t → i < k → s.module_name ≡ t.module_name → s.at.offset < t.at.offset
offsets-rise policy i k s t ordered at there less same = elim (before-at policy i k s t ordered at there less) [
  | inl lesser ↦
      let self : name_cmp t.module_name t.module_name ≡ Less = sym (ap (λ n. name_cmp n t.module_name) same) ∙ lesser in
      absurd (less-greater (sym self ∙ nat_list_cmp_total.antisymm t.module_name t.module_name ∙ ap ordering_reverse self))
  | inr before ↦ before.1 s.at.offset t.at.offset (contains-first s.at.offset (offsets_in s.form)) (contains-first t.at.offset (offsets_in t.form))
]
  where
    less-greater : Less ≡ Greater → ⊥
    less-greater e = cc

-- a statement of a policy in order is known by its module and the offset of its (
pub one-offset : (policy : List Placed) (i k : ℕ) (s t : Placed) → AreOrdered policy → slice_get policy i ≡ Some s → slice_get policy k ≡ Some t → s.module_name ≡ t.module_name → s.at.offset ≡ t.at.offset → i ≡ k
one-offset policy i k s t ordered at there same offset = elim (cases_order i k) [
  | inl one ↦ one
  | inr apart ↦ elim apart [
    | inl less ↦ (let lesser = offsets-rise policy i k s t ordered at there less same in absurd (omega arith))
    | inr more ↦ (let greater = offsets-rise policy k i t s ordered there at more (sym same) in absurd (omega arith))
  ]
]
