-- The modules and the indices that rows tell.
use Rattle.cil_bind.proofs.Common.{◌≡◌, ℕ, zero, suc, ◌+◌, ◌<◌, ◌≤◌, List, [], ◌∷◌, ◌++◌, length, get_or, take, Some, refl, sym, ap, ◌∙◌, subst, append_assoc, append-nil, add-one, arith, AllByRecursion, take_all, none-some, same_Some, slice_get-get_or, slice_get_within, get_or_from_slice_get, Statements, no_more, statement, Placed, Module, placed, joined, namespace_inside, optionals_inside, FlatStatement, flat, IsOptionalOf, IsPlacedAs, Spells, statement_count, ParsedModule, placed-flat, AreSpelt, IsFrom, AreFrom, HaveModule, NamedModule, Row}
use Rattle.std.proofs.Common.{slice_get}
use Rattle.cil_bind.proofs.PositionLemmas.{take-next}
use Rattle.cil_bind.proofs.PlaceLemmas.{flat-there, placed-there, placed-long, joined-next, spelt-at, spelt-long}

all-append : {X : Type 0} (P : X → Type 0) (xs ys : List X) → AllByRecursion P xs → AllByRecursion P ys → AllByRecursion P (xs ++ ys)
all-append P [] ys a b = b
all-append P (x ∷ xs) ys a b = (a.0, all-append P xs ys a.1 b)

pub all-get : {X : Type 0} (P : X → Type 0) (xs : List X) (i : ℕ) (x : X) → AllByRecursion P xs → slice_get xs i ≡ Some x → P x
all-get P [] i x all at = absurd (none-some x at)
all-get P (y ∷ xs) zero x all at = subst P (same_Some y x at) all.0
all-get P (y ∷ xs) (suc i) x all at = all-get P xs i x all.1 at

-- the statements of a module have its name
pub placed-named : (name : List ℕ) (namespace : List (List ℕ)) (optionals : List ℕ) (statements : Statements) → AllByRecursion (λ s. s.module_name ≡ name) (placed name namespace optionals statements)
placed-named name namespace optionals no_more = tt
placed-named name namespace optionals (statement at form body more) = (
  refl,
  all-append (λ s. s.module_name ≡ name) (placed name (namespace_inside form namespace) (optionals_inside form at optionals) body) (placed name namespace optionals more)
      (placed-named name (namespace_inside form namespace) (optionals_inside form at optionals) body) (placed-named name namespace optionals more),
)

from-push : {A : Type 0} (parsed : List (NamedModule A)) (rows : List Row) (policy : List Placed) (row : Row) (s : Placed) → AreFrom parsed rows policy → IsFrom parsed row s → AreFrom parsed (rows ++ row ∷ []) (policy ++ s ∷ [])
from-push parsed [] [] row s are is = (is, tt)
from-push parsed [] (t ∷ policy) row s are is = absurd are
from-push parsed (r ∷ rows) [] row s are is = absurd are
from-push parsed (r ∷ rows) (t ∷ policy) row s are is = (are.0, from-push parsed rows policy row s are.1 is)

-- around a statement in no optional there is none
none-around : (all : List Placed) (index number : ℕ) (optionals : List ℕ) → IsOptionalOf all index number optionals → optionals ≡ [] → number ≡ 0
none-around all index zero optionals is none = refl
none-around all index (suc k) optionals (o, id, low, at, form, is) none = absurd (none-some o.at.offset (ap (λ l. slice_get l 0) (sym none ∙ is)))

-- one statement more
pub from-next : {A : Type 0} (parsed : List (NamedModule A)) (p : ParsedModule A) (statements : Statements) (name : List ℕ) (rows new : List Row) (before : List Placed) (i : ℕ) (row : Row) → Spells p statements → HaveModule parsed row.«module» p name
    → row.index ≡ i → i < statement_count p → ((f : FlatStatement) → slice_get (flat 0 0 0 statements) i ≡ Some f → f.optional ≡ 0 → row.optional ≡ 0)
    → AreFrom parsed rows (before ++ take i (placed name [] [] statements)) → new ≡ rows ++ row ∷ [] → AreFrom parsed new (before ++ take (i + 1) (placed name [] [] statements))
from-next {A} parsed p statements name rows new before i row spells have index low outside so_far pushed =
    subst (λ r. AreFrom parsed r (before ++ take (i + 1) all)) (sym pushed) (subst (AreFrom parsed (rows ++ row ∷ [])) whole (from-push parsed rows (before ++ take i all) row it.0 so_far is))
  where
    all : List Placed
    all = placed name [] [] statements

    f : (f : FlatStatement) × (slice_get (flat 0 0 0 statements) i ≡ Some f)
    f = flat-there p statements i spells low

    it : (s : Placed) × (slice_get all i ≡ Some s) × IsPlacedAs all (0 + i) f.0 s
    it = placed-there all 0 (flat 0 0 0 statements) all i f.0 (placed-flat name statements) f.1

    next : take (i + 1) all ≡ take i all ++ it.0 ∷ []
    next = rw add-one (take-next all i it.0 it.1)

    whole : (before ++ take i all) ++ it.0 ∷ [] ≡ before ++ take (i + 1) all
    whole = append_assoc before (take i all) (it.0 ∷ []) ∙ ap (λ l. before ++ l) (sym next)

    is : IsFrom parsed row it.0
    is = record {
      m = have.m;
      at = have.at;
      named = have.named ∙ sym (all-get (λ s. s.module_name ≡ name) all i it.0 (placed-named name [] [] statements) it.1);
      within = subst (λ n. n < statement_count have.m.«module».now) (sym index) (subst (λ q. i < statement_count q) (sym have.is) low);
      statements = statements;
      spells = subst (λ q. Spells q statements) (sym have.is) spells;
      f = f.0;
      is = ap (slice_get (flat 0 0 0 statements)) index ∙ f.1;
      form = sym it.2.form;
      place = sym it.2.at;
      around = (name, 0 + i, it.2.is_block);
      inside = λ none. outside f.0 f.1 (none-around all (0 + i) f.0.optional it.0.optionals it.2.is_optional none);
    }

pub from-all : {A : Type 0} (parsed : List (NamedModule A)) (p : ParsedModule A) (statements : Statements) (name : List ℕ) (rows : List Row) (before : List Placed) (i : ℕ) → Spells p statements → statement_count p ≤ i
    → AreFrom parsed rows (before ++ take i (placed name [] [] statements)) → AreFrom parsed rows (before ++ placed name [] [] statements)
from-all parsed p statements name rows before i spells past are =
    let long = placed-long p statements name spells in
    subst (λ l. AreFrom parsed rows (before ++ l)) (take_all i (placed name [] [] statements) (omega arith)) are

pub from-start : {A : Type 0} (parsed : List (NamedModule A)) (rows : List Row) (before some : List Placed) → some ≡ [] → AreFrom parsed rows before → AreFrom parsed rows (before ++ some)
from-start parsed rows before some e are = subst (AreFrom parsed rows) (sym (ap (λ l. before ++ l) e ∙ append-nil before)) are

-- one module more
pub from-module : {A : Type 0} (parsed : List (NamedModule A)) (modules : List Module) (i : ℕ) (d : NamedModule A) (rows new : List Row) → AreSpelt parsed modules → i < length parsed → d ≡ get_or parsed i d → AreFrom parsed rows (joined (take i modules))
    → ((name : List ℕ) (statements : Statements) → Spells d.«module».now statements → HaveModule parsed i d.«module».now name → AreFrom parsed new (joined (take i modules) ++ placed name [] [] statements)) → AreFrom parsed new (joined (take (i + 1) modules))
from-module parsed modules i d rows new are low here so_far next =
    let m = spelt-at parsed modules i d are low in
    subst (AreFrom parsed new) (sym (joined-next modules i m.0 m.1))
    (next m.0.name m.0.statements (subst (λ n. Spells n.«module».now m.0.statements) (sym here) m.2)
    (record { m = d; at = slice_get-get_or parsed i d low ∙ ap Some (sym here); is = refl; named = ap (λ n. n.name.now) here ∙ m.3 }))

pub from-joined : {A : Type 0} (parsed : List (NamedModule A)) (modules : List Module) (rows : List Row) (i : ℕ) → AreSpelt parsed modules → length parsed ≤ i → AreFrom parsed rows (joined (take i modules)) → AreFrom parsed rows (joined modules)
from-joined parsed modules rows i are past so_far =
    let long = spelt-long parsed modules are in
    subst (λ l. AreFrom parsed rows (joined l)) (take_all i modules (omega arith)) so_far

-- the statement of a row
pub from-at : {A : Type 0} (parsed : List (NamedModule A)) (rows : List Row) (policy : List Placed) (i : ℕ) (row : Row) → AreFrom parsed rows policy → slice_get rows i ≡ Some row → (s : Placed) × (slice_get policy i ≡ Some s) × IsFrom parsed row s
from-at parsed [] [] i row are at = absurd (none-some row at)
from-at parsed [] (t ∷ policy) i row are at = absurd are
from-at parsed (r ∷ rows) [] i row are at = absurd are
from-at parsed (r ∷ rows) (t ∷ policy) zero row are at = (t, refl, subst (λ q. IsFrom parsed q t) (same_Some r row at) are.0)
from-at parsed (r ∷ rows) (t ∷ policy) (suc i) row are at = from-at parsed rows policy i row are.1 at

-- the module that a row tells, as it is read
pub record IsThere {A : Type 0} (parsed : List (NamedModule A)) (row : Row) (d : NamedModule A) (s : Placed) : Type 0 where
  pub within : row.«module» < length parsed
  pub at : slice_get parsed row.«module» ≡ Some d
  pub named : d.name.now ≡ s.module_name
  pub index : row.index < statement_count d.«module».now
  pub statements : Statements
  pub spells : Spells d.«module».now statements
  pub f : FlatStatement
  pub is : slice_get (flat 0 0 0 statements) row.index ≡ Some f
  pub form : f.form ≡ s.form
  pub place : f.at ≡ s.at

pub is-there : {A : Type 0} (parsed : List (NamedModule A)) (row : Row) (d : NamedModule A) (s : Placed) → IsFrom parsed row s → d ≡ get_or parsed row.«module» d → IsThere parsed row d s
is-there parsed row d s from here =
    let same : from.m ≡ d = sym (here ∙ get_or_from_slice_get parsed row.«module» from.m d from.at) in
    record {
      within = slice_get_within parsed row.«module» from.m from.at;
      at = from.at ∙ ap Some same;
      named = ap (λ n. n.name.now) (sym same) ∙ from.named;
      index = subst (λ n. row.index < statement_count n.«module».now) same from.within;
      statements = from.statements;
      spells = subst (λ n. Spells n.«module».now from.statements) same from.spells;
      f = from.f;
      is = from.is;
      form = from.form;
      place = from.place;
    }

pub from-within : {A : Type 0} (parsed : List (NamedModule A)) (row : Row) (s : Placed) → IsFrom parsed row s → row.«module» < length parsed
from-within parsed row s from = slice_get_within parsed row.«module» from.m from.at
