-- The optionals around statements, by the numbers of rows.
use Rattle.cil_bind.proofs.Common.{◌≡◌, ℕ, zero, suc, ◌+◌, ◌<◌, ◌≤◌, ◌==◌, Bool, true, false, List, [], ◌∷◌, ◌++◌, length, get_or, take, drop, Some, refl, sym, ap, ◌∙◌, subst, append_assoc, append-nil, add-one, length-append, arith, if◌then◌else◌, take_all, none-some, eqb-true, Statements, Placed, Module, placed, joined, FlatStatement, flat, IsOptionalOf, IsPlacedAs, Spells, statement_count, texts_of, IsShown, ParsedModule, StatementView, placed-flat, AreSpelt, IsAround, AreAround, optional_number, NamedModule, Row}
use Rattle.std.proofs.Common.{slice_get}
use Rattle.cil_bind.proofs.PositionLemmas.{take-next, take-length, around-at}
use Rattle.cil_bind.proofs.PlaceLemmas.{flat-there, placed-there, placed-long, get-behind, joined-next, spelt-at, spelt-long}
use Rattle.cil_bind.proofs.FromLemmas.{all-get, placed-named}

pub get-front : {X : Type 0} (xs ys : List X) (i : ℕ) (x : X) → slice_get xs i ≡ Some x → slice_get (xs ++ ys) i ≡ Some x
get-front [] ys i x e = absurd (none-some x e)
get-front (z ∷ xs) ys zero x e = e
get-front (z ∷ xs) ys (suc i) x e = get-front xs ys i x e

around-push : (policy : List Placed) (place : ℕ) (rows : List Row) (statements : List Placed) (row : Row) (s : Placed) → AreAround policy place rows statements → IsAround policy (place + length statements) row.optional s
    → AreAround policy place (rows ++ row ∷ []) (statements ++ s ∷ [])
around-push policy place [] [] row s are is = (subst (λ n. IsAround policy n row.optional s) (omega arith) is, tt)
around-push policy place [] (t ∷ statements) row s are is = absurd are
around-push policy place (r ∷ rows) [] row s are is = absurd are
around-push policy place (r ∷ rows) (t ∷ statements) row s are is =
    let e : place + suc (length statements) ≡ place + 1 + length statements = omega arith in
    (are.0, around-push policy (place + 1) rows statements row s are.1 (subst (λ n. IsAround policy n row.optional s) e is))

-- the innermost optional of a module's statement, in the policy
around-number : (before all behind : List Placed) (start i number : ℕ) (name : List ℕ) (s : Placed) → length before ≡ start → IsOptionalOf all i number s.optionals → s.module_name ≡ name
    → ((k : ℕ) (o : Placed) → slice_get all k ≡ Some o → o.module_name ≡ name) → IsAround (before ++ (all ++ behind)) (start + i) (optional_number start number) s
around-number before all behind start zero zero name s long is same names = is
around-number before all behind start (suc i) zero name s long is same names = is
around-number before all behind start i (suc k) name s long (o, id, low, at, form, is) same names =
    subst (λ n. IsAround (before ++ (all ++ behind)) (start + i) n s) number
    (o, id, (omega (arith, low)), ap (λ n. slice_get (before ++ (all ++ behind)) (n + k)) (sym long) ∙ get-behind before (all ++ behind) k ∙ get-front all behind k o at, form, names k o at ∙ sym same, is)
  where
    number : suc (start + k) ≡ optional_number start (suc k)
    number = by (suc k == 0) refl
      where
        by : (b : Bool) → (suc k == 0) ≡ b → suc (start + k) ≡ (if b then 0 else start + suc k)
        by true e = absurd (let z : suc k ≡ 0 = eqb-true (suc k) 0 e in omega arith)
        by false e = omega arith

-- one statement more
pub around-next : {A : Type 0} (p : ParsedModule A) (statements : Statements) (v : StatementView) (i : ℕ) (name : List ℕ) (rows new : List Row) (before behind : List Placed) (start : ℕ) (row : Row) → Spells p statements → i < statement_count p → length before ≡ start
    → ((f : FlatStatement) → slice_get (flat 0 0 0 statements) i ≡ Some f → IsShown (texts_of p) v f) → row.optional ≡ optional_number start v.optional
    → AreAround (before ++ (placed name [] [] statements ++ behind)) 0 rows (before ++ take i (placed name [] [] statements)) → new ≡ rows ++ row ∷ []
    → AreAround (before ++ (placed name [] [] statements ++ behind)) 0 new (before ++ take (i + 1) (placed name [] [] statements))
around-next p statements v i name rows new before behind start row spells low long shows number so_far pushed =
    subst (λ r. AreAround whole 0 r (before ++ take (i + 1) all)) (sym pushed)
    (subst (AreAround whole 0 (rows ++ row ∷ [])) ends (around-push whole 0 rows (before ++ take i all) row it.0 so_far
    (subst (λ n. IsAround whole n row.optional it.0) place (subst (λ n. IsAround whole (start + i) n it.0) (sym (number ∙ ap (optional_number start) (shows f.0 f.1).optional))
    (around-number before all behind start i f.0.optional name it.0 long here.is_optional (names i it.0 it.1) names)))))
  where
    all : List Placed
    all = placed name [] [] statements

    whole : List Placed
    whole = before ++ (all ++ behind)

    names : (k : ℕ) (o : Placed) → slice_get all k ≡ Some o → o.module_name ≡ name
    names k o at = all-get (λ s. s.module_name ≡ name) all k o (placed-named name [] [] statements) at

    f : (f : FlatStatement) × (slice_get (flat 0 0 0 statements) i ≡ Some f)
    f = flat-there p statements i spells low

    it : (s : Placed) × (slice_get all i ≡ Some s) × IsPlacedAs all (0 + i) f.0 s
    it = placed-there all 0 (flat 0 0 0 statements) all i f.0 (placed-flat name statements) f.1

    here : IsPlacedAs all i f.0 it.0
    here = let e : 0 + i ≡ i = omega arith in subst (λ n. IsPlacedAs all n f.0 it.0) e it.2

    place : start + i ≡ 0 + length (before ++ take i all)
    place = omega (arith, length-append before (take i all), take-length all i it.0 it.1, long)

    next : take (i + 1) all ≡ take i all ++ it.0 ∷ []
    next = rw add-one (take-next all i it.0 it.1)

    ends : (before ++ take i all) ++ it.0 ∷ [] ≡ before ++ take (i + 1) all
    ends = append_assoc before (take i all) (it.0 ∷ []) ∙ ap (λ l. before ++ l) (sym next)

pub around-start : (policy : List Placed) (rows : List Row) (before some : List Placed) → some ≡ [] → AreAround policy 0 rows before → AreAround policy 0 rows (before ++ some)
around-start policy rows before some e are = subst (AreAround policy 0 rows) (sym (ap (λ l. before ++ l) e ∙ append-nil before)) are

pub around-all : {A : Type 0} (p : ParsedModule A) (statements : Statements) (name : List ℕ) (policy : List Placed) (rows : List Row) (before : List Placed) (i : ℕ) → Spells p statements → statement_count p ≤ i
    → AreAround policy 0 rows (before ++ take i (placed name [] [] statements)) → AreAround policy 0 rows (before ++ placed name [] [] statements)
around-all p statements name policy rows before i spells past are =
    let long = placed-long p statements name spells in
    subst (λ l. AreAround policy 0 rows (before ++ l)) (take_all i (placed name [] [] statements) (omega arith)) are

around-long : (policy : List Placed) (place : ℕ) (rows : List Row) (statements : List Placed) → AreAround policy place rows statements → length rows ≡ length statements
around-long policy place [] [] are = refl
around-long policy place [] (t ∷ statements) are = absurd are
around-long policy place (r ∷ rows) [] are = absurd are
around-long policy place (r ∷ rows) (t ∷ statements) are = ap suc (around-long policy (place + 1) rows statements are.1)

pub joined-around : (modules : List Module) (i : ℕ) (m : Module) → slice_get modules i ≡ Some m → joined modules ≡ joined (take i modules) ++ (placed m.name [] [] m.statements ++ joined (drop (i + 1) modules))
joined-around modules i m at = ap joined (around-at modules i m at) ∙ several (take i modules)
  where
    several : (ms : List Module) → joined (ms ++ m ∷ drop (i + 1) modules) ≡ joined ms ++ (placed m.name [] [] m.statements ++ joined (drop (i + 1) modules))
    several [] = refl
    several (x ∷ ms) = ap (λ l. placed x.name [] [] x.statements ++ l) (several ms) ∙ sym (append_assoc (placed x.name [] [] x.statements) (joined ms) _)

-- one module more
pub around-module : {A : Type 0} (parsed : List (NamedModule A)) (modules : List Module) (i : ℕ) (d : NamedModule A) (rows new : List Row) → AreSpelt parsed modules → i < length parsed → d ≡ get_or parsed i d
    → AreAround (joined modules) 0 rows (joined (take i modules))
    → ((before behind : List Placed) (name : List ℕ) (statements : Statements) → Spells d.«module».now statements → length before ≡ length rows
    → AreAround (before ++ (placed name [] [] statements ++ behind)) 0 rows before → AreAround (before ++ (placed name [] [] statements ++ behind)) 0 new (before ++ placed name [] [] statements))
    → AreAround (joined modules) 0 new (joined (take (i + 1) modules))
around-module parsed modules i d rows new are low here so_far next =
    let m = spelt-at parsed modules i d are low in
    let whole = joined-around modules i m.0 m.1 in
    subst (λ l. AreAround (joined modules) 0 new l) (sym (joined-next modules i m.0 m.1))
    (subst (λ l. AreAround l 0 new (joined (take i modules) ++ placed m.0.name [] [] m.0.statements)) (sym whole)
    (next (joined (take i modules)) (joined (drop (i + 1) modules)) m.0.name m.0.statements (subst (λ n. Spells n.«module».now m.0.statements) (sym here) m.2)
    (sym (around-long (joined modules) 0 rows (joined (take i modules)) so_far)) (subst (λ l. AreAround l 0 rows (joined (take i modules))) whole so_far)))

pub around-joined : {A : Type 0} (parsed : List (NamedModule A)) (modules : List Module) (rows : List Row) (i : ℕ) → AreSpelt parsed modules → length parsed ≤ i → AreAround (joined modules) 0 rows (joined (take i modules)) → AreAround (joined modules) 0 rows (joined modules)
around-joined parsed modules rows i are past so_far =
    let long = spelt-long parsed modules are in
    subst (λ l. AreAround (joined modules) 0 rows (joined l)) (take_all i modules (omega arith)) so_far
