-- Statements of a module that come to those of a joined policy.
use Rattle.cil_bind.proofs.Common.{◌≡◌, inl, ℕ, zero, suc, ◌+◌, ◌<◌, ◌≤◌, List, [], ◌∷◌, ◌++◌, map, length, get_or, take, Some, bytes_eq, refl, sym, ap, ◌∙◌, subst, append_assoc, append-nil, add-one, Contains, arith, IsDistinct, length-map, take_all, none-some, same_Some, Form, is_optional, Statements, Placed, Module, placed, joined, FlatStatement, flat, kind_of, row_of, row_for, Spells, statement_count, texts_of, IsShown, IsBlockOf, IsPlacedAs, ArePlacedAs, ParsedModule, StatementView, placed-flat, named, namespace_at, Opens, IsDeclared, IsRow, AreRows, Stands, AreSpelt, block_word, is_optional_kind, NamedModule, Row}
use Rattle.std.proofs.Common.{slice_get}
use Rattle.cil_bind.specs.Scope.{SaysAt}
use Rattle.cil_bind.proofs.PositionLemmas.{take-next}
use Rattle.cil_bind.proofs.ScopeLemmas.{stands-next, kind-optional}

same-long : {X Y Z : Type 0} (f : X → Z) (g : Y → Z) (xs : List X) (ys : List Y) → map f xs ≡ map g ys → length xs ≡ length ys
same-long f g xs ys e = sym (length-map xs f) ∙ ap length e ∙ length-map ys g

pub get-there : {X : Type 0} (xs : List X) (i : ℕ) → i < length xs → (x : X) × (slice_get xs i ≡ Some x)
get-there [] i low = absurd (omega arith)
get-there (x ∷ xs) zero low = (x, refl)
get-there (x ∷ xs) (suc i) low = get-there xs i (omega arith)

-- the statement of an index
pub flat-there : {A : Type 0} (p : ParsedModule A) (statements : Statements) (i : ℕ) → Spells p statements → i < statement_count p → (f : FlatStatement) × (slice_get (flat 0 0 0 statements) i ≡ Some f)
flat-there p statements i spells low =
    let long : length p.rows.items ≡ length (flat 0 0 0 statements) = same-long row_of row_for p.rows.items (flat 0 0 0 statements) spells.rows in
    get-there (flat 0 0 0 statements) i (omega arith)

-- and as it stands in the policy
pub placed-there : (all : List Placed) (index : ℕ) (list : List FlatStatement) (statements : List Placed) (i : ℕ) (f : FlatStatement) → ArePlacedAs all index list statements → slice_get list i ≡ Some f
    → (s : Placed) × (slice_get statements i ≡ Some s) × IsPlacedAs all (index + i) f s
placed-there all index [] statements i f are at = absurd (none-some f at)
placed-there all index (g ∷ list) [] i f are at = absurd are
placed-there all index (g ∷ list) (s ∷ statements) zero f are at = (s, refl, subst (λ n. IsPlacedAs all n f s) (omega arith) (subst (λ h. IsPlacedAs all index h s) (same_Some g f at) are.0))
placed-there all index (g ∷ list) (s ∷ statements) (suc i) f are at =
    let rest = placed-there all (index + 1) list statements i f are.1 at in
    (rest.0, rest.1, subst (λ n. IsPlacedAs all n f rest.0) (omega arith) rest.2)

pub row-there : (names spaces : List (List ℕ)) (rows : List Row) (policy : List Placed) (i : ℕ) (s : Placed) → AreRows names spaces rows policy → slice_get policy i ≡ Some s → (row : Row) × (slice_get rows i ≡ Some row) × IsRow names spaces row s
row-there names spaces [] [] i s are at = absurd (none-some s at)
row-there names spaces [] (p ∷ policy) i s are at = absurd are
row-there names spaces (r ∷ rows) [] i s are at = absurd are
row-there names spaces (r ∷ rows) (p ∷ policy) zero s are at = (r, refl, subst (IsRow names spaces r) (same_Some p s at) are.0)
row-there names spaces (r ∷ rows) (p ∷ policy) (suc i) s are at = row-there names spaces rows policy i s are.1 at

pub get-behind : {X : Type 0} (xs ys : List X) (k : ℕ) → slice_get (xs ++ ys) (length xs + k) ≡ slice_get ys k
get-behind [] ys k = ap (slice_get ys) (omega arith)
get-behind (x ∷ xs) ys k = let e : suc (length xs) + k ≡ suc (length xs + k) = omega arith in ap (slice_get (x ∷ (xs ++ ys))) e ∙ get-behind xs ys k

pub get-taken : {X : Type 0} (xs : List X) (i k : ℕ) (x : X) → k < i → slice_get xs k ≡ Some x → slice_get (take i xs) k ≡ Some x
get-taken [] i k x low at = absurd (none-some x at)
get-taken (y ∷ xs) zero k x low at = absurd (omega arith)
get-taken (y ∷ xs) (suc i) zero x low at = at
get-taken (y ∷ xs) (suc i) (suc k) x low at = get-taken xs i k x (omega arith) at

-- the namespace around a statement
around-is : (names spaces : List (List ℕ)) (rows : List Row) (before all : List Placed) (start i number : ℕ) (namespace : List (List ℕ)) (found : ℕ) → Stands names spaces rows (before ++ take i all) → length before ≡ start
    → IsBlockOf all i number namespace → (number ≡ 0 → found ≡ 0) → ((k : ℕ) (row : Row) → number ≡ suc k → slice_get rows (start + k) ≡ Some row → row.inside < length spaces → found ≡ row.inside)
    → namespace_at names spaces found ≡ namespace
around-is names spaces rows before all start i zero namespace found stands long is global inside =
    ap (namespace_at names spaces) (global refl) ∙ ap (named names) stands.global ∙ sym is
around-is names spaces rows before all start i (suc k) namespace found stands long (outer, id, low, at, form, is) global inside =
    let there : slice_get (before ++ take i all) (start + k) ≡ Some outer =
    ap (λ n. slice_get (before ++ take i all) (n + k)) (sym long) ∙ get-behind before (take i all) k ∙ get-taken all i k outer low at in
    let row = row-there names spaces rows (before ++ take i all) (start + k) outer stands.rows_are there in
    let opened = row.2.inside id form in
    ap (namespace_at names spaces) (inside k row.0 refl row.1 opened.0) ∙ opened.1 ∙ sym is

-- the next statement of a module comes
pub placed-next : {A : Type 0} (p : ParsedModule A) (statements : Statements) (v : StatementView) (i : ℕ) (names spaces more spaces' : List (List ℕ)) (rows : List Row) (before : List Placed) (name : List ℕ) (start : ℕ) (row : Row)
    → Spells p statements → i < statement_count p → length before ≡ start → Stands names spaces rows (before ++ take i (placed name [] [] statements))
    → ((f : FlatStatement) → slice_get (flat 0 0 0 statements) i ≡ Some f → IsShown (texts_of p) v f)
    → (IsDistinct bytes_eq names → IsDistinct bytes_eq (names ++ more)) → row.namespace < length spaces
    → (v.block ≡ 0 → row.namespace ≡ 0) → ((k : ℕ) (r : Row) → v.block ≡ suc k → slice_get rows (start + k) ≡ Some r → r.inside < length spaces → row.namespace ≡ r.inside)
    → ((form : Form) → SaysAt p i form → IsDeclared (names ++ more) row.declares form)
    → row.kind ≡ v.kind → row.is_optional ≡ is_optional_kind v.kind → Opens spaces spaces' row.namespace (block_word v.kind row.declares) row.inside
    → Stands (names ++ more) spaces' (rows ++ row ∷ []) (before ++ take (i + 1) (placed name [] [] statements))
placed-next p statements v i names spaces more spaces' rows before name start row spells low long stands shows distinct within global inside declares kind optional opens =
    subst (Stands (names ++ more) spaces' (rows ++ row ∷ [])) whole
    (stands-next names spaces more spaces' rows (before ++ take i all) row it.0 stands distinct within
    (around-is names spaces rows before all start i v.block it.0.namespace row.namespace stands long (subst (λ n. IsBlockOf all i n it.0.namespace) (sym shown.block) here.is_block) global inside)
    (subst (IsDeclared (names ++ more) row.declares) (sym here.form) (declares f.0.form (statements, f.0, spells, f.1, refl)))
    (kind ∙ shown.kind ∙ ap kind_of (sym here.form))
    (optional ∙ ap is_optional_kind shown.kind ∙ kind-optional f.0.form ∙ ap is_optional (sym here.form))
    (subst (λ k. Opens spaces spaces' row.namespace (block_word k row.declares) row.inside) (shown.kind ∙ ap kind_of (sym here.form)) opens))
  where
    all : List Placed
    all = placed name [] [] statements

    f : (f : FlatStatement) × (slice_get (flat 0 0 0 statements) i ≡ Some f)
    f = flat-there p statements i spells low

    shown : IsShown (texts_of p) v f.0
    shown = shows f.0 f.1

    it : (s : Placed) × (slice_get all i ≡ Some s) × IsPlacedAs all (0 + i) f.0 s
    it = placed-there all 0 (flat 0 0 0 statements) all i f.0 (placed-flat name statements) f.1

    here : IsPlacedAs all i f.0 it.0
    here = let e : 0 + i ≡ i = omega arith in subst (λ n. IsPlacedAs all n f.0 it.0) e it.2

    whole : (before ++ take i all) ++ it.0 ∷ [] ≡ before ++ take (i + 1) all
    whole = append_assoc before (take i all) (it.0 ∷ []) ∙ ap (λ l. before ++ l) (sym (rw add-one (take-next all i it.0 it.1)))

-- a module has as many statements as its policy
pub placed-long : {A : Type 0} (p : ParsedModule A) (statements : Statements) (name : List ℕ) → Spells p statements → length (placed name [] [] statements) ≡ statement_count p
placed-long p statements name spells =
    sym (same-long row_of row_for p.rows.items (flat 0 0 0 statements) spells.rows ∙ long (placed name [] [] statements) 0 (flat 0 0 0 statements) (placed name [] [] statements) (placed-flat name statements))
  where
    long : (all : List Placed) (index : ℕ) (list : List FlatStatement) (statements : List Placed) → ArePlacedAs all index list statements → length list ≡ length statements
    long all index [] [] are = refl
    long all index [] (s ∷ statements) are = absurd are
    long all index (f ∷ list) [] are = absurd are
    long all index (f ∷ list) (s ∷ statements) are = ap suc (long all (index + 1) list statements are.1)

pub stands-start : (names spaces : List (List ℕ)) (rows : List Row) (before some : List Placed) → some ≡ [] → Stands names spaces rows before → Stands names spaces rows (before ++ some)
stands-start names spaces rows before some e stands = subst (Stands names spaces rows) (sym (ap (λ l. before ++ l) e ∙ append-nil before)) stands

pub stands-all : {A : Type 0} (p : ParsedModule A) (statements : Statements) (name : List ℕ) (names spaces : List (List ℕ)) (rows : List Row) (before : List Placed) (i : ℕ) → Spells p statements → statement_count p ≤ i
    → Stands names spaces rows (before ++ take i (placed name [] [] statements)) → Stands names spaces rows (before ++ placed name [] [] statements)
stands-all p statements name names spaces rows before i spells past stands =
    let long = placed-long p statements name spells in
    subst (λ l. Stands names spaces rows (before ++ l)) (take_all i (placed name [] [] statements) (omega arith)) stands

pub kept-next : (a b c : List (List ℕ)) → (more : List (List ℕ)) × (b ≡ a ++ more) → (more : List (List ℕ)) × (c ≡ b ++ more) → (more : List (List ℕ)) × (c ≡ a ++ more)
kept-next a b c first next = (first.0 ++ next.0, next.1 ∙ ap (λ l. l ++ next.0) first.1 ∙ append_assoc a first.0 next.0)

-- nothing stands for no policy
pub stands-none : (names : List (List ℕ)) → IsDistinct bytes_eq names → Stands names ([] ∷ []) [] []
unfolding IsDistinct
stands-none names distinct = record {
  numbered = record { names_distinct = distinct; spaces_distinct = (tt, tt); within = (tt, tt) };
  global = refl;
  rows_are = tt;
  opened_by = λ space there. inl (only space there);
}
  where
    only : (space : List ℕ) → Contains ([] ∷ []) space → space ≡ []
    only space (zero, low, is) = sym is
    only space (suc i, low, is) = absurd (omega arith)

pub stands-first : (names spaces : List (List ℕ)) (rows : List Row) (policy : List Placed) → spaces ≡ [] ∷ [] → rows ≡ [] → policy ≡ [] → IsDistinct bytes_eq names → Stands names spaces rows policy
stands-first names spaces rows policy s r p distinct =
    subst (λ l. Stands names l rows policy) (sym s) (subst (λ l. Stands names ([] ∷ []) l policy) (sym r) (subst (Stands names ([] ∷ []) []) (sym p) (stands-none names distinct)))

-- the modules up to the next
pub joined-next : (modules : List Module) (i : ℕ) (m : Module) → slice_get modules i ≡ Some m → joined (take (i + 1) modules) ≡ joined (take i modules) ++ placed m.name [] [] m.statements
joined-next modules i m at =
    let next : take (i + 1) modules ≡ take i modules ++ m ∷ [] = rw add-one (take-next modules i m at) in
    ap joined next ∙ several (take i modules)
  where
    several : (ms : List Module) → joined (ms ++ m ∷ []) ≡ joined ms ++ placed m.name [] [] m.statements
    several [] = append-nil (placed m.name [] [] m.statements)
    several (x ∷ ms) = ap (λ l. placed x.name [] [] x.statements ++ l) (several ms) ∙ sym (append_assoc (placed x.name [] [] x.statements) (joined ms) (placed m.name [] [] m.statements))

-- the module of an index
pub spelt-at : {A : Type 0} (parsed : List (NamedModule A)) (modules : List Module) (i : ℕ) (d : NamedModule A) → AreSpelt parsed modules → i < length parsed
    → (m : Module) × (slice_get modules i ≡ Some m) × Spells (get_or parsed i d).module.now m.statements × ((get_or parsed i d).name.now ≡ m.name)
spelt-at [] modules i d are low = absurd (omega arith)
spelt-at (n ∷ parsed) [] i d are low = absurd are
spelt-at (n ∷ parsed) (m ∷ modules) zero d are low = (m, refl, are.1, are.0)
spelt-at (n ∷ parsed) (m ∷ modules) (suc i) d are low = spelt-at parsed modules i d are.2 (omega arith)

-- the next module comes
pub module-next : {A : Type 0} (parsed : List (NamedModule A)) (modules : List Module) (i : ℕ) (d : NamedModule A) (names spaces : List (List ℕ)) (rows : List Row) → AreSpelt parsed modules → i < length parsed
    → ((m : Module) → Spells (get_or parsed i d).module.now m.statements → Stands names spaces rows (joined (take i modules) ++ placed m.name [] [] m.statements)) → Stands names spaces rows (joined (take (i + 1) modules))
module-next parsed modules i d names spaces rows are low stands =
    let m = spelt-at parsed modules i d are low in
    subst (Stands names spaces rows) (sym (joined-next modules i m.0 m.1)) (stands m.0 m.2)

pub spelt-long : {A : Type 0} (parsed : List (NamedModule A)) (modules : List Module) → AreSpelt parsed modules → length parsed ≡ length modules
spelt-long [] [] are = refl
spelt-long [] (m ∷ modules) are = absurd are
spelt-long (n ∷ parsed) [] are = absurd are
spelt-long (n ∷ parsed) (m ∷ modules) are = ap suc (spelt-long parsed modules are.2)

pub joined-all : {A : Type 0} (parsed : List (NamedModule A)) (modules : List Module) (names spaces : List (List ℕ)) (rows : List Row) (i : ℕ) → AreSpelt parsed modules → length parsed ≤ i
    → Stands names spaces rows (joined (take i modules)) → Stands names spaces rows (joined modules)
joined-all parsed modules names spaces rows i are past stands =
    let long = spelt-long parsed modules are in
    subst (λ l. Stands names spaces rows (joined l)) (take_all i modules (omega arith)) stands
