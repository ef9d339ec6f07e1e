-- Numbers of names that stay, and those that come.
use Rattle.cil_parse.proofs.Common.{◌≡◌, ℕ, zero, suc, Bool, true, false, not, true≢false, List, [], ◌∷◌, ◌++◌, map, Bor, Option, Some, slice_get, bytes_eq, refl, sym, ap, subst, ◌∙◌, if◌then◌else◌, map-append, has_name, with_name, seen, Keeps, AreNumbersOf}
use Rattle.indexmap.specs.IndexSet.{insert_key}
use Rattle.std.specs.Prelude.{◌||◌}
use Rattle.std.proofs.lemmas.Slice.Eq.{bytes_eq-Decides}
use Rattle.cil_names.proofs.TextLemmas.{stored-text, with_name-texts}

abbrev pub Name : Type 0
Name = Bor (List ℕ)

abbrev pub same : Name → Name → Bool
same a b = bytes_eq a.now b.now

pub get-append : {X : Type 0} (xs ys : List X) (n : ℕ) (x : X) → slice_get xs n ≡ Some x → slice_get (xs ++ ys) n ≡ Some x
get-append [] ys n x is = cc
get-append (y ∷ xs) ys zero x is = is
get-append (y ∷ xs) ys (suc n) x is = get-append xs ys n x is

-- what is read of each stays where each reading stays
pub each-keeps : {X Y : Type 0} (f g : X → Option Y) (keeps : (x : X) (y : Y) → f x ≡ Some y → g x ≡ Some y) (xs : List X) (ys : List Y) → map f xs ≡ map Some ys → map g xs ≡ map Some ys
each-keeps f g keeps [] [] is = refl
each-keeps f g keeps [] (y ∷ ys) is = cc
each-keeps f g keeps (x ∷ xs) [] is = cc
each-keeps {X} {Y} f g keeps (x ∷ xs) (y ∷ ys) is =
    let head : f x ≡ Some y = cc in
    let rest : map f xs ≡ map {A = Y} Some ys = cc in
    let first = keeps x y head in
    let more = each-keeps f g keeps xs ys rest in
    cc

pub lists-keep : {X Y T : Type 0} (f g : X → Option Y) (keeps : (x : X) (y : Y) → f x ≡ Some y → g x ≡ Some y) (h : T → List Y) (lists : List (List X)) (ts : List T)
    → map (map f) lists ≡ map (λ t. map Some (h t)) ts → map (map g) lists ≡ map (λ t. map Some (h t)) ts
lists-keep f g keeps h [] [] is = refl
lists-keep f g keeps h [] (t ∷ ts) is = cc
lists-keep f g keeps h (l ∷ lists) [] is = cc
lists-keep {X} {Y} f g keeps h (l ∷ lists) (t ∷ ts) is =
    let head : map f l ≡ map Some (h t) = cc in
    let rest : map (map f) lists ≡ map (λ t. map Some (h t)) ts = cc in
    let first = each-keeps f g keeps l (h t) head in
    let more = lists-keep f g keeps h lists ts rest in
    cc

-- one more, last
pub each-append : {X Y : Type 0} (f : X → Option Y) (xs more : List X) (ys others : List Y) → map f xs ≡ map Some ys → map f more ≡ map Some others → map f (xs ++ more) ≡ map Some (ys ++ others)
each-append f xs more ys others is new = map-append f xs more ∙ ap (λ l. l ++ map f more) is ∙ ap (λ l. map Some ys ++ l) new ∙ sym (map-append Some ys others)

pub lists-append : {X Y T : Type 0} (f : X → Y) (h : T → Y) (xs : List X) (x : X) (ts : List T) (t : T) → map f xs ≡ map h ts → f x ≡ h t → map f (xs ++ x ∷ []) ≡ map h (ts ++ t ∷ [])
lists-append f h xs x ts t is new = map-append f xs (x ∷ []) ∙ ap (λ l. l ++ f x ∷ []) is ∙ ap (λ y. map h ts ++ y ∷ []) new ∙ sym (map-append h ts (t ∷ []))

pub with_name-keeps : (names : List (List ℕ)) (name : List ℕ) → Keeps names (with_name names name)
with_name-keeps names name n x is = by (has_name names name)
  where
    by : (b : Bool) → slice_get (if b then names else names ++ name ∷ []) n ≡ Some x
    by true = is
    by false = get-append names (name ∷ []) n x is

-- the names with one that is new, and with one that is known
pub name-added : (names : List (List ℕ)) (name : List ℕ) (all : List (List ℕ)) → all ≡ with_name names name → true ≡ not (has_name names name) → all ≡ names ++ name ∷ []
name-added names name all is new = by (has_name names name) refl
  where
    by : (b : Bool) → b ≡ has_name names name → all ≡ names ++ name ∷ []
    by true e = absurd (true≢false (new ∙ ap not (sym e)))
    by false e = is ∙ ap (λ b. if b then names else names ++ name ∷ []) (sym e)

pub name-known : (names : List (List ℕ)) (name : List ℕ) (all : List (List ℕ)) → all ≡ with_name names name → false ≡ not (has_name names name) → all ≡ names
name-known names name all is new = by (has_name names name) refl
  where
    by : (b : Bool) → b ≡ has_name names name → all ≡ names
    by true e = is ∙ ap (λ b. if b then names else names ++ name ∷ []) (sym e)
    by false e = absurd (true≢false (sym (new ∙ ap not (sym e))))

-- what has a number is known
pub number-known : (names : List (List ℕ)) (name : List ℕ) (n : ℕ) → slice_get names n ≡ Some name → has_name names name ≡ true
number-known [] name n is = cc
number-known (y ∷ names) name zero is =
    let same : name ≡ y = cc in
    ap (λ b. b || has_name names name) ((bytes_eq-Decides name y).1 same)
number-known (y ∷ names) name (suc n) is = by (bytes_eq name y) (number-known names name n is)
  where
    by : (b : Bool) → has_name names name ≡ true → (b || has_name names name) ≡ true
    by true others = refl
    by false others = others

pub with_name-kept : (names : List (List ℕ)) (name : List ℕ) (all : List (List ℕ)) → all ≡ with_name names name → Keeps names all
with_name-kept names name all is = subst (Keeps names) (sym is) (with_name-keeps names name)

-- a name's number behind others
pub name-numbered : (names : List (List ℕ)) (name : List ℕ) (all : List (List ℕ)) (numbers more : List ℕ) (n k : ℕ) → all ≡ with_name names name → slice_get all n ≡ Some name → k ≡ n → more ≡ numbers ++ k ∷ []
    → (before : List (List ℕ)) → AreNumbersOf names numbers before → AreNumbersOf all more (before ++ name ∷ [])
name-numbered names name all numbers more n k is at same_number pushed before known =
    let here : slice_get all k ≡ Some name = ap (slice_get all) same_number ∙ at in
    let kept = each-keeps (slice_get names) (slice_get all) (with_name-kept names name all is) numbers before known in
    ap (map (slice_get all)) pushed ∙ each-append (slice_get all) numbers (k ∷ []) before (name ∷ []) kept (ap (λ o. o ∷ []) here)

-- the same of keys that are borrowed
pub number-pushed : (names : List Name) (name : Name) (all : List Name) (numbers more : List ℕ) (n k : ℕ) → all ≡ insert_key same names name → ((key : Name) × (slice_get all n ≡ Some key) × (same name key ≡ true)) → k ≡ n → more ≡ numbers ++ k ∷ []
    → (before : List (List ℕ)) → AreNumbersOf (seen names) numbers before → AreNumbersOf (seen all) more (before ++ name.now ∷ [])
number-pushed names name all numbers more n k is stored same_number pushed before known =
    name-numbered (seen names) name.now (seen all) numbers more n k (ap seen is ∙ with_name-texts (λ key. key.now) names name) (stored-text (λ key. key.now) all name n stored) same_number pushed before known
