-- What holds along the statements about names.
use Rattle.cil_bind.proofs.Common.{◌≡◌, ℕ, zero, suc, ◌+◌, ◌<◌, Bool, true, false, if◌then◌else◌, List, [], ◌∷◌, ◌++◌, length, take, get_or, Some, refl, sym, ap, ◌∙◌, subst, arith, true≢false, length-map, slice_get_within, get_or_from_slice_get, AreRows, HaveDeclared, IsOnce, Key, Placed, Row, StatementKind, declares_name, kinds_told}
use Rattle.std.proofs.Common.{slice_get}
use Rattle.cil_parse.specs.declared.row.StatementKind.TheVariants as kinds
use Rattle.cil_bind.specs.AboutNames.{is_about_names, name_places}
use Rattle.cil_bind.proofs.PositionLemmas.{take-last, take-length}
use Rattle.cil_bind.proofs.DeclareLemmas.{kind-told, taken-next, taken-nothing}
use Rattle.cil_bind.proofs.ScopeLemmas.{kind-nothing}

pub places-push : (n : ℕ) (kinds : List StatementKind) (kind : StatementKind) → name_places n (kinds ++ kind ∷ []) ≡ name_places n kinds ++ (if is_about_names kind then (n + length kinds) ∷ [] else [])
places-push n [] kind = by (is_about_names kind)
  where
    by : (b : Bool) → (if b then n ∷ [] else []) ≡ (if b then (n + 0) ∷ [] else [])
    by true = let same : n ≡ n + 0 = omega arith in ap (λ m. m ∷ []) same
    by false = refl
places-push n (k ∷ kinds) kind = by (is_about_names k) (places-push (n + 1) kinds kind)
  where
    last : ℕ → List ℕ
    last m = if is_about_names kind then m ∷ [] else []

    e : n + 1 + length kinds ≡ n + suc (length kinds)
    e = omega arith

    by : (b : Bool) → name_places (n + 1) (kinds ++ kind ∷ []) ≡ name_places (n + 1) kinds ++ last (n + 1 + length kinds)
        → (if b then n ∷ name_places (n + 1) (kinds ++ kind ∷ []) else name_places (n + 1) (kinds ++ kind ∷ []))
        ≡ (if b then n ∷ name_places (n + 1) kinds else name_places (n + 1) kinds) ++ last (n + suc (length kinds))
    by true same = ap (λ l. n ∷ l) (same ∙ ap (λ m. name_places (n + 1) kinds ++ last m) e)
    by false same = same ∙ ap (λ m. name_places (n + 1) kinds ++ last m) e

-- the places with that of the next statement, if that is about names
pub places-next : (kinds : List StatementKind) (i : ℕ) (kind : StatementKind) → slice_get kinds i ≡ Some kind → name_places 0 (take (i + 1) kinds) ≡ name_places 0 (take i kinds) ++ (if is_about_names kind then i ∷ [] else [])
places-next kinds i kind at =
    let long = take-length kinds i kind at in
    let here : 0 + length (take i kinds) ≡ i = omega (arith, long) in
    ap (name_places 0) (take-last kinds i kind at) ∙ places-push 0 (take i kinds) kind
    ∙ ap (λ n. name_places 0 (take i kinds) ++ (if is_about_names kind then n ∷ [] else [])) here

-- the places are those of kinds that are there
pub place-within : (n : ℕ) (kinds : List StatementKind) (k : ℕ) → k < length (name_places n kinds) → get_or (name_places n kinds) k 0 < n + length kinds
place-within n [] k low = absurd (omega (arith, low))
place-within n (kind ∷ kinds) k low = by (place-within (n + 1) kinds) (is_about_names kind) k low
  where
    by : ((k : ℕ) → k < length (name_places (n + 1) kinds) → get_or (name_places (n + 1) kinds) k 0 < n + 1 + length kinds) → (b : Bool) (k : ℕ) → k < length (if b then n ∷ name_places (n + 1) kinds else name_places (n + 1) kinds)
        → get_or (if b then n ∷ name_places (n + 1) kinds else name_places (n + 1) kinds) k 0 < n + suc (length kinds)
    by behind true zero low = omega arith
    by behind true (suc k) low = let less = behind k (omega (arith, low)) in omega (arith, less)
    by behind false k low = let less = behind k low in omega (arith, less)

-- the place after so many of the places; after none the first place of all
abbrev pub after_places : ℕ → List ℕ → ℕ → ℕ
after_places n places zero = n
after_places n places (suc k) = get_or places k 0 + 1

-- a property of places that stays behind each statement that isn't about names
abbrev pub StaysOver : (ℕ → Type 0) → ℕ → List StatementKind → Type 0
StaysOver P n kinds = (i : ℕ) (kind : StatementKind) → slice_get kinds i ≡ Some kind → is_about_names kind ≡ false → P (n + i) → P (n + i + 1)

module _ (P : ℕ → Type 0) where
  at-first : (n : ℕ) (kind : StatementKind) (kinds : List StatementKind) → StaysOver P n (kind ∷ kinds) → is_about_names kind ≡ false → P n → P (n + 1)
  at-first n kind kinds stays other has =
      let here : n ≡ n + 0 = omega arith in
      subst (λ m. P (m + 1)) (omega arith) (stays 0 kind refl other (subst P here has))

  stays-behind : (n : ℕ) (kind : StatementKind) (kinds : List StatementKind) → StaysOver P n (kind ∷ kinds) → StaysOver P (n + 1) kinds
  stays-behind n kind kinds stays i other at is has =
      let e : n + 1 + i ≡ n + suc i = omega arith in
      subst (λ m. P (m + 1)) (omega arith) (stays (suc i) other at is (subst P e has))

  -- what holds behind so many statements about names holds in front of the next one
  pub next-place : (n : ℕ) (kinds : List StatementKind) → StaysOver P n kinds → (k : ℕ) → k < length (name_places n kinds) → P (after_places n (name_places n kinds) k) → P (get_or (name_places n kinds) k 0)
  next-place n [] stays k low has = absurd (omega (arith, low))
  next-place n (kind ∷ kinds) stays k low has = by (next-place (n + 1) kinds (stays-behind n kind kinds stays)) (is_about_names kind) refl k low has
    where
      rest : List ℕ
      rest = name_places (n + 1) kinds

      Behind : Type 0
      Behind = (k : ℕ) → k < length rest → P (after_places (n + 1) rest k) → P (get_or rest k 0)

      by : Behind → (b : Bool) → is_about_names kind ≡ b → (k : ℕ) → k < length (if b then n ∷ rest else rest) → P (after_places n (if b then n ∷ rest else rest) k) → P (get_or (if b then n ∷ rest else rest) k 0)
      by behind true is zero low has = has
      by behind true is (suc zero) low has = behind zero (omega (arith, low)) has
      by behind true is (suc (suc k)) low has = behind (suc k) (omega (arith, low)) has
      by behind false is zero low has = behind zero low (at-first n kind kinds stays is has)
      by behind false is (suc k) low has = behind (suc k) low has

  -- what holds behind the last of them holds behind all statements
  pub last-place : (n : ℕ) (kinds : List StatementKind) → StaysOver P n kinds → (k : ℕ) → k ≡ length (name_places n kinds) → P (after_places n (name_places n kinds) k) → P (n + length kinds)
  last-place n [] stays zero end has = let here : n ≡ n + 0 = omega arith in subst P here has
  last-place n [] stays (suc k) end has = absurd (omega (arith, end))
  last-place n (kind ∷ kinds) stays k end has =
      let e : n + 1 + length kinds ≡ n + suc (length kinds) = omega arith in
      subst P e (by (last-place (n + 1) kinds (stays-behind n kind kinds stays)) (is_about_names kind) refl k end has)
    where
      rest : List ℕ
      rest = name_places (n + 1) kinds

      Behind : Type 0
      Behind = (k : ℕ) → k ≡ length rest → P (after_places (n + 1) rest k) → P (n + 1 + length kinds)

      by : Behind → (b : Bool) → is_about_names kind ≡ b → (k : ℕ) → k ≡ length (if b then n ∷ rest else rest) → P (after_places n (if b then n ∷ rest else rest) k) → P (n + 1 + length kinds)
      by behind true is zero end has = absurd (omega (arith, end))
      by behind true is (suc zero) end has = behind zero (omega (arith, end)) has
      by behind true is (suc (suc k)) end has = behind (suc k) (omega (arith, end)) has
      by behind false is zero end has = behind zero end (at-first n kind kinds stays is has)
      by behind false is (suc k) end has = behind (suc k) end has

-- a property of places that stays behind each statement that isn't about names, by the kinds of all
abbrev pub StaysAt : (ℕ → Type 0) → List StatementKind → Type 0
StaysAt P kinds = (i : ℕ) (kind : StatementKind) → slice_get kinds i ≡ Some kind → is_about_names kind ≡ false → P i → P (i + 1)

module _ (P : ℕ → Type 0) (kinds : List StatementKind) (places : List ℕ) (are : places ≡ name_places 0 kinds) (stays : StaysAt P kinds) where
  over : StaysOver P 0 kinds
  over i kind at is has =
      let here : i ≡ 0 + i = omega arith in
      subst (λ m. P (m + 1)) here (stays i kind at is (subst P (sym here) has))

  -- from behind so many statements about names to the next one
  pub to-place : (k : ℕ) → k < length places → P (after_places 0 places k) → P (get_or places k 0)
  to-place = subst (λ l. (k : ℕ) → k < length l → P (after_places 0 l k) → P (get_or l k 0)) (sym are) (next-place P 0 kinds over)

  -- from behind the last one to behind all statements
  pub to-end : (k : ℕ) → k ≡ length places → P (after_places 0 places k) → P (length kinds)
  to-end k end has =
      let here : 0 + length kinds ≡ length kinds = omega arith in
      subst P here (last-place P 0 kinds over k (end ∙ ap length are) (subst (λ l. P (after_places 0 l k)) are has))

-- the places are those of statements that are there
pub place-there : (kinds : List StatementKind) (places : List ℕ) (k : ℕ) → places ≡ name_places 0 kinds → k < length places → get_or places k 0 < length kinds
place-there kinds places k are low =
    let less = place-within 0 kinds k (subst (λ l. k < length l) are low) in
    let same = ap (λ l. get_or l k 0) are in
    omega (arith, less, same)

-- statements of a kind that isn't about names declare none
pub other-declares-none : (kind : StatementKind) → is_about_names kind ≡ false → declares_name kind ≡ false
other-declares-none kinds.Block e = absurd (true≢false e)
other-declares-none kinds.Optional e = absurd (true≢false e)
other-declares-none kinds.TypeName e = absurd (true≢false e)
other-declares-none kinds.TypeAlias e = absurd (true≢false e)
other-declares-none kinds.TypeAttribute e = absurd (true≢false e)
other-declares-none kinds.Common e = absurd (true≢false e)
other-declares-none kinds.Class e = absurd (true≢false e)
other-declares-none kinds.ClassPermission e = absurd (true≢false e)
other-declares-none _ e = refl

-- what is declared in front of a place, none of it twice
abbrev pub IsDeclaredTo : List (List ℕ) → List (List ℕ) → List (Key × ℕ) → List Placed → ℕ → Type 0
IsDeclaredTo names spaces entries policy i = HaveDeclared names spaces entries (take i policy) × IsOnce (take i policy)

-- the entries have what is declared behind a statement that isn't about names, too
pub declared-over : (names spaces : List (List ℕ)) (rows : List Row) (policy : List Placed) (entries : List (Key × ℕ)) → AreRows names spaces rows policy
    → StaysAt (IsDeclaredTo names spaces entries policy) (kinds_told rows)
declared-over names spaces rows policy entries are i kind at other has =
    let low : i < length rows = subst (λ n. i < n) (length-map rows (λ row. row.kind)) (slice_get_within (kinds_told rows) i kind at) in
    taken-next names spaces rows policy i entries false are low has.1
    (λ s at_s.
    let told = sym (get_or_from_slice_get (kinds_told rows) i kind kind at) ∙ kind-told names spaces rows policy i s kind are at_s in
    taken-nothing names spaces (take i policy) s entries (λ table. kind-nothing table s.form (ap declares_name (sym told) ∙ other-declares-none kind other)) has.0)
    refl
