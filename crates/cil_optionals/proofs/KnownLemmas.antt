-- Permissions of lists that classes are known to have.
use Rattle.cil_optionals.proofs.Common.{◌≡◌, ℕ, ◌&&◌, Bool, List, [], ◌∷◌, map, get_or, slice_get, Option, Some, refl, sym, ap, ◌∙◌, subst, list_all, same_Some, slice_get_read, slice_get_within, rows-length, length, arith, Word, Placed, texts, read, NumberedWord, NamedModule, Policy, Row, IsReady}
use Rattle.cil_bind.specs.Scope.{IsFrom}
use Rattle.cil_bind.proofs.FromLemmas.{from-at}

some-words : (a b : List Word) → map {B = Option Word} Some a ≡ map Some b → a ≡ b
some-words [] [] same = refl
some-words [] (w ∷ b) same = cc
some-words (v ∷ a) [] same = cc
some-words (v ∷ a) (w ∷ b) same =
    let head : Some v ≡ Some w = cc in
    let rest : map {A = Word} Some a ≡ map Some b = cc in
    ap (λ u. u ∷ a) (same_Some v w head) ∙ ap (λ l. w ∷ l) (some-words a b rest)

-- a test of the texts of words
pub list-texts : (has : List ℕ → Bool) (words : List Word) → list_all has (texts words) ≡ list_all (λ w. has w.text) words
list-texts has [] = refl
list-texts has (w ∷ words) = ap (λ b. has w.text && b) (list-texts has words)

-- the words that are shown are those of a list
module _ (numbers : List (List ℕ)) (shown : List NumberedWord) (has : List ℕ → Bool) (listed : List (List ℕ)) (l words : List Word) (is : map (read numbers) shown ≡ map Some l)
    (same : listed ≡ texts l) (other : map (read numbers) shown ≡ map Some words) where
  pub listed-words : list_all has listed ≡ list_all (λ w. has w.text) words
  listed-words = ap (list_all has) same ∙ list-texts has l ∙ ap (list_all (λ w. has w.text)) (some-words l words (sym is ∙ other))

-- the row of a statement tells its module and its index
pub row-from : {A : Type 0} (p : Policy A) (parsed : List (NamedModule A)) (all : List Placed) (i : ℕ) (s : Placed) (row : Row) → IsReady p parsed all → slice_get all i ≡ Some s → row ≡ get_or p.rows.items i row
    → IsFrom parsed row s
row-from p parsed all i s row ready at is =
    let long = rows-length p.names p.lookup.namespaces p.rows.items all ready.bound.stands.rows_are in
    let less = slice_get_within all i s at in
    let there : slice_get p.rows.items i ≡ Some row = slice_get_read p.rows.items (length p.rows.items) i row refl (omega (arith, long, less)) is in
    let from = from-at parsed p.rows.items all i row ready.bound.from there in
    subst (IsFrom parsed row) (same_Some from.0 s (sym from.1 ∙ at)) from.2
