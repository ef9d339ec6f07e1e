-- Places among the accesses of chunks.
use Rattle.cil_accesses.proofs.Common.{◌≡◌, ℕ, suc, zero, ◌<◌, ◌≤◌, ◌+◌, ◌-◌, ◌^◌, List, [], ◌∷◌, ◌++◌, length, get_or, filter, map, slice_get, option_map, Some, None, refl, sym, ap, ◌∙◌, subst, arith, Contains, All, AllByRecursion, HoldsAt, get_or_default, length-map, All-contains, All-from_recursion, recursion_from_All, all-first, all-second, contains-first, contains-other, contains-filtered, Chunk, IsFirstGroup, in_run, has_bit, access_at, at_bit, at_bits, from_bit, run_accesses, accesses_of}
use Rattle.cil_accesses.proofs.RunLemmas.{accesses-parts}

-- a fact of an element as it is read
pub holds_at : (P : Chunk → Type 0) (xs : List Chunk) (i : ℕ) (d : Chunk) → i < length xs → P (get_or xs i d) → HoldsAt P xs i
holds_at P xs i d within holds = λ e. subst P (get_or_default xs i d e within) holds

-- a place within a list, or behind it
pub get-left : {X : Type 0} (xs ys : List X) (i : ℕ) → i < length xs → slice_get (xs ++ ys) i ≡ slice_get xs i
get-left [] ys i within = absurd (omega arith)
get-left (x ∷ xs) ys zero within = refl
get-left (x ∷ xs) ys (suc i) within = get-left xs ys i (omega arith)

pub get-right : {X : Type 0} (xs ys : List X) (i rest : ℕ) → i ≡ length xs + rest → slice_get (xs ++ ys) i ≡ slice_get ys rest
get-right [] ys i rest is = let same : i ≡ rest = omega (arith, is) in ap (slice_get ys) same
get-right (x ∷ xs) ys zero rest is = absurd (omega (arith, is))
get-right (x ∷ xs) ys (suc i) rest is = get-right xs ys i rest (omega (arith, is))

pub get-map : {X Y : Type 0} (f : X → Y) (xs : List X) (i : ℕ) (x : X) → slice_get xs i ≡ Some x → slice_get (map f xs) i ≡ Some (f x)
get-map f [] i x is = absurd (let none : None ≡ Some x = is in cc)
get-map f (y ∷ xs) zero x is = ap (option_map f) is
get-map f (y ∷ xs) (suc i) x is = get-map f xs i x is

pub get-within : {X : Type 0} (xs : List X) (i : ℕ) (x : X) → slice_get xs i ≡ Some x → i < length xs
get-within [] i x is = absurd (let none : None ≡ Some x = is in cc)
get-within (y ∷ xs) zero x is = omega arith
get-within (y ∷ xs) (suc i) x is = let rest = get-within xs i x is in omega (arith, rest)

pub from_bit-first : (run : List Chunk) → run_accesses run ≡ from_bit 0 run
unfolding run_accesses from_bit
from_bit-first run = refl

pub from_bit-more : (b : ℕ) (run : List Chunk) → b < 64 → from_bit b run ≡ at_bit b run ++ from_bit (b + 1) run
unfolding from_bit
from_bit-more b run within = let more : 64 - b ≡ suc (64 - (b + 1)) = omega arith in ap (λ n. at_bits n b run) more

pub from_bit-none : (b : ℕ) (run : List Chunk) → 64 ≤ b → from_bit b run ≡ []
unfolding from_bit
from_bit-none b run past = let none : 64 - b ≡ 0 = omega arith in ap (λ n. at_bits n b run) none

length-at_bit : (b : ℕ) (run : List Chunk) → length (at_bit b run) ≡ length (filter (has_bit b) run)
length-at_bit b run = length-map (filter (has_bit b) run) (access_at b)

-- the place is among the accesses at a bit, or behind them
pub at-bit-here : (b : ℕ) (run : List Chunk) (place : ℕ) (c : Chunk) → b < 64 → slice_get (filter (has_bit b) run) place ≡ Some c → slice_get (from_bit b run) place ≡ Some (access_at b c)
at-bit-here b run place c within is =
    let found = get-map (access_at b) (filter (has_bit b) run) place c is in
    ap (λ l. slice_get l place) (from_bit-more b run within) ∙ get-left (at_bit b run) (from_bit (b + 1) run) place (get-within (at_bit b run) place (access_at b c) found) ∙ found

pub at-bit-behind : (b : ℕ) (run : List Chunk) (place rest : ℕ) → b < 64 → place ≡ length (filter (has_bit b) run) + rest → slice_get (from_bit b run) place ≡ slice_get (from_bit (b + 1) run) rest
at-bit-behind b run place rest within is =
    ap (λ l. slice_get l place) (from_bit-more b run within) ∙ get-right (at_bit b run) (from_bit (b + 1) run) place rest (is ∙ ap (λ n. n + rest) (sym (length-at_bit b run)))

-- an element that is found is among the list
pub get-contains : {X : Type 0} (xs : List X) (i : ℕ) (x : X) → slice_get xs i ≡ Some x → Contains xs x
get-contains [] i x is = absurd (let none : None ≡ Some x = is in cc)
get-contains (y ∷ xs) zero x is = let same : y ≡ x = cc in subst (Contains (y ∷ xs)) same (contains-first y xs)
get-contains (y ∷ xs) (suc i) x is = contains-other y xs x (get-contains xs i x is)

pub word-of-found : (run : List Chunk) (b place : ℕ) (c : Chunk) → All (λ d. d.word < 2 ^ 26) run → slice_get (filter (has_bit b) run) place ≡ Some c → c.word < 2 ^ 26
word-of-found run b place c words is = All-contains (λ d. d.word < 2 ^ 26) run c words (contains-filtered (has_bit b) run c (get-contains (filter (has_bit b) run) place c is))

-- how a first run parts places and words
module _ (chunks : List Chunk) (first : Chunk) (run later : List Chunk) (parts : IsFirstGroup in_run chunks first run later) where
  pub place-in-run : (place : ℕ) → place < length (run_accesses run) → slice_get (accesses_of chunks) place ≡ slice_get (run_accesses run) place
  place-in-run place within = ap (λ l. slice_get l place) (accesses-parts chunks first run later parts) ∙ get-left (run_accesses run) (accesses_of later) place within

  pub place-behind : (place rest : ℕ) → place ≡ length (run_accesses run) + rest → slice_get (accesses_of chunks) place ≡ slice_get (accesses_of later) rest
  place-behind place rest is = ap (λ l. slice_get l place) (accesses-parts chunks first run later parts) ∙ get-right (run_accesses run) (accesses_of later) place rest is

  words-parts : (P : Chunk → Type 0) → All P chunks → AllByRecursion P (run ++ later)
  words-parts P all = recursion_from_All P (run ++ later) (subst (All P) parts.whole all)

  pub run-all : (P : Chunk → Type 0) → All P chunks → All P run
  run-all P all = All-from_recursion P run (all-first P run later (words-parts P all))

  pub later-all : (P : Chunk → Type 0) → All P chunks → All P later
  later-all P all = All-from_recursion P later (all-second P run later (words-parts P all))
