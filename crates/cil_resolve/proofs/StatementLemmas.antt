-- Statements of a policy at their places.
use Rattle.cil_resolve.proofs.Common.{◌≡◌, ℕ, ◌+◌, ◌<◌, zero, suc, List, [], ◌∷◌, ◌++◌, length, get_or, take, map, flat_map, Contains, Some, sym, ap, ◌∙◌, subst, arith, append-nil, none-some, same_Some, slice_get-get_or, slice_get_within, get_or_from_slice_get, take_more, map-append, get_or-map, flat_map-append, Placed, contains-first, contains-other, Row, row-at, IsOf, is-long, row-there, modules_of, IsIn, IsLowering}
use Rattle.std.proofs.Common.{slice_get}
use Rattle.cil_bind.specs.Rows.{IsRow}
use Rattle.cil_bind.proofs.PositionLemmas.{take-last}
use Rattle.cil_check.specs.declared.bound.BoundPolicy.{BoundPolicy}
use Rattle.cil_check.specs.Bound.{IsSeen}
use Rattle.cil_check.specs.declared.bound.Seen.{Seen}
use Rattle.cil_parse.specs.Lexicon.{AreNumbersOf}
use Rattle.cil_parse.specs.Parsed.{names_of}
use Rattle.cil_resolve.specs.declared.lowering.Lowering.{Lowering}

-- an element at a place
pub at-place : {X : Type 0} (xs : List X) (i : ℕ) (x : X) → slice_get xs i ≡ Some x → (i < length xs) × Contains xs x
at-place [] i x e = absurd (none-some x e)
at-place (y ∷ ys) zero x e = (omega arith, subst (Contains (y ∷ ys)) (same_Some y x e) (contains-first y ys))
at-place (y ∷ ys) (suc i) x e = let more = at-place ys i x e in (omega (arith, more.0), contains-other y ys x more.1)

-- one more is taken
pub map-one : {X Y : Type 0} (f : X → Y) (xs : List X) (i : ℕ) (x : X) → slice_get xs i ≡ Some x → map f (take (i + 1) xs) ≡ map f (take i xs) ++ f x ∷ []
map-one f xs i x at = ap (map f) (take-last xs i x at) ∙ map-append f (take i xs) (x ∷ [])

pub flat-one : {X Y : Type 0} (f : X → List Y) (xs : List X) (i : ℕ) (x : X) → slice_get xs i ≡ Some x → flat_map f (take (i + 1) xs) ≡ flat_map f (take i xs) ++ f x
flat-one f xs i x at = ap (flat_map f) (take-last xs i x at) ∙ flat_map-append f (take i xs) (x ∷ []) ∙ ap (λ l. flat_map f (take i xs) ++ l) (append-nil (f x))

-- what is made of an element at its place
pub mapped-at : {X Y : Type 0} (f : X → Y) (xs : List X) (i : ℕ) (x : X) (d : Y) → slice_get xs i ≡ Some x → get_or (map f xs) i d ≡ f x
mapped-at f xs i x d at = get_or-map f xs i x d (slice_get_within xs i x at) ∙ ap f (get_or_from_slice_get xs i x x at)

-- the row of a statement
pub row-of : {A : Type 0} (b : BoundPolicy A) (policy : List Placed) (i : ℕ) (row : Row) (s : Placed) → IsOf b policy → slice_get policy i ≡ Some s → row ≡ get_or b.policy.now.rows.items i row
    → IsRow b.policy.now.names b.policy.now.lookup.namespaces row s
row-of b policy i row s is at here =
    let long = is-long b policy is in
    let low = slice_get_within policy i s at in
    row-at b.policy.now.names b.policy.now.lookup.namespaces b.policy.now.rows.items policy i row s is.bound.stands.rows_are
    (slice_get-get_or b.policy.now.rows.items i row (omega (arith, long, low)) ∙ ap Some (sym here)) at

-- the name of the module that the row of a statement tells
pub module-named : {A : Type 0} (b : BoundPolicy A) (policy : List Placed) (i : ℕ) (row : Row) (s : Placed) → IsOf b policy → slice_get policy i ≡ Some s → row ≡ get_or b.policy.now.rows.items i row
    → get_or (modules_of b.joined.now) row.«module» [] ≡ s.module_name
module-named b policy i row s is at here =
    let from = row-there b policy i row is (slice_get_within policy i s at) here in
    let one : from.0 ≡ s = same_Some from.0 s (sym from.1 ∙ at) in
    mapped-at (λ m. m.name.now) b.joined.now.modules.items row.«module» from.2.m [] from.2.at ∙ from.2.named ∙ ap (λ u. u.module_name) one

-- an element that stands at a place
pub contained : {X : Type 0} (xs : List X) (i : ℕ) (x : X) → slice_get xs i ≡ Some x → Contains xs x
contained xs i x at = (at-place xs i x at).1

-- what is seen of the statement of a place
pub seen-in : {A : Type 0} (l : Lowering A) (seen : Seen A) (policy : List Placed) (s : Placed) (i : ℕ) → IsLowering l policy → slice_get policy i ≡ Some s → IsSeen seen policy s
    → AreNumbersOf l.checker.now.bound.policy.now.names seen.words.now (names_of seen.«module».now) → IsIn l seen policy s
seen-in l seen policy s i is at shown worded = record { lowering = is; there = contained policy i s at; seen_is = shown; worded = worded }
