-- The optionals around the statements of a policy in order.
use Rattle.cil_bind.proofs.Common.{◌≡◌, ℕ, zero, suc, ◌+◌, List, [], ◌∷◌, Some, ap, subst, arith, none-some, same_Some, is_optional, Placed, AreOrdered, IsAround, AreAround, Row}
use Rattle.std.proofs.Common.{slice_get}
use Rattle.cil_bind.specs.Nested.{IsInnermost, AreNested}
use Rattle.cil_bind.proofs.OrderedLemmas.{one-offset}

innermost : (policy : List Placed) (place number : ℕ) (s : Placed) → IsAround policy place number s → IsInnermost policy place number s
innermost policy place zero s none = none
innermost policy place (suc k) s (o, id, less, at, form, named, optionals) = (o, less, at, ap is_optional form, named, optionals)

around-get : (policy : List Placed) (place : ℕ) (rows : List Row) (statements : List Placed) (i : ℕ) (row : Row) (s : Placed) → AreAround policy place rows statements → slice_get rows i ≡ Some row → slice_get statements i ≡ Some s
    → IsAround policy (place + i) row.optional s
around-get policy place [] [] i row s are at there = absurd (none-some row at)
around-get policy place [] (t ∷ statements) i row s are at there = absurd are
around-get policy place (r ∷ rows) [] i row s are at there = absurd are
around-get policy place (r ∷ rows) (t ∷ statements) zero row s are at there =
    let here : place ≡ place + 0 = omega arith in
    subst (λ n. IsAround policy n row.optional s) here (subst (λ q. IsAround policy place q.optional s) (same_Some r row at) (subst (λ u. IsAround policy place r.optional u) (same_Some t s there) are.0))
around-get policy place (r ∷ rows) (t ∷ statements) (suc i) row s are at there =
    let next : place + 1 + i ≡ place + suc i = omega arith in
    subst (λ n. IsAround policy n row.optional s) next (around-get policy (place + 1) rows statements i row s are.1 at there)

pub nested-rows : (rows : List Row) (policy : List Placed) → AreOrdered policy → AreAround policy 0 rows policy → AreNested rows policy
nested-rows rows policy ordered are = record {
  around = λ i row s at there.
      let here : 0 + i ≡ i = omega arith in
      innermost policy i row.optional s (subst (λ n. IsAround policy n row.optional s) here (around-get policy 0 rows policy i row s are at there));
  told = λ i j s t at there is_s is_t same offset. one-offset policy i j s t ordered at there same offset;
}
