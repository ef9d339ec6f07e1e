-- A walk that has come down in rank never comes back up.
use Rattle.std.proofs.Common.{◌≡◌, ℕ, ◌<◌, ◌≤◌, List, [], ◌∷◌, Vec, All, Some, slice_get, get_or, arith}
use Rattle.cil_dependence.specs.Graph.{IsEdge, LeadsThrough, Leads}
use Rattle.cil_dependence.specs.Ranks.{NeverRises}
use Rattle.cil_dependence.proofs.LeadsLemmas.{node-edges}

through-falls : {A : Type 0} (graph : List (Vec ℕ A)) (ranks between : List ℕ) (a b : ℕ) → NeverRises graph ranks → LeadsThrough graph a between b → get_or ranks b 0 ≤ get_or ranks a 0
through-falls graph ranks [] a b never edge = never a b edge
through-falls graph ranks (x ∷ between) a b never (edge, rest) =
    let first = never a x edge in let more = through-falls graph ranks between x b never rest in omega (arith, first, more)

pub falls-straight : {A : Type 0} (graph : List (Vec ℕ A)) (ranks : List ℕ) (node : ℕ) (to : Vec ℕ A) → NeverRises graph ranks → slice_get graph node ≡ Some to
    → All (λ next. get_or ranks next 0 < get_or ranks node 0) to.items → Leads graph node node → ⊥
falls-straight {A} graph ranks node to never at falls (between, there) = by between there
  where
    down : (b : ℕ) → IsEdge graph node b → get_or ranks b 0 < get_or ranks node 0
    down b edge = node-edges graph (λ next. get_or ranks next 0 < get_or ranks node 0) node to at falls b edge

    by : (between : List ℕ) → LeadsThrough graph node between node → ⊥
    by [] edge = let less = down node edge in absurd (omega (arith, less))
    by (x ∷ between) (edge, rest) = let less = down x edge in let more = through-falls graph ranks between x node never rest in absurd (omega (arith, less, more))
