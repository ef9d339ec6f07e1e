-- The search of all that a node leads to.
use Rattle.cil_dependence.proofs.Common.{◌≡◌, ◌⊎◌, ◌↔◌, inl, inr, ℕ, zero, suc, ◌+◌, ◌*◌, ◌<◌, ◌≤◌, Bool, true, false, not, cond, List, [], ◌∷◌, ◌++◌, length, get_or, set, replicate, sum_by, count_by, Some, slice_get, Vec, Contains, refl, sym, ap, ◌∙◌, subst, arith, true≢false, cases_eq, get_or-set_other, get_or-set_same, length-replicate, length-set, Contains-push, Contains-push_cases, Contains-append_left, Contains-append_right, Contains-append_cases, slice_get_within, slice_get_read, get_or_from_slice_get, IsEdge, AreNodes, LeadsThrough, Leads}
use Rattle.std.proofs.Common.{length-append}
use Rattle.std.proofs.lemmas.List.Sums.{sum_by-set, get_or-le-sum_by}
use Rattle.cil_dependence.proofs.LeadsLemmas.{edge-listed, listed-edge, leads-edge, leads-join, leads-within, leads-keeps}

abbrev pub IsReached : List Bool → ℕ → Type 0
IsReached fresh a = get_or fresh a true ≡ false

-- what a search has found so far: the nodes reached, and those open to be looked at
pub record IsSearched {A : Type 0} (graph : List (Vec ℕ A)) (node : ℕ) (fresh : List Bool) (open_nodes : List ℕ) : Type 0 where
  pub len : length fresh ≡ length graph
  pub from : (a : ℕ) → IsReached fresh a → Leads graph node a
  pub to : (a : ℕ) → Contains open_nodes a → Leads graph node a
  pub start : (b : ℕ) → IsEdge graph node b → IsReached fresh b ⊎ Contains open_nodes b
  pub closed : (a b : ℕ) → IsReached fresh a → IsEdge graph a b → IsReached fresh b ⊎ Contains open_nodes b

-- a list with another behind it, as a call of `extend_from_slice` leaves it
pub extended : (start slice items more : List ℕ) → more ≡ start ++ slice → slice ≡ items → more ≡ start ++ items
extended start slice items more is read = is ∙ ap (λ l. start ++ l) read

pub extended-empty : (start slice items more : List ℕ) → more ≡ start ++ slice → slice ≡ items → start ≡ [] → items ≡ more
extended-empty start slice items more is read none = sym (extended start slice items more is read ∙ ap (λ l. l ++ items) none)

pub none-reached : (n a : ℕ) → IsReached (replicate n true) a → ⊥
none-reached n a is = true≢false (sym (each n a) ∙ is)
  where
    each : (n a : ℕ) → get_or (replicate n true) a true ≡ true
    each zero a = refl
    each (suc n) zero = refl
    each (suc n) (suc a) = each n a

pub searched-start : {A : Type 0} (graph : List (Vec ℕ A)) (node : ℕ) (to : Vec ℕ A) → slice_get graph node ≡ Some to → IsSearched graph node (replicate (length graph) true) to.items
searched-start graph node to at = record {
  len = length-replicate (length graph) true;
  from = λ a is. absurd (none-reached (length graph) a is);
  to = λ a has. leads-edge graph node a (listed-edge graph node a to at has);
  start = λ b edge. inr (edge-listed graph node b to at edge);
  closed = λ a b is edge. absurd (none-reached (length graph) a is);
}

-- the last of the open nodes was reached before
pub searched-skip : {A : Type 0} (graph : List (Vec ℕ A)) (node : ℕ) (fresh : List Bool) (before waiting : List ℕ) (next : ℕ) → IsSearched graph node fresh before → before ≡ waiting ++ next ∷ [] → IsReached fresh next
    → IsSearched graph node fresh waiting
searched-skip graph node fresh before waiting next s last is = record {
  len = s.len;
  from = s.from;
  to = λ a has. s.to a (subst (λ l. Contains l a) (sym last) (Contains-append_left waiting (next ∷ []) a has));
  start = λ b edge. left b (s.start b edge);
  closed = λ a b reached edge. left b (s.closed a b reached edge);
}
  where
    left : (b : ℕ) → IsReached fresh b ⊎ Contains before b → IsReached fresh b ⊎ Contains waiting b
    left b (inl reached) = inl reached
    left b (inr has) = elim (Contains-push_cases waiting next b (subst (λ l. Contains l b) last has)) [ inl more ↦ inr more | inr same ↦ inl (subst (IsReached fresh) same is) ]

pub reached-set : (fresh : List Bool) (next a : ℕ) → next < length fresh → IsReached (set fresh next false) a → IsReached fresh a ⊎ (a ≡ next)
reached-set fresh next a within is = elim (cases_eq a next) [ inl same ↦ inr same | inr other ↦ inl (sym (get_or-set_other fresh next a false true other) ∙ is) ]

pub reached-more : (fresh : List Bool) (next a : ℕ) → next < length fresh → IsReached fresh a → IsReached (set fresh next false) a
reached-more fresh next a within is = elim (cases_eq a next) [
  | inl same ↦ subst (IsReached (set fresh next false)) (sym same) (get_or-set_same fresh next false true within)
  | inr other ↦ get_or-set_other fresh next a false true other ∙ is
]

-- the last of the open nodes is reached, and those that it has an edge to are open
pub searched-step : {A : Type 0} (graph : List (Vec ℕ A)) (node : ℕ) (fresh : List Bool) (before waiting after : List ℕ) (next : ℕ) (to : Vec ℕ A) → IsSearched graph node fresh before → before ≡ waiting ++ next ∷ []
    → slice_get graph next ≡ Some to → after ≡ waiting ++ to.items → IsSearched graph node (set fresh next false) after
searched-step graph node fresh before waiting after next to s last at more = record {
  len = length-set fresh next false ∙ s.len;
  from = λ a is. elim (reached-set fresh next a within is) [ inl old ↦ s.from a old | inr same ↦ subst (Leads graph node) (sym same) there ];
  to = λ a has. elim (Contains-append_cases waiting to.items a (subst (λ l. Contains l a) more has)) [
    | inl old ↦ s.to a (subst (λ l. Contains l a) (sym last) (Contains-append_left waiting (next ∷ []) a old))
    | inr new ↦ leads-join graph node next a there (leads-edge graph next a (listed-edge graph next a to at new))
  ];
  start = λ b edge. left b (s.start b edge);
  closed = λ a b is edge. elim (reached-set fresh next a within is) [ inl old ↦ left b (s.closed a b old edge) | inr same ↦ inr (new b (subst (λ x. IsEdge graph x b) same edge)) ];
}
  where
    within : next < length fresh
    within = let bound = slice_get_within graph next to at in let len = s.len in omega arith

    there : Leads graph node next
    there = s.to next (subst (λ l. Contains l next) (sym last) (Contains-push waiting next))

    new : (b : ℕ) → IsEdge graph next b → Contains after b
    new b edge = subst (λ l. Contains l b) (sym more) (Contains-append_right waiting to.items b (edge-listed graph next b to at edge))

    left : (b : ℕ) → IsReached fresh b ⊎ Contains before b → IsReached (set fresh next false) b ⊎ Contains after b
    left b (inl reached) = inl (reached-more fresh next b within reached)
    left b (inr has) = elim (Contains-push_cases waiting next b (subst (λ l. Contains l b) last has)) [
      | inl old ↦ inr (subst (λ l. Contains l b) (sym more) (Contains-append_left waiting to.items b old))
      | inr same ↦ inl (subst (IsReached (set fresh next false)) same (get_or-set_same fresh next false true within))
    ]

-- nothing is open any more
pub searched-all : {A : Type 0} (graph : List (Vec ℕ A)) (node : ℕ) (fresh : List Bool) → IsSearched graph node fresh [] → (a : ℕ) → Leads graph node a → IsReached fresh a
searched-all graph node fresh s a (between, there) = by between there
  where
    none : (b : ℕ) → IsReached fresh b ⊎ Contains [] b → IsReached fresh b
    none b (inl is) = is
    none b (inr has) = absurd (omega (arith, has.1))

    by : (between : List ℕ) → LeadsThrough graph node between a → IsReached fresh a
    by [] edge = none a (s.start a edge)
    by (x ∷ between) (edge, rest) = leads-keeps graph (IsReached fresh) (λ y z is step. none z (s.closed y z is step)) x a (none x (s.start x edge)) (between, rest)

-- the measure falls where a node is reached
pub search-less : {A : Type 0} (graph : List (Vec ℕ A)) (fresh : List Bool) (before waiting after : List ℕ) (next : ℕ) (to : Vec ℕ A) → next < length fresh → get_or fresh next true ≡ true → slice_get graph next ≡ Some to
    → before ≡ waiting ++ next ∷ [] → after ≡ waiting ++ to.items
    → count_by (λ b. b) (set fresh next false) * sum_by (λ to. length to.items) graph + length after < count_by (λ b. b) fresh * sum_by (λ to. length to.items) graph + length before
search-less graph fresh before waiting after next to within is at last more =
    by (count_by (λ b. b) (set fresh next false)) (count_by (λ b. b) fresh) (sum_by (λ to. length to.items) graph)
    (subst (λ v. length v.items ≤ sum_by (λ to. length to.items) graph) (get_or_from_slice_get graph next to to at) (get_or-le-sum_by (λ to. length to.items) graph next to (slice_get_within graph next to at)))
    (let less = sum_by-set (λ b. cond b 1 0) fresh next false true within in omega (arith, less, ap {B = ℕ} (λ b. cond b 1 0) is))
  where
    by : (fewer some total : ℕ) → length to.items ≤ total → fewer + 1 ≡ some → fewer * total + length after < some * total + length before
    by fewer some total part less =
        subst (λ n. fewer * total + length after < n * total + length before) less
        (omega (arith, ap length last ∙ length-append waiting (next ∷ []), ap length more ∙ length-append waiting to.items))

-- an open node is a node of the graph
pub next-within : {A : Type 0} (graph : List (Vec ℕ A)) (node : ℕ) (fresh : List Bool) (before waiting : List ℕ) (next : ℕ) → AreNodes graph → IsSearched graph node fresh before → before ≡ waiting ++ next ∷ [] → next < length graph
next-within graph node fresh before waiting next nodes s last = leads-within graph node next nodes (s.to next (subst (λ l. Contains l next) (sym last) (Contains-push waiting next)))

-- a mark as it was read
pub marked : (fresh : List Bool) (n : ℕ) (r b : Bool) → n < length fresh → r ≡ get_or fresh n r → r ≡ b → get_or fresh n true ≡ b
marked fresh n r b within read is = get_or_from_slice_get fresh n r true (slice_get_read fresh (length fresh) n r refl within read) ∙ is

-- what the mark of the node says at the end
pub searched-tells : {A : Type 0} (graph : List (Vec ℕ A)) (node : ℕ) (fresh : List Bool) (r : Bool) → IsSearched graph node fresh [] → node < length graph → r ≡ get_or fresh node r
    → (not r ≡ true) ↔ Leads graph node node
searched-tells graph node fresh r s within read = (
  λ is. s.from node (marked fresh node r false inside read (fresh-not r is)),
  λ leads. told r (sym (get_or_from_slice_get fresh node r true (slice_get_read fresh (length fresh) node r refl inside read)) ∙ searched-all graph node fresh s node leads),
)
  where
    inside : node < length fresh
    inside = let len = s.len in omega (arith, len, within)

    fresh-not : (r : Bool) → not r ≡ true → r ≡ false
    fresh-not true is = sym is
    fresh-not false is = refl

    told : (r : Bool) → r ≡ false → not r ≡ true
    told true is = sym is
    told false is = refl
