-- A walk in depth: the nodes that are done stand in the order of dependence, and the open ones on one path.
use Rattle.cil_dependence.proofs.Common.{◌≡◌, ◌≢◌, inl, inr, ℕ, zero, suc, ◌+◌, ◌<◌, ◌≤◌, Some, List, [], ◌∷◌, ◌++◌, length, get_or, set, replicate, sum, sum_by, slice_get, Vec, Contains, refl, sym, ap, ◌∙◌, subst, arith, cases_eq, cases_lt, get_or_append_left, get_or_default, get_or-set_other, get_or-set_same, length-replicate, length-set, Contains-push, Contains-push_cases, Contains-append_left, slice_get_within, same_Some, New, Open, Done, IsOrder, IsCircular, IsEdge, AreNodes, LeadsThrough, Leads, IsWalk, weight}
use Rattle.std.proofs.Common.{length-append}
use Rattle.std.proofs.lemmas.List.Sums.{sum_by-set}
use Rattle.std.proofs.Math.Seq.{get_or-append_seam}
use Rattle.cil_dependence.specs.declared.order.State.{State}
use Rattle.cil_dependence.proofs.LeadsLemmas.{edge-listed, leads-edge, leads-join, leads-within}

pub new-open : New ≡ Open → ⊥
new-open e = cc

pub new-done : New ≡ Done → ⊥
new-done e = cc

open-done : Open ≡ Done → ⊥
open-done e = cc

-- a node whose state isn't New is one
pub known-within : (states : List State) (u : ℕ) (s : State) → get_or states u New ≡ s → (New ≡ s → ⊥) → u < length states
known-within [] u s is other = absurd (other is)
known-within (x ∷ states) zero s is other = omega arith
known-within (x ∷ states) (suc u) s is other = let less = known-within states u s is other in omega (arith, less)

-- a number stands where it is contained
contains-at : (xs : List ℕ) (x : ℕ) (has : Contains xs x) → get_or xs has.0 0 ≡ x
contains-at xs x has = get_or_default xs has.0 0 x has.1 ∙ has.2

-- a list with one more at its end
push-old : (xs : List ℕ) (y i : ℕ) → i < length xs → get_or (xs ++ y ∷ []) i 0 ≡ get_or xs i 0
push-old xs y i low = get_or_append_left xs (y ∷ []) 0 i low

pub push-last : (xs : List ℕ) (y i : ℕ) → i ≡ length xs → get_or (xs ++ y ∷ []) i 0 ≡ y
push-last xs y i at = ap (λ k. get_or (xs ++ y ∷ []) k 0) at ∙ get_or-append_seam xs y [] 0

pub push-length : (xs : List ℕ) (y : ℕ) → length (xs ++ y ∷ []) ≡ length xs + 1
push-length xs y = length-append xs (y ∷ [])

push-last-place : (xs : List ℕ) (y i : ℕ) → i < length (xs ++ y ∷ []) → length xs ≤ i → i ≡ length xs
push-last-place xs y i within high = let more = push-length xs y in omega (arith, more, within, high)

-- each node of a path leads to what its last one has an edge to
pub path-reaches : {A : Type 0} (graph : List (Vec ℕ A)) (rest : List ℕ) (top next : ℕ)
    → ((i j : ℕ) → i < j → j < length (rest ++ top ∷ []) → Leads graph (get_or (rest ++ top ∷ []) i 0) (get_or (rest ++ top ∷ []) j 0))
    → IsEdge graph top next → (i : ℕ) → i < length (rest ++ top ∷ []) → Leads graph (get_or (rest ++ top ∷ []) i 0) next
path-reaches graph rest top next leads edge i within = elim (cases_lt i (length rest)) [
  | inl low ↦ leads-join graph (get_or (rest ++ top ∷ []) i 0) top next
      (subst (λ x. Leads graph (get_or (rest ++ top ∷ []) i 0) x) (push-last rest top (length rest) refl)
      (leads i (length rest) low (let more = push-length rest top in omega (arith, more))))
      (leads-edge graph top next edge)
  | inr high ↦ subst (λ x. Leads graph x next) (sym (push-last rest top i (push-last-place rest top i within high))) (leads-edge graph top next edge)
]

-- before the first step
pub walk-start : {A : Type 0} (graph : List (Vec ℕ A)) (left : List ℕ) → length left ≡ length graph
    → ((u : ℕ) (to : Vec ℕ A) → slice_get graph u ≡ Some to → get_or left u 0 ≡ length to.items) → IsWalk graph (replicate (length graph) New) left [] []
walk-start graph left len all = record {
  len = length-replicate (length graph) New;
  len_left = len;
  left_within = λ u to at. (let is = all u to at in omega (arith, is));
  passed = λ u k to at low high. absurd (let is = all u to at in omega (arith, is, low, high));
  leads = λ i j low high. absurd (omega (arith, high));
  opened = λ i low. absurd (omega (arith, low));
  on_path = λ u is. absurd (new-open (sym (none (length graph) u) ∙ is));
  apart = λ i j low high same. absurd (omega (arith, high));
  listed = λ u is. absurd (new-done (sym (none (length graph) u) ∙ is));
  done = λ i low. absurd (omega (arith, low));
  once = λ i j low high same. absurd (omega (arith, high));
  behind = λ i b low edge. absurd (omega (arith, low));
}
  where
    none : (n u : ℕ) → get_or (replicate n New) u New ≡ New
    none zero u = refl
    none (suc n) zero = refl
    none (suc n) (suc u) = none n u

-- a node is entered that wasn't seen
module _ {A : Type 0} (graph : List (Vec ℕ A)) (states : List State) (left path order : List ℕ) (next : ℕ) (w : IsWalk graph states left path order) (fresh : get_or states next New ≡ New) (within : next < length graph)
    (reach : (i : ℕ) → i < length path → Leads graph (get_or path i 0) next) where
  other-node : (u : ℕ) (s : State) → get_or states u New ≡ s → (New ≡ s → ⊥) → u ≢ next
  other-node u s is other = λ same. other (sym fresh ∙ ap (λ v. get_or states v New) (sym same) ∙ is)

  stays : (u : ℕ) (s : State) → get_or states u New ≡ s → (New ≡ s → ⊥) → get_or (set states next Open) u New ≡ s
  stays u s is other = get_or-set_other states next u Open New (other-node u s is other) ∙ is

  came : (u : ℕ) (s : State) → get_or (set states next Open) u New ≡ s → (Open ≡ s → ⊥) → get_or states u New ≡ s
  came u s is other = elim (cases_eq u next) [
    | inl same ↦ absurd (other (sym here ∙ ap (λ v. get_or (set states next Open) v New) (sym same) ∙ is))
    | inr else_where ↦ sym (get_or-set_other states next u Open New else_where) ∙ is
  ]
    where
      here : get_or (set states next Open) next New ≡ Open
      here = get_or-set_same states next Open New (let len = w.len in omega (arith, len, within))

  entered : get_or (set states next Open) next New ≡ Open
  entered = get_or-set_same states next Open New (let len = w.len in omega (arith, len, within))

  enter-leads : (i j : ℕ) → i < j → j < length (path ++ next ∷ []) → Leads graph (get_or (path ++ next ∷ []) i 0) (get_or (path ++ next ∷ []) j 0)
  enter-leads i j low high = elim (cases_lt j (length path)) [
    | inl inside ↦ subst (λ x. Leads graph x (get_or (path ++ next ∷ []) j 0)) (sym (push-old path next i (omega (arith, low, inside))))
        (subst (λ x. Leads graph (get_or path i 0) x) (sym (push-old path next j inside)) (w.leads i j low inside))
    | inr past ↦ (let at = push-last-place path next j high past in
        subst (λ x. Leads graph x (get_or (path ++ next ∷ []) j 0)) (sym (push-old path next i (omega (arith, low, at))))
        (subst (λ x. Leads graph (get_or path i 0) x) (sym (push-last path next j at)) (reach i (omega (arith, low, at)))))
  ]

  enter-opened : (i : ℕ) → i < length (path ++ next ∷ []) → get_or (set states next Open) (get_or (path ++ next ∷ []) i 0) New ≡ Open
  enter-opened i high = elim (cases_lt i (length path)) [
    | inl inside ↦ subst (λ x. get_or (set states next Open) x New ≡ Open) (sym (push-old path next i inside)) (stays (get_or path i 0) Open (w.opened i inside) new-open)
    | inr past ↦ subst (λ x. get_or (set states next Open) x New ≡ Open) (sym (push-last path next i (push-last-place path next i high past))) entered
  ]

  enter-apart : (i j : ℕ) → i < j → j < length (path ++ next ∷ []) → get_or (path ++ next ∷ []) i 0 ≡ get_or (path ++ next ∷ []) j 0 → ⊥
  enter-apart i j low high same = elim (cases_lt j (length path)) [
    | inl inside ↦ w.apart i j low inside (sym (push-old path next i (omega (arith, low, inside))) ∙ same ∙ push-old path next j inside)
    | inr past ↦ (let at = push-last-place path next j high past in let before : i < length path = omega (arith, low, at) in
        other-node (get_or path i 0) Open (w.opened i before) new-open (sym (push-old path next i before) ∙ same ∙ push-last path next j at))
  ]

  pub walk-enter : IsWalk graph (set states next Open) left (path ++ next ∷ []) order
  walk-enter = record {
    len = length-set states next Open ∙ w.len;
    len_left = w.len_left;
    left_within = w.left_within;
    passed = λ u k to at low high. stays (get_or to.items k 0) Done (w.passed u k to at low high) new-done;
    leads = enter-leads;
    opened = enter-opened;
    on_path = λ u is. elim (cases_eq u next) [
      | inl same ↦ subst (Contains (path ++ next ∷ [])) (sym same) (Contains-push path next)
      | inr else_where ↦ Contains-append_left path (next ∷ []) u (w.on_path u (sym (get_or-set_other states next u Open New else_where) ∙ is))
    ];
    apart = enter-apart;
    listed = λ u is. w.listed u (came u Done is open-done);
    done = λ i low. stays (get_or order i 0) Done (w.done i low) new-done;
    once = w.once;
    behind = w.behind;
  }

-- an edge to a node that is done is passed
pub walk-pass : {A : Type 0} (graph : List (Vec ℕ A)) (states : List State) (left path order : List ℕ) (node n : ℕ) (to : Vec ℕ A) → IsWalk graph states left path order → slice_get graph node ≡ Some to
    → get_or left node 0 ≡ n + 1 → get_or states (get_or to.items n 0) New ≡ Done → IsWalk graph states (set left node n) path order
walk-pass {A} graph states left path order node n to w at some is = record {
  len = w.len;
  len_left = length-set left node n ∙ w.len_left;
  left_within = left-within;
  passed = passed;
  leads = w.leads;
  opened = w.opened;
  on_path = w.on_path;
  apart = w.apart;
  listed = w.listed;
  done = w.done;
  once = w.once;
  behind = w.behind;
}
  where
    within : node < length left
    within = let bound = slice_get_within graph node to at in let len = w.len_left in omega (arith, bound, len)

    here : get_or (set left node n) node 0 ≡ n
    here = get_or-set_same left node n 0 within

    same-list : (u : ℕ) (other : Vec ℕ A) → u ≡ node → slice_get graph u ≡ Some other → to ≡ other
    same-list u other same found = same_Some to other (sym at ∙ ap (slice_get graph) (sym same) ∙ found)

    left-within : (u : ℕ) (other : Vec ℕ A) → slice_get graph u ≡ Some other → get_or (set left node n) u 0 ≤ length other.items
    left-within u other found = elim (cases_eq u node) [
      | inl same ↦ (let now = ap (λ v. get_or (set left node n) v 0) same ∙ here in let long = w.left_within node to at in let list = ap (λ v. length v.items) (same-list u other same found) in omega (arith, now, long, some, list))
      | inr else_where ↦ (let now = get_or-set_other left node u n 0 else_where in let long = w.left_within u other found in omega (arith, now, long))
    ]

    passed : (u k : ℕ) (other : Vec ℕ A) → slice_get graph u ≡ Some other → get_or (set left node n) u 0 ≤ k → k < length other.items → get_or states (get_or other.items k 0) New ≡ Done
    passed u k other found low high = elim (cases_eq u node) [
      | inl same ↦ (let now = ap (λ v. get_or (set left node n) v 0) same ∙ here in elim (cases_eq k n) [
        | inl last ↦ subst (λ v. get_or states (get_or v.items k 0) New ≡ Done) (same-list u other same found) (subst (λ x. get_or states (get_or to.items x 0) New ≡ Done) (sym last) is)
        | inr more ↦ w.passed u k other found (let before = ap (λ v. get_or left v 0) same in omega (arith, now, before, some, low, more)) high
      ])
      | inr else_where ↦ w.passed u k other found (let now = get_or-set_other left node u n 0 else_where in omega (arith, now, low)) high
    ]

-- the last node of the path is left, all of whose edges are passed
module _ {A : Type 0} (graph : List (Vec ℕ A)) (states : List State) (left rest order : List ℕ) (node : ℕ) (to : Vec ℕ A) (w : IsWalk graph states left (rest ++ node ∷ []) order) (at-node : slice_get graph node ≡ Some to) (all : get_or left node 0 ≡ 0) where
  in-rest : (i : ℕ) → i < length rest → i < length (rest ++ node ∷ [])
  in-rest i low = let more = push-length rest node in omega (arith, more, low)

  was-open : get_or states node New ≡ Open
  was-open = subst (λ x. get_or states x New ≡ Open) (push-last rest node (length rest) refl) (w.opened (length rest) (let more = push-length rest node in omega (arith, more)))

  leave-stays : (u : ℕ) (s : State) → get_or states u New ≡ s → u ≢ node → get_or (set states node Done) u New ≡ s
  leave-stays u s is other = get_or-set_other states node u Done New other ∙ is

  is-left : get_or (set states node Done) node New ≡ Done
  is-left = get_or-set_same states node Done New (known-within states node Open was-open new-open)

  done-stays : (u : ℕ) → get_or states u New ≡ Done → get_or (set states node Done) u New ≡ Done
  done-stays u is = leave-stays u Done is (λ same. open-done (sym was-open ∙ ap (λ v. get_or states v New) (sym same) ∙ is))

  rest-other : (i : ℕ) → i < length rest → get_or rest i 0 ≢ node
  rest-other i low = λ same. w.apart i (length rest) low (let more = push-length rest node in omega (arith, more)) (push-old rest node i low ∙ same ∙ sym (push-last rest node (length rest) refl))

  leave-behind : (i b : ℕ) → i < length (order ++ node ∷ []) → IsEdge graph (get_or (order ++ node ∷ []) i 0) b → (j : ℕ) × (j < i) × (get_or (order ++ node ∷ []) j 0 ≡ b)
  leave-behind i b high edge = elim (cases_lt i (length order)) [
    | inl inside ↦ (let found = w.behind i b inside (subst (λ x. IsEdge graph x b) (push-old order node i inside) edge) in
        (found.0, found.1, push-old order node found.0 (let less = found.1 in omega (arith, less, inside)) ∙ found.2))
    | inr past ↦ (let at = push-last-place order node i high past in
        let found = w.listed b (edges (subst (λ x. IsEdge graph x b) (push-last order node i at) edge)) in
        (found.0, (let less = found.1 in omega (arith, less, at)), push-old order node found.0 found.1 ∙ contains-at order b found))
  ]
    where
      edges : IsEdge graph node b → get_or states b New ≡ Done
      edges step =
          let has = edge-listed graph node b to at-node step in
          subst (λ x. get_or states x New ≡ Done) (contains-at to.items b has) (w.passed node has.0 to at-node (omega (arith, all)) has.1)

  pub walk-leave : IsWalk graph (set states node Done) left rest (order ++ node ∷ [])
  walk-leave = record {
    len = length-set states node Done ∙ w.len;
    len_left = w.len_left;
    left_within = w.left_within;
    passed = λ u k to at low high. done-stays (get_or to.items k 0) (w.passed u k to at low high);
    leads = λ i j low high. subst (λ x. Leads graph x (get_or rest j 0)) (push-old rest node i (omega (arith, low, high)))
        (subst (λ x. Leads graph (get_or (rest ++ node ∷ []) i 0) x) (push-old rest node j high) (w.leads i j low (in-rest j high)));
    opened = λ i low. leave-stays (get_or rest i 0) Open (subst (λ x. get_or states x New ≡ Open) (push-old rest node i low) (w.opened i (in-rest i low))) (rest-other i low);
    on_path = leave-on-path;
    apart = λ i j low high same. w.apart i j low (in-rest j high) (push-old rest node i (omega (arith, low, high)) ∙ same ∙ sym (push-old rest node j high));
    listed = leave-listed;
    done = leave-done;
    once = leave-once;
    behind = leave-behind;
  }
    where
      other-left : (u : ℕ) → get_or (set states node Done) u New ≡ Open → u ≢ node
      other-left u is = λ same. open-done (sym is ∙ ap (λ v. get_or (set states node Done) v New) same ∙ is-left)

      leave-on-path : (u : ℕ) → get_or (set states node Done) u New ≡ Open → Contains rest u
      leave-on-path u is = elim (Contains-push_cases rest node u (w.on_path u (sym (get_or-set_other states node u Done New (other-left u is)) ∙ is))) [
        | inl inside ↦ inside
        | inr same ↦ absurd (other-left u is (sym same))
      ]

      leave-listed : (u : ℕ) → get_or (set states node Done) u New ≡ Done → Contains (order ++ node ∷ []) u
      leave-listed u is = elim (cases_eq u node) [
        | inl same ↦ subst (Contains (order ++ node ∷ [])) (sym same) (Contains-push order node)
        | inr other ↦ Contains-append_left order (node ∷ []) u (w.listed u (sym (get_or-set_other states node u Done New other) ∙ is))
      ]

      leave-done : (i : ℕ) → i < length (order ++ node ∷ []) → get_or (set states node Done) (get_or (order ++ node ∷ []) i 0) New ≡ Done
      leave-done i high = elim (cases_lt i (length order)) [
        | inl inside ↦ subst (λ x. get_or (set states node Done) x New ≡ Done) (sym (push-old order node i inside)) (done-stays (get_or order i 0) (w.done i inside))
        | inr past ↦ subst (λ x. get_or (set states node Done) x New ≡ Done) (sym (push-last order node i (push-last-place order node i high past))) is-left
      ]

      leave-once : (i j : ℕ) → i < j → j < length (order ++ node ∷ []) → get_or (order ++ node ∷ []) i 0 ≡ get_or (order ++ node ∷ []) j 0 → ⊥
      leave-once i j low high same = elim (cases_lt j (length order)) [
        | inl inside ↦ w.once i j low inside (sym (push-old order node i (omega (arith, low, inside))) ∙ same ∙ push-old order node j inside)
        | inr past ↦ (let at = push-last-place order node j high past in let before : i < length order = omega (arith, low, at) in
            open-done (sym was-open ∙ ap (λ v. get_or states v New) (sym (sym (push-old order node i before) ∙ same ∙ push-last order node j at)) ∙ w.done i before))
      ]

-- an edge to an open node makes a circle
pub walk-circle : {A : Type 0} (graph : List (Vec ℕ A)) (states : List State) (left rest order : List ℕ) (top next : ℕ) → IsWalk graph states left (rest ++ top ∷ []) order → IsEdge graph top next → get_or states next New ≡ Open
    → IsCircular graph next
walk-circle graph states left rest order top next w edge is =
    let found = w.on_path next is in
    record {
      within = (let known = known-within states next Open is new-open in let len = w.len in omega (arith, known, len));
      leads = subst (λ x. Leads graph x next) (contains-at (rest ++ top ∷ []) next found) (path-reaches graph rest top next w.leads edge found.0 found.1);
    }

-- the walk is at its end
pub walk-end : {A : Type 0} (graph : List (Vec ℕ A)) (states : List State) (left order : List ℕ) → IsWalk graph states left [] order → ((u : ℕ) → u < length graph → get_or states u New ≡ New → ⊥) → IsOrder graph order
walk-end graph states left order w known = record {
  all = λ node within. by node within (get_or states node New) refl;
  nodes = λ i low. (let inside = known-within states (get_or order i 0) Done (w.done i low) new-done in let len = w.len in omega (arith, inside, len));
  once = w.once;
  behind = λ i j low high edge. (let found = w.behind i (get_or order j 0) low edge in elim (cases_lt j i) [
    | inl before ↦ before
    | inr later ↦ absurd (w.once found.0 j (let less = found.1 in omega (arith, less, later)) high found.2)
  ]);
}
  where
    by : (node : ℕ) → node < length graph → (s : State) → get_or states node New ≡ s → Contains order node
    by node within New e = absurd (known node within e)
    by node within Open e = absurd (let has = w.on_path node e in let none = has.1 in omega (arith, none))
    by node within Done e = w.listed node e

-- A step takes one from what is left: a node is entered, an edge is passed, a node is left.
pub enter-less : (states : List State) (left : List ℕ) (next : ℕ) → next < length states → get_or states next New ≡ New → sum_by weight (set states next Open) + sum left < sum_by weight states + sum left
enter-less states left next within is = let less = sum_by-set weight states next Open New within in omega (arith, less, ap {B = ℕ} weight is)

pub leave-less : (states : List State) (left : List ℕ) (node : ℕ) → get_or states node New ≡ Open → sum_by weight (set states node Done) + sum left < sum_by weight states + sum left
leave-less states left node is = let less = sum_by-set weight states node Done New (known-within states node Open is new-open) in omega (arith, less, ap {B = ℕ} weight is)

pub pass-less : (states : List State) (left : List ℕ) (node n : ℕ) → node < length left → get_or left node 0 ≡ n + 1 → sum_by weight states + sum (set left node n) < sum_by weight states + sum left
pass-less states left node n within is = let less = sum_by-set (λ x. x) left node n 0 within in omega (arith, less, is)

-- where there is an order no node leads to itself: what a node leads to stands before it
pub order-straight : {A : Type 0} (graph : List (Vec ℕ A)) (order : List ℕ) → IsOrder graph order → AreNodes graph → (node : ℕ) → Leads graph node node → ⊥
order-straight {A} graph order o nodes node leads =
    let place = o.all node (leads-within graph node node nodes leads) in
    let again = through (leads.0) node place.0 place.1 (contains-at order node place) leads.1 in
    (let less = again.1 in same-place place.0 again.0 place.1 (omega (arith, less)) (contains-at order node place ∙ sym again.2))
  where
    step : (a b i : ℕ) → i < length order → get_or order i 0 ≡ a → IsEdge graph a b → (j : ℕ) × (j < i) × (get_or order j 0 ≡ b)
    step a b i low at edge =
        let place = o.all b (nodes a b edge) in
        (place.0, o.behind i place.0 low place.1 (subst (λ x. IsEdge graph x (get_or order place.0 0)) (sym at) (subst (IsEdge graph a) (sym (contains-at order b place)) edge)), contains-at order b place)

    through : (between : List ℕ) (a i : ℕ) → i < length order → get_or order i 0 ≡ a → LeadsThrough graph a between node → (j : ℕ) × (j < i) × (get_or order j 0 ≡ node)
    through [] a i low at edge = step a node i low at edge
    through (x ∷ between) a i low at (edge, rest) =
        let first = step a x i low at edge in
        let less = first.1 in
        let more = through between x first.0 (omega (arith, less, low)) first.2 rest in
        (more.0, (let fewer = more.1 in omega (arith, fewer, less)), more.2)

    same-place : (i j : ℕ) → i < length order → j < i → get_or order i 0 ≡ get_or order j 0 → ⊥
    same-place i j low less same = o.once j i less low (sym same)
