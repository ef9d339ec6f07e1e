-- What the steps of a walk do to it.
use Rattle.cil_dependence.proofs.Common.{◌≡◌, inl, inr, ℕ, ◌+◌, ◌-◌, ◌<◌, ◌≤◌, Some, List, [], ◌∷◌, ◌++◌, length, get_or, map, replicate, set, sum, sum_by, slice_get, Vec, Contains, refl, sym, ap, ◌∙◌, subst, arith, cases_eq, get_or_default, get_or-map, get_or-set_other, get_or-set_same, length-map, Contains-get_or, slice_get-get_or, slice_get_read, slice_get_within, get_or_from_slice_get, New, Open, Done, IsCircular, AreNodes, IsEdge, Leads, EndsIn, HasKnown, IsStepped, IsWalk, IsWalking, StillKnows, steps_left, weight}
use Rattle.cil_dependence.specs.declared.order.State.{State}
use Rattle.cil_dependence.specs.declared.order.Walk.{Walk}
use Rattle.cil_dependence.proofs.LeadsLemmas.{listed-edge}
use Rattle.cil_dependence.proofs.WalkLemmas.{enter-less, known-within, leave-less, new-open, pass-less, path-reaches, push-last, push-length, walk-circle, walk-enter, walk-leave, walk-pass, walk-start}

-- an element as it was read
pub read-is : {X : Type 0} (xs : List X) (n : ℕ) (r d : X) → n < length xs → r ≡ get_or xs n r → get_or xs n d ≡ r
read-is xs n r d within read = get_or_default xs n d r within ∙ sym read

still-known : (states : List State) (n : ℕ) (s : State) → n < length states → (s ≡ New → ⊥) → (u : ℕ) → HasKnown states u → HasKnown (set states n s) u
still-known states n s within other u known is = elim (cases_eq u n) [
  | inl same ↦ other (sym (get_or-set_same states n s New within) ∙ ap (λ v. get_or (set states n s) v New) (sym same) ∙ is)
  | inr apart ↦ known (sym (get_or-set_other states n u s New apart) ∙ is)
]

open-new : Open ≡ New → ⊥
open-new e = cc

done-new : Done ≡ New → ⊥
done-new e = cc

walk-at : {A B : Type 0} (graph : List (Vec ℕ A)) (new : Walk B) (states : List State) (left path order : List ℕ)
    → new.states.items ≡ states → new.left.items ≡ left → new.path.items ≡ path → new.order.items ≡ order → IsWalk graph states left path order → IsWalking graph new
walk-at graph new states left path order s l p o w =
    subst (λ v. IsWalk graph v new.left.items new.path.items new.order.items) (sym s)
    (subst (λ v. IsWalk graph states v new.path.items new.order.items) (sym l)
    (subst (λ v. IsWalk graph states left v new.order.items) (sym p)
    (subst (λ v. IsWalk graph states left path v) (sym o) w)))

knows-at : {B : Type 0} (walk new : Walk B) (states : List State) → new.states.items ≡ states → ((u : ℕ) → HasKnown walk.states.items u → HasKnown states u) → StillKnows walk new
knows-at walk new states s known = λ u has. subst (λ v. HasKnown v u) (sym s) (known u has)

fewer-at : {B : Type 0} (walk new : Walk B) (states : List State) (left : List ℕ) → new.states.items ≡ states → new.left.items ≡ left
    → sum_by weight states + sum left < steps_left walk → steps_left new < steps_left walk
fewer-at walk new states left s l less =
    subst (λ v. sum_by weight v + sum new.left.items < steps_left walk) (sym s) (subst (λ v. sum_by weight states + sum v < steps_left walk) (sym l) less)

-- a walk that has come to no node
pub walk-new : {A B : Type 0} (graph : List (Vec ℕ A)) (walk : Walk B) → walk.states.items ≡ replicate (length graph) New → walk.left.items ≡ map (λ to. length to.items) graph
    → walk.path.items ≡ [] → walk.order.items ≡ [] → IsWalking graph walk
walk-new {A} graph walk s l p o =
    walk-at graph walk (replicate (length graph) New) (map (λ (to : Vec ℕ A). length to.items) graph) [] [] s l p o
    (walk-start graph (map (λ (to : Vec ℕ A). length to.items) graph) (length-map graph (λ (to : Vec ℕ A). length to.items)) lengths)
  where
    lengths : (u : ℕ) (to : Vec ℕ A) → slice_get graph u ≡ Some to → get_or (map (λ (to : Vec ℕ A). length to.items) graph) u 0 ≡ length to.items
    lengths u to at =
        get_or-map (λ (to : Vec ℕ A). length to.items) graph u to 0 (slice_get_within graph u to at) ∙ ap (λ (v : Vec ℕ A). length v.items) (get_or_from_slice_get graph u to to at)

-- a new node is entered to which all of the path leads
enter-reached : {A B : Type 0} (graph : List (Vec ℕ A)) (walk new : Walk B) (next : ℕ) → IsWalking graph walk
    → ((i : ℕ) → i < length walk.path.items → Leads graph (get_or walk.path.items i 0) next) → next < length graph → get_or walk.states.items next New ≡ New
    → new.states.items ≡ set walk.states.items next Open → new.left.items ≡ walk.left.items → new.path.items ≡ walk.path.items ++ next ∷ [] → new.order.items ≡ walk.order.items
    → IsStepped graph walk new
enter-reached graph walk new next w reach within fresh s l p o =
    let low : next < length walk.states.items = (let len = w.len in omega (arith, len, within)) in
    record {
      walk = walk-at graph new (set walk.states.items next Open) walk.left.items (walk.path.items ++ next ∷ []) walk.order.items s l p o
          (walk-enter graph walk.states.items walk.left.items walk.path.items walk.order.items next w fresh within reach);
      known = knows-at walk new (set walk.states.items next Open) s (still-known walk.states.items next Open low open-new);
      fewer = fewer-at walk new (set walk.states.items next Open) walk.left.items s l (enter-less walk.states.items walk.left.items next low fresh);
    }

-- the walk begins at a root
pub enter-root : {A B : Type 0} (graph : List (Vec ℕ A)) (walk new : Walk B) (root : ℕ) → IsWalking graph walk → walk.path.items ≡ [] → root < length graph → get_or walk.states.items root New ≡ New
    → new.states.items ≡ set walk.states.items root Open → new.left.items ≡ walk.left.items → new.path.items ≡ walk.path.items ++ root ∷ [] → new.order.items ≡ walk.order.items
    → IsStepped graph walk new
enter-root graph walk new root w none = enter-reached graph walk new root w (λ i low. absurd (let len = ap length none in omega (arith, low, len)))

pub root-known : {A B : Type 0} (graph : List (Vec ℕ A)) (walk new : Walk B) (root : ℕ) → IsWalking graph walk → root < length graph → new.states.items ≡ set walk.states.items root Open → HasKnown new.states.items root
root-known graph walk new root w within s is =
    open-new (sym (get_or-set_same walk.states.items root Open New (let len = w.len in omega (arith, len, within))) ∙ ap (λ v. get_or v root New) (sym s) ∙ is)

-- the steps of a walk at the end of its path
module _ {A B : Type 0} (graph : List (Vec ℕ A)) (walk : Walk B) (node : ℕ) (w : IsWalking graph walk) (ends : EndsIn walk.path.items node) where
  whole : IsWalk graph walk.states.items walk.left.items (ends.0 ++ node ∷ []) walk.order.items
  whole = subst (λ p. IsWalk graph walk.states.items walk.left.items p walk.order.items) ends.1 w

  top-open : get_or walk.states.items node New ≡ Open
  top-open =
      subst (λ x. get_or walk.states.items x New ≡ Open) (push-last ends.0 node (length ends.0) refl)
      (whole.opened (length ends.0) (let more = push-length ends.0 node in omega (arith, more)))

  pub top-state : node < length walk.states.items
  top-state = known-within walk.states.items node Open top-open new-open

  pub top-within : node < length graph
  top-within = let known = top-state in let len = w.len in omega (arith, known, len)

  pub top-left : node < length walk.left.items
  top-left = let known = top-within in let len = w.len_left in omega (arith, known, len)

  top-edges : (to : Vec ℕ A) → to ≡ get_or graph node to → slice_get graph node ≡ Some to
  top-edges to is = slice_get_read graph (length graph) node to refl top-within is

  -- the last edge that isn't passed
  pub edge-within : (r n : ℕ) (to : Vec ℕ A) → r ≡ get_or walk.left.items node r → (1 ≤ r) × (n ≡ r - 1) → to ≡ get_or graph node to → n < length to.items
  edge-within r n to read (some, less) is =
      let long = w.left_within node to (top-edges to is) in
      let now = read-is walk.left.items node r 0 top-left read in
      omega (arith, long, now, some, less)

  top-edge : (n next : ℕ) (to : Vec ℕ A) → to ≡ get_or graph node to → n < length to.items → next ≡ get_or to.items n next → IsEdge graph node next
  top-edge n next to is low read =
      listed-edge graph node next to (top-edges to is) (subst (Contains to.items) (sym read) (Contains-get_or to.items n next low))

  -- the node that it leads to
  pub top-next : (r n next : ℕ) (to : Vec ℕ A) → AreNodes graph → r ≡ get_or walk.left.items node r → (1 ≤ r) × (n ≡ r - 1) → to ≡ get_or graph node to
      → next ≡ get_or to.items n next → IsEdge graph node next × (next < length walk.states.items)
  top-next r n next to nodes read less is next-read =
      let edge = top-edge n next to is (edge-within r n to read less is) next-read in
      (edge, (let within = nodes node next edge in let len = w.len in omega (arith, within, len)))

  pub step-enter : (new : Walk B) (next : ℕ) → IsEdge graph node next → next < length graph → get_or walk.states.items next New ≡ New
      → new.states.items ≡ set walk.states.items next Open → new.left.items ≡ walk.left.items → new.path.items ≡ walk.path.items ++ next ∷ [] → new.order.items ≡ walk.order.items
      → IsStepped graph walk new
  step-enter new next edge =
      enter-reached graph walk new next w
      (subst (λ p. (i : ℕ) → i < length p → Leads graph (get_or p i 0) next) (sym ends.1) (path-reaches graph ends.0 node next whole.leads edge))

  pub step-circle : (next : ℕ) → IsEdge graph node next → get_or walk.states.items next New ≡ Open → IsCircular graph next
  step-circle next edge is = walk-circle graph walk.states.items walk.left.items ends.0 walk.order.items node next whole edge is

  -- an edge to a node that is done is passed
  pub step-pass : (left : Vec ℕ B) (r n next : ℕ) (to : Vec ℕ A) → r ≡ get_or walk.left.items node r → (1 ≤ r) × (n ≡ r - 1) → to ≡ get_or graph node to → n < length to.items
      → next ≡ get_or to.items n next → get_or walk.states.items next New ≡ Done → left.items ≡ set walk.left.items node n
      → IsStepped graph walk (record { states = walk.states; left = left; path = walk.path; order = walk.order })
  step-pass left r n next to read (some, less) is low next-read done new-left =
      let now : get_or walk.left.items node 0 ≡ n + 1 = (let at = read-is walk.left.items node r 0 top-left read in omega (arith, at, some, less)) in
      let new : Walk B = record { states = walk.states; left = left; path = walk.path; order = walk.order } in
      record {
        walk = walk-at graph new walk.states.items (set walk.left.items node n) walk.path.items walk.order.items refl new-left refl refl
            (walk-pass graph walk.states.items walk.left.items walk.path.items walk.order.items node n to w (top-edges to is) now
            (ap (λ v. get_or walk.states.items v New) (read-is to.items n next 0 low next-read) ∙ done));
        known = λ u has. has;
        fewer = fewer-at walk new walk.states.items (set walk.left.items node n) refl new-left (pass-less walk.states.items walk.left.items node n top-left now);
      }

  -- all edges of the node are passed
  pub step-leave : (new : Walk B) (r : ℕ) → r ≡ get_or walk.left.items node r → (1 ≤ r → ⊥) → new.states.items ≡ set walk.states.items node Done → new.left.items ≡ walk.left.items
      → ((rest : List ℕ) → walk.path.items ≡ rest ++ node ∷ [] → new.path.items ≡ rest) → new.order.items ≡ walk.order.items ++ node ∷ []
      → IsStepped graph walk new
  step-leave new r read none s l p o =
      let at = listed graph node top-within in
      let all : get_or walk.left.items node 0 ≡ 0 = (let now = read-is walk.left.items node r 0 top-left read in omega (arith, now, none)) in
      record {
        walk = walk-at graph new (set walk.states.items node Done) walk.left.items ends.0 (walk.order.items ++ node ∷ []) s l (p ends.0 ends.1) o
            (walk-leave graph walk.states.items walk.left.items ends.0 walk.order.items node at.0 whole at.1 all);
        known = knows-at walk new (set walk.states.items node Done) s (still-known walk.states.items node Done top-state done-new);
        fewer = fewer-at walk new (set walk.states.items node Done) walk.left.items s l (leave-less walk.states.items walk.left.items node top-open);
      }
    where
      listed : (graph : List (Vec ℕ A)) (node : ℕ) → node < length graph → (to : Vec ℕ A) × (slice_get graph node ≡ Some to)
      listed [] node low = absurd (omega (arith, low))
      listed (to ∷ graph) node low = (get_or (to ∷ graph) node to, slice_get-get_or (to ∷ graph) node to low)
