use Rattle.cil_keyed_lines.proofs.Common.{◌≡◌, ◌≤◌, ◌*◌, ◌+◌, ◌∙◌, ap, arith, came, has_key, index_of, of_keys, one_if, subst, times, went, SymbolKey}
use Rattle.cil_keyed_lines.proofs.KeyLemmas.{listed_once}
use Rattle.cil_keyed_lines.proofs.SharedLemmas.{above_keys, bounded_keys, moved_keys}
use Rattle.cil_keyed_lines.specs.Keyed.{count_now, RiseAtMost}
use Rattle.cil_keyed_lines.proofs.keyed_lines.KeyedLines.shift.Given as given
use Rattle.cil_keyed_lines.proofs.keyed_lines.KeyedLines.shift.Goals as goal
use Rattle.cil_keyed_lines.proofs.keyed_lines.KeyedLines.shift.Goals.{After-deref, After-move_keys}

pub move_keys-requires-clause-named : goal.move_keys-requires-clause-named
move_keys-requires-clause-named g c = rw c.deref.ensures.value (c.put_in_order.ensures.named _ c.in_ok-places.ensures.named)

-- each key of the list is among the places once
once : (g : given.Over) (c : After-deref g) (k : SymbolKey) → times c.put_in_order.new.places.items (index_of c.places_of.new.self.keys k) ≡ one_if (has_key c.args.keys.now k)
once g c k = c.put_in_order.ensures.times _ ∙ c.in_ok-places.ensures.times k ∙ listed_once c.args.keys.now k c.requires.keys

pub move_keys-requires-clause-above : goal.move_keys-requires-clause-above
move_keys-requires-clause-above g c =
    let mid = c.places_of.new.self in
    rw c.deref.ensures.value
    (above_keys c.args.keys.now (went c.args.moved.now) (came c.args.moved.now) (count_now mid) (count_now mid) (λ k. times c.put_in_order.new.places.items (index_of mid.keys k))
    (once g (goal.at.move_keys-requires-clause-above g c).After-deref) (λ k t. omega (arith, c.requires.above k t, c.in_ok-places.ensures.now k t)))

pub returns-in_err-places-clause-bounded : goal.returns-in_err-places-clause-bounded
returns-in_err-places-clause-bounded g c k t = omega (arith, c.in_err-places.ensures.now k t)

pub returns-clause-now : goal.returns-clause-now
returns-clause-now g c =
    let mid = c.places_of.new.self in
    let places = c.put_in_order.new.places.items in
    rw c.keep_places.ensures.same
    (moved_keys c.args.keys.now (went c.args.moved.now) (came c.args.moved.now) (count_now c.move_keys.new.self) (count_now c.args.self.now) (λ k. times places (index_of mid.keys k))
    (once g (goal.at.returns-clause-now g c).After-deref)
    (λ k t. (rw c.deref.ensures.value at c.in_ok-move_keys.ensures.now) k t ∙ ap (λ x. x + times places (index_of mid.keys k) * came c.args.moved.now t) (c.in_ok-places.ensures.now k t)))

-- no counter has risen by more than what was to come
bounded : (g : given.Over) (c : After-move_keys g) → RiseAtMost c.args.self.now c.move_keys.new.self (of_keys c.args.keys.now (came c.args.moved.now))
bounded g c =
    let mid = c.places_of.new.self in
    let places = c.put_in_order.new.places.items in
    bounded_keys c.args.keys.now (went c.args.moved.now) (came c.args.moved.now) (count_now c.move_keys.new.self) (count_now c.args.self.now) (λ k. times places (index_of mid.keys k))
    (λ k. c.put_in_order.ensures.times _ ∙ c.in_ok-places.ensures.times k ∙ listed_once c.args.keys.now k c.requires.keys)
    (λ k t. subst (λ x. count_now c.move_keys.new.self k t ≤ x + times places (index_of mid.keys k) * came c.args.moved.now t) (c.in_ok-places.ensures.now k t) ((rw c.deref.ensures.value at c.move_keys.ensures.bounded) k t))

pub returns-in_err-move_keys-clause-bounded : goal.returns-in_err-move_keys-clause-bounded
returns-in_err-move_keys-clause-bounded g c = bounded g (goal.at.returns-in_err-move_keys-clause-bounded g c).After-move_keys

pub returns-clause-bounded : goal.returns-clause-bounded
returns-clause-bounded g c = rw c.keep_places.ensures.same (bounded g (goal.at.returns-clause-bounded g c).After-move_keys)
