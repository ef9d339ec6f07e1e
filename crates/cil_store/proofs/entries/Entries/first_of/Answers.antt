use Rattle.cil_store.proofs.Common.{◌≡◌, ◌∙◌, List, cond, ap, sym, subst, None, Some, refl, slice_get, IsStrictlySortedBy, slice_get_past, slice_get_read, Entry, entry_cmp}
use Rattle.cil_store.proofs.FindLemmas.{found-at}
use Rattle.cil_store.proofs.entries.Entries.first_of.Given as given
use Rattle.cil_store.proofs.entries.Entries.first_of.Goals as goal
use Rattle.cil_store.proofs.entries.Entries.first_of.Goals.{After-deref, In-Some}

-- the list that is looked into
list : (g : given.Over) (c : After-deref g) → c.deref.result.now ≡ c.args.self.now
list g c = c.deref.ensures.value ∙ c.self.view_is

sorted : (g : given.Over) (c : After-deref g) → IsStrictlySortedBy entry_cmp c.args.self.now
sorted g c = subst (IsStrictlySortedBy entry_cmp) c.self.view_is c.self.invariant.in_order

-- the entry that stands at the place
here : (g : given.Over) (c : In-Some g) → c.deref.result.now ≡ c.args.self.now → slice_get c.args.self.now c.name_place-place.result ≡ Some c.in-Some.e.now
here g c is =
    let found = c.in-Some.ensures.lookup in
    subst (λ (l : List Entry). slice_get l c.name_place-place.result ≡ Some c.in-Some.e.now) is (slice_get_read c.deref.result.now _ c.name_place-place.result c.in-Some.e.now refl found.3.0 found.1)

pub returns-in_default : goal.returns-in_default
returns-in_default g c =
    let place = c.name_place-place.result in
    let at = (goal.at.returns-in_default g c).After-deref in
    let past : slice_get c.args.self.now place ≡ None = subst (λ (l : List Entry). slice_get l place ≡ None) (list g at) (slice_get_past c.deref.result.now place c.in_default.ensures.lookup.3) in
    sym (found-at c.args.name.now c.args.self.now place None (sorted g at) c.name_place-place.ensures past)

pub returns-then-not-is_named : goal.returns-then-not-is_named
returns-then-not-is_named g c =
    let e : Entry = c.in-Some.e.now in
    let at = goal.at.returns-then-not-is_named g c in
    sym (found-at c.args.name.now c.args.self.now c.name_place-place.result (Some e) (sorted g at.After-deref) c.name_place-place.ensures (here g at.In-Some (list g at.After-deref))
    ∙ ap (λ b. cond b (Some e) None) (sym c.is_named.ensures ∙ c.if-not-is_named.true))

pub returns : goal.returns
returns g c =
    let e : Entry = c.in-Some.e.now in
    let at = goal.at.returns g c in
    ap Some c.as_entry.ensures
    ∙ sym (found-at c.args.name.now c.args.self.now c.name_place-place.result (Some e) (sorted g at.After-deref) c.name_place-place.ensures (here g at.In-Some (list g at.After-deref))
    ∙ ap (λ b. cond b (Some e) None) (sym c.is_named.ensures ∙ c.if-not-is_named.false))
