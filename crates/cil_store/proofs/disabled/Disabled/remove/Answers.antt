use Rattle.cil_store.proofs.Common.{◌≡◌, ◌∙◌, ap, sym, subst, bytes_eq, not, IsStrictlySortedBy, IsStrictlySortedBy-filter, nat_list_cmp_total, name_cmp}
use Rattle.cil_store.specs.Common.{without_name}
use Rattle.std.proofs.Common.{remove}
use Rattle.cil_store.proofs.EntryLemmas.{name-tied, tied-name, without-tied, without-absent, is-not}
use Rattle.cil_store.proofs.disabled.Disabled.remove.Given as given
use Rattle.cil_store.proofs.disabled.Disabled.remove.Goals as goal
use Rattle.cil_store.proofs.disabled.Disabled.remove.Goals.{After-remove, in-Own-1, in-Shared-1}

-- the names but for the one that is taken away
others : (g : given.Over) (c : After-remove g) → c.remove.new.self.items ≡ without_name c.args.name.now c.args.self.now
others g c =
    let name = c.args.name.now in
    let sorted = subst (IsStrictlySortedBy name_cmp) c.self.view_is c.self.invariant in
    c.remove.ensures.items ∙ ap (λ l. remove l c.place-place.result) c.self.view_is
    ∙ without-tied name_cmp nat_list_cmp_total (λ o. bytes_eq o name) name (λ o. name-tied o name) (λ o. tied-name o name) c.args.self.now c.place-place.result sorted c.place-place.ensures.value (c.has_at.ensures.value.0 c.if-has_at.true)

-- they are in order
in-order : (g : given.Over) (c : After-remove g) → IsStrictlySortedBy name_cmp c.remove.new.self.items
in-order g c =
    subst (IsStrictlySortedBy name_cmp) (sym (others g c))
    (IsStrictlySortedBy-filter name_cmp (λ o. not (bytes_eq o c.args.name.now)) c.args.self.now (subst (IsStrictlySortedBy name_cmp) c.self.view_is c.self.invariant))

pub returns-then-has_at : goal.returns-then-has_at
returns-then-has_at g c =
    let at = (goal.at.returns-then-has_at g c).After-remove in
    elim c.match-remove.branch [
      | in-Own-1 w ↦ w.self-is ∙ others g at
      | in-Shared-1 w ↦ w.self-is ∙ others g at
    ]

pub invariant_of-self : goal.invariant_of-self
invariant_of-self g c = in-order g (goal.at.invariant_of-self g c).After-remove

pub invariant_of-self-then-has_at-2 : goal.invariant_of-self-then-has_at-2
invariant_of-self-then-has_at-2 g c = in-order g (goal.at.invariant_of-self-then-has_at-2 g c).After-remove

pub returns-else-has_at : goal.returns-else-has_at
returns-else-has_at g c =
    let name = c.args.name.now in
    let sorted = subst (IsStrictlySortedBy name_cmp) c.self.view_is c.self.invariant in
    without-absent name_cmp nat_list_cmp_total (λ o. bytes_eq o name) name (λ o. name-tied o name) (λ o. tied-name o name) c.args.self.now c.place-place.result sorted c.place-place.ensures.value
    (is-not c.has_at.result c.has_at.ensures.value.1 c.if-has_at.false)
