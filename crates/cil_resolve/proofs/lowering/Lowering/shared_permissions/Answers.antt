use Rattle.cil_resolve.proofs.Common.{◌∙◌, sym, subst, slice_get_within, HaveNumbers}
use Rattle.cil_resolve.proofs.lowering.Lowering.shared_permissions.Goals as goal

pub list_place-at-requires : goal.list_place-at-requires
list_place-at-requires g c =
    let (policy, s, is, at) = c.requires in
    (policy, is, slice_get_within policy c.args.i s at)

pub know_lists-requires : goal.know_lists-requires
know_lists-requires g c = record { lowering = (c.requires.0, c.requires.2); within = c.list_place-at.ensures.within }

pub returns-in-Some-clause-numbers : goal.returns-in-Some-clause-numbers
returns-in-Some-clause-numbers g c policy s is at knows have =
    let names = c.args.self.now.numbering.now.names.items in
    let place = c.list_place-at.result in
    subst (λ l. HaveNumbers names policy l c.in-Some.numbers) (c.list_place-at.ensures.list policy s is at)
    (knows place.«module» place.list c.in-Some.numbers (sym c.in_ok-numbers.ensures ∙ c.in-Some.is)) have
