use Rattle.cil_resolve.proofs.Common.{IsTrue, names_rise, subst, sym}
use Rattle.cil_resolve.specs.Numbering.{HavePlaces, HavePermissions}
use Rattle.cil_resolve.proofs.numbering.Numbering.of.Goals as goal

pub sorted_names-requires : goal.sorted_names-requires
sorted_names-requires g c =
    let (policy, is, naming) = c.requires in
    record { is = (policy, is, naming, c.in_ok-full_names.ensures policy is naming) }

pub place_numbers-requires : goal.place_numbers-requires
place_numbers-requires g c =
    let (policy, is, naming) = c.requires in
    let full = c.in_ok-full_names.ensures policy is naming in
    record { is = (policy, is, naming, full, c.in_ok-names.ensures.names policy is naming full) }

pub permission_numbers-requires : goal.permission_numbers-requires
permission_numbers-requires g c =
    let (policy, is, naming) = c.requires in
    record { is = (policy, is, naming, c.in_ok-names.ensures.names policy is naming (c.in_ok-full_names.ensures policy is naming)) }

pub returns-clause-places : goal.returns-clause-places
returns-clause-places g c policy is naming =
    subst (λ names. HavePlaces names policy c.in_ok-place_numbers.field-0.items) (sym c.in_ok-to_texts.ensures) (c.in_ok-place_numbers.ensures.have policy is naming (c.in_ok-full_names.ensures policy is naming))

pub returns-clause-permissions : goal.returns-clause-permissions
returns-clause-permissions g c policy is naming =
    subst (λ names. HavePermissions c.args.bound.now.policy.now.names names policy c.in_ok-permission_numbers.field-0.items) (sym c.in_ok-to_texts.ensures) (c.in_ok-permission_numbers.ensures policy is naming)

pub returns-clause-long : goal.returns-clause-long
returns-clause-long g c = λ policy is. c.in_ok-place_numbers.ensures.long policy is

pub invariant_of-result : goal.invariant_of-result
invariant_of-result g c = record { ordered = subst (λ names. IsTrue (names_rise names)) (sym c.in_ok-to_texts.ensures) c.in_ok-names.ensures.ordered }
