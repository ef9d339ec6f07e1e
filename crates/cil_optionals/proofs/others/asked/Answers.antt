use Rattle.cil_optionals.proofs.Common.{sym, ◌∙◌, subst, None, arith, AddsNeed, optional_at, IsReady}
use Rattle.cil_optionals.proofs.AsksLemmas.{row-one, around-low}
use Rattle.cil_optionals.proofs.ProviderLemmas.{statement-at}
use Rattle.cil_optionals.proofs.OthersLemmas.{asks-there, asks-lacking}
use Rattle.cil_optionals.proofs.others.asked.Goals as goal

pub overflow_cast-index : goal.overflow_cast-index
overflow_cast-index g c =
    let r = c.requires.ready in
    let p = c.args.policy.now in
    let low = around-low p c.args.joined.now.modules.items r.0 c.args.i c.index.result.now r.1 c.requires.within c.index.ensures in
    let size = p.rows.ok.0 in
    omega (arith, low, size)

pub references-requires : goal.references-requires
references-requires g c =
    let r = c.requires.ready in
    let parsed = c.args.joined.now.modules.items in
    let (s, at) = statement-at c.args.policy.now parsed r.0 c.args.i r.1 c.requires.within in
    record { ready = (r.0, s, r.1, at, c.module_of-module.ensures r.0 s r.1 at) }

pub are_there-requires : goal.are_there-requires
are_there-requires g c =
    let r = c.requires.ready in
    let p = c.args.policy.now in
    let (s, at) = statement-at p c.args.joined.now.modules.items r.0 c.args.i r.1 c.requires.within in
    (r.0, s, subst (λ j. IsReady p j.modules.items r.0) (sym c.requires.same) r.1, at)

pub returns-in_ok-add_need-clause-asks : goal.returns-in_ok-add_need-clause-asks
returns-in_ok-add_need-clause-asks g c = λ all s ready permissions at.
    let p = c.args.policy.now in
    let of = c.module_of-module.ensures all s ready at in
    let number = (row-one p c.module_of-module.result.now c.args.i s c.index.result.now of c.index.ensures).1 in
    asks-lacking all (optional_at p c.args.i) s c.args.needs.now.items c.references.new.needs.items c.add_need.new.needs.items ready.apart
    (sym (c.in_ok-are_there.ensures.there all s (subst (λ j. IsReady c.args.policy.now j.modules.items all) (sym c.requires.same) ready) permissions at) ∙ c.if-not-branch.true)
    (subst (λ o. AddsNeed c.references.new.needs.items c.add_need.new.needs.items o None) (sym number) c.in_ok-add_need.ensures)
    (c.in_ok-references.ensures all s ready at of)

pub returns-else-not-branch-clause-asks : goal.returns-else-not-branch-clause-asks
returns-else-not-branch-clause-asks g c = λ all s ready permissions at.
    let of = c.module_of-module.ensures all s ready at in
    asks-there all (optional_at c.args.policy.now c.args.i) s c.args.needs.now.items c.references.new.needs.items ready.apart
    (sym (c.in_ok-are_there.ensures.there all s (subst (λ j. IsReady c.args.policy.now j.modules.items all) (sym c.requires.same) ready) permissions at) ∙ c.if-not-branch.false)
    (c.in_ok-references.ensures all s ready at of)
