use Rattle.cil_optionals.proofs.Common.{true, false, sym, ◌∙◌, permissions_in, Permission}
use Rattle.cil_optionals.proofs.ListedLemmas.{answers-after}
use Rattle.cil_optionals.proofs.permissions.Permissions.answer.Goals as goal

pub invariant_of-self-clause-held_are : goal.invariant_of-self-clause-held_are
invariant_of-self-clause-held_are g c =
    let p : Permission = record { place = c.args.class; name = c.args.name } in
    answers-after c.insert.result (permissions_in c.args.self.now.listed.now) c.args.self.now.held.keys c.insert.new.self.keys p true c.insert.ensures.keys c.insert.ensures.err
    (sym c.has.ensures ∙ c.if-has.true) c.args.self.now.held_are

pub invariant_of-self-2-clause-lacked_are : goal.invariant_of-self-2-clause-lacked_are
invariant_of-self-2-clause-lacked_are g c =
    let p : Permission = record { place = c.args.class; name = c.args.name } in
    answers-after c.insert-2.result (permissions_in c.args.self.now.listed.now) c.args.self.now.lacked.keys c.insert-2.new.self.keys p false c.insert-2.ensures.keys c.insert-2.ensures.err
    (sym c.has.ensures ∙ c.if-has.false) c.args.self.now.lacked_are
