use Rattle.std.proofs.Common.{◌∙◌, sym, true≢false}
use Rattle.cil_resolve.proofs.NumberOf.{not-there}
use Rattle.cil_resolve.proofs.resolved.Resolved.number.Goals as goal

pub returns-else-is_number-clause-none : goal.returns-else-is_number-clause-none
returns-else-is_number-clause-none g c =
    not-there c.args.self.now.names.items c.args.name.now c.place-place.result c.args.self.now.ordered c.place-place.ensures
    (λ there. true≢false (sym (c.is_number.ensures.1 there) ∙ c.if-is_number.false))
