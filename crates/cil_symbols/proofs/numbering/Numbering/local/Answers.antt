use Rattle.std.proofs.Common.{◌∙◌, ap, arith, length, slice_get, Some}
use Rattle.std.proofs.lemmas.Option.{none-some, slice_get_within}
use Rattle.cil_symbols.proofs.numbering.Numbering.local.Goals as goal

pub returns-in-None : goal.returns-in-None
returns-in-None g c k = (
  λ is. absurd (none-some k is),
  λ at.
      let has = c.self.invariant.forth k c.args.symbol (ap (λ n. slice_get n.symbols k) c.self.view_is ∙ at) in
      let within = slice_get_within c.self.inside.locals.items c.args.symbol (Some k) has in
      let past = c.in-None.ensures.lookup.3 in
      let long = ap length c.deref.ensures.value in
      absurd (omega (arith, within, past, long)),
)
