use Rattle.std.proofs.Common.{◌≡◌, ◌<◌, ◌∙◌, Some, length, slice_get, refl, sym, ap, subst}
use Rattle.std.proofs.lemmas.Option.{slice_get_read, slice_get_within}
use Rattle.cil_symbols.proofs.numbering.Numbering.symbol.Goals as goal

pub returns-clause-below : goal.returns-clause-below
returns-clause-below g c =
    let symbol = c.in_ok-symbol.symbol.now in
    let found = c.in_ok-symbol.ensures.lookup in
    let at = slice_get_read c.deref.result.now (length c.deref.result.now) c.args.local symbol refl found.3.0 found.1 in
    let here : slice_get c.self.inside.symbols.items c.args.local ≡ Some symbol = ap (λ l. slice_get l c.args.local) (sym c.deref.ensures.value) ∙ at in
    subst (λ n. symbol < n.count) c.self.view_is (slice_get_within c.self.inside.locals.items symbol (Some c.args.local) (c.self.invariant.forth c.args.local symbol here))
