use Rattle.std.proofs.Common.{subst}
use Rattle.cil_symbols.specs.Numbered.{AreApart}
use Rattle.cil_symbols.proofs.InverseLemmas.{apart-by}
use Rattle.cil_symbols.proofs.numbering.Numbering.len.Goals as goal

pub returns-clause-apart : goal.returns-clause-apart
returns-clause-apart g c =
    subst (λ n. AreApart n.symbols) c.self.view_is (apart-by c.self.inside.symbols.items c.self.inside.locals.items c.self.invariant)
