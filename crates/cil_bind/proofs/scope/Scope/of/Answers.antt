use Rattle.std.proofs.Common.{bytes_eq, refl, sym, subst}
use Rattle.std.specs.List.{IsDistinct}
use Rattle.cil_bind.proofs.PlaceLemmas.{stands-first}
use Rattle.cil_bind.proofs.scope.Scope.of.Goals as goal

pub returns-clause-stands : goal.returns-clause-stands
returns-clause-stands g c = λ modules are.
    let made = c.in_ok-scope.ensures in
    c.in_ok-add_all.ensures.stands modules are (stands-first _ _ _ _ made.namespaces made.rows refl (subst (IsDistinct bytes_eq) (sym made.names) c.requires.distinct))
