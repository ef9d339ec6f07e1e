-- In the policy of a store blocks, classes and commons stand in no optional.
use Rattle.cil_store_specs.proofs.Common.{◌≡◌, true, false, List, [], ◌∷◌, sym, subst, AllByRecursion, Module, Placed, Entry, Store, active, AreModules, IsPolicyOf}
use Rattle.cil_specs.specs.Statements.{are_apart}
use Rattle.cil_specs.specs.Kept.{AreApart}
use Rattle.cil_specs.proofs.ApartLemmas.{joined-apart}
use Rattle.cil_specs.proofs.ShapeLemmas.{shapes_apart}

modules-apart : (entries : List Entry) (modules : List Module) → AreModules entries modules → AllByRecursion (λ m. are_apart false m.statements ≡ true) modules
modules-apart [] [] are = tt
modules-apart [] (m ∷ modules) are = absurd are
modules-apart (e ∷ entries) [] are = absurd are
modules-apart (e ∷ entries) (m ∷ modules) are = (shapes_apart m.statements false are.1.trees are.1.shapes, modules-apart entries modules are.2)

pub policy-of-apart : (store : Store) (policy : List Placed) → IsPolicyOf store policy → AreApart policy
policy-of-apart store policy is = subst AreApart (sym is.2) (joined-apart is.0 (modules-apart (active store) is.0 is.1))
