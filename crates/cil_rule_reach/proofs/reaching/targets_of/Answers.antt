use Rattle.std.proofs.Common.{◌∙◌, ap, arith, refl, sym}
use Rattle.std.proofs.lemmas.Bool.{ne_eqb}
use Rattle.cil_rule_shifts.proofs.ReachLemmas.{takes-itself, takes-these}
use Rattle.cil_rule_reach.specs.Reaches.{aims_by, members_of}
use Rattle.cil_rule_reach.proofs.reaching.targets_of.Goals as goal

pub returns-in-Itself-clause-targets : goal.returns-in-Itself-clause-targets
returns-in-Itself-clause-targets g c s t = takes-itself _ s refl t ∙ sym (ap (λ target. aims_by (members_of c.args.members.now) c.args.numbering.now.symbols target s t) c.in-Itself.is)

pub returns-in-Itself-clause-short : goal.returns-in-Itself-clause-short
returns-in-Itself-clause-short g c s t low past = takes-itself _ s refl t ∙ ne_eqb s t (λ e. omega (arith, e, low, past))

pub returns-in_ok-types-in-Element-clause-targets : goal.returns-in_ok-types-in-Element-clause-targets
returns-in_ok-types-in-Element-clause-targets g c s t =
    takes-these _ s c.in_ok-types-in-Element.types refl t ∙ c.in_ok-types-in-Element.ensures.types t ∙ sym (ap (λ target. aims_by (members_of c.args.members.now) c.args.numbering.now.symbols target s t) c.in-Element.is)

pub returns-in_ok-types-in-Element-clause-short : goal.returns-in_ok-types-in-Element-clause-short
returns-in_ok-types-in-Element-clause-short g c s t low past = takes-these _ s c.in_ok-types-in-Element.types refl t ∙ c.in_ok-types-in-Element.ensures.short t (omega (arith, past))
