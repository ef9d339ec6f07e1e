use Rattle.std.proofs.Common.{sym, ◌∙◌, subst, true≢false}
use Rattle.cil_optionals.specs.Given.{permissions_in, AreRecent}
use Rattle.cil_optionals.proofs.ListedLemmas.{recent-none}
use Rattle.cil_optionals.proofs.permissions.Permissions.of.Goals as goal

pub invariant_of-result-clause-recent_are : goal.invariant_of-result-clause-recent_are
invariant_of-result-clause-recent_are g c = subst (AreRecent (permissions_in c.args.listed.now)) (sym c.requires.recent) (recent-none (permissions_in c.args.listed.now) 4096)

pub invariant_of-result-clause-known_are : goal.invariant_of-result-clause-known_are
invariant_of-result-clause-known_are g c = λ number list place is. absurd (true≢false (sym is ∙ c.new.ensures number list place))
