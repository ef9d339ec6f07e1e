use Rattle.cil_optionals.proofs.ProviderLemmas.{providers-none}
use Rattle.cil_optionals.proofs.kept.all_needs.Goals as goal

pub push_needs-requires-clause-first : goal.push_needs-requires-clause-first
push_needs-requires-clause-first g c = λ all ready. providers-none all c.args.policy.now.rows.items _ c.new-needs.ensures.items
