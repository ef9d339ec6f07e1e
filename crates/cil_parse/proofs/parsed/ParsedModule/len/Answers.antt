use Rattle.std.proofs.Common.{◌∙◌}
use Rattle.cil_parse.proofs.ParsedLemmas.{spelt-count}
use Rattle.cil_parse.proofs.parsed.ParsedModule.len.Goals as goal

pub returns-clause-spelt : goal.returns-clause-spelt
returns-clause-spelt g c statements spells = c.len.ensures ∙ c.args.self.now.rows.ok.0 ∙ spelt-count c.args.self.now statements spells
