use Rattle.std.proofs.Common.{◌∙◌, ap}
use Rattle.cil_parse.proofs.ParsedLemmas.{shown-kind}
use Rattle.cil_parse.proofs.parsed.ParsedModule.kind.Goals as goal

pub returns : goal.returns
returns g c statements f spells here =
    ap (λ r. r.kind) c.index.ensures ∙ shown-kind c.args.self.now statements f c.args.i c.index.result.now spells here c.requires
