use Rattle.cil_parse.proofs.Common.{IsFirstShapeFault, forest_of, handed_on, flat}
use Rattle.cil_parse.proofs.ParsedLemmas.{owned-spells}
use Rattle.cil_parse.proofs.parsed.ParsedModule.of.Goals as goal

pub owned-requires : goal.owned-requires
owned-requires g c =
    let over = c.in_ok-go_over.ensures.ok c.new-builder.ensures in
    (flat 0 0 0 over.statements, over.at)

pub returns-in_err-go_over-clause-err : goal.returns-in_err-go_over-clause-err
returns-in_err-go_over-clause-err g c =
    handed_on (IsFirstShapeFault (forest_of c.args.forest)) c.from_residual.result c.in_err-go_over.field-0.0 c.from_residual.ensures.1 c.in_err-go_over.ensures.err

pub returns-clause-ok : goal.returns-clause-ok
returns-clause-ok g c =
    let over = c.in_ok-go_over.ensures.ok c.new-builder.ensures in
    record { statements = over.statements; shapes = over.shapes; spells = owned-spells c.go_over.new.self c.in_ok-parsed.parsed over.statements over.at c.in_ok-parsed.ensures }
