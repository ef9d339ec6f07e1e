use Rattle.cil_parse.proofs.PlaceLemmas.{puts-head}
use Rattle.cil_parse.specs.declared.row.Row.{Row}
use Rattle.cil_parse.proofs.builder.Builder.head.Goals as goal

pub returns : goal.returns
returns g c =
    let row : Row = record { at = c.at.result; kind = c.kind.result; around = c.args.around } in
    puts-head c.args.self.now c.content.new.self c.close.new.self c.args.around c.args.statement.now row c.in_ok-content.ensures c.in_ok-close.ensures
    (λ i. (c.at.ensures i, c.kind.ensures i, c.args.around.block, c.args.around.optional))
