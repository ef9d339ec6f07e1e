use Rattle.std.proofs.Common.{◌∙◌, ap}
use Rattle.cil_projection.specs.Pieces.{taken}
use Rattle.cil_projection.specs.Statements.{Counts, counted}
use Rattle.cil_projection.proofs.TallyLemmas.{counted_again}
use Rattle.cil_projection.proofs.tally.Tally.add.Goals as goal

pub returns : goal.returns
returns g c =
    let inside = c.self.inside in
    let before : Counts = record { keywords = inside.keywords; numbers = inside.numbers.items; statements = inside.statements } in
    counted_again before c.args.keyword.now c.in-Some.place c.index.result.now c.saturating_add.result c.saturating_add-self-inside.result c.self.invariant c.in-Some.ensures c.index.ensures
    c.saturating_add.ensures c.saturating_add-self-inside.ensures
    ∙ ap (λ counts. counted counts (taken c.args.keyword.now)) c.self.view_is
