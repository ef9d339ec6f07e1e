use Rattle.std.proofs.Common.{◌∙◌, subst}
use Rattle.cil_projection.specs.Conditions.{settings_of}
use Rattle.cil_projection.specs.Statements.{Projects}
use Rattle.cil_program.proofs.command_line.foreign.project_file.Goals as goal

pub returns-in_ok-extend_from_slice-in-Ok-clause-ok : goal.returns-in_ok-extend_from_slice-in-Ok-clause-ok
returns-in_ok-extend_from_slice-in-Ok-clause-ok c =
    let projected = c.in-Ok.projected.items in (
      projected,
      subst (λ text. Projects (settings_of c.args.booleans.now) text projected) c.in_ok-text.ensures.ok c.in-Ok.ensures.ok,
      c.shrink_to_fit.ensures.items ∙ c.in_ok-extend_from_slice-in-Ok.ensures.items,
    )
