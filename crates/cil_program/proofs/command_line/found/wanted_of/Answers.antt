use Rattle.cil_program.proofs.Common.{◌∙◌, ap, codes}
use Rattle.clap.specs.Matches.{found_of}
use Rattle.clap.proofs.WalkLemmas.{first_value-rows, one_text-rows}
use Rattle.cil_program.specs.Wanted.{wanted_by}
use Rattle.cil_program.proofs.command_line.found.wanted_of.Goals as goal

pub returns : goal.returns
returns c =
    let found = found_of c.args.words.now in
    let flag = one_text-rows found (codes "list") in
    let folder = c.get_str.ensures ∙ first_value-rows found (codes "output") in (
      c.get_flag.result,
      (λ e. c.get_flag.ensures.value (flag ∙ e), λ e. c.get_flag.ensures.other (flag ∙ e)),
      c.wanted_by.ensures ∙ ap (wanted_by c.get_flag.result) folder,
    )
