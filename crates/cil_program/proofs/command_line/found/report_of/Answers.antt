use Rattle.cil_program.proofs.Common.{◌∙◌, codes, refl, sym, true≢false}
use Rattle.clap.specs.Matches.{found_of}
use Rattle.clap.proofs.WalkLemmas.{one_text-rows}
use Rattle.cil_program.proofs.command_line.found.report_of.Goals as goal

pub returns-then-get_flag : goal.returns-then-get_flag
returns-then-get_flag c =
    let flag = one_text-rows (found_of c.args.words.now) (codes "violations") in
    (λ e. refl, λ e. absurd (true≢false (sym c.if-get_flag.true ∙ c.get_flag.ensures.other (flag ∙ e))))

pub returns-else-get_flag : goal.returns-else-get_flag
returns-else-get_flag c =
    let flag = one_text-rows (found_of c.args.words.now) (codes "violations") in
    (λ e. absurd (true≢false (sym (c.get_flag.ensures.value (flag ∙ e)) ∙ c.if-get_flag.false)), λ e. refl)
