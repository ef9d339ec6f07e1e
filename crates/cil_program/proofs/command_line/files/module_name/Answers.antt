use Rattle.std.proofs.Common.{◌∙◌, ◌++◌, inl, ap₂, sym, subst, length, ◌-◌}
use Rattle.std.proofs.lemmas.List.{take-append-drop}
use Rattle.std.specs.Cmp.Lexicographic.{same_text}
use Rattle.cil_program.specs.CommandLine.{IsBaseName}
use Rattle.cil_program.proofs.command_line.files.module_name.Goals as goal

pub returns-in-Some : goal.returns-in-Some
returns-in-Some c =
    let base = c.as_bytes-base.result.now in
    let cut = c.in-Some.ensures.cases in
    (base, subst (IsBaseName c.args.path.now) (sym c.as_bytes-base.ensures.value) c.base_name.ensures, inl (sym (take-append-drop (length base - 4) base) ∙ ap₂ (λ a b. a ++ b) (sym cut.1) (same_text _ _ (sym cut.0))))
