use Rattle.cil_program.proofs.Common.{true, ap, ap₂, ◌≡◌, ◌∙◌, IfOk-weaker, App, app_of, app_of_fields, on_top, with_subcommand, bare_program}
use Rattle.cil_program.proofs.command_line.words.program.Goals as goal

pub returns : goal.returns
returns c =
    let with_version = ap app_of_fields c.version.ensures ∙ ap (on_top (λ s. record s { has_version = true })) c.new.ensures.app in
    let bare : app_of c.subcommand_required-program.result ≡ bare_program =
    ap app_of_fields c.subcommand_required-program.ensures ∙ ap (on_top (λ s. record s { subcommand_required = true })) (ap app_of_fields c.about.ensures ∙ with_version) in
    let with_session =
    c.in_ok-subcommand.ensures.shape c.new_command-session.ensures.1 ∙ ap₂ with_subcommand bare (ap (λ (a : App). a.top) c.new_command-session.ensures.0) in
    let with_compile =
    c.in_ok-subcommand-2.ensures.shape c.in_ok-compile.ensures.1 ∙ ap₂ with_subcommand with_session (ap (λ (a : App). a.top) c.in_ok-compile.ensures.0) in
    IfOk-weaker c.subcommand-3.result _ _ (λ r a. a.shape c.in_ok-project.ensures.1 ∙ ap₂ with_subcommand with_compile (ap (λ (a : App). a.top) c.in_ok-project.ensures.0)) c.subcommand-3.ensures
