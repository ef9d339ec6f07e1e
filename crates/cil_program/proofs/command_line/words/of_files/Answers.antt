use Rattle.cil_program.proofs.Common.{false, ap₂, refl, ◌≡◌, ◌∙◌, ◌||◌, IfOk-weaker, with_rule}
use Rattle.clap.specs.declared.builder.command.Command.TheViews.{out-Command}
use Rattle.cil_program.proofs.command_line.words.of_files.Goals as goal

pub returns : goal.returns
returns c =
    let first = c.in_ok-command.ensures in
    let first_is = first.shape c.requires.first_local in
    let first_local = first.globals ∙ ap₂ (λ a b. a || b) c.requires.local c.requires.first_local in
    let second = c.in_ok-command-2.ensures in
    let second_is = second.shape c.requires.second_local ∙ ap₂ with_rule first_is refl in
    let second_local = second.globals ∙ ap₂ (λ a b. a || b) first_local c.requires.second_local in
    let third = c.in_ok-command-3.ensures in
    let third_is = third.shape c.value_option.ensures.local ∙ ap₂ with_rule second_is c.value_option.ensures.rule in
    let third_local : (out-Command c.in_ok-command-3.command).has_globals ≡ false =
    third.globals ∙ ap₂ (λ a b. a || b) second_local c.value_option.ensures.local in
    let files = c.files_argument.ensures in
    IfOk-weaker c.arg-4.result _ _ (λ r a. (a.shape files.local ∙ ap₂ with_rule third_is files.rule, a.globals ∙ ap₂ (λ a b. a || b) third_local files.local)) c.arg-4.ensures
