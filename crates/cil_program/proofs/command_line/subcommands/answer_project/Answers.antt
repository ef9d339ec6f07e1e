use Rattle.cil_program.proofs.Common.{◌≡◌, ◌∙◌, ℕ, List, [], codes, ap, unwrap_or, rows_of, refl, sym, subst, Option, None, Some, option_map, Row, Text, for_memory, refusal_text, true, Conditionals, Content, IsProjected, IsToBePrinted, IsWanted, Wanted, conditionals_asked, conditionals_in, files_asked, is_misuse, lacks_memory_for_it, misuse_text, lists_none, wanted_in}
use Rattle.cil_program.proofs.BothLemmas.{both-told, both-wider}
use Rattle.clap.specs.Matches.{found_of}
use Rattle.clap.proofs.WalkLemmas.{raw_values-rows}
use Rattle.cil_program.specs.declared.command_line.conditionals.Misuse.TheVariants.{ListAndOutput, OtherBooleans}
use Rattle.cil_program.proofs.command_line.subcommands.answer_project.Goals as goal

-- what is of what is wanted of the files and of the conditional statements that are asked for is to be printed
to-be : (content : List ℕ → Content) (rows : List Row) {paths : List Text} (wanted : Option Wanted) (asked : Option Conditionals) → IsWanted rows wanted → asked ≡ conditionals_asked rows → paths ≡ files_asked rows
    → (printed told : List ℕ) (status : ℕ) → IsProjected wanted asked content paths printed told status → IsToBePrinted content rows printed told status
to-be content rows wanted asked means is files_are printed told status made = (
  wanted,
  means,
  subst (λ o. IsProjected wanted o content (files_asked rows) printed told status) is (subst (λ ps. IsProjected wanted asked content ps printed told status) files_are made),
)

-- memory may run out for each
no-memory : (wanted : Wanted) (asked : Option Conditionals) (content : List ℕ → Content) (paths : List Text) → IsProjected (Some wanted) asked content paths [] (refusal_text true for_memory) 1
no-memory wanted None content paths = lacks_memory_for_it refl refl refl
no-memory wanted (Some conditionals) content paths = lists_none refl refl refl

pub returns-in_default : goal.returns-in_default
returns-in_default g c =
    let rows = rows_of (found_of c.args.words.now) in
    both-told 2 _ c.write_misuse.ensures c.and.ensures
    (to-be (g.F.TextFiles.content c.args.from.now) rows None (conditionals_asked rows) c.in_default.ensures refl refl [] (misuse_text ListAndOutput) 2 (is_misuse refl refl refl))

pub returns-in-Ok-Some : goal.returns-in-Ok-Some
returns-in-Ok-Some g c =
    let is = sym (ap (option_map conditionals_in) c.in-Ok-Some.field-0-is) ∙ c.in-Ok-Some.ensures in
    let files_are = c.files_or_none.ensures ∙ ap (λ o. unwrap_or o []) (c.get_strs.ensures ∙ raw_values-rows (found_of c.args.words.now) (codes "FILE")) in
    both-wider c.answer_given.result (to-be (g.F.TextFiles.content c.args.from.now) (rows_of (found_of c.args.words.now)) (Some (wanted_in c.in-Some.wanted)) (Some (conditionals_in c.in-Ok-Some.conditionals)) c.in-Some.ensures is files_are) c.answer_given.ensures

pub returns-in-Ok-None : goal.returns-in-Ok-None
returns-in-Ok-None g c =
    let is = sym (ap (option_map conditionals_in) c.in-Ok-None.field-0-is) ∙ c.in-Ok-None.ensures in
    both-told 2 _ c.write_misuse-in-Ok-None.ensures c.and-in-Ok-None.ensures
    (to-be (g.F.TextFiles.content c.args.from.now) (rows_of (found_of c.args.words.now)) (Some (wanted_in c.in-Some.wanted)) None c.in-Some.ensures is refl [] (misuse_text OtherBooleans) 2 (is_misuse refl refl refl))

pub returns-in-Err : goal.returns-in-Err
returns-in-Err g c =
    let content = g.F.TextFiles.content c.args.from.now in
    let rows = rows_of (found_of c.args.words.now) in
    let wanted = wanted_in c.in-Some.wanted in
    both-told 1 _ c.write_no_memory.ensures c.and-in-Err.ensures
    (to-be content rows (Some wanted) (conditionals_asked rows) c.in-Some.ensures refl refl [] (refusal_text true for_memory) 1 (no-memory wanted (conditionals_asked rows) content (files_asked rows)))
