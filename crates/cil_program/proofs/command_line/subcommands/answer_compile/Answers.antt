use Rattle.cil_program.proofs.Common.{◌≡◌, ◌≢◌, ◌∙◌, ℕ, List, [], codes, ap, unwrap_or, rows_of, misuse_text, refl, sym, subst, Row, Text, for_memory, refusal_text, true, Content, Foreign, IsCompiled, IsReportAsked, IsToBeWritten, by_names, conditionals_in, files_asked, foreign_asked, foreign_in, is_misuse, lacks_memory_for_it, misused, lists_none, refused_foreign}
use Rattle.cil_program.proofs.BothLemmas.{both-told, both-wider}
use Rattle.clap.specs.Matches.{found_of}
use Rattle.clap.proofs.WalkLemmas.{raw_values-rows}
use Rattle.cil_program.specs.declared.command_line.compile.Report.{Report}
use Rattle.cil_program.proofs.command_line.subcommands.answer_compile.Goals as goal

-- what is of the files, the report and the statements outside the language that are asked for is to be written
to-be : (content : List ℕ → Content) (rows : List Row) {paths : List Text} {report : Report} (foreign : Foreign) → foreign ≡ foreign_asked rows → paths ≡ files_asked rows → IsReportAsked rows report
    → (printed told : List ℕ) (status : ℕ) → IsCompiled foreign content paths report printed told status → IsToBeWritten content rows printed told status
to-be content rows {report = report} foreign foreign_is files_are is printed told status made = (
  report,
  is,
  subst (λ f. IsCompiled f content (files_asked rows) report printed told status) foreign_is (subst (λ ps. IsCompiled foreign content ps report printed told status) files_are made),
)

-- memory may run out for each that isn't refused
no-memory : (foreign : Foreign) (content : List ℕ → Content) (paths : List Text) (report : Report) → foreign ≢ refused_foreign → IsCompiled foreign content paths report [] (refusal_text true for_memory) 1
no-memory refused_foreign content paths report isnt = absurd (isnt refl)
no-memory (by_names conditionals) content paths report isnt = lists_none refl refl refl
no-memory (misused misuse) content paths report isnt = lacks_memory_for_it refl refl refl

pub returns-in-Ok-Refused : goal.returns-in-Ok-Refused
returns-in-Ok-Refused g c =
    let foreign_is = sym (ap foreign_in c.in-Ok-Refused.field-0-is) ∙ c.in-Ok-Refused.ensures.ok in
    let files_are = c.files_or_none-paths.ensures ∙ ap (λ o. unwrap_or o []) (c.get_strs.ensures ∙ raw_values-rows (found_of c.args.words.now) (codes "FILE")) in
    both-wider c.compile_files.result (to-be (g.F.TextFiles.content c.args.from.now) (rows_of (found_of c.args.words.now)) refused_foreign foreign_is files_are c.report_of-report.ensures) c.compile_files.ensures

pub returns-in-Ok-ByNames : goal.returns-in-Ok-ByNames
returns-in-Ok-ByNames g c =
    let foreign_is = sym (ap foreign_in c.in-Ok-ByNames.field-0-is) ∙ c.in-Ok-ByNames.ensures.ok in
    let files_are = c.files_or_none-paths.ensures ∙ ap (λ o. unwrap_or o []) (c.get_strs.ensures ∙ raw_values-rows (found_of c.args.words.now) (codes "FILE")) in
    both-wider c.answer_given.result (to-be (g.F.TextFiles.content c.args.from.now) (rows_of (found_of c.args.words.now)) (by_names (conditionals_in c.in-Ok-ByNames.conditionals)) foreign_is files_are c.report_of-report.ensures) c.answer_given.ensures

pub returns-in-Ok-Misused : goal.returns-in-Ok-Misused
returns-in-Ok-Misused g c =
    let foreign_is = sym (ap foreign_in c.in-Ok-Misused.field-0-is) ∙ c.in-Ok-Misused.ensures.ok in
    let files_are = c.files_or_none-paths.ensures ∙ ap (λ o. unwrap_or o []) (c.get_strs.ensures ∙ raw_values-rows (found_of c.args.words.now) (codes "FILE")) in
    both-told 2 _ c.write_misuse.ensures c.and.ensures (to-be (g.F.TextFiles.content c.args.from.now) (rows_of (found_of c.args.words.now)) (misused c.in-Ok-Misused.misuse) foreign_is files_are c.report_of-report.ensures [] (misuse_text c.in-Ok-Misused.misuse) 2 (is_misuse refl refl refl))

pub returns-in-Err : goal.returns-in-Err
returns-in-Err g c =
    let content = g.F.TextFiles.content c.args.from.now in
    let rows = rows_of (found_of c.args.words.now) in
    both-told 1 _ c.write_no_memory.ensures c.and-in-Err.ensures
    (to-be content rows (foreign_asked rows) refl refl c.report_of-report.ensures [] (refusal_text true for_memory) 1 (no-memory (foreign_asked rows) content (files_asked rows) c.report_of-report.result c.in-Err.ensures.err))
