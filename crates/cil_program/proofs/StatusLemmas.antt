-- Each exit status is 3 at most.
use Rattle.cil_program.proofs.Common.{◌≤◌, ℕ, List, [], ◌∷◌, Bool, Option, None, Some, arith, Row, Compiles, Content, Entry, AnswersByNames, AnswersProjected, Conditionals, Foreign, IsCompiled, IsProjected, IsToBePrinted, IsToBeWritten, Wanted, answers, are_compiled, are_counted, are_not_held, are_printed, are_stored, by_names, compiles, conditionals_asked, files_asked, foreign_asked, is_misuse, is_not_held, is_refused, is_unreadable, lacks_memory, lacks_memory_for_it, lists, lists_none, misused, none_held, one_unreadable, one_unwritable, refused_foreign, tells}
use Rattle.cil_projection.specs.Statements.{Counts}
use Rattle.cil_program.specs.ByNames.{one_not_projected}
use Rattle.cil_program.specs.CommandLine.{CompilesFiles}
use Rattle.cil_program.specs.Given.{AnswersGiven, answers_files}
use Rattle.cil_program.specs.Program.{TellsMisuse}
use Rattle.cil_program.specs.declared.command_line.compile.Report.{Report}
use Rattle.cil_program.specs.declared.command_line.conditionals.Misuse.{Misuse}

module _ (printed told : List ℕ) (status : ℕ) where
  compiles-low : (explained : Bool) (entries : List Entry) (report : Report) (answer : List ℕ) → Compiles explained entries report printed answer status → status ≤ 3
  compiles-low explained entries report answer (lists store rows asked of are prints tells_none is) = omega (arith, is)
  compiles-low explained entries report answer (tells store [] asked of are prints tells_none is) = omega (arith, is)
  compiles-low explained entries report answer (tells store (v ∷ vs) asked of are prints tells_none is) = omega (arith, is)
  compiles-low explained entries report answer (is_refused refusal of prints tells_it is) = omega (arith, is)
  compiles-low explained entries report answer (lacks_memory prints tells_it is) = omega (arith, is)

  projected-low : (paths projected : List (List ℕ)) (counts : Counts) (wanted : Wanted) (answer : List ℕ) → AnswersProjected paths projected counts wanted printed answer status → status ≤ 3
  projected-low paths projected counts wanted answer (are_compiled report entries behind asked are made tells_it) = compiles-low _ entries report behind made
  projected-low paths projected counts wanted answer (are_printed asked prints tells_it is) = omega (arith, is)
  projected-low paths projected counts wanted answer (are_counted asked prints tells_it is) = omega (arith, is)
  projected-low paths projected counts wanted answer (are_stored folder asked prints tells_it is) = omega (arith, is)
  projected-low paths projected counts wanted answer (one_unwritable folder path target reason asked among at prints tells_it is) = omega (arith, is)
  projected-low paths projected counts wanted answer (are_not_held prints tells_it is) = omega (arith, is)

  names-low : (content : List ℕ → Content) (paths : List (List ℕ)) (conditionals : Conditionals) (wanted : Wanted) (answer : List ℕ) → AnswersByNames content paths conditionals wanted printed answer status → status ≤ 3
  names-low content paths conditionals wanted answer (answers texts projected counts read are made) = projected-low paths projected counts wanted answer made
  names-low content paths conditionals wanted answer (one_unreadable path reason among unread prints tells_it is) = omega (arith, is)
  names-low content paths conditionals wanted answer (one_not_projected path text name hint refusal among read names isnt prints tells_it is) = omega (arith, is)
  names-low content paths conditionals wanted answer (none_held prints tells_it is) = omega (arith, is)

  given-low : (content : List ℕ → Content) (given : List (List ℕ)) (conditionals : Conditionals) (wanted : Wanted) → AnswersGiven content given conditionals wanted printed told status → status ≤ 3
  given-low content given conditionals wanted (answers_files paths names answer stand named made tells_it) = names-low content paths conditionals wanted answer made
  given-low content given conditionals wanted (lists_none prints tells_it is) = omega (arith, is)

  misuse-low : (misuse : Misuse) → TellsMisuse misuse printed told status → status ≤ 3
  misuse-low misuse (is_misuse prints tells_it is) = omega (arith, is)
  misuse-low misuse (lacks_memory_for_it prints tells_it is) = omega (arith, is)

  files-low : (content : List ℕ → Content) (paths : List (List ℕ)) (report : Report) → CompilesFiles content paths report printed told status → status ≤ 3
  files-low content paths report (compiles entries all made) = compiles-low _ entries report told made
  files-low content paths report (is_unreadable path among unread prints tells_it is) = omega (arith, is)
  files-low content paths report (is_not_held prints tells_it is) = omega (arith, is)

  compiled-low : (foreign : Foreign) (content : List ℕ → Content) (paths : List (List ℕ)) (report : Report) → IsCompiled foreign content paths report printed told status → status ≤ 3
  compiled-low refused_foreign content paths report made = files-low content paths report made
  compiled-low (by_names conditionals) content paths report made = given-low content paths conditionals _ made
  compiled-low (misused misuse) content paths report made = misuse-low misuse made

  asked-low : (wanted : Option Wanted) (conditionals : Option Conditionals) (content : List ℕ → Content) (paths : List (List ℕ)) → IsProjected wanted conditionals content paths printed told status → status ≤ 3
  asked-low None conditionals content paths made = misuse-low _ made
  asked-low (Some wanted) None content paths made = misuse-low _ made
  asked-low (Some wanted) (Some conditionals) content paths made = given-low content paths conditionals wanted made

  pub written-low : (content : List ℕ → Content) (rows : List Row) → IsToBeWritten content rows printed told status → status ≤ 3
  written-low content rows (report, asked, made) = compiled-low (foreign_asked rows) content (files_asked rows) report made

  pub printed-low : (content : List ℕ → Content) (rows : List Row) → IsToBePrinted content rows printed told status → status ≤ 3
  printed-low content rows (wanted, asked, made) = asked-low wanted (conditionals_asked rows) content (files_asked rows) made
