-- The names from elsewhere that this crate's contracts cite most, passed on from one place.
pub use Rattle.cil_program.specs.CommandLine.{AnswersSession, AsksSession, Compiles, CompilesFiles, Content, IsReadOf, IsTold, OrLacksMemory, Tells, WritesBoth, told_by, unreadable_line, untold}
pub use Rattle.cil_program.specs.ByNames.{AnswersByNames, AnswersFor}
pub use Rattle.cil_program.specs.Conditionals.{conditionals_in, foreign_in, misuse_text}
pub use Rattle.cil_program.specs.Given.{AnswersGiven}
pub use Rattle.cil_program.specs.Program.{AnswersCompile, AnswersProject, IsReportAsked, IsToBePrinted, IsToBeWritten, IsWanted, WhereAsked, compile_app, conditionals_asked, foreign_asked, program_app, project_app}
pub use Rattle.cil_program.specs.Targets.{IsStored}
pub use Rattle.cil_program.specs.Wanted.{compiled, in_folder, wanted_in}
pub use Rattle.cil_session.specs.Reply.{Writes}
pub use Rattle.cil_store.specs.Edits.{refusal_of}
pub use Rattle.cil_store.specs.Stored.{owned_entry}
pub use Rattle.cil_store_specs.specs.Next.{IsMeaningOf, Of, accepts, at_place, by_store, for_memory}
pub use Rattle.cil_store_specs.specs.Script.{refusal_line}
pub use Rattle.cil_store_specs.specs.Store.{Store}
pub use Rattle.cil_stream.specs.Device.{Gains, GainsFront, HasFailed}
pub use Rattle.clap.specs.Words.{app_of, found_of, kind_of, rows_of, subcommand_name_of, subcommand_of, subcommand_rows_of, takes}
pub use Rattle.clap.specs.declared.error.kind.ErrorKind.TheVariants.{OutOfMemory}
