-- The names from elsewhere that this crate's proofs cite most, passed on from one place.
pub use Rattle.cil_program.specs.ByNames.{AnswersByNames, AnswersProjected, answers, are_compiled, are_counted, are_not_held, are_printed, are_stored, hint_by, none_held, note_line, one_unreadable, one_unwritable, unreadable_text}
pub use Rattle.cil_program.specs.CommandLine.{Compiles, Content, IsBaseName, IsEntryAt, IsEntryFor, IsReadOf, compiles, is_not_held, is_refused, is_unreadable, lacks_memory, lists, status_of_violations, tells, unreadable_line, untold, Tells, WritesBoth}
pub use Rattle.cil_program.specs.Conditionals.{Conditionals, Foreign, by_names, conditionals_in, foreign_in, misuse_text, misused, refused as refused_foreign}
pub use Rattle.cil_program.specs.Given.{lists_none}
pub use Rattle.cil_program.specs.Meanings.{refusal_text}
pub use Rattle.cil_program.specs.Program.{IsCompiled, IsProjected, IsReportAsked, IsToBePrinted, IsToBeWritten, IsWanted, bare_program, conditionals_asked, files_asked, foreign_asked, is_misuse, lacks_memory_for_it, program_app}
pub use Rattle.cil_program.specs.Wanted.{Wanted, wanted_in}
pub use Rattle.cil_session.specs.Reply.{Writes}
pub use Rattle.cil_session.specs.Session.{Leaves, LeavesByRead, LeavesByWrite, exit_status_of}
pub use Rattle.cil_session.specs.declared.outcome.SessionFault.{SessionFault}
pub use Rattle.cil_session.specs.declared.outcome.SessionFault.TheVariants.{Read, Write}
pub use Rattle.cil_session.specs.declared.outcome.Status.{Status}
pub use Rattle.cil_specs.specs.Report.{row_line}
pub use Rattle.cil_store.specs.Edits.{refusal_of}
pub use Rattle.cil_store.specs.Stored.{owned_entry}
pub use Rattle.cil_store_specs.specs.Next.{at_place, by_store, for_memory, install_of}
pub use Rattle.cil_store_specs.specs.Script.{refusal_line}
pub use Rattle.cil_store_specs.specs.Store.{Entry, Store, empty}
pub use Rattle.cil_stream.proofs.Gaining.{failed-later, front-longer, gains-both, gains-none, gains-then_front}
pub use Rattle.cil_stream.specs.Device.{Gains, GainsFront, HasFailed}
pub use Rattle.clap.specs.Simple.{App, app_of, app_of_fields, is_simple, on_top, subcommand_of, with_rule, with_subcommand}
pub use Rattle.clap.specs.Walk.{Row, Text, rows_of}
pub use Rattle.std.proofs.Common.{All, Bool, Err, IfOk, IsErr, List, None, Ok, OnErr, OnOk, Option, Result, Some, [], ap, append-nil, ap₂, arith, codes, drop, false, inl, inr, length, map, option_map, refl, rules, subst, sym, take, true, true≢false, unwrap_or, ℕ, ◌++◌, ◌<◌, ◌||◌, ◌∙◌, ◌∷◌, ◌≡◌, ◌≢◌, ◌≤◌, ◌⊎◌}
pub use Rattle.std.proofs.lemmas.List.{map-append, take-append-drop, take_all, take_more}
pub use Rattle.std.proofs.lemmas.Result.{IfErr-weaker, IfOk-weaker}
pub use Rattle.std.specs.List.{AllZip, flat_map}
