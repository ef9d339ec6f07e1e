-- The names from elsewhere that this crate's contracts cite most, passed on from one place.
pub use Rattle.cil_session.specs.Batch.{Adds, CanHold, IsGiven, IsOpen, behind_fault, given_up, held_answer, held_of}
pub use Rattle.cil_session.specs.Command.{IsLine, IsNoCommandLine, IsNoQuestion, command_of, question_asked}
pub use Rattle.cil_session.specs.HeldEdit.{held_edit}
pub use Rattle.cil_session.specs.Input.{Fits, HasStopped}
pub use Rattle.cil_session.specs.Reply.{Writes, counts_line}
pub use Rattle.cil_session.specs.Session.{AnswersBatch, Comes, Does, EndsSo, IsAnswerFor, IsInstallCut, IsInstallOutcome, IsLast, IsLeftAside, IsLineCut, IsOutcome, IsSessionCut, IsTurn, IsTurnCut, Leaves, LeavesByRead, LeavesByWrite, Makes, Tries, answer_aside, batch_behind, end_of, exit_status_of, point, standing, state_with, status_of, told, turn_of}
pub use Rattle.cil_store.specs.Edits.{edit_of, refusal_of, store_refusal_of}
pub use Rattle.cil_store.specs.Stored.{entry_of}
pub use Rattle.cil_store_specs.specs.Answers.{Answers, a_line, a_refusal, answer_of, held_as, state_of}
pub use Rattle.cil_store_specs.specs.Next.{IsMeaningOf, at_place, by_store, for_memory, install}
pub use Rattle.cil_store_specs.specs.Run.{dropped_optionals, refused}
pub use Rattle.cil_store_specs.specs.Script.{Command, Commands, End, aborts, asks_dropped, asks_dump, asks_modules, asks_rules, asks_violations, begins, commits, dump_commands, dump_edits, dump_text, end_line, last_line, makes, refusal_line, reply_text, stops}
pub use Rattle.cil_store_specs.specs.Session.{BeginsWith, IsCutByRead, IsCutByWrite, IsSession, last_end}
pub use Rattle.cil_store_specs.specs.Store.{IsStore, Store, empty}
pub use Rattle.cil_stream.specs.Device.{Gains, GainsFront, Gives, HasEnded, HasFailed, has_ended}
pub use Rattle.std.specs.List.{list_all}
