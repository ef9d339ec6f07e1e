-- The names from elsewhere that this crate's contracts cite most, passed on from one place.
pub use Rattle.cil_counters.specs.ChangeCounts.{CountsSome}
pub use Rattle.cil_parse.specs.Parsed.{IsParsed}
pub use Rattle.cil_resolve.specs.Resolved.{meaning_in}
pub use Rattle.cil_rules.specs.Rows.{listed}
pub use Rattle.cil_specs.specs.Meaning.{Meaning, is_in_table, meaning_of}
pub use Rattle.cil_specs.specs.Report.{AreAtoms, Changes, Row, name_cmp, row_line}
pub use Rattle.cil_specs.specs.Violations.{AreViolations, Violation, violations_text}
pub use Rattle.cil_store.specs.Admitted.{IsAdmitted, admitted_edit}
pub use Rattle.cil_store.specs.Calls.{IsCountedStep, IsRefusedStep, batch_reply, call_of, reply_of}
pub use Rattle.cil_store.specs.Counted.{AreCountedBetween, AreCountedChanges, AreCountersOf, IsUncounted, meaning_kept}
pub use Rattle.cil_store.specs.Edits.{edit_of, fault_code, name_of, priority_of, refusal_of, store_refusal_of}
pub use Rattle.cil_store.specs.Refusing.{AreRefused, AreStopped, IsRefusalOf, IsRefusalOfPolicy, IsRefusalOfText, IsRefusedBatch, IsRefusedEdit, IsRefusedPolicy, IsRefusedText}
pub use Rattle.cil_store.specs.Stored.{AreParsedOf, AreSharedOf, entry_of, owned_entry}
pub use Rattle.cil_store_specs.specs.Next.{AreTaken, Edit, IsMeaningOf, IsPolicyOf, IsPolicyRefusal, IsTaken, Judgement, Next, NextOfAll, Of, Refusal, accepts, at_place, changed, for_memory, install, install_of, install_refusal, is_too_long, name_refusal, priority_refusal, remove_refusal, state_refusal, store_refusal}
pub use Rattle.cil_store_specs.specs.Run.{AreRowsOf, AreViolationsOf, Call, Reply, Run, Step, a_batch, an_edit, changed_by, is_answered, refused}
pub use Rattle.cil_store_specs.specs.Store.{Entry, IsStore, Store, active, active_text, empty, entry_at, entry_cmp, has_entry, has_room, is_active, is_entry, is_installed, put, put_name, text_bytes, without, without_name}
pub use Rattle.cil_stream.specs.Device.{Gains, GainsFront, HasFailed}
pub use Rattle.std.specs.List.{list_all, list_any, prefix_len}
pub use Rattle.std.specs.Ordering.{is_lt}
