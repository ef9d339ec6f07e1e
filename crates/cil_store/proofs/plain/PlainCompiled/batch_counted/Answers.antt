use Rattle.cil_store.proofs.plain.PlainCompiled.batch_counted.Goals as goal

pub returns-in-Ok-clause-ok : goal.returns-in-Ok-clause-ok
returns-in-Ok-clause-ok g c = record {
  changes = c.in-Ok.changes;
  those = c.in-Ok.ensures;
  are_counts = record { added = c.added_len.ensures; removed = c.removed_len.ensures };
}
