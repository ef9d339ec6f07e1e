-- What a writer does to its sink.
use Rattle.std.specs.Prelude.{ℕ, ◌≤◌, ◌++◌, List, codes, decimal, Option, Result, OnOk, OnErr}
use Rattle.cil_symbol_changes.specs.declared.counted_changes.ChangeCounts.{ChangeCounts}
use Rattle.cil_stream.specs.Device.{HasFailed, Gains, GainsFront}
use Rattle.cil_stream.specs.declared.sink.SinkFault.{SinkFault}

-- A text was written to a sink, which tells what it took and how often it failed: it took the text as a whole, or failed behind a
-- beginning of it.
pub record Writes {W : Type 0} (taken : W → Option (List ℕ)) (failures : W → ℕ) (old new : W) (text : List ℕ)
    (result : Result (Unit {0}) SinkFault) : Type 0 where
  pub ok : OnOk result (Gains (taken old) (taken new) text)
  pub err : OnErr result (GainsFront (taken old) (taken new) text)
  pub failed : OnErr result (HasFailed (failures old) (failures new))
  pub counted : failures old ≤ failures new

-- the line of an accepted batch, by how many accesses came and went
abbrev pub counts_line : ChangeCounts → List ℕ
counts_line counts = codes "ok " ++ decimal counts.added ++ codes " " ++ decimal counts.removed ++ codes "\n"
