-- Counts of work.
use Rattle.std.specs.Prelude.{ℕ}
use Rattle.cil_resolve.specs.declared.meter.Meter.{Meter}

abbrev pub evaluations_in : Meter → ℕ
evaluations_in m = m.evaluations

abbrev pub adjustments_in : Meter → ℕ
adjustments_in m = m.adjustments
