use Rattle.cil_symbol_changes.proofs.Common.{◌-◌, ◌^◌, ◌<◌, length}
use Rattle.cil_keyed_lines.specs.Past.{AreOwnFrom}
use Rattle.cil_symbol_changes.proofs.WordCountLemmas.{AreBefore}
use Rattle.cil_symbol_changes.proofs.counted_changes.own_counts.Given as goal

-- the targets of the words of the changes so far are counted
abbrev pub invariant-loop-change : goal.invariant-loop-change
invariant-loop-change g l = record {
  fits : l.from < 2 ^ 64;
  own : AreOwnFrom l.lines l.past l.place l.from l.at;
  counted : AreBefore l.lines l.place l.from l.counts;
}

abbrev pub decreases-loop-change : goal.decreases-loop-change
decreases-loop-change g l = length l.past.turned.items - l.at
