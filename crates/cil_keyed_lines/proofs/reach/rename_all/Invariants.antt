use Rattle.cil_keyed_lines.proofs.Common.{◌≡◌, ◌+◌, ◌≤◌, ℕ, length, name_before, name_now, take, times, AreLogged}
use Rattle.cil_keyed_lines.proofs.ReachLemmas.{AreRenamed}
use Rattle.cil_keyed_lines.proofs.reach.rename_all.Given as goal

-- the places so far have been renamed
abbrev pub invariant-loop-member : goal.invariant-loop-member
invariant-loop-member g l = record {
  len : length l.names.named ≡ length l.fn.names.named;
  lines : l.names.lines ≡ l.fn.names.lines;
  room : l.fn.names.room ≤ l.names.room + l.member-index;
  now : AreRenamed (times (take l.member-index l.group)) (name_now l.fn.names) (name_now l.names) l.line;
  before : (p : ℕ) → name_before l.names p ≡ name_before l.fn.names p;
  logged : AreLogged l.fn.names → AreLogged l.names;
}
