use Rattle.std.proofs.Common.{◌≡◌, ◌+◌, ◌/◌, length, take}
use Rattle.cil_resolve.specs.Resolved.{meaning_in}
use Rattle.cil_member_updates.proofs.KeptLemmas.{AreAmong}
use Rattle.cil_member_updates.proofs.kept.KeptTypes.of.Given as goal

-- the types so far are marked
abbrev pub invariant-loop-i : goal.invariant-loop-i
invariant-loop-i g l =
    record {
      long : length l.words.items ≡ length l.symbols / 64 + 1;
      among : AreAmong l.symbols (take l.i (meaning_in l.resolved).types) l.words.items;
    }
