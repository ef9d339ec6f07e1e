use Rattle.std.proofs.Common.{◌≡◌, ◌≤◌, ◌+◌, ℕ, List, length}
use Rattle.cil_session.specs.Input.{HasRead}
use Rattle.cil_session.proofs.input.Input.skip_bytes.Given as goal

abbrev pub invariant-loop-left : goal.invariant-loop-left
invariant-loop-left g l =
    let account = g.S.Source.account in
    record {
      read : (read : List ℕ) × HasRead (account l.fn.source) (account l.source) l.fn.self l.self read × (length read + l.left ≡ l.len);
      failures : (g.S.Source.account l.fn.source).failures ≤ (g.S.Source.account l.source).failures;
    }

abbrev pub decreases-loop-left : goal.decreases-loop-left
decreases-loop-left g l = l.left
