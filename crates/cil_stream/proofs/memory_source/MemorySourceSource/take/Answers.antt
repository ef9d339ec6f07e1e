use Rattle.std.proofs.Common.{rules, ◌≡◌, ◌≤◌, ◌∙◌, ◌++◌, ◌+◌, ℕ, List, Some, length, take, drop, ap, arith}
use Rattle.cil_stream.specs.Device.{Reel}
use Rattle.cil_stream.proofs.Pieces.{piece-given, piece-length}
use Rattle.cil_stream.proofs.memory_source.MemorySourceSource.take.Goals as goal
use Rattle.cil_stream.proofs.memory_source.MemorySourceSource.take.Goals.{then-n-eq0+then-not-is_empty, else-n-eq0}

pub returns-clause-given : goal.returns-clause-given
returns-clause-given c =
    let n : ℕ = c.min-n.result in
    let copied : List ℕ = c.copy_from_slice.new.self in
    let small : n ≤ length c.args.buffer.now = omega arith in
    let size : length (take n (copied ++ drop n c.args.buffer.now)) ≡ n = piece-length c.args.buffer.now copied n small c.copy_from_slice.ensures.len in
    let piece : take (c.self.inside.at + n) c.self.inside.text.now ≡ take c.args.self.now.at c.args.self.now.text ++ take n (copied ++ drop n c.args.buffer.now) =
    piece-given c.self.inside.text.now c.args.buffer.now copied c.self.inside.at n small c.copy_from_slice.ensures.len c.copy_from_slice.ensures.after
    ∙ ap (λ (r : Reel). take r.at r.text ++ take n (copied ++ drop n c.args.buffer.now)) c.self.view_is
    in
    let from : c.self.inside.at ≡ c.args.self.now.at = ap (λ (r : Reel). r.at) c.self.view_is in
    elim c.if-n-eq0.branch [
      | then-n-eq0+then-not-is_empty w ↦ record { whole = search rules; given = ap Some (ap (λ s. take (s.at + n) s.text.now) w.self-inside-is ∙ piece); count = omega (arith, ap (λ s. s.at) w.self-inside-is, size, from); ends = search rules }
      | else-n-eq0 w ↦ record { whole = search rules; given = ap Some (ap (λ s. take (s.at + n) s.text.now) w.self-inside-is ∙ piece); count = omega (arith, ap (λ s. s.at) w.self-inside-is, size, from); ends = search rules }
    ]
