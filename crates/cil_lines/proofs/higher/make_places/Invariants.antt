use Rattle.cil_lines.proofs.Common.{◌≡◌, ◌≤◌, ℕ, ◌++◌, List, take, Words, limit, value, HasRoom}
use Rattle.cil_lines.proofs.higher.make_places.Given as goal

-- with room for the carry behind the digits so far there is room for the mask
abbrev pub invariant-loop-i : goal.invariant-loop-i
invariant-loop-i g l = record {
  now : (w b : ℕ) → value l.digits w b ≡ value l.fn.digits w b;
  room : (rest : List Words) → HasRoom rest l.word l.carry → HasRoom (take l.i l.digits ++ rest) l.word l.mask;
  limits : (w : ℕ) → limit l.fn.digits w ≤ limit l.digits w;
}
