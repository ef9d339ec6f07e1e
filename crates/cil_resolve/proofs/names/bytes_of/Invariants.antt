use Rattle.std.proofs.Common.{◌≡◌, map, take}
use Rattle.cil_resolve.proofs.TextLemmas.{bytes_in}
use Rattle.cil_resolve.proofs.names.bytes_of.Given as goal

-- the bytes of so many names came
abbrev pub invariant-loop-name : goal.invariant-loop-name
invariant-loop-name g l = l.bytes.items ≡ bytes_in (take l.name-index (map (λ name. name.text.now) l.name-items))
