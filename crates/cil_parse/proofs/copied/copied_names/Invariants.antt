use Rattle.std.proofs.Common.{◌≡◌, [], map, take}
use Rattle.cil_parse.proofs.copied.copied_names.Given as goal

abbrev pub invariant-loop-name : goal.invariant-loop-name
invariant-loop-name g l = l.copied ≡ (map (λ name. name.text.now) (take l.name-index l.names), [])
