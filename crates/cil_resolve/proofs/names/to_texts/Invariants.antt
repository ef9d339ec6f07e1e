use Rattle.std.proofs.Common.{◌≡◌, drop, map, take}
use Rattle.cil_resolve.proofs.TextLemmas.{bytes_in}
use Rattle.cil_resolve.proofs.names.to_texts.Given as goal

-- so many names are copied, and the bytes of the others are left
abbrev pub invariant-loop-name : goal.invariant-loop-name
invariant-loop-name g l = record {
  copies : l.copies.items ≡ map (λ name. name.text.now) (take l.name-index l.name-items);
  rest : l.rest ≡ bytes_in (drop l.name-index (map (λ name. name.text.now) l.name-items));
}
