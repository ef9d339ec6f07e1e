use Rattle.cil_names.specs.declared.name.Name.{Name}
use Rattle.cil_resolve.proofs.Common.{◌++◌, ◌∙◌, [], List, ℕ, get_or, map, ap, sym}
use Rattle.cil_resolve.proofs.TextLemmas.{bytes-next, item-mapped, no_name, text-in}
use Rattle.cil_resolve.proofs.names.bytes_of.Goals as goal

pub loop-name-preserved : goal.loop-name-preserved
loop-name-preserved g c =
    let i = c.loop-name.name-index in
    let items = c.as_slice-name-items.result.now in
    let name = text-in (get_or items i no_name) in
    let at = item-mapped text-in items i no_name c.loop-name-test.true in
    c.in_ok-extend_from_slice.ensures.items ∙ ap (λ b. b ++ name) c.loop-name.invariant ∙ sym (bytes-next (map text-in items) i name at)
