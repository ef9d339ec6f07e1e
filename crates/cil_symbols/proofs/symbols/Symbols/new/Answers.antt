use Rattle.cil_names.proofs.TextLemmas.{distinct-texts}
use Rattle.cil_symbols.proofs.symbols.Symbols.new.Goals as goal

pub invariant_of-result : goal.invariant_of-result
invariant_of-result g c = distinct-texts (λ key. key.text.items) c.with_hasher.result.keys c.with_hasher.ensures.unique
