use Rattle.std.proofs.Common.{◌∷◌, ◌++◌, [], ap, sym, not, if◌then◌else◌}
use Rattle.cil_parse.proofs.LexiconLemmas.{number-known}
use Rattle.cil_parse.proofs.recalled.RecalledNames.insert.Goals as goal

pub returns-then-has_number-clause-added : goal.returns-then-has_number-clause-added
returns-then-has_number-clause-added g c =
    sym (ap not (number-known c.args.self.now c.args.name.now _ (c.has_number.ensures c.if-has_number.true)))

pub returns-then-has_number-clause-ok : goal.returns-then-has_number-clause-ok
returns-then-has_number-clause-ok g c =
    sym (ap (λ b. if b then c.args.self.now else c.args.self.now ++ c.args.name.now ∷ [])
    (number-known c.args.self.now c.args.name.now _ (c.has_number.ensures c.if-has_number.true)))
