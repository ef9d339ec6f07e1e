use Rattle.std.proofs.Common.{◌∙◌, ap, bytes_eq, position}
use Rattle.cil_names.proofs.TextLemmas.{position-texts}
use Rattle.cil_symbols.proofs.symbols.Symbols.find.Goals as goal

pub returns : goal.returns
returns g c =
    c.get_index_of.ensures.index ∙ position-texts (λ key. key.text.items) c.self.inside.names.keys c.args.name.now ∙ ap (position (bytes_eq c.args.name.now)) c.self.view_is
