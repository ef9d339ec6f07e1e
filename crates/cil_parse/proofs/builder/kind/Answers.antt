use Rattle.cil_parse.proofs.Common.{◌∙◌, ap, sym, word_of, form_of, kind_of}
use Rattle.cil_parse.proofs.builder.kind.Goals as goal

pub returns-in-Rule : goal.returns-in-Rule
returns-in-Rule g c = c.rule_kind.ensures (word_of c.in-Rule.source) ∙ ap (λ s. kind_of (form_of s)) (sym c.in-Rule.is)
