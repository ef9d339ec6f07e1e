use Rattle.std.proofs.Common.{sym, subst}
use Rattle.cil_parse.specs.Lexicon.{names_in, AreSplit}
use Rattle.cil_parse.proofs.ParsedLemmas.{words-length, nodes-length}
use Rattle.cil_parse.proofs.parsed.ParsedModule.with_copies.Goals as goal

pub invariant_of-result-clause-split : goal.invariant_of-result-clause-split
invariant_of-result-clause-split g c =
    let b = c.args.builder in
    let at = c.requires.whole.1 in
    subst (λ components. AreSplit c.args.copies.names.0 components.0 c.args.copies.texts.0)
    (sym c.shrink_to_fit.ensures)
    (subst (λ n. AreSplit n b.lexicon.components.0 c.args.copies.texts.0) (sym c.requires.names)
    (subst (AreSplit (names_in b.lexicon) b.lexicon.components.0) (sym c.requires.texts) at.is_lexicon.split))

pub invariant_of-result-clause-each_words : goal.invariant_of-result-clause-each_words
invariant_of-result-clause-each_words g c =
    rw (c.shrink_to_fit-2.ensures, c.shrink_to_fit-4.ensures.items) (words-length c.args.builder c.requires.whole.0 c.requires.whole.1)

pub invariant_of-result-clause-each_nodes : goal.invariant_of-result-clause-each_nodes
invariant_of-result-clause-each_nodes g c =
    rw (c.shrink_to_fit-3.ensures, c.shrink_to_fit-4.ensures.items) (nodes-length c.args.builder c.requires.whole.0 c.requires.whole.1)

pub invariant_of-result-clause-listed : goal.invariant_of-result-clause-listed
invariant_of-result-clause-listed g c =
    rw (c.shrink_to_fit-2.ensures, c.shrink_to_fit-4.ensures.items) c.requires.listed

pub invariant_of-result-clause-cited : goal.invariant_of-result-clause-cited
invariant_of-result-clause-cited g c =
    rw (c.shrink_to_fit-2.ensures, c.shrink_to_fit-4.ensures.items) c.requires.cited

pub returns : goal.returns
returns g c = record {
  texts = c.requires.texts;
  words = c.shrink_to_fit-2.ensures;
  nodes = c.shrink_to_fit-3.ensures;
  rows = c.shrink_to_fit-4.ensures.items;
}
