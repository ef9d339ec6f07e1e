use Rattle.cil_resolve.proofs.Common.{◌∙◌, [], Some, ap, sym, get_or, subst, components, texts_of}
use Rattle.std.proofs.Common.{slice_get}
use Rattle.cil_parse.specs.Lexicon.{AreNumbersOf}
use Rattle.cil_parse.specs.Parsed.{names_of}
use Rattle.cil_check.proofs.SeenLemmas.{number-of}
use Rattle.cil_resolve.proofs.KnownLemmas.{listed-one}
use Rattle.cil_resolve.proofs.lowering.Lowering.text_permission.Goals as goal

pub returns : goal.returns
returns g c = λ policy is numbered listed.
    let m = c.args.«module».now in
    let bound = c.args.self.now.checker.now.bound in
    let name = get_or (texts_of m) c.args.text [] in
    let all = names_of m in
    let path = c.components-path.result.now in
    let alone = subst (AreNumbersOf all path) (listed-one policy name is.noted.is.spelt listed) c.components-path.ensures in
    let word = c.number_at-word.ensures ∙ ap (λ k. get_or c.args.words.now k 0) c.number_at-k.ensures in
    let there = ap (slice_get bound.policy.now.names) word ∙ number-of bound.policy.now.names c.args.words.now all path name numbered alone in
    is.permissions c.number_at-word.result name there listed ∙ ap Some (sym (c.number_at-number.ensures ∙ ap (λ p. get_or p c.number_at-word.result 0) c.deref.ensures.value))
