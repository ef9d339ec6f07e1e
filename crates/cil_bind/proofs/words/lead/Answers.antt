use Rattle.cil_bind.proofs.Common.{[], get_or, sym, ap, ◌∙◌, is_global, components, names_of, texts_of}
use Rattle.cil_bind.proofs.WordLemmas.{parts-are, numbers-within, path-within}
use Rattle.cil_bind.proofs.words.lead.Goals as goal

pub leads-requires-clause-path : goal.leads-requires-clause-path
leads-requires-clause-path g c =
    path-within (names_of c.args.«module».now) c.args.words.now c.components-path.result.now _ c.requires.words c.components-path.ensures

pub returns : goal.returns
returns g c = λ names policy knows nums.
    let text = get_or (texts_of c.args.«module».now) c.args.text [] in
    c.leads.ensures names policy knows (numbers-within names c.args.words.now (names_of c.args.«module».now) nums) text
    (ap is_global (sym c.text.ensures) ∙ sym c.is_global-global.ensures)
    (parts-are names (names_of c.args.«module».now) c.args.words.now c.components-path.result.now (components text) nums c.components-path.ensures)
