use Rattle.cil_check.proofs.Common.{get_or, sym, ap, ◌∙◌, subst, components, AreNumbersOf, texts_of, names_of}
use Rattle.std.proofs.Common.{slice_get}
use Rattle.cil_bind.proofs.ScopeLemmas.{read-within, read-text}
use Rattle.cil_check.proofs.SeenLemmas.{number-of}
use Rattle.cil_check.proofs.bound.Seen.number.Goals as goal

pub components-path-requires : goal.components-path-requires
components-path-requires g c = read-within (texts_of c.args.self.now.«module».now) c.args.word c.requires.0 c.requires.1

pub returns : goal.returns
returns g c names w numbered reads single =
    let seen = c.args.self.now in
    let all = names_of seen.«module».now in
    let path = c.components-path.result.now in
    let text = read-text (texts_of seen.«module».now) c.args.word w reads in
    let alone = subst (λ l. AreNumbersOf all path l) (ap components (sym text) ∙ single) c.components-path.ensures in
    ap (slice_get names) (c.number_at.ensures ∙ ap (λ k. get_or seen.words.now k 0) c.number_at-k.ensures) ∙ number-of names seen.words.now all path w.text numbered alone
