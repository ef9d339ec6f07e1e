use Rattle.cil_resolve.proofs.Common.{◌∙◌, None, Some, option_map, ap, sym, is_in, meaning_in}
use Rattle.cil_resolve.specs.Sets.{name_in}
use Rattle.cil_resolve.proofs.EvaluateLemmas.{value-at, evaluated, answers-told, set-at, set-there, no-set-at}
use Rattle.cil_resolve.proofs.resolved.Resolved.evaluate.Goals as goal

pub returns-in-Some-clause-value : goal.returns-in-Some-clause-value
returns-in-Some-clause-value g c s at within kept tells =
    let r = c.args.self.now in
    let t = c.args.ty in
    let x = c.in-Some.set.now in
    let one = set-at r c.args.i s _ x c.at.ensures (ap (option_map (λ y. y.now)) c.in-Some.is) at in
    let told = answers-told r s x t tells one.named one.below in
    c.holds.ensures (value-at r t) (λ l answer there post. told l answer there post.1)
    ∙ evaluated r x t within kept one.below ∙ ap (λ y. is_in (meaning_in r) y.expr (name_in r t)) one.named

pub returns-clause-value : goal.returns-clause-value
returns-clause-value g c s at within kept tells = absurd (no-set-at c.args.self.now c.args.i s (sym c.at.ensures ∙ ap (option_map (λ y. y.now)) c.in-None.is) at)

pub returns-in-Some-clause-none : goal.returns-in-Some-clause-none
returns-in-Some-clause-none g c none = absurd (set-there c.args.self.now c.args.i _ c.in-Some.set.now c.at.ensures (ap (option_map (λ y. y.now)) c.in-Some.is) none)
