use Rattle.cil_resolve.proofs.Common.{rules, ◌≡◌, ◌∙◌, [], bytes_eq, true, false, sym, ap, get_or}
use Rattle.cil_resolve.proofs.ListLemmas.{any-here, any-next, any-none}
use Rattle.cil_resolve.proofs.resolved.Resolved.is_at.Goals as goal

pub returns-then-eq : goal.returns-then-eq
returns-then-eq g c =
    let names = c.args.self.now.names.items in
    let name = c.args.name.now in
    let same : c.eq.result ≡ bytes_eq name c.name.result.now = search rules in
    any-here (bytes_eq name) (λ n. get_or names n []) c.loop-number.left.now c.args.numbers.now c.in-Some.more.now c.in-Some.number.now c.loop-number.invariant c.in-Some.ensures.cases.0
    (ap (bytes_eq name) (sym c.name.ensures) ∙ sym same ∙ c.if-eq.true)

pub loop-number-preserved : goal.loop-number-preserved
loop-number-preserved g c =
    let names = c.args.self.now.names.items in
    let name = c.args.name.now in
    let same : c.eq.result ≡ bytes_eq name c.name.result.now = search rules in
    any-next (bytes_eq name) (λ n. get_or names n []) c.loop-number.left.now c.args.numbers.now c.in-Some.more.now c.in-Some.number.now c.loop-number.invariant c.in-Some.ensures.cases.0
    (ap (bytes_eq name) (sym c.name.ensures) ∙ sym same ∙ c.if-eq.false)

pub returns : goal.returns
returns g c =
    any-none (bytes_eq c.args.name.now) (λ n. get_or c.args.self.now.names.items n []) c.loop-number.left.now c.args.numbers.now c.loop-number.invariant c.in_default.ensures.cases
