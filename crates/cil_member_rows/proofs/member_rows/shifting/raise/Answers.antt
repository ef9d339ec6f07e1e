use Rattle.cil_member_rows.proofs.Common.{ap, ◌∙◌, arith, rules, ◌≡◌, hit_at, hit_nothing}
use Rattle.cil_member_rows.proofs.member_rows.shifting.raise.Goals as goal

pub returns-else-mask-ne0-clause-now : goal.returns-else-mask-ne0-clause-now
returns-else-mask-ne0-clause-now g c r t =
    let zero : c.args.mask ≡ 0 = search rules in
    let none = ap (λ m. hit_at c.args.row c.args.word m r t) zero ∙ hit_nothing c.args.row c.args.word r t in
    omega (arith, none)
