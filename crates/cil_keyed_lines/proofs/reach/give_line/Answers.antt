use Rattle.cil_keyed_lines.proofs.Common.{arith, named_at, subst, name_now, one_if, times, ℕ, ◌≡◌, ◌==◌, ◌≢◌}
use Rattle.cil_keyed_lines.proofs.ReachLemmas.{own_named}
use Rattle.cil_keyed_lines.proofs.reach.give_line.Goals as goal

pub returns-then-line-group-clause-own : goal.returns-then-line-group-clause-own
returns-then-line-group-clause-own g c =
    let n = c.args.names.now in
    let same : (named_at c.args.group.now 0).line ≡ c.args.line = omega arith in
    subst (λ l. ((p : ℕ) → times c.args.group.now p ≡ 0 → name_now n p ≢ l) → (p : ℕ) → times c.args.group.now p ≡ one_if (name_now n p == l)) same
    (own_named c.args.group.now n c.requires.named c.requires.same) c.requires.own
