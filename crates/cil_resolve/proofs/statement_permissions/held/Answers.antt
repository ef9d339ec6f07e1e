use Rattle.cil_resolve.proofs.Common.{◌≡◌, ◌==◌, ◌++◌, ◌∷◌, ◌∙◌, ℕ, [], append-nil, ap, cond, filter, get_or, sym, take, take_all, expr_in}
use Rattle.cil_specs.specs.Expr.{holds_by}
use Rattle.std.proofs.lemmas.List.Elements.{filter_more}
use Rattle.cil_resolve.proofs.statement_permissions.held.Goals as goal
use Rattle.cil_resolve.proofs.statement_permissions.held.Goals.{then-holds+in_ok-push, else-holds}

pub loop-number-init : goal.loop-number-init
loop-number-init g c = c.new-given.ensures.items

pub loop-number-preserved : goal.loop-number-preserved
loop-number-preserved g c =
    let passes = λ (n : ℕ). holds_by (λ q. n == q) (expr_in c.args.expression.now) in
    let all = c.args.permissions.now in
    let i = c.loop-number.number-index in
    let n = get_or all i 0 in
    let so_far = filter passes (take i all) in
    let holds : c.holds-holds.result ≡ passes n = c.holds-holds.ensures (λ q. n == q) (λ l answer asked post. post) in
    let next = filter_more passes all i 0 c.loop-number-test.true in
    elim c.if-holds.branch [
      | then-holds+in_ok-push w ↦
          ap (λ v. v.items) w.given-is ∙ w.in_ok-push.ensures.items ∙ ap (λ l. l ++ n ∷ []) c.loop-number.invariant
          ∙ ap (λ b. so_far ++ cond b (n ∷ []) []) (sym w.if-holds.true ∙ holds) ∙ sym next
      | else-holds w ↦
          ap (λ v. v.items) w.given-is ∙ c.loop-number.invariant ∙ sym (append-nil so_far)
          ∙ ap (λ b. so_far ++ cond b (n ∷ []) []) (sym w.if-holds.false ∙ holds) ∙ sym next
    ]

pub returns : goal.returns
returns g c =
    let passes = λ (n : ℕ). holds_by (λ q. n == q) (expr_in c.args.expression.now) in
    c.loop-number.invariant ∙ ap (filter passes) (take_all c.loop-number.number-index c.args.permissions.now c.loop-number-test.false)
