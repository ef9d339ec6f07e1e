use Rattle.cil_counters.proofs.Common.{◌≡◌, ◌∙◌, ◌++◌, ◌∷◌, Bool, ap, sym, ℕ, [], meaning_in, name_in, is_member, has_named}
use Rattle.cil_counters.proofs.HitLemmas.{hits-with, hits-without}
use Rattle.cil_counters.proofs.counters.Counters.members.Goals as goal
use Rattle.cil_counters.proofs.counters.Counters.members.Goals.{then-has+in_ok-push, else-has}

pub loop-number-preserved : goal.loop-number-preserved
loop-number-preserved g c =
    let policy = c.args.policy.now in
    let attribute = c.args.attribute.now in
    let number = c.loop-number.number in
    let test : ℕ → Bool = λ n. is_member (meaning_in policy) attribute (name_in policy n) in
    let told : c.has.result ≡ test number =
    c.has.ensures ∙ ap (has_named c.args.self.now attribute) c.name.ensures ∙ c.counters_tell_members.ensures attribute (name_in policy number) in
    elim c.if-has.branch [
      | then-has+in_ok-push w ↦
          ap (λ v. v.items) w.list-is ∙ w.in_ok-push.ensures.items ∙ ap (λ l. l ++ number ∷ []) c.loop-number.invariant ∙ sym (hits-with test number (sym told ∙ w.if-has.true))
      | else-has w ↦
          ap (λ v. v.items) w.list-is ∙ c.loop-number.invariant ∙ sym (hits-without test number (sym told ∙ w.if-has.false))
    ]
