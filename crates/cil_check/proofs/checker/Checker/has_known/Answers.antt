use Rattle.cil_check.proofs.Common.{ap, has_list, has_name, holds_of, permissions_of, subst, sym, word_at, ◌∙◌}
use Rattle.cil_check.specs.Recent.{AreHeld, has_permission}
use Rattle.cil_check.proofs.checker.Checker.has_known.Goals as goal

pub returns-then-has-clause-has : goal.returns-then-has-clause-has
returns-then-has-clause-has g c = λ yes policy s noted at first less known.
    let names = c.args.self.now.bound.policy.now.names in
    sym (ap (holds_of (λ u. has_name (permissions_of policy u) (word_at names c.args.word))) at) ∙ c.has.ensures c.if-has.true (has_permission names policy) known.recent

pub returns-clause-has : goal.returns-clause-has
returns-clause-has g c = λ yes policy s noted at first less known. sym (c.has_permission.ensures policy s noted at first less) ∙ c.if-not-has_permission.false

pub returns-clause-known : goal.returns-clause-known
returns-clause-known g c = λ policy s noted at first less known.
    let b = c.args.self.now.bound in
    let names = b.policy.now.names in record {
      lists = subst (λ l. AreHeld (has_list b.joined.now.modules.items policy) l.slots.items) (sym c.note.ensures.lists) known.lists;
      recent = c.note.ensures.recent (has_permission names policy)
          (ap (holds_of (λ u. has_name (permissions_of policy u) (word_at names c.args.word))) at ∙ sym (c.has_permission.ensures policy s noted at first less) ∙ c.if-not-has_permission.false) known.recent;
    }
