use Rattle.cil_violations.proofs.Common.{◌≡◌, ◌∙◌, ◌++◌, ◌∷◌, refl, [], length, get_or, ap, sym, subst, arith, length-append, slice_get_read, slice_get_within, IsOrdered, given_in, or_else, permission_cmp, set_gives, set_gives_at}
use Rattle.cil_violations.proofs.PermissionLemmas.{each-more}
use Rattle.cil_violations.proofs.permissions.ordered_permissions.Goals as goal

pub loop-rule-preserved : goal.loop-rule-preserved
loop-rule-preserved g c =
    let m = c.loop-rule.invariant in
    let k = c.loop-rule.rule-index in
    let lists = c.loop-rule.lists.0 in
    let list = c.list_given.new.list.items in
    let extended = c.in_ok-extend.ensures.ok in
    let grown : c.close.new.self.0 ≡ lists ++ list ∷ [] =
    ap (λ s. s.0) c.in_ok-close.ensures.ok ∙ (λ i. (extended i).0 ++ (extended i).1 ∷ []) ∙ (λ i. lists ++ (m.closed i ++ c.deref.ensures.value i) ∷ []) in
    let long = length-append lists (list ∷ []) in
    let at = slice_get_read c.args.rules.now (length c.args.rules.now) k c.rule-item.result refl c.loop-rule-test.true c.rule-item.is in
    record {
      closed = ap (λ s. s.1) c.in_ok-close.ensures.ok;
      len = ap length grown ∙ omega (arith, long, m.len);
      each = λ i r below there.
          subst (λ ls. IsOrdered permission_cmp (given_in r.permissions) (or_else (get_or ls i []) (set_gives r.permissions))) (sym grown)
          (each-more c.args.rules.now lists list k c.rule-item.result m.len at c.in_ok-list_given.ensures m.each i r below there);
    }

pub returns : goal.returns
returns g c =
    let m = c.loop-rule.invariant in
    record {
      len = omega (arith, m.len);
      each = λ i r there.
          subst (λ o. IsOrdered permission_cmp (given_in r.permissions) (or_else (get_or c.loop-rule.lists.0 i []) (set_gives_at o))) (sym there)
          (m.each i r (let low = slice_get_within c.args.rules.now i r there in omega (arith, low)) there);
    }
