use Rattle.cil_violations.proofs.Common.{◌≡◌, ◌∙◌, ◌++◌, map, sym, subst, IsOrdered, given_in, or_else, permission_cmp, set_gives}
use Rattle.std.specs.Rc.{rc_value}
use Rattle.cil_resolve.specs.declared.numbered.ResolvedPermissions.TheVariants as permits
use Rattle.cil_violations.proofs.PermissionLemmas.{or_else-none, ordered-itself}
use Rattle.cil_violations.proofs.permissions.list_given.Goals as goal

pub returns-in_ok-push_of_class-in-OfClass : goal.returns-in_ok-push_of_class-in-OfClass
returns-in_ok-push_of_class-in-OfClass g c =
    let p = c.in-OfClass.p in
    let items = c.order.new.permissions.items in
    let whole : c.push_of_class.new.list.items ≡ given_in (permits.OfClass p) =
    c.in_ok-push_of_class-in-OfClass.ensures
    ∙ (λ i. c.clear.ensures.items i ++ map (λ n. record { class = p.class; permission = n }) (c.as_slice.ensures i)) in
    subst (λ q. IsOrdered permission_cmp (given_in q) (or_else items (set_gives q))) (sym c.in-OfClass.is)
    (subst (λ l. IsOrdered permission_cmp (given_in (permits.OfClass p)) l) (sym (or_else-none items))
    (subst (λ l. IsOrdered permission_cmp l items) whole c.order.ensures))

pub returns-in-OfSet : goal.returns-in-OfSet
returns-in-OfSet g c =
    let s = c.in-OfSet.field-0 in
    subst (λ q. IsOrdered permission_cmp (given_in q) (or_else c.clear.new.self.items (set_gives q))) (sym c.in-OfSet.is)
    (subst (λ l. IsOrdered permission_cmp (given_in (permits.OfSet s)) (or_else l (set_gives (permits.OfSet s)))) (sym c.clear.ensures.items)
    (ordered-itself (rc_value s.given).items s.ordered))
