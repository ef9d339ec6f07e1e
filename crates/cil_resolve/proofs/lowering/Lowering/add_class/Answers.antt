use Rattle.cil_resolve.proofs.lowering.Lowering.add_class.Goals as goal

pub returns : goal.returns
returns g c policy s is at of =
    record { a_class = c.in_ok-class_at.field-0; pushed = c.in_ok-push.ensures.items; is = c.in_ok-class_at.ensures policy s is at of }
