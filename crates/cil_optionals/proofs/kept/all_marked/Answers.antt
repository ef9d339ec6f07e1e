use Rattle.cil_optionals.proofs.kept.all_marked.Goals as goal

pub returns : goal.returns
returns g c = c.in_ok-marks.ensures.items_if_clones_equal (λ y e. e)
