use Rattle.cil_text.proofs.form.class_list.Goals as goal

pub returns-in-None : goal.returns-in-None
returns-in-None g c classes h = c.in-None.ensures h.0 h.1
