use Rattle.cil_bind.proofs.laws.texts_are_written.Goals as goal

pub returns : goal.returns
returns c = λ m bytes text. record { bytes = bytes; trees = text.trees; reads = text.reads; shapes = text.shapes }
