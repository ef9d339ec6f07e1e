use Rattle.std.proofs.Common.{◌∙◌, sym}
use Rattle.cil_check.proofs.checker.Checker.are_sound.Goals as goal

pub returns-then-are_plainly_sound : goal.returns-then-are_plainly_sound
returns-then-are_plainly_sound g c = λ policy noted.
    c.if-are_plainly_sound.true ∙ sym (c.are_plainly_sound.ensures c.if-are_plainly_sound.true policy noted)

pub returns-else-are_plainly_sound : goal.returns-else-are_plainly_sound
returns-else-are_plainly_sound g c = λ policy noted. c.are_each_sound.ensures
