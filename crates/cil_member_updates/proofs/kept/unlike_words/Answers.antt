use Rattle.std.proofs.Common.{inl, inr}
use Rattle.cil_member_updates.proofs.kept.unlike_words.Goals as goal

pub returns : goal.returns
returns g c w (inl before) = c.first_unlike.ensures w before
returns g c w (inr behind) = c.last_unlike.ensures w behind
