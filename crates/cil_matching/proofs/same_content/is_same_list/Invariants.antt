use Rattle.std.proofs.Common.{◌≡◌, drop}
use Rattle.cil_expression.specs.Same.{all_same}
use Rattle.cil_matching.specs.Content.{is_number_of}
use Rattle.cil_matching.proofs.same_content.is_same_list.Given as goal

-- all are the same where those from here on are
abbrev pub invariant-loop-i : goal.invariant-loop-i
invariant-loop-i l = all_same (is_number_of l.numbers) l.permissions l.others ≡ all_same (is_number_of l.numbers) (drop l.i l.permissions) (drop l.i l.others)
