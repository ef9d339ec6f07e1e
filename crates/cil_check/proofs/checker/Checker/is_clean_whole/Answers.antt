use Rattle.cil_check.proofs.SeenLemmas.{there-at}
use Rattle.cil_check.proofs.checker.Checker.is_clean_whole.Goals as goal

pub is_clean_at-requires : goal.is_clean_at-requires
is_clean_at-requires g c =
    let (policy, noted, less) = c.requires in
    let (s, at) = there-at policy c.args.place less in
    (policy, s, noted, c.seen.ensures.seen policy s noted.is at, at)
