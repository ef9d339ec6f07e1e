use Rattle.cil_violations.proofs.Common.{AreInOrder, sym, subst}
use Rattle.cil_violations.proofs.MeaningLemmas.{given-rising}
use Rattle.cil_violations.proofs.search.Search.share_permission.Goals as goal

pub share-requires-clause-first : goal.share-requires-clause-first
share-requires-clause-first g c =
    let s = c.args.self.now in
    subst AreInOrder (sym c.given.ensures) (given-rising s.resolved.now s.permissions.now.0 c.requires.search.permissions c.args.never c.requires.never)

pub share-requires-clause-second : goal.share-requires-clause-second
share-requires-clause-second g c =
    let s = c.args.self.now in
    subst AreInOrder (sym c.given-2.ensures) (given-rising s.resolved.now s.permissions.now.0 c.requires.search.permissions c.args.allowed c.requires.allowed)
