use Rattle.cil_violations.proofs.Common.{◌∙◌, get_or, sym, ClassPermission}
use Rattle.cil_violations.proofs.ShareLemmas.{share-less, share-greater, share-end-second}
use Rattle.cil_violations.proofs.PermissionLemmas.{flipped}
use Rattle.cil_violations.proofs.permissions.share_along.Goals as goal

abbrev none : ClassPermission
none = record { class = 0; permission = 0 }

pub loop-at-preserved-in-Less : goal.loop-at-preserved-in-Less
loop-at-preserved-in-Less c =
    sym (share-less c.args.first.now c.args.second.now c.loop-at.at c.loop-at.other none none c.loop-at-test.true c.if-other-second.true c.requires.second (sym c.cmp.ensures ∙ c.in-Less.is))
    ∙ c.loop-at.invariant

pub loop-at-preserved : goal.loop-at-preserved
loop-at-preserved c =
    sym (share-greater c.args.first.now c.args.second.now c.loop-at.at c.loop-at.other none none c.loop-at-test.true c.if-other-second.true c.requires.first
    (flipped (get_or c.args.first.now c.loop-at.at none) (get_or c.args.second.now c.loop-at.other none) (sym c.cmp.ensures ∙ c.in-Greater.is)))
    ∙ c.loop-at.invariant

pub returns-else-other-second : goal.returns-else-other-second
returns-else-other-second c = sym (share-end-second c.args.first.now c.args.second.now c.loop-at.at c.loop-at.other c.if-other-second.false) ∙ c.loop-at.invariant
