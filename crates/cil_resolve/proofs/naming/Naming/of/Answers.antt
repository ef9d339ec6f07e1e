use Rattle.cil_resolve.proofs.Common.{◌≤◌, ◌++◌, ◌∷◌, ◌∙◌, [], length, take, map, Some, sym, ap, subst, arith, if◌then◌else◌, take_all, slice_get_within, there-at, is_naming, naming}
use Rattle.cil_resolve.proofs.NamingLemmas.{AreNamingBelow, naming-next, naming-whole}
use Rattle.cil_resolve.proofs.naming.Naming.of.Goals as goal

pub loop-i-preserved : goal.loop-i-preserved
loop-i-preserved g c policy is =
    let i = c.loop-i.i in
    let count = c.len-count.ensures policy is in
    let (s, at) = there-at policy i (omega (arith, count)) in
    naming-next policy i s c.loop-i.naming.places.items c.add.new.self.places.items at
    (c.in_ok-add.ensures ∙ ap (λ k. c.loop-i.naming.places.items ++ (if is_naming k then i ∷ [] else [])) (c.kind.ensures policy s is at)) (c.loop-i.invariant policy is)

pub returns : goal.returns
returns g c policy is =
    let count = c.len-count.ensures policy is in
    let past : length policy ≤ c.loop-i.i = omega (arith, count) in
    naming-whole policy c.loop-i.i c.loop-i.naming.places.items past (c.loop-i.invariant policy is)
