use Rattle.cil_resolve.proofs.Common.{◌≡◌, ◌<◌, Contains, IfOk-weaker, Some, arith, length, refl, slice_get_read, slice_get_within, sym, subst, IsOrdered, set_gives}
use Rattle.std.proofs.Common.{slice_get}
use Rattle.std.specs.Rc.{rc_value}
use Rattle.cil_resolve.proofs.GatheredLemmas.{found-gives, none-gives}
use Rattle.cil_resolve.proofs.given_sets.GivenSets.find.Goals as goal

pub index-requires : goal.index-requires
index-requires g c =
    let given = c.args.self.now in
    let within = slice_get_within c.deref.result.now c.in-Some.place c.args.set c.in-Some.ensures.some in
    let same = c.deref.ensures.len in
    let long = given.long in
    omega (arith, within, same, long)

pub returns-in-Some-clause-set : goal.returns-in-Some-clause-set
returns-in-Some-clause-set g c = c.share.ensures.set

pub returns-in-Some-clause-given : goal.returns-in-Some-clause-given
returns-in-Some-clause-given g c =
    let given = c.args.self.now in
    let sets = given.sets.items in
    let place = c.in-Some.place in
    let one = c.index.result.now in
    let found : slice_get given.numbers.items place ≡ Some c.args.set = subst (λ l. slice_get l place ≡ Some c.args.set) c.deref.ensures.value c.in-Some.ensures.some in
    let low : place < length sets = (let within = slice_get_within given.numbers.items place c.args.set found in let long = given.long in omega (arith, within, long)) in
    let at : slice_get sets place ≡ Some one = slice_get_read sets (length sets) place one refl low c.index.ensures in
    IfOk-weaker c.share.result (λ s. rc_value s.given ≡ rc_value one.given) _
    (λ s same statements gives.
    subst (λ v. IsOrdered (set_gives statements c.args.set) v.items) (sym same) (found-gives statements given c.args.set place one gives found at)) c.share.ensures.given

pub returns-in-None-clause-set : goal.returns-in-None-clause-set
returns-in-None-clause-set g c = c.share-in-None.ensures.set

pub returns-in-None-clause-given : goal.returns-in-None-clause-given
returns-in-None-clause-given g c =
    let given = c.args.self.now in
    IfOk-weaker c.share-in-None.result (λ s. rc_value s.given ≡ rc_value given.none.given) _
    (λ s same statements gives.
    subst (λ v. IsOrdered (set_gives statements c.args.set) v.items) (sym same)
    (none-gives statements given c.args.set gives (λ there. c.in-None.ensures.none (subst (λ l. Contains l c.args.set) (sym c.deref.ensures.value) there)))) c.share-in-None.ensures.given
