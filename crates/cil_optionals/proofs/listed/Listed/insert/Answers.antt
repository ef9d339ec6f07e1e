use Rattle.cil_optionals.proofs.Common.{◌≡◌, ◌<◌, ◌||◌, ◌&&◌, ◌==◌, length, bytes_eq, slice_get, Some, refl, sym, ap, ◌∙◌, arith, list_any, length-set, slice_get_read, position-Some, lists, commons_at, has_gift, Permission}
use Rattle.cil_optionals.proofs.ListedLemmas.{listers-insert}
use Rattle.cil_optionals.proofs.PermissionLemmas.{lists-insert}
use Rattle.cil_optionals.proofs.listed.Listed.insert.Goals as goal

pub index_mut-requires : goal.index_mut-requires
index_mut-requires g c =
    let told = c.in_ok-number.ensures in
    let low = (position-Some (bytes_eq c.args.name.now) c.number.new.self.names c.in_ok-number.number c.args.name.now told.named).0 in
    let long = told.long in
    omega (arith, low, long)

pub returns-clause-listed : goal.returns-clause-listed
returns-clause-listed g c = λ i other.
    let p : Permission = record { place = c.args.place; name = c.args.name } in
    ap (λ keys. lists keys i other) c.in_ok-insert.ensures.keys ∙ lists-insert c.number.new.self.listed.keys p i other
    ∙ ap (λ s. lists s.keys i other || (i == c.args.place && bytes_eq other c.args.name.now)) c.in_ok-number.ensures.listed

pub returns-clause-inverse : goal.returns-clause-inverse
returns-clause-inverse g c =
    let told = c.in_ok-number.ensures in
    let p : Permission = record { place = c.args.place; name = c.args.name } in
    let number = c.in_ok-number.number in
    let names = c.number.new.self.names in
    let listers = c.number.new.self.listers.items in
    let v = c.index_mut.result.now in
    let w = c.push.new.self in
    let long = told.long in
    let low = (position-Some (bytes_eq c.args.name.now) names number c.args.name.now told.named).0 in
    let within : number < length listers = omega (arith, low, long) in
    let at : slice_get listers number ≡ Some v = slice_get_read listers (length listers) number v refl within c.index_mut.ensures.value in
    record {
      gifts = λ i d. ap (λ s. has_gift s.keys i d) told.gifts ∙ c.requires.gifts i d ∙ ap (λ s. list_any (λ e. d == e) (commons_at s.items i)) (sym told.given);
      listers = listers-insert names listers c.args.self.now.listed.keys c.insert.new.self.keys c.args.name.now c.args.name.now number c.args.place v w told.named at c.in_ok-push.ensures.items
          (λ i other. ap (list_any (λ q. i == q)) (told.listers other) ∙ c.requires.listers i other)
          (λ i other.
          ap (λ keys. lists keys i other) c.in_ok-insert.ensures.keys ∙ lists-insert c.number.new.self.listed.keys p i other
          ∙ ap (λ s. lists s.keys i other || (i == c.args.place && bytes_eq other c.args.name.now)) told.listed);
      long = told.long ∙ sym (length-set listers number w);
    }
