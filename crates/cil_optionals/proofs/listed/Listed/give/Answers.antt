use Rattle.cil_optionals.proofs.Common.{◌≡◌, ◌++◌, slice_get, length, Some, ℕ, refl, sym, ap, ◌∙◌, slice_get_read, commons_at, given_at}
use Rattle.cil_optionals.specs.declared.listed.Gift.{Gift}
use Rattle.cil_optionals.proofs.ListedLemmas.{given-push, gifts-next}
use Rattle.cil_optionals.proofs.listed.Listed.give.Goals as goal

pub returns-clause-given : goal.returns-clause-given
returns-clause-given g c = λ i.
    let old = c.args.self.now.given.items in
    let given = c.make_room.new.given.items in
    let v = c.index_mut.result.now in
    let at : slice_get given c.in-Some.class ≡ Some v = slice_get_read given (length given) c.in-Some.class v refl c.in_ok-make_room.ensures.room c.index_mut.ensures.value in
    given-push given c.in-Some.class c.in-Some.common v c.push.new.self at c.in_ok-push.ensures.items i
    ∙ ap (λ l. l ++ given_at (Some (c.in-Some.class, c.in-Some.common)) i) (c.in_ok-make_room.ensures.same i) ∙ ap (λ o. commons_at old i ++ given_at o i) (sym c.in-Some.is)

pub returns-clause-inverse : goal.returns-clause-inverse
returns-clause-inverse g c =
    let gift : Gift = record { class = c.in-Some.class; common = c.in-Some.common } in
    let old = c.args.self.now.given.items in
    let given = c.make_room.new.given.items in
    let v = c.index_mut.result.now in
    let w = c.push.new.self in
    let at : slice_get given c.in-Some.class ≡ Some v = slice_get_read given (length given) c.in-Some.class v refl c.in_ok-make_room.ensures.room c.index_mut.ensures.value in
    let more : (i : ℕ) → commons_at _ i ≡ commons_at old i ++ given_at (Some (c.in-Some.class, c.in-Some.common)) i =
    λ i. given-push given c.in-Some.class c.in-Some.common v w at c.in_ok-push.ensures.items i ∙ ap (λ l. l ++ given_at (Some (c.in-Some.class, c.in-Some.common)) i) (c.in_ok-make_room.ensures.same i) in
    record {
      gifts = gifts-next c.args.self.now.gifts.keys c.insert.new.self.keys old _ gift c.in_ok-insert.ensures.keys more c.requires.inverse.gifts;
      listers = c.requires.inverse.listers;
      long = c.requires.inverse.long;
    }
