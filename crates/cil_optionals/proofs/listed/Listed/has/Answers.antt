use Rattle.cil_optionals.proofs.Common.{◌≡◌, ◌<◌, ◌||◌, false, length, get_or, slice_get, Some, refl, sym, ap, ◌∙◌, subst, list_any, slice_get_read, lists, places_in, commons_at, has_gift}
use Rattle.cil_optionals.proofs.ListedLemmas.{by-listers}
use Rattle.cil_optionals.proofs.listed.Listed.has.Goals as goal

pub returns-then-listers-len : goal.returns-then-listers-len
returns-then-listers-len g c =
    let p = c.args.self.now in
    let isnt : lists p.listed.keys c.args.class c.args.name.now ≡ false = sym c.lists.ensures ∙ c.if-lists.false in
    c.any_given.ensures ∙ ap (list_any (has_gift p.gifts.keys c.args.class)) c.listers-listers.ensures ∙ by-listers p c.args.class c.args.name.now c.requires
    ∙ ap (λ b. b || list_any (λ d. lists p.listed.keys d c.args.name.now) (commons_at p.given.items c.args.class)) (sym isnt)

pub returns : goal.returns
returns g c =
    let p = c.args.self.now in
    let given = p.given.items in
    let commons = c.in-Some.commons.now in
    let isnt : lists p.listed.keys c.args.class c.args.name.now ≡ false = sym c.lists.ensures ∙ c.if-lists.false in
    let found = c.in-Some.ensures.lookup in
    let is = c.deref.ensures.value in
    let low : c.args.class < length given = subst (λ l. c.args.class < length l) is found.3.0 in
    let at : slice_get given c.args.class ≡ Some commons = slice_get_read given (length given) c.args.class commons refl low (found.1 ∙ ap (λ l. get_or l c.args.class commons) is) in
    c.any_lists.ensures ∙ ap (list_any (λ d. lists p.listed.keys d c.args.name.now)) (c.deref-2.ensures.value ∙ ap places_in (sym at))
    ∙ ap (λ b. b || list_any (λ d. lists p.listed.keys d c.args.name.now) (commons_at given c.args.class)) (sym isnt)
