use Rattle.cil_check.proofs.Common.{None, Some, map, sym, ap, ◌∙◌, slice_get-map, list_at}
use Rattle.std.proofs.Common.{slice_get, option_map}
use Rattle.cil_check.proofs.InheritedLemmas.{at-index, found-list}
use Rattle.cil_check.proofs.groups.Groups.get.Goals as goal

pub returns-in-Some-get : goal.returns-in-Some-get
returns-in-Some-get g c =
    let keys = c.self.inside.keys.keys in
    let all = c.self.inside.lists.items in
    let at = c.in-Some.at in
    let found = at-index c.get.result c.deref.result.now at c.get.ensures.lookup.0 c.get.ensures.lookup.1 ∙ ap (λ l. slice_get l at) c.deref.ensures.value in
    c.as_slice.ensures.value
    ∙ found-list (map (λ v. v.items) all) keys c.args.key at (Some c.in-Some-get.list.now.items) (sym c.in-Some.ensures.index)
    (ap (option_map (λ v. v.items)) (sym (ap (option_map (λ x. x.now)) c.in-Some-get.is) ∙ found) ∙ sym (slice_get-map (λ v. v.items) all at))
    ∙ ap (λ v. list_at v c.args.key) c.self.view_is

pub returns-in-None : goal.returns-in-None
returns-in-None g c =
    let keys = c.self.inside.keys.keys in
    let all = c.self.inside.lists.items in
    let at = c.in-Some.at in
    let found = at-index c.get.result c.deref.result.now at c.get.ensures.lookup.0 c.get.ensures.lookup.1 ∙ ap (λ l. slice_get l at) c.deref.ensures.value in
    found-list (map (λ v. v.items) all) keys c.args.key at None (sym c.in-Some.ensures.index)
    (ap (option_map (λ v. v.items)) (sym (ap (option_map (λ x. x.now)) c.in-None.is) ∙ found) ∙ sym (slice_get-map (λ v. v.items) all at))
    ∙ ap (λ v. list_at v c.args.key) c.self.view_is
