use Rattle.cil_resolve.proofs.Common.{◌≡◌, ◌≤◌, ◌<◌, ◌+◌, suc, ◌++◌, ◌∷◌, [], length, map, take, sym, ap, subst, arith, take_all, types, leaves, words_in, shown-long, word-there, AreElements}
use Rattle.cil_specs.specs.Rule.{element_of}
use Rattle.cil_resolve.proofs.SetLemmas.{elements-push, leaf-refers}
use Rattle.cil_resolve.proofs.StatementLemmas.{map-one}
use Rattle.cil_resolve.proofs.lowering.Lowering.set_elements.Goals as goal

pub element-requires : goal.element-requires
element-requires g c =
    let (policy, s, is, (attribute, expr, form)) = c.requires in
    let k = c.loop-k.k in
    let list = leaves expr in
    let long = shown-long c.args.seen.now policy s is.seen_is in
    let whole : length (words_in s.form) ≡ suc (length list) = ap (λ f. length (words_in f)) form in
    let less : k < length list = omega (arith, long, whole) in
    let (word, at) = word-there list k less in
    let (refers, named) = leaf-refers s attribute expr k word form at in
    record { policy = policy; s = s; table = types; word = word; is = is; at = refers }

pub loop-k-preserved : goal.loop-k-preserved
loop-k-preserved g c policy s attribute expr is form =
    let k = c.loop-k.k in
    let names = c.args.self.now.numbering.now.names.items in
    let list = leaves expr in
    let long = shown-long c.args.seen.now policy s is.seen_is in
    let whole : length (words_in s.form) ≡ suc (length list) = ap (λ f. length (words_in f)) form in
    let less : k < length list = omega (arith, long, whole) in
    let (word, at) = word-there list k less in
    let (refers, named) = leaf-refers s attribute expr k word form at in
    let one = c.element.ensures policy s word is refers named in
    let f = element_of policy s.namespace in
    subst (λ l. AreElements names l (map f (take (k + 1) list))) (sym c.in_ok-push.ensures.items)
    (subst (AreElements names (c.loop-k.elements.items ++ c.element.result ∷ [])) (sym (map-one f list k word at))
    (elements-push names c.loop-k.elements.items (map f (take k list)) c.element.result (f word) (c.loop-k.invariant policy s attribute expr is form) one))

pub returns : goal.returns
returns g c policy s attribute expr is form =
    let long = shown-long c.args.seen.now policy s is.seen_is in
    let whole : length (words_in s.form) ≡ suc (length (leaves expr)) = ap (λ f. length (words_in f)) form in
    let past : length (leaves expr) ≤ c.loop-k.k = omega (arith, long, whole) in
    subst (λ l. AreElements c.args.self.now.numbering.now.names.items c.loop-k.elements.items (map (element_of policy s.namespace) l)) (take_all c.loop-k.k (leaves expr) past) (c.loop-k.invariant policy s attribute expr is form)
