use Rattle.cil_resolve.proofs.Common.{◌≡◌, ◌∙◌, Some, refl, sym, ap, types, leaves, named, nothing, elements, nodes_in}
use Rattle.std.proofs.Common.{slice_get}
use Rattle.cil_specs.specs.Rule.{element_of}
use Rattle.cil_resolve.proofs.OneNameLemmas.{name-alone, name-listed, one-made}
use Rattle.cil_resolve.proofs.SetLemmas.{leaf-refers}
use Rattle.cil_resolve.proofs.lowering.Lowering.short_expression.Goals as goal

pub element-requires : goal.element-requires
element-requires g c =
    let (policy, s, is, (attribute, expr, form)) = c.requires in
    let (word, alone) = name-alone expr (sym (is.seen_is.shown.nodes ∙ ap nodes_in (is.seen_is.form ∙ form)) ∙ c.is_name.ensures.0 c.if-is_name.true) in
    let at : slice_get (leaves expr) 0 ≡ Some word = ap (λ e. slice_get (leaves e) 0) alone in
    let (refers, worded) = leaf-refers s attribute expr 0 word form at in
    record { policy = policy; s = s; table = types; word = word; is = is; at = refers }

pub element-requires-then-is_list_of_name : goal.element-requires-then-is_list_of_name
element-requires-then-is_list_of_name g c =
    let (policy, s, is, (attribute, expr, form)) = c.requires in
    let (word, alone) = name-listed expr (sym (is.seen_is.shown.nodes ∙ ap nodes_in (is.seen_is.form ∙ form)) ∙ c.is_list_of_name.ensures.0 c.if-is_list_of_name.true) in
    let at : slice_get (leaves expr) 0 ≡ Some word = ap (λ e. slice_get (leaves e) 0) alone in
    let (refers, worded) = leaf-refers s attribute expr 0 word form at in
    record { policy = policy; s = s; table = types; word = word; is = is; at = refers }

pub returns-then-is_name : goal.returns-then-is_name
returns-then-is_name g c policy s attribute expr is form =
    let names = c.args.self.now.numbering.now.names.items in
    let (word, alone) = name-alone expr (sym (is.seen_is.shown.nodes ∙ ap nodes_in (is.seen_is.form ∙ form)) ∙ c.is_name.ensures.0 c.if-is_name.true) in
    let at : slice_get (leaves expr) 0 ≡ Some word = ap (λ e. slice_get (leaves e) 0) alone in
    let (refers, worded) = leaf-refers s attribute expr 0 word form at in
    one-made names (element_of policy s.namespace) expr word c.element.result c.named.result (λ leaf l. named l) alone refl refl refl
    (c.element.ensures policy s word is refers worded) c.named.ensures

pub returns-then-is_list_of_name : goal.returns-then-is_list_of_name
returns-then-is_list_of_name g c policy s attribute expr is form =
    let names = c.args.self.now.numbering.now.names.items in
    let (word, alone) = name-listed expr (sym (is.seen_is.shown.nodes ∙ ap nodes_in (is.seen_is.form ∙ form)) ∙ c.is_list_of_name.ensures.0 c.if-is_list_of_name.true) in
    let at : slice_get (leaves expr) 0 ≡ Some word = ap (λ e. slice_get (leaves e) 0) alone in
    let (refers, worded) = leaf-refers s attribute expr 0 word form at in
    one-made names (element_of policy s.namespace) expr word c.element-then-is_list_of_name.result c.listed.result (λ leaf l. elements (named l) nothing) alone refl refl refl
    (c.element-then-is_list_of_name.ensures policy s word is refers worded) c.listed.ensures
