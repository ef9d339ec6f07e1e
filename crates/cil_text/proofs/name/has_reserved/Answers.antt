use Rattle.cil_text.proofs.Common.{◌==◌, ◌∙◌, ap, rules, tests, slice_split, list_any, any_from_yields_List, is_reserved}
use Rattle.std.proofs.lemmas.Iterator.Splits.{YieldsList-from_slice_split}
use Rattle.cil_text.proofs.NameLemmas.{components_split}
use Rattle.cil_text.proofs.name.has_reserved.Goals as goal

pub returns : goal.returns
returns c =
    any_from_yields_List is_reserved _ _ c.any.result c.any.ensures.ran
    (YieldsList-from_slice_split _ (λ b. b == 46) _ c.split.ensures.rest c.split.ensures.done c.split.ensures.closure (λ x b q k. search (rules, tests)))
    (λ x b q k. search (rules, tests))
    ∙ ap (λ text. list_any is_reserved (slice_split (λ b. b == 46) text)) c.without_dot.ensures ∙ ap (list_any is_reserved) (components_split c.args.text.now)
