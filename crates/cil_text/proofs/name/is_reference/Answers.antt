use Rattle.cil_text.proofs.Common.{◌==◌, ◌∙◌, ap, rules, tests, slice_split, list_all, all_from_yields_List, is_name}
use Rattle.std.proofs.lemmas.Iterator.Splits.{YieldsList-from_slice_split}
use Rattle.cil_text.proofs.NameLemmas.{components_split}
use Rattle.cil_text.proofs.name.is_reference.Goals as goal

pub returns : goal.returns
returns c =
    all_from_yields_List is_name _ _ c.all.result c.all.ensures.ran
    (YieldsList-from_slice_split _ (λ b. b == 46) _ c.split.ensures.rest c.split.ensures.done c.split.ensures.closure (λ x b q k. search (rules, tests)))
    (λ x b q k. search (rules, tests))
    ∙ ap (λ text. list_all is_name (slice_split (λ b. b == 46) text)) c.without_dot.ensures ∙ ap (list_all is_name) (components_split c.args.text.now)
