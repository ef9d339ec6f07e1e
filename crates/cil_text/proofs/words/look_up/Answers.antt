use Rattle.std.proofs.Common.{rules, tests, ap, sym, ◌∙◌, option_map, bytes_eq}
use Rattle.std.proofs.lemmas.Iterator.Search.{find_from_yields_List}
use Rattle.std.proofs.lemmas.Iterator.{YieldsList-from_slice}
use Rattle.cil_text.proofs.words.look_up.Goals as goal

pub returns-in_err-value : goal.returns-in_err-value
returns-in_err-value g c = record {
  first =
      c.from_residual.ensures ∙ ap (option_map (λ row. row.1)) (sym (ap (option_map (λ x. x.now)) c.in_err-value.was)
      ∙ find_from_yields_List (λ row. bytes_eq c.args.text.now row.0.now) _ _ c.find.result c.find.ensures.ran (YieldsList-from_slice _ c.iter.ensures.rest) (λ x b q k. search (rules, tests)));
}

pub returns : goal.returns
returns g c = record {
  first =
      ap (option_map (λ row. row.1)) (sym (ap (option_map (λ x. x.now)) c.in_ok-value.was)
      ∙ find_from_yields_List (λ row. bytes_eq c.args.text.now row.0.now) _ _ c.find.result c.find.ensures.ran (YieldsList-from_slice _ c.iter.ensures.rest) (λ x b q k. search (rules, tests)));
}
