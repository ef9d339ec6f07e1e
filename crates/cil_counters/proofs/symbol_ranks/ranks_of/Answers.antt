use Rattle.cil_counters.proofs.Common.{◌∙◌, ap, arith, length, rc_value}
use Rattle.cil_table_updates.proofs.PlaceLemmas.{names-apart}
use Rattle.cil_counters.proofs.SymbolRankLemmas.{ranks-put}
use Rattle.cil_counters.proofs.symbol_ranks.ranks_of.Goals as goal

pub returns : goal.returns
returns g c =
    let names = (rc_value c.args.policy.now).names.items in
    let symbols = c.args.symbols.now in
    ranks-put symbols names c.args.numbering.now.symbols c.in_ok-numbers.numbers.items
    c.put_numbers.new.numbers.items c.requires (names-apart symbols c.len.ensures.distinct)
    (let len = c.in_ok-numbers.ensures.len in let many = c.len.ensures.len in omega (arith, len, many))
    c.names_len.result (c.names_len.ensures ∙ ap (λ r. length r.names.items) c.deref.ensures)
    c.in_ok-put_numbers.ensures
