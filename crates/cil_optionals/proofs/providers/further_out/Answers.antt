use Rattle.cil_optionals.proofs.Common.{sym, subst, word_at, table_of, IsLead, further_out}
use Rattle.cil_bind.proofs.LookupLemmas.{around}
use Rattle.cil_optionals.proofs.providers.further_out.Goals as goal

pub returns : goal.returns
returns g c = λ names policy knows low.
    let spaces = c.args.lookup.now.namespaces in
    let some = c.in_ok-outer.ensures.some in
    subst (λ n. IsLead (table_of c.args.table) policy c.outward.result (further_out policy (table_of c.args.table) n (word_at names c.args.word)))
    (sym (around names spaces c.args.namespace c.in_ok-outer.outer some.0 some.1)) (c.outward.ensures names policy knows low)
