use Rattle.cil_lookup.proofs.Common.{ap, ◌∙◌, lookup, word_at, namespace_at, table_of, Key}
use Rattle.cil_lookup.proofs.LookupLemmas.{derived-key, declaration-lead}
use Rattle.cil_lookup.proofs.lookup.Lookup.declaration.Goals as goal

pub returns : goal.returns
returns g c = λ names policy knows below.
    let key : Key = record { table = c.args.table; namespace = c.args.namespace; word = c.args.word } in
    declaration-lead (table_of c.args.table) policy (namespace_at names c.args.self.now.namespaces c.args.namespace) (word_at names c.args.word) c.copied.result
    (c.copied.ensures ∙ c.get.ensures.value ∙ ap (λ test. lookup test c.args.self.now.declared.entries) (derived-key key)
    ∙ knows.declared c.args.table c.args.namespace c.args.word c.requires below)
