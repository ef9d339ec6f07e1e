use Rattle.std.proofs.Common.{Some, None, sym, ap, ◌∙◌, subst, arith}
use Rattle.cil_lookup.specs.Lookup.{word_at, named, namespace_at, table_of, IsLead}
use Rattle.cil_lookup.proofs.LookupLemmas.{outward-here, outward-global, outward-next}
use Rattle.cil_lookup.proofs.lookup.Lookup.outward.Goals as goal

pub returns-in-Some : goal.returns-in-Some
returns-in-Some g c = λ names policy knows below.
    subst (IsLead (table_of c.args.table) policy (Some c.in-Some.found)) (sym (c.loop-found.invariant.left names policy knows below))
    (outward-here (table_of c.args.table) policy (namespace_at names c.args.self.now.namespaces c.loop-found.at) (word_at names c.args.word) c.in-Some.found (c.in-Some.ensures names policy knows below))

pub returns-in_err-at : goal.returns-in_err-at
returns-in_err-at g c = λ names policy knows below.
    rw c.from_residual.ensures
    (subst (IsLead (table_of c.args.table) policy None) (sym (c.loop-found.invariant.left names policy knows below))
    (outward-global (table_of c.args.table) policy (namespace_at names c.args.self.now.namespaces c.loop-found.at) (word_at names c.args.word) (ap (named names) c.in_err-at.ensures.none) (c.in_default.ensures names policy knows below)))

pub loop-found-preserved : goal.loop-found-preserved
loop-found-preserved g c = record {
  within = (let nearer = c.in_ok-at.ensures.within in let inside = c.loop-found.invariant.within in omega arith);
  left = λ names policy knows below.
      c.loop-found.invariant.left names policy knows below
      ∙ outward-next (table_of c.args.table) policy names c.args.self.now.namespaces c.loop-found.at c.in_ok-at.at c.in_ok-at.ensures.some.0 (word_at names c.args.word) c.in_ok-at.ensures.some.1 (c.in_default.ensures names policy knows below);
}
