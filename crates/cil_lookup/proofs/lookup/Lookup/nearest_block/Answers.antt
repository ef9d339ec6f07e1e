use Rattle.std.proofs.Common.{Some, ap, sym, ◌∙◌, arith}
use Rattle.cil_lookup.specs.Lookup.{word_at, named, namespace_at}
use Rattle.cil_lookup.proofs.LookupLemmas.{around, has_block-true, has_block-false, nearest-here, nearest-global, nearest-next}
use Rattle.cil_lookup.proofs.lookup.Lookup.nearest_block.Goals as goal

pub returns-in-Some-clause-some : goal.returns-in-Some-clause-some
returns-in-Some-clause-some g c = λ names policy knows below.
    let spaces = c.args.self.now.namespaces in
    c.loop-found.invariant.left names policy knows below
    ∙ nearest-here policy (namespace_at names spaces c.loop-found.at) (word_at names c.args.word)
    (has_block-true names spaces policy c.loop-found.at c.in-Some.found c.args.word knows.opened c.loop-found.invariant.within below c.in-Some.ensures.within c.in-Some.ensures.some)
    ∙ ap Some (sym (around names spaces c.in-Some.found c.loop-found.at c.args.word c.in-Some.ensures.some))

pub returns-in_err-at-clause-none : goal.returns-in_err-at-clause-none
returns-in_err-at-clause-none g c =
    let spaces = c.args.self.now.namespaces in
    rw c.from_residual.ensures (λ names policy knows below.
    c.loop-found.invariant.left names policy knows below
    ∙ nearest-global policy (namespace_at names spaces c.loop-found.at) (word_at names c.args.word) (ap (named names) c.in_err-at.ensures.none)
    (has_block-false names spaces policy c.loop-found.at c.args.word knows.opened c.loop-found.invariant.within below c.in_default.ensures.none))

pub loop-found-preserved : goal.loop-found-preserved
loop-found-preserved g c = record {
  within = (let nearer = c.in_ok-at.ensures.within in let inside = c.loop-found.invariant.within in omega arith);
  left = λ names policy knows below.
      let spaces = c.args.self.now.namespaces in
      c.loop-found.invariant.left names policy knows below
      ∙ nearest-next policy (namespace_at names spaces c.loop-found.at) (word_at names c.args.word) (word_at names c.in_ok-at.ensures.some.0) (namespace_at names spaces c.in_ok-at.at)
      (around names spaces c.loop-found.at c.in_ok-at.at c.in_ok-at.ensures.some.0 c.in_ok-at.ensures.some.1)
      (has_block-false names spaces policy c.loop-found.at c.args.word knows.opened c.loop-found.invariant.within below c.in_default.ensures.none);
}
