use Rattle.cil_bind.proofs.Common.{◌∷◌, ◌++◌, [], length, refl, ap, ◌∙◌, subst, arith, slice_get_within, citations_of, IsBlockSpace}
use Rattle.cil_bind.proofs.LedLemmas.{came-at, came-long, citation-at}
use Rattle.cil_bind.proofs.scope.Scope.add_spaces.Goals as goal

pub loop-citation-init : goal.loop-citation-init
loop-citation-init g c = record {
  closed = refl;
  long = ap length c.requires.closed;
  spaced = λ k citation low at. absurd (omega (arith, low));
}

pub loop-citation-preserved : goal.loop-citation-preserved
loop-citation-preserved g c =
    let n = c.loop-citation.citation-index in
    let invariant = c.loop-citation.invariant in
    let opened = ap (λ p. p.1) c.in_ok-push.ensures.ok in
    record {
      closed = ap (λ p. p.0) c.in_ok-push.ensures.ok ∙ invariant.closed;
      long = came-long c.loop-citation.spaces.1 _ _ n invariant.long opened;
      spaced = λ k citation low at.
          let rows = c.args.self.now.rows.items in
          let most = length c.args.self.now.namespaces in
          let all = c.citations-citation-items.result.now in
          came-at (λ i f. IsBlockSpace rows most c.args.start citation.block f) c.loop-citation.spaces.1 _ _ 0 n k invariant.long opened low
          (λ less. invariant.spaced k citation less at)
          (λ same.
          let here = citation-at all (citations_of c.args.«module».now) n k citation c.citations-citation-items.ensures same at in
          subst (λ it. IsBlockSpace rows most c.args.start it.block c.around.result) here
          (record { within = c.around.ensures.within; global = c.around.ensures.global; inside = c.around.ensures.inside }));
    }

pub returns-clause-added : goal.returns-clause-added
returns-clause-added g c = record {
  came = c.loop-citation.spaces.1;
  added = ap (λ p. p.0) c.in_ok-close.ensures.ok ∙ ap (λ l. l ++ c.loop-citation.spaces.1 ∷ []) c.loop-citation.invariant.closed;
  says = λ k citation at.
      let within = slice_get_within (citations_of c.args.«module».now) k citation at in
      let long = ap length c.citations-citation-items.ensures in
      let past = c.loop-citation-test.false in
      c.loop-citation.invariant.spaced k citation (omega (arith, within, long, past)) at;
}
