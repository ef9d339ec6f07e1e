use Rattle.cil_bind.proofs.Common.{◌∷◌, ◌++◌, [], None, get_or, length, refl, sym, ap, ◌∙◌, subst, arith, slice_get_within, texts_of, citations_of}
use Rattle.cil_bind.specs.Moves.{IsFound}
use Rattle.cil_bind.proofs.LedLemmas.{came-at, came-long, citation-at, no_citation}
use Rattle.cil_bind.proofs.leads.lead_module.Goals as goal

pub loop-n-init : goal.loop-n-init
loop-n-init g c = record {
  closed = refl;
  long = ap length c.requires.closed;
  led = λ names policy knows nums k citation low at. absurd (omega (arith, low));
}

pub loop-n-preserved : goal.loop-n-preserved
loop-n-preserved g c =
    let n = c.loop-n.n in
    let invariant = c.loop-n.invariant in
    let opened = ap (λ p. p.1) c.in_ok-push.ensures.ok in
    record {
      closed = ap (λ p. p.0) c.in_ok-push.ensures.ok ∙ invariant.closed;
      long = came-long c.loop-n.leads.1 _ _ n invariant.long opened;
      led = λ names policy knows nums k citation low at.
          let spaces = c.args.lookup.now.namespaces in
          let texts = texts_of c.args.«module».now in
          let asked = c.args.asked.now in
          let all = c.citations-citation-items.result.now in
          let found = c.in_ok-found.found in
          came-at (λ i f. IsFound names spaces texts policy asked.places.now asked.spaces.now asked.led.now k citation f) c.loop-n.leads.1 _ _ None n k invariant.long opened low
          (λ less. invariant.led names policy knows nums k citation less at)
          (λ same.
          let here = citation-at all (citations_of c.args.«module».now) n k citation c.citations-citation-items.ensures same at in
          subst (λ it. IsFound names spaces texts policy asked.places.now asked.spaces.now asked.led.now k it found) here
          (subst (λ i. IsFound names spaces texts policy asked.places.now asked.spaces.now asked.led.now i (get_or all n no_citation) found) (sym same) (c.in_ok-found.ensures names policy knows nums)));
    }

pub returns-clause-led : goal.returns-clause-led
returns-clause-led g c = record {
  came = c.loop-n.leads.1;
  added = ap (λ p. p.0) c.in_ok-close.ensures.ok ∙ ap (λ l. l ++ c.loop-n.leads.1 ∷ []) c.loop-n.invariant.closed;
  says = λ names policy knows nums k citation at.
      let within = slice_get_within (citations_of c.args.«module».now) k citation at in
      let long = ap length c.citations-citation-items.ensures in
      let past = c.loop-n-test.false in
      c.loop-n.invariant.led names policy knows nums k citation (omega (arith, within, long, past)) at;
}
