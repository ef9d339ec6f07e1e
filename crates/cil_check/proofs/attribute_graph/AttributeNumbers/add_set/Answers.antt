use Rattle.cil_check.proofs.Common.{◌≡◌, ◌+◌, ◌<◌, ◌≤◌, Some, length, sym, ap, ◌∙◌, subst, arith, slice_get_within, references, words_in, attribute_count, number_led}
use Rattle.std.proofs.Common.{slice_get}
use Rattle.cil_check.proofs.AskedLemmas.{form-set, leads-long, set-long, set-reference, word-there}
use Rattle.cil_check.proofs.GraphLemmas.{HasWords, number-within, words-next, words-skip, words-end}
use Rattle.cil_check.proofs.MentionLemmas.{led-to}
use Rattle.cil_check.proofs.attribute_graph.AttributeNumbers.add_set.Goals as goal
use Rattle.cil_check.proofs.attribute_graph.AttributeNumbers.add_set.Goals.{in-Some-led+in_ok-add_edge, in_default-led}

pub references-cited-requires : goal.references-cited-requires
references-cited-requires g c =
    let (policy, s, is, have, at, kind, nodes) = c.requires in
    (policy, is, slice_get_within policy c.args.i s at)

pub add_edge-requires : goal.add_edge-requires
add_edge-requires g c =
    let (policy, s, is, have, at, kind, nodes) = c.requires in
    let are = c.references-cited.ensures policy s is at in
    let (attribute, expr, form) = form-set s.form kind in
    let from : Some c.in-Some.from ≡ number_led policy s.namespace attribute = c.in-Some.ensures policy s attribute is have are (set-reference s.form attribute expr 0 attribute form (ap (λ f. slice_get (words_in f) 0) form)) in
    let led = led-to policy is.bound.once is.spelt s.namespace attribute c.in-Some.from (sym from) in
    let within : c.in-Some.from < attribute_count policy = number-within policy c.in-Some.from led.i led.s led.numbered in
    omega (arith, within, c.loop-k.invariant.nodes, nodes)

pub loop-k-preserved : goal.loop-k-preserved
loop-k-preserved g c = record {
  nodes = elim c.match-led-2.branch [
    | in-Some-led+in_ok-add_edge w ↦ ap (λ v. length v.items) w.graph-is ∙ w.in_ok-add_edge.ensures.nodes ∙ c.loop-k.invariant.nodes
    | in_default-led w ↦ ap (λ v. length v.items) w.graph-is ∙ c.loop-k.invariant.nodes
  ];
  edges = λ policy s is have at kind.
      let old = c.args.graph.now.items in
      let k = c.loop-k.k in
      let from = c.in-Some.from in
      let (attribute, expr, form) = form-set s.form kind in
      let are = c.references-cited.ensures policy s is at in
      let long = leads-long policy s.namespace (references s.form) c.references-cited.result are in
      let many = set-long s.form attribute expr form in
      let end = c.len-k-end.ensures in
      let less : k < length (words_in s.form) = omega (arith, long, many, end) in
      let (word, there) = word-there (words_in s.form) k less in
      let refers = set-reference s.form attribute expr k word form there in
      elim c.match-led-2.branch [
        | in-Some-led+in_ok-add_edge w ↦
            subst (λ v. HasWords policy s from (k + 1) old v.items) (sym w.graph-is)
            (words-next policy s from w.in-Some-led.to k old c.loop-k.graph.items w.add_edge.new.graph.items word there (omega arith) (sym (w.in-Some-led.ensures policy s word is have are refers)) w.in_ok-add_edge.ensures.edges
            (c.loop-k.invariant.edges policy s is have at kind))
        | in_default-led w ↦
            subst (λ v. HasWords policy s from (k + 1) old v.items) (sym w.graph-is)
            (words-skip policy s from k old c.loop-k.graph.items word there (sym (w.in_default-led.ensures policy s word is have are refers)) (c.loop-k.invariant.edges policy s is have at kind))
      ];
}

pub returns-clause-edges : goal.returns-clause-edges
returns-clause-edges g c = λ policy s is have at kind.
    let (attribute, expr, form) = form-set s.form kind in
    let are = c.references-cited.ensures policy s is at in
    let from : Some c.in-Some.from ≡ number_led policy s.namespace attribute = c.in-Some.ensures policy s attribute is have are (set-reference s.form attribute expr 0 attribute form (ap (λ f. slice_get (words_in f) 0) form)) in
    let long = leads-long policy s.namespace (references s.form) c.references-cited.result are in
    let many = set-long s.form attribute expr form in
    let end = c.len-k-end.ensures in
    let past : length (words_in s.form) ≤ c.loop-k.k = omega (arith, long, many, end) in
    words-end policy s c.in-Some.from c.loop-k.k c.args.graph.now.items c.loop-k.graph.items attribute expr form (sym from) past (c.loop-k.invariant.edges policy s is have at kind)
