use Rattle.cil_check.proofs.Common.{◌∙◌, ◌+◌, ◌≤◌, ◌<◌, length, length-map, sym, ap, subst, take, arith, kind_of}
use Rattle.cil_check.proofs.GraphLemmas.{HasEdges, edges-next, edges-skip, edges-end, places-many}
use Rattle.cil_bind.proofs.BindingLemmas.{kind-at}
use Rattle.cil_check.proofs.SeenLemmas.{there-at}
use Rattle.cil_check.proofs.attribute_graph.AttributeNumbers.graph.Goals as goal
use Rattle.cil_check.proofs.attribute_graph.AttributeNumbers.graph.Goals.{in-TypeAttributeSet+in_ok-add_set, in_default}

pub add_set-requires : goal.add_set-requires
add_set-requires g c =
    let (policy, is, have) = c.requires in
    let same = c.kinds-kinds.ensures policy is in
    let many = ap length same ∙ length-map policy (λ s. kind_of s.form) in
    let within = c.loop-i-test.true in
    let less : c.loop-i.i < length policy = omega (arith, many, within) in
    let (s, at) = there-at policy c.loop-i.i less in (
      policy,
      s,
      is,
      have,
      at,
      sym (kind-at policy c.kinds-kinds.result.now c.loop-i.i s _ same at) ∙ c.in-TypeAttributeSet.is,
      c.loop-i.invariant.nodes ∙ places-many policy c.args.self.now.numbers.items c.args.self.now.places.items have,
    )

pub loop-i-preserved : goal.loop-i-preserved
loop-i-preserved g c = record {
  nodes = elim c.match-kinds-i.branch [
    | in-TypeAttributeSet+in_ok-add_set w ↦ ap (λ v. length v.items) w.graph-is ∙ w.in_ok-add_set.ensures.nodes ∙ c.loop-i.invariant.nodes
    | in_default w ↦ ap (λ v. length v.items) w.graph-is ∙ c.loop-i.invariant.nodes
  ];
  edges = λ policy is have.
      let i = c.loop-i.i in
      let kinds = c.kinds-kinds.result.now in
      let same = c.kinds-kinds.ensures policy is in
      let many = ap length same ∙ length-map policy (λ s. kind_of s.form) in
      let within = c.loop-i-test.true in
      let less : i < length policy = omega (arith, many, within) in
      let (s, at) = there-at policy i less in
      let so_far = c.loop-i.invariant.edges policy is have in
      elim c.match-kinds-i.branch [
        | in-TypeAttributeSet+in_ok-add_set w ↦
            subst (λ v. HasEdges policy (take (i + 1) policy) v.items) (sym w.graph-is)
            (edges-next policy i s c.loop-i.graph.items w.add_set.new.graph.items at
            (w.in_ok-add_set.ensures.edges policy s is have at (sym (kind-at policy kinds i s _ same at) ∙ w.in-TypeAttributeSet.is)) so_far)
        | in_default w ↦
            subst (λ v. HasEdges policy (take (i + 1) policy) v.items) (sym w.graph-is)
            (edges-skip policy i s c.loop-i.graph.items at (λ kind. w.in_default.not-TypeAttributeSet (kind-at policy kinds i s _ same at ∙ kind)) so_far)
      ];
}

pub returns : goal.returns
returns g c = λ policy is have.
    let many = ap length (c.kinds-kinds.ensures policy is) ∙ length-map policy (λ s. kind_of s.form) in
    let past : length policy ≤ c.loop-i.i = omega (arith, many) in
    edges-end policy c.loop-i.i c.loop-i.graph.items past
    (c.loop-i.invariant.nodes ∙ places-many policy c.args.self.now.numbers.items c.args.self.now.places.items have) (c.loop-i.invariant.edges policy is have)
