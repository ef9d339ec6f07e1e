use Rattle.cil_parse.proofs.Common.{◌≡◌, [], ◌∷◌, subst, arith, name_nodes, Adds}
use Rattle.cil_parse.specs.declared.row.SetNode.TheVariants.{Element, Name}
use Rattle.cil_parse.proofs.BuilderLemmas.{adds-then}
use Rattle.cil_parse.proofs.PlainLemmas.{name_nodes-more}
use Rattle.cil_parse.proofs.builder.Builder.nodes_of_names.Goals as goal

pub loop-i-preserved : goal.loop-i-preserved
loop-i-preserved g c =
    let old = c.args.self.now in
    let new = c.node-in-loop-i.new.self in
    subst (Adds old new []) (name_nodes-more c.loop-i._i)
    (adds-then old c.loop-i.self new [] [] (name_nodes c.loop-i._i) (Element ∷ Name ∷ []) c.loop-i.invariant
    (adds-then c.loop-i.self c.node.new.self new [] [] (Element ∷ []) (Name ∷ []) c.in_ok-node.ensures c.in_ok-node-2.ensures))

pub returns : goal.returns
returns g c =
    let all : c.loop-i._i ≡ c.args.count = omega (arith, c.loop-i-test.false, c.loop-i.auto._i-end) in
    subst (λ n. Adds c.args.self.now c.loop-i.self [] (name_nodes n)) all c.loop-i.invariant
