use Rattle.cil_reader.proofs.Common.{◌≡◌, ◌∙◌, ◌++◌, ◌∷◌, [], length, subst, ap, rules, arith, IsReadingFault, unclosed, Reads, place_of, trees_in}
use Rattle.cil_specs.proofs.Order.{reading-lists, reading-in_order}
use Rattle.cil_reader.proofs.Ends.{goes-ahead, reads-more, reads-all, reads-unclosed}
use Rattle.cil_reader.proofs.reader.read_parts.Goals as goal

pub loop-reader-smaller : goal.loop-reader-smaller
loop-reader-smaller g c =
    let was = c.loop-reader.invariant in
    let went = c.in_ok-step.ensures.ok in
    omega (arith, goes-ahead c.loop-reader.reader c.step.new.self went.0 was.placed went.1, ap length was.same, ap length went.1.same)

pub loop-reader-preserved : goal.loop-reader-preserved
loop-reader-preserved g c =
    let was = c.loop-reader.invariant in
    let went = c.in_ok-step.ensures.ok in
    record {
      same = went.1.same ∙ was.same;
      placed = went.1.placed;
      read = (was.read.0 ++ went.0 ∷ [], reads-more c.loop-reader.reader c.step.new.self was.read.0 went.0 was.read.1 went.1);
    }

pub returns-in-Some-clause-err : goal.returns-in-Some-clause-err
returns-in-Some-clause-err g c =
    let was = c.loop-reader.invariant in
    subst (λ l. IsReadingFault l (record { kind = unclosed; at = place_of c.in-Some.innermost.at; word = 40 ∷ [] })) was.same
    (reads-unclosed c.loop-reader.reader was.read.0 c.pop.new.self.items c.in-Some.innermost was.placed was.read.1 (omega (arith, ap length was.same)) c.in-Some.ensures.items)

pub invariant_of-result : goal.invariant_of-result
invariant_of-result g c =
    let was = c.loop-reader.invariant in
    let none : c.loop-reader.reader.outer.items ≡ [] = search (rules, c.in-None.ensures.variant) in
    let reads : Reads c.loop-reader.reader.text.now (trees_in c.loop-reader.reader.text.now c.loop-reader.reader.nodes.items) = reads-all c.loop-reader.reader was.read.0 was.placed was.read.1 (omega (arith, ap length was.same)) none in
    record {
      lists = reading-lists c.loop-reader.reader.text.now (trees_in c.loop-reader.reader.text.now c.loop-reader.reader.nodes.items) reads;
      ordered = reading-in_order c.loop-reader.reader.text.now (trees_in c.loop-reader.reader.text.now c.loop-reader.reader.nodes.items) 16777216 reads was.placed.small;
    }
