use Rattle.std.proofs.Common.{◌∙◌, ap, length}
use Rattle.std.proofs.lemmas.List.{length-set}
use Rattle.cil_keyed_lines.proofs.NameLemmas.{before_back, names_back, newest_line, newest_place}
use Rattle.cil_keyed_lines.proofs.names.Names.undo.Goals as goal

pub name-requires-clause-place : goal.name-requires-clause-place
name-requires-clause-place g c =
    let was = c.loop-change.self-inside in
    newest_place was.named.items was.users.items was.log.items c.pop.new.self.items c.in-Some.change c.loop-change.invariant.are c.in-Some.ensures.items

pub name-requires-clause-line : goal.name-requires-clause-line
name-requires-clause-line g c =
    let was = c.loop-change.self-inside in
    newest_line was.named.items was.users.items was.log.items c.pop.new.self.items c.in-Some.change c.loop-change.invariant.are c.in-Some.ensures.items

pub loop-change-preserved : goal.loop-change-preserved
loop-change-preserved g c =
    let was = c.loop-change.self-inside in
    let is = c.loop-change.invariant in
    let r = c.in-Some.change in
    let step = c.name.ensures in
    let within = newest_place was.named.items was.users.items was.log.items c.pop.new.self.items r is.are c.in-Some.ensures.items in
    record {
      are = names_back was.named.items was.users.items c.name.new.named.items c.name.new.users.items r.place r.line within step.named step.len was.log.items c.pop.new.self.items is.are c.in-Some.ensures.items step.counted;
      len = ap length step.named ∙ length-set was.named.items r.place r.line ∙ is.len;
      lines = step.len ∙ is.lines;
      same = λ p.
          before_back was.named.items was.users.items c.name.new.named.items c.name.new.users.items r.place r.line within step.named step.len was.log.items c.pop.new.self.items c.in-Some.ensures.items p ∙ is.same p;
    }
