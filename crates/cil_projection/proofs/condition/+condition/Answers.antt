use Rattle.std.proofs.Common.{◌++◌, ◌∙◌, sym, ap, subst, arith, true, false}
use Rattle.std.specs.Option.{option_map}
use Rattle.cil_reader.specs.Common.{trees_of}
use Rattle.cil_reader.proofs.Nodes.{size_behind}
use Rattle.cil_projection.specs.Conditions.{in_front, settings_of, values}
use Rattle.cil_projection.proofs.ValueLemmas.{CompletesValues, completes_more, none_left, values_first}
use Rattle.cil_projection.proofs.condition.+condition.Goals as goal

pub add_values-returns-in_default-2 : goal.add_values-returns-in_default-2
add_values-returns-in_default-2 g t c =
    let value = (settings_of c.args.booleans.now).value in
    let rest = trees_of c.in-Some.behind in
    c.loop-tree.invariant.completes c.loop-tree.found.items false
    (values_first value c.in-Some.tree (trees_of c.loop-tree.rest) rest c.in-Some.ensures
    ∙ ap (λ x. in_front x (values value rest)) (sym (c.in_ok-first.ensures rest) ∙ c.in_default-2.is))

pub add_values-loop-tree-preserved : goal.add_values-loop-tree-preserved
add_values-loop-tree-preserved g t c =
    let value = (settings_of c.args.booleans.now).value in
    let rest = trees_of c.in-Some.behind in
    let all = values value (trees_of c.args.trees) in
    let left = values value (trees_of c.loop-tree.rest) in
    let is = values_first value c.in-Some.tree (trees_of c.loop-tree.rest) rest c.in-Some.ensures
    ∙ ap (λ x. in_front x (values value rest)) (sym (c.in_ok-first.ensures rest) ∙ c.in-Some-2.is) in
    record {
      completes = subst (λ now. CompletesValues c.args.found.now.items all now (values value rest)) (sym c.in_ok-push.ensures.items)
          (completes_more c.args.found.now.items c.loop-tree.found.items all left (values value rest) c.in-Some-2.first c.loop-tree.invariant.completes is);
      smaller = omega (arith, c.loop-tree.invariant.smaller, size_behind (trees_of c.loop-tree.rest) c.in-Some.tree rest c.in-Some.ensures);
    }

pub add_values-returns : goal.add_values-returns
add_values-returns g t c =
    let now = c.loop-tree.found.items in
    c.loop-tree.invariant.completes now true
    (ap (λ found. option_map (λ l. now ++ l) (values (settings_of c.args.booleans.now).value found)) c.in_default.ensures ∙ none_left now)
