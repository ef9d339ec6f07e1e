use Rattle.cil_keyed_lines.proofs.Common.{◌≡◌, ◌≤◌, ◌∙◌, ap, arith, count_now, drop, length, name_now, named_at, sym, take, AreNamed}
use Rattle.cil_keyed_lines.proofs.RunLemmas.{above_run, named_run, names_run, now_run}
use Rattle.std.proofs.lemmas.List.{take_all}
use Rattle.cil_keyed_lines.proofs.moves.move_places.Goals as goal

pub move_group-requires-clause-named : goal.move_group-requires-clause-named
move_group-requires-clause-named g c =
    let from = c.loop-from.from in
    let group = c.split_at-in-loop-from.result.0.now in
    let is : group ≡ take (length group) (drop from c.args.places.now) =
    c.split_at-in-loop-from.ensures.front ∙ ap (take c.run_len.result) c.split_at.ensures.back ∙ ap (λ m. take m (drop from c.args.places.now)) (sym c.split_at-in-loop-from.ensures.front_len) in
    let so = c.loop-from.invariant in
    named_run c.args.places.now group from (length group) is c.args.names.now c.loop-from.names c.args.lines.now c.loop-from.lines c.args.moved.now c.requires.named so.len so.names so.now

pub move_group-requires-clause-above : goal.move_group-requires-clause-above
move_group-requires-clause-above g c t =
    let from = c.loop-from.from in
    let group = c.split_at-in-loop-from.result.0.now in
    let is : group ≡ take (length group) (drop from c.args.places.now) =
    c.split_at-in-loop-from.ensures.front ∙ ap (take c.run_len.result) c.split_at.ensures.back ∙ ap (λ m. take m (drop from c.args.places.now)) (sym c.split_at-in-loop-from.ensures.front_len) in
    let so = c.loop-from.invariant in
    let some : 1 ≤ length group = omega (arith, c.split_at-in-loop-from.ensures.front_len, c.run_len.ensures.some) in
    let named : AreNamed group c.loop-from.names =
    named_run c.args.places.now group from (length group) is c.args.names.now c.loop-from.names c.args.lines.now c.loop-from.lines c.args.moved.now c.requires.named so.len so.names so.now in
    let name : name_now c.loop-from.names (named_at group 0).place ≡ (named_at group 0).line = (named.named 0 (record { line = 0; place = 0 }) some).1 in
    omega (
      arith,
      above_run c.args.places.now group from (length group) is c.args.names.now c.loop-from.names c.args.lines.now c.loop-from.lines c.args.moved.now c.requires.named so.len so.names so.now some c.requires.above t,
      ap (λ l. count_now c.loop-from.lines l t) name,
    )

pub loop-from-preserved : goal.loop-from-preserved
loop-from-preserved g c =
    let from = c.loop-from.from in
    let group = c.split_at-in-loop-from.result.0.now in
    let is : group ≡ take (length group) (drop from c.args.places.now) =
    c.split_at-in-loop-from.ensures.front ∙ ap (take c.run_len.result) c.split_at.ensures.back ∙ ap (λ m. take m (drop from c.args.places.now)) (sym c.split_at-in-loop-from.ensures.front_len) in
    let so = c.loop-from.invariant in
    let step = c.in_ok-move_group.ensures in
    record {
      within = omega (arith, c.split_at-in-loop-from.ensures.front_len, c.run_len.ensures.within, c.split_at.ensures.back_len);
      lined = step.lined;
      counted = step.counted;
      more = omega (arith, so.more, step.lines);
      len = step.len ∙ so.len;
      now = now_run c.args.places.now group from (length group) is c.args.names.now c.loop-from.names c.args.lines.now c.loop-from.lines c.args.moved.now c.requires.named so.len so.names so.now
          c.move_group.new.names c.move_group.new.lines step.now;
      names = names_run c.args.places.now group from (length group) is c.args.names.now c.loop-from.names c.args.lines.now c.loop-from.lines c.args.moved.now c.requires.named so.len so.names so.now
          c.move_group.new.names step.others;
      names_before = λ p. step.names_before p ∙ so.names_before p;
      before = λ l t less. step.before l t (omega (arith, less, so.more)) ∙ so.before l t less;
      logged = λ are. step.logged (so.logged are);
    }

pub returns-in_err-move_group-clause-names_before : goal.returns-in_err-move_group-clause-names_before
returns-in_err-move_group-clause-names_before g c = λ p. c.move_group.ensures.names_before p ∙ c.loop-from.invariant.names_before p

pub returns-in_err-move_group-clause-before : goal.returns-in_err-move_group-clause-before
returns-in_err-move_group-clause-before g c = λ l t less.
    c.move_group.ensures.before l t (omega (arith, less, c.loop-from.invariant.more)) ∙ c.loop-from.invariant.before l t less

pub returns-clause-now : goal.returns-clause-now
returns-clause-now g c =
    let all : take c.loop-from.from c.args.places.now ≡ c.args.places.now = take_all c.loop-from.from c.args.places.now (omega arith) in
    λ p t. rw (sym all) (c.loop-from.invariant.now p t)
