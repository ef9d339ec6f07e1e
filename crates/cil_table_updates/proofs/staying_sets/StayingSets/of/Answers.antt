use Rattle.cil_table_updates.proofs.Common.{◌≡◌, ◌∙◌, ◌<◌, None, ap, arith, length, subst, sym, slice_get_within, is_rule_below}
use Rattle.std.proofs.Common.{replicate}
use Rattle.std.proofs.lemmas.List.{with_items_is}
use Rattle.cil_table_updates.specs.Staying.{answer_at, AreStaying}
use Rattle.cil_table_updates.proofs.PlaceLemmas.{passes-at, read-there}
use Rattle.cil_table_updates.proofs.StayingLemmas.{alike-at, none-known, only-none}
use Rattle.cil_table_updates.proofs.staying_sets.StayingSets.of.Goals as goal
use Rattle.cil_table_updates.proofs.staying_sets.StayingSets.of.Goals.{in-Some+in_ok-learn, in_default}

pub loop-j-init : goal.loop-j-init
loop-j-init g c n is =
    let none : c.in_ok-answers.answers.items ≡ replicate c.names_len.result None = c.in_ok-answers.ensures.items_if_clones_equal (only-none _ (λ x some. some)) in
    absurd (none-known c.names_len.result n (ap (λ l. answer_at l n) (sym none) ∙ is))

pub bounds-rules-i : goal.bounds-rules-i
bounds-rules-i g c =
    let are = c.requires.matched c.in-Some.i c.loop-j.j ((c.old_place.ensures c.in-Some.i).0 c.in-Some.is) in
    subst (λ l. c.in-Some.i < length l) (sym c.rules.ensures.rules) (slice_get_within c.args.old.now.resolved.now.rules.items c.in-Some.i are.old_rule are.here)

pub offset_bounds-rules-i : goal.offset_bounds-rules-i
offset_bounds-rules-i g c =
    let are = c.requires.matched c.in-Some.i c.loop-j.j ((c.old_place.ensures c.in-Some.i).0 c.in-Some.is) in
    let within = subst (λ l. c.in-Some.i < length l) (sym c.rules.ensures.rules) (slice_get_within c.args.old.now.resolved.now.rules.items c.in-Some.i are.old_rule are.here) in
    omega (arith, within)

pub learn-requires-clause-old_below : goal.learn-requires-clause-old_below
learn-requires-clause-old_below g c =
    let are = c.requires.matched c.in-Some.i c.loop-j.j ((c.old_place.ensures c.in-Some.i).0 c.in-Some.is) in
    let rules = c.args.old.now.resolved.now.rules.items in
    passes-at (is_rule_below (length c.args.old.now.numbering.now.symbols)) rules c.in-Some.i c.index-rules-i.result c.requires.old_ready.below
    (read-there c.rules.result.now rules c.in-Some.i c.index-rules-i.result are.old_rule c.rules.ensures.rules are.here c.index-rules-i.is)

pub learn-requires-clause-new_below : goal.learn-requires-clause-new_below
learn-requires-clause-new_below g c =
    let are = c.requires.matched c.in-Some.i c.loop-j.j ((c.old_place.ensures c.in-Some.i).0 c.in-Some.is) in
    let rules = c.args.new.now.resolved.now.rules.items in
    passes-at (is_rule_below (length c.args.new.now.numbering.now.symbols)) rules c.loop-j.j c.index-rules-j.result c.requires.new_ready.below
    (read-there c.rules-in-Some.result.now rules c.loop-j.j c.index-rules-j.result are.new_rule c.rules-in-Some.ensures.rules are.there c.index-rules-j.is)

pub learn-requires-clause-alike : goal.learn-requires-clause-alike
learn-requires-clause-alike g c =
    let are = c.requires.matched c.in-Some.i c.loop-j.j ((c.old_place.ensures c.in-Some.i).0 c.in-Some.is) in
    let parts =
    alike-at c.args.old.now c.in-Some.i c.args.new.now c.loop-j.j are c.index-rules-i.result c.index-rules-j.result
    (read-there c.rules.result.now c.args.old.now.resolved.now.rules.items c.in-Some.i c.index-rules-i.result are.old_rule c.rules.ensures.rules are.here c.index-rules-i.is)
    (read-there c.rules-in-Some.result.now c.args.new.now.resolved.now.rules.items c.loop-j.j c.index-rules-j.result are.new_rule c.rules-in-Some.ensures.rules are.there c.index-rules-j.is) in
    record { here = parts.0; there = parts.1; written = parts.2 }

pub learn-requires-clause-staying : goal.learn-requires-clause-staying
learn-requires-clause-staying g c = subst (AreStaying c.args.old.now c.args.new.now) (sym c.deref_mut.ensures.value) c.loop-j.invariant

pub loop-j-preserved : goal.loop-j-preserved
loop-j-preserved g c =
    let old = c.args.old.now in
    let new = c.args.new.now in
    elim c.match-old_place.branch [
      | in-Some+in_ok-learn w ↦
          subst (AreStaying old new)
          (sym (ap (λ answers. answers.items) w.answers-is ∙ with_items_is c.loop-j.answers w.learn.new.answers (w.learn.ensures.len ∙ w.deref_mut.ensures.len)))
          w.in_ok-learn.ensures.staying
      | in_default w ↦ subst (AreStaying old new) (sym (ap (λ answers. answers.items) w.answers-is)) c.loop-j.invariant
    ]
