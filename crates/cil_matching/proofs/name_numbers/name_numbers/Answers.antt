use Rattle.cil_matching.proofs.Common.{◌≡◌, ◌∙◌, ◌+◌, ◌<◌, List, ℕ, length, Some, None, sym, subst, arith, name_cmp, name_total, sorted_from_names_rise, ArePlaces, AreBefore, IsFoundAt, IsMissedAt}
use Rattle.cil_matching.proofs.MatchedLemmas.{places-next}
use Rattle.cil_matching.proofs.MergedLemmas.{before-next, before-past}
use Rattle.cil_matching.proofs.NumberLemmas.{name-found, name-missed}
use Rattle.cil_matching.proofs.name_numbers.name_numbers.Goals.{in-Ok+in_ok-push-in-Ok, in-Err+in_ok-push-in-Err}
use Rattle.cil_matching.proofs.name_numbers.name_numbers.Goals as goal

pub loop-i-preserved : goal.loop-i-preserved
loop-i-preserved g c =
    let olds = c.args.old.now.names.items in
    let news = c.args.new.now.names.items in
    let old_sorted = sorted_from_names_rise olds c.args.old.now.ordered in
    let i = c.loop-i.i in
    let many = c.names_len-i-end.ensures in
    let within = c.loop-i-test.true in
    let low : i < length olds = omega (arith, many, within) in
    elim c.match-find_name.branch [
      | in-Ok+in_ok-push-in-Ok w ↦
          let found : IsFoundAt name_cmp olds news i w.in-Ok.j = w.in-Ok.ensures.ok in
          let grown : c.match-find_name.numbers.items ≡ w.push.new.self.items = λ k. (w.numbers-is k).items in
          record {
            numbers_are =
                places-next (λ (x y : List ℕ). x ≡ y) olds news i c.loop-i.numbers.items c.match-find_name.numbers.items (Some w.in-Ok.j)
                (name-found olds news i w.in-Ok.j low (sorted_from_names_rise news c.args.new.now.ordered) found) (grown ∙ w.in_ok-push-in-Ok.ensures.items) c.loop-i.invariant.numbers_are;
            before = subst (AreBefore name_cmp olds news (i + 1)) (sym w.from-is) (before-past name_cmp name_total olds news i w.in-Ok.j old_sorted found);
          }
      | in-Err+in_ok-push-in-Err w ↦
          let missed : IsMissedAt name_cmp olds news i w.in-Err.j = w.in-Err.ensures.err in
          let grown : c.match-find_name.numbers.items ≡ w.push-in-Err.new.self.items = λ k. (w.numbers-is k).items in
          record {
            numbers_are =
                places-next (λ (x y : List ℕ). x ≡ y) olds news i c.loop-i.numbers.items c.match-find_name.numbers.items None (name-missed olds news i w.in-Err.j missed)
                (grown ∙ w.in_ok-push-in-Err.ensures.items) c.loop-i.invariant.numbers_are;
            before = subst (AreBefore name_cmp olds news (i + 1)) (sym w.from-is) (before-next name_cmp name_total olds news i w.in-Err.j old_sorted missed.before);
          }
    ]

pub returns : goal.returns
returns g c =
    let many = c.names_len-i-end.ensures in
    let past = c.loop-i-test.false in
    let end = c.loop-i.auto.i-end in
    subst (λ n. ArePlaces (λ (x y : List ℕ). x ≡ y) c.args.old.now.names.items c.args.new.now.names.items n c.loop-i.numbers.items) (omega (arith, many, past, end)) c.loop-i.invariant.numbers_are
