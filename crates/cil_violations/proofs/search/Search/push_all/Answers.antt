use Rattle.cil_violations.proofs.Common.{◌≡◌, append-nil, ◌∙◌, ◌-◌, ◌+◌, ◌<◌, ◌++◌, length, ap, sym, subst, arith, length-map, rule_of, AreMetBySet, hits, tests_of, rules_in, pair_rows}
use Rattle.std.proofs.Common.{flat_map}
use Rattle.std.specs.Prelude.{All}
use Rattle.cil_violations.specs.Known.{AreClasses}
use Rattle.cil_violations.specs.declared.known.Known.{Known}
use Rattle.cil_violations.specs.declared.search.Met.{Met}
use Rattle.cil_violations.proofs.HitLemmas.{hits-here, hits-past, done-more, done-same}
use Rattle.cil_violations.proofs.search.Search.push_all.Goals as goal
use Rattle.cil_violations.proofs.search.Search.push_all.Goals.{then-is_never+in_ok-bring+in_ok-push_pairs, else-is_never}

pub loop-never-preserved : goal.loop-never-preserved
loop-never-preserved g c =
    let s = c.args.self.now in
    let all = length (rules_in s) in
    let test = (tests_of s).never in
    let rows = pair_rows (tests_of s) all (length s.resolved.now.names.items) in
    let i = c.loop-never.never in
    let long = c.rules_len-never-end.ensures in
    let within : i < all = (let mapped = length-map (rules_in s) (rule_of s.resolved.now.modules.items s.resolved.now.names.items) in omega (arith, long, mapped, c.loop-never-test.true)) in
    let m = c.loop-never.invariant in
    elim c.if-is_never.branch [
      | then-is_never+in_ok-bring+in_ok-push_pairs w ↦ record {
        shared =
            subst (λ (x : Known _). All (AreClasses s) x.lists.items) (sym w.known-is)
            w.in_ok-push_pairs.ensures.known;
        known = subst (λ (x : Met _). AreMetBySet s x.set x.rules.items) (sym w.met-is) w.in_ok-bring.ensures.known;
        so_far =
            ap (λ l. l ++ flat_map rows (hits test (i + 1) (all - (i + 1))))
            (ap (λ v. v.items) w.rows-is ∙ w.in_ok-push_pairs.ensures.rows)
            ∙ done-more rows _ c.loop-never.rows.items i (hits test i (all - i)) (hits test (i + 1) (all - (i + 1))) (hits-here test all i within (sym c.is_never.ensures ∙ w.if-is_never.true)) m.so_far;
      }
      | else-is_never w ↦ record {
        shared = subst (λ (x : Known _). All (AreClasses s) x.lists.items) (sym w.known-is) m.shared;
        known = subst (λ (x : Met _). AreMetBySet s x.set x.rules.items) (sym w.met-is) m.known;
        so_far =
            ap (λ l. l ++ flat_map rows (hits test (i + 1) (all - (i + 1)))) (ap (λ v. v.items) w.rows-is)
            ∙ done-same rows _ c.loop-never.rows.items (hits test i (all - i)) (hits test (i + 1) (all - (i + 1))) (hits-past test all i within (sym c.is_never.ensures ∙ w.if-is_never.false)) m.so_far;
      }
    ]

pub returns : goal.returns
returns g c =
    let s = c.args.self.now in
    let all = length (rules_in s) in
    let i = c.loop-never.never in
    let done = c.loop-never.rows.items in
    let long = c.rules_len-never-end.ensures in
    let past = c.loop-never-test.false in
    let mapped = length-map (rules_in s) (rule_of s.resolved.now.modules.items s.resolved.now.names.items) in
    let none : all - i ≡ 0 = omega (arith, long, mapped, past) in
    let rows = pair_rows (tests_of s) all (length s.resolved.now.names.items) in
    sym (append-nil done)
    ∙ sym (ap (λ n. done ++ flat_map rows (hits (tests_of s).never i n)) none)
    ∙ c.loop-never.invariant.so_far
