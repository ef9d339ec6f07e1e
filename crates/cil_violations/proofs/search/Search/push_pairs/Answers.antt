use Rattle.cil_violations.proofs.Common.{◌<◌, get_or, length, arith, subst, sym, names_in, rules_in, source_rows, tests_of}
use Rattle.cil_violations.proofs.HitLemmas.{hits-below}
use Rattle.cil_violations.proofs.KnownLemmas.{met-shares}
use Rattle.cil_violations.proofs.PairLemmas.{part-more}
use Rattle.cil_violations.proofs.search.Search.push_pairs.Goals as goal

pub push_sources-requires-clause-allowed : goal.push_sources-requires-clause-allowed
push_sources-requires-clause-allowed g c =
    let s = c.args.self.now in
    let test = (tests_of s).pair c.args.never in
    let low = hits-below test (length (rules_in s)) 0 c.loop-allowed.allowed-index (subst (λ l. c.loop-allowed.allowed-index < length l) c.requires.met c.loop-allowed-test.true) in
    subst (λ l. get_or l c.loop-allowed.allowed-index 0 < length (rules_in s)) (sym c.requires.met) (omega (arith, low))

pub push_sources-requires-clause-shares : goal.push_sources-requires-clause-shares
push_sources-requires-clause-shares g c =
    met-shares c.args.self.now c.args.never c.args.met.now c.requires.met c.loop-allowed.allowed-index
    c.loop-allowed-test.true

pub loop-allowed-preserved : goal.loop-allowed-preserved
loop-allowed-preserved g c =
    let s = c.args.self.now in
    record {
      rows =
          part-more (source_rows (tests_of s) (names_in s) c.args.never) c.args.rows.now.items c.loop-allowed.rows.items
          c.push_sources.new.rows.items c.args.met.now c.loop-allowed.allowed-index c.loop-allowed-test.true
          c.loop-allowed.invariant.rows c.in_ok-push_sources.ensures.rows;
      known = c.in_ok-push_sources.ensures.known;
    }
