use Rattle.cil_accesses.proofs.Common.{◌∙◌, ◌≡◌, true, get_or, sym, below_more, arith, prefix_len_is, in_run, nowhere}
use Rattle.cil_accesses.proofs.Places.{holds_at}
use Rattle.cil_accesses.proofs.run.run_len.Goals as goal

pub loop-len-preserved : goal.loop-len-preserved
loop-len-preserved c =
    let first = c.args.first.now in
    let chunks = c.args.chunks.now in
    let here : in_run first (get_or chunks c.loop-len.len nowhere) ≡ true = sym c.is_in_run_of.ensures ∙ c.if-is_in_run_of.true in
    record {
      within = omega arith;
      same = λ k d h.
          below_more (λ n. in_run first (get_or chunks n d) ≡ true) c.loop-len.len (λ n below. c.loop-len.invariant.same n d below)
          (holds_at (λ a. in_run first a ≡ true) chunks c.loop-len.len nowhere c.loop-len-test.true here d) k h;
    }

pub returns-else-is_in_run_of-clause-all : goal.returns-else-is_in_run_of-clause-all
returns-else-is_in_run_of-clause-all c =
    let m = c.loop-len.invariant in
    sym (prefix_len_is (in_run c.args.first.now) c.args.chunks.now c.loop-len.len nowhere m.within (λ k h. m.same k nowhere h) (λ h. sym c.is_in_run_of.ensures ∙ c.if-is_in_run_of.false))

pub returns-after-loop-len-clause-all : goal.returns-after-loop-len-clause-all
returns-after-loop-len-clause-all c =
    let m = c.loop-len.invariant in
    sym (prefix_len_is (in_run c.args.first.now) c.args.chunks.now c.loop-len.len nowhere m.within (λ k h. m.same k nowhere h) (λ h. absurd (omega arith)))
