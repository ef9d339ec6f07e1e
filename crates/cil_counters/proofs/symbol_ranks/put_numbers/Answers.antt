use Rattle.cil_counters.proofs.Common.{◌∙◌, ◌+◌, arith, sym, subst, none-some, same_Some, ArePut}
use Rattle.cil_counters.proofs.SymbolRankLemmas.{put-next, put-past}
use Rattle.cil_counters.proofs.symbol_ranks.put_numbers.Goals as goal
use Rattle.cil_counters.proofs.symbol_ranks.put_numbers.Goals.{in-Some+then-symbol-len, in-Some+else-symbol-len, in_default}

pub loop-k-preserved : goal.loop-k-preserved
loop-k-preserved g c =
    let symbols = c.args.numbering.now.symbols in
    let old = c.args.numbers.now.items in
    let numbers = c.loop-k.numbers.items in
    let k = c.loop-k.k in
    let so_far = c.loop-k.invariant in
    elim c.match-symbol.branch [
      | in-Some+then-symbol-len w ↦
          subst (λ v. ArePut symbols (k + 1) old v.items) (sym w.numbers-is)
          (put-next symbols k old numbers so_far c.len.ensures.apart w.in-Some.symbol c.in_ok-place.place
          (sym c.symbol.ensures.symbol ∙ w.in-Some.is) c.in_ok-place.ensures.same
          (let len = w.len-in-Some.ensures in let low = w.if-symbol-len.true in omega (arith, len, low)))
      | in-Some+else-symbol-len w ↦
          subst (λ v. ArePut symbols (k + 1) old v.items) (sym w.numbers-is)
          (put-past symbols k old numbers so_far
          (λ s at low.
          let same = same_Some w.in-Some.symbol s (sym w.in-Some.is ∙ c.symbol.ensures.symbol ∙ at) in
          let past = w.if-symbol-len.false in
          let long = so_far.len in
          let len = w.len-in-Some.ensures in
          omega (arith, same, past, low, long, len)))
      | in_default w ↦
          subst (λ v. ArePut symbols (k + 1) old v.items) (sym w.numbers-is)
          (put-past symbols k old numbers so_far (λ s at low. none-some s (sym w.in_default.is ∙ c.symbol.ensures.symbol ∙ at)))
    ]
