use Rattle.cil_session.proofs.Common.{◌≡◌, ◌∙◌, ◌<◌, ℕ, List, [], length, get_or, subst, arith, Gains, GainsFront, gains-pieces_more, gains-pieces_front, Entry, Store, entry_text, state_word, module_line, entry_at, entry_of}
use Rattle.cil_session.proofs.ReplyLemmas.{writes-cut}
use Rattle.cil_session.proofs.reply.write_entries.Given as given
use Rattle.cil_session.proofs.reply.write_entries.Goals as goal
use Rattle.cil_session.proofs.reply.write_entries.Goals.{After-write_module}

line : (store : Store) (shown entry : Entry) (state word : List ℕ) → shown ≡ entry → state ≡ word → word ≡ state_word store entry → entry_text shown state ≡ module_line store entry
line store shown entry state word is a b = λ i. entry_text (is i) ((a ∙ b) i)

-- the entry whose line is written
abbrev entry : (g : given.Over) → After-write_module g → Entry
entry g c = get_or c.args.store.now.entries c.loop-i.i (entry_at [] 0)

within : (g : given.Over) (c : After-write_module g) → c.loop-i.i < length c.args.store.now.entries
within g c = subst (λ n. c.loop-i.i < n) c.len-i-end.ensures c.loop-i-test.true

is-line : (g : given.Over) (c : After-write_module g) → entry_text (entry_of c.at.result) c.as_bytes.result.now ≡ module_line c.args.store.now (entry g c)
is-line g c = line c.args.store.now (entry_of c.at.result) (entry g c) c.as_bytes.result.now _ c.at.ensures c.as_bytes.ensures c.state.ensures

pub returns-in_err-write_module : goal.returns-in_err-write_module
returns-in_err-write_module g c =
    let taken = g.W.Sink.taken in
    let at = (goal.at.returns-in_err-write_module g c).After-write_module in
    writes-cut taken g.W.Sink.failures c.args.sink.now c.loop-i.sink c.write_module.new.sink _ c.from_residual.result c.from_residual.ensures.0 c.loop-i.invariant.counted c.in_err-write_module.ensures.failed c.in_err-write_module.ensures.counted
    (gains-pieces_front (module_line c.args.store.now) (taken c.args.sink.now) (taken c.loop-i.sink) (taken c.write_module.new.sink) c.args.store.now.entries c.loop-i.i (entry_at [] 0) (within g at) c.loop-i.invariant.so_far
    (subst (GainsFront (taken c.loop-i.sink) (taken c.write_module.new.sink)) (is-line g at) c.in_err-write_module.ensures.err))

pub loop-i-preserved : goal.loop-i-preserved
loop-i-preserved g c =
    let taken = g.W.Sink.taken in
    let at = (goal.at.loop-i-preserved g c).After-write_module in
    record {
      counted = omega (arith, c.loop-i.invariant.counted, c.write_module.ensures.counted);
      so_far = gains-pieces_more (module_line c.args.store.now) (taken c.args.sink.now) (taken c.loop-i.sink) (taken c.write_module.new.sink) c.args.store.now.entries c.loop-i.i (entry_at [] 0) (within g at) c.loop-i.invariant.so_far
          (subst (Gains (taken c.loop-i.sink) (taken c.write_module.new.sink)) (is-line g at) c.in_ok-write_module.ensures.ok);
    }
