use Rattle.cil_session.proofs.Common.{◌≡◌, ◌∙◌, Option, None, Some, refl, ap, sym, by_store, for_memory, batch_word, all_held, was_too_long, had_no_memory, held_of}
use Rattle.cil_session.proofs.AnswerLemmas.{batch-made, batch-refused}
use Rattle.cil_session.proofs.SessionLemmas.{tries-weaker}
use Rattle.cil_session.specs.declared.batch.NotHeld.{NotHeld}
use Rattle.cil_session.specs.declared.batch.NotHeld.TheVariants.{TooLong, Memory}
use Rattle.cil_session.proofs.edits.commit.Given as given
use Rattle.cil_session.proofs.edits.commit.Goals as goal
use Rattle.cil_session.proofs.edits.commit.Goals.{After-fault}

-- what the open batch holds, by why an edit wasn't held
holds : (g : given.Over) (c : After-fault g) (why : Option NotHeld) → c.fault.result ≡ why → c.requires.0.held ≡ held_of why (c.fault.ensures c.requires.0 c.requires.1).0
holds g c why is = let fault = c.fault.ensures c.requires.0 c.requires.1 in fault.1 ∙ ap (λ f. held_of f fault.0) is

pub returns-in-Some-TooLong : goal.returns-in-Some-TooLong
returns-in-Some-TooLong g c =
    let held = holds g (goal.at.returns-in-Some-TooLong g c).After-fault (Some TooLong) (c.in-Some-TooLong.is ∙ ap Some c.in-Some-TooLong.field-0-is) in
    tries-weaker g.W.Sink.taken g.W.Sink.failures c.args.sink.now c.refuse.new.sink _ _ c.refuse.result
    (λ answer. batch-refused (g.C.Compiled.store c.args.engine.now) c.args.batch.now c.close.new.self c.requires.0 (by_store 35 batch_word) answer c.requires.1 (was_too_long held refl refl) c.close.ensures) c.refuse.ensures

pub returns-in-Some-Memory : goal.returns-in-Some-Memory
returns-in-Some-Memory g c =
    let held = holds g (goal.at.returns-in-Some-Memory g c).After-fault (Some Memory) (c.in-Some-Memory.is ∙ ap Some c.in-Some-Memory.field-0-is) in
    tries-weaker g.W.Sink.taken g.W.Sink.failures c.args.sink.now c.refuse_for_memory.new.sink _ _ c.refuse_for_memory.result
    (λ answer. batch-refused (g.C.Compiled.store c.args.engine.now) c.args.batch.now c.close-in-Some-Memory.new.self c.requires.0 for_memory answer c.requires.1 (had_no_memory held refl refl) c.close-in-Some-Memory.ensures) c.refuse_for_memory.ensures

pub returns-in-None : goal.returns-in-None
returns-in-None g c =
    let b = c.requires.0 in
    let found = c.requires.1 in
    let W = g.W.Sink in
    let store = g.C.Compiled.store in
    let made = c.make_edits-made in
    let fault = c.fault.ensures b found in
    let all : b.held ≡ all_held fault.0 = holds g (goal.at.returns-in-None g c).After-fault None c.in-None.is in
    let held : b.held ≡ all_held c.edits.result.now = all ∙ ap all_held (sym (c.edits.ensures b fault.0 found all)) in
    rw (c.close-in-None.ensures)
    (tries-weaker W.taken W.failures c.args.sink.now c.answer_batch.new.sink _ _ c.answer_batch.result
    (λ answer is. batch-made (store c.args.engine.now) (store made.new.engine) c.args.batch.now b c.edits.result.now made.result answer found held made.ensures is) c.answer_batch.ensures)
