use Rattle.std.proofs.Common.{◌∙◌, ap, subst}
use Rattle.cil_stream.specs.Device.{GainsFront}
use Rattle.cil_stream.proofs.Gaining.{gains-pieces_front}
use Rattle.cil_session.proofs.ReplyLemmas.{writes-cut}
use Rattle.cil_program.proofs.command_line.notes.write_texts.Goals as goal

pub returns-in_err-write_all : goal.returns-in_err-write_all
returns-in_err-write_all g c =
    let taken = g.W.Sink.taken in
    let text = c.as_slice.ensures.value ∙ ap (λ file. file.text.items) c.file-item.is in
    writes-cut taken g.W.Sink.failures c.args.out.now c.loop-file.out c.write_all.new.sink _ c.from_residual.result c.from_residual.ensures.0 c.loop-file.invariant.counted c.in_err-write_all.ensures.failed c.in_err-write_all.ensures.counted
    (gains-pieces_front (λ file. file.text.items) (taken c.args.out.now) (taken c.loop-file.out) (taken c.write_all.new.sink) c.args.files.now c.loop-file.file-index _ c.loop-file-test.true c.loop-file.invariant.so_far
    (subst (GainsFront (taken c.loop-file.out) (taken c.write_all.new.sink)) text c.in_err-write_all.ensures.err))
