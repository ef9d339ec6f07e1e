use Rattle.std.proofs.Common.{◌∙◌, List, ℕ, subst, OnErr}
use Rattle.cil_stream.specs.Device.{GainsFront}
use Rattle.cil_violations.proofs.LineLemmas.{place-is}
use Rattle.cil_violations.proofs.line.write_place.Goals as goal

pub returns-clause-err : goal.returns-clause-err
returns-clause-err g c =
    let taken = g.W.Sink.taken in
    subst (λ (l : List ℕ). OnErr c.write_pieces.result (GainsFront (taken c.args.sink.now) (taken c.write_pieces.new.sink) l))
    (place-is c.args.word.now c.args.module.now c.as_bytes.result.now c.as_bytes-2.result.now c.args.at.line c.args.at.column (c.as_bytes.ensures.value ∙ c.format.ensures.text)
    (c.as_bytes-2.ensures.value ∙ c.format-2.ensures.text))
    c.write_pieces.ensures.err
