use Rattle.std.proofs.Common.{◌∙◌, ℕ, List, codes, subst}
use Rattle.cil_session.specs.Reply.{Writes}
use Rattle.cil_session.proofs.ReplyLemmas.{in-row}
use Rattle.cil_session.proofs.reply.write_optional.Goals as goal

pub returns : goal.returns
returns g c =
    subst (λ (l : List ℕ). Writes g.W.Sink.taken g.W.Sink.failures c.args.sink.now c.write_pieces.new.sink l c.write_pieces.result)
    (in-row c.args.optional.module.now c.args.optional.name.now (codes ":") (codes ":") (codes " ") (codes "\n") c.as_bytes.result.now c.as_bytes-2.result.now c.args.optional.at.line c.args.optional.at.column (c.as_bytes.ensures.value ∙ c.format.ensures.text) (c.as_bytes-2.ensures.value ∙ c.format-2.ensures.text))
    (record { ok = c.write_pieces.ensures.ok; err = c.write_pieces.ensures.err; failed = c.write_pieces.ensures.failed; counted = c.write_pieces.ensures.counted })
