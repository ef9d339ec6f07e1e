use Rattle.std.proofs.Common.{◌≡◌, ◌∙◌, ◌++◌, List, ℕ, ap, codes, decimal, subst}
use Rattle.cil_session.specs.Reply.{Writes}
use Rattle.cil_program.proofs.command_line.notes.write_note.Goals as goal

line : (statements kinds : List ℕ) (n k : ℕ) → statements ≡ decimal n → kinds ≡ decimal k → codes "note: " ++ (statements ++ (codes " statements of " ++ (kinds ++ codes " kinds taken by their names alone\n")))
    ≡ codes "note: " ++ (decimal n ++ (codes " statements of " ++ (decimal k ++ codes " kinds taken by their names alone\n")))
line statements kinds n k a b = λ i. codes "note: " ++ (a i ++ (codes " statements of " ++ (b i ++ codes " kinds taken by their names alone\n")))

pub returns : goal.returns
returns g c =
    subst (λ (l : List ℕ). Writes g.E.Sink.taken g.E.Sink.failures c.args.err.now c.write_pieces.new.sink l c.write_pieces.result)
    (line c.as_bytes.result.now c.as_bytes-2.result.now _ _ (c.as_bytes.ensures.value ∙ c.format.ensures.text ∙ ap decimal c.statements.ensures) (c.as_bytes-2.ensures.value ∙ c.format-2.ensures.text ∙ ap decimal c.kinds.ensures))
    (record { ok = c.write_pieces.ensures.ok; err = c.write_pieces.ensures.err; failed = c.write_pieces.ensures.failed; counted = c.write_pieces.ensures.counted })
