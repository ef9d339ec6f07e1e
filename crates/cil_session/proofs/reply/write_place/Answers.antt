use Rattle.std.proofs.Common.{◌≡◌, ◌∙◌, ◌++◌, ℕ, List, decimal, codes, sym, append_assoc, subst}
use Rattle.cil_session.specs.Reply.{Writes}
use Rattle.cil_session.proofs.reply.write_place.Goals as goal

line : (code-digits line-digits column-digits module-name word : List ℕ) (code at column : ℕ) → code-digits ≡ decimal code → line-digits ≡ decimal at → column-digits ≡ decimal column
    → codes "refused " ++ (code-digits ++ (codes " " ++ (module-name ++ (codes ":" ++ (line-digits ++ (codes ":" ++ (column-digits ++ (codes " " ++ (word ++ codes "\n")))))))))
    ≡ codes "refused " ++ decimal code ++ codes " " ++ module-name ++ codes ":" ++ decimal at ++ codes ":" ++ decimal column ++ codes " " ++ word ++ codes "\n"
line code-digits line-digits column-digits module-name word code at column a b c =
    (λ i. codes "refused " ++ (a i ++ (codes " " ++ (module-name ++ (codes ":" ++ (b i ++ (codes ":" ++ (c i ++ (codes " " ++ (word ++ codes "\n"))))))))))
    ∙ sym (regroup (decimal code) (decimal at) (decimal column) module-name word)
  where
    regroup : (x y z m w : List ℕ) → codes "refused " ++ x ++ codes " " ++ m ++ codes ":" ++ y ++ codes ":" ++ z ++ codes " " ++ w ++ codes "\n"
        ≡ codes "refused " ++ (x ++ (codes " " ++ (m ++ (codes ":" ++ (y ++ (codes ":" ++ (z ++ (codes " " ++ (w ++ codes "\n")))))))))
    regroup x y z m w = simp append_assoc

pub returns : goal.returns
returns g c =
    subst (λ (l : List ℕ). Writes g.W.Sink.taken g.W.Sink.failures c.args.sink.now c.write_pieces.new.sink l c.write_pieces.result)
    (line c.as_bytes.result.now c.as_bytes-2.result.now c.as_bytes-3.result.now c.args.module.now c.args.word.now c.args.code c.args.at.line c.args.at.column (c.as_bytes.ensures.value ∙ c.format.ensures.text) (c.as_bytes-2.ensures.value ∙ c.format-2.ensures.text)
    (c.as_bytes-3.ensures.value ∙ c.format-3.ensures.text))
    (record { ok = c.write_pieces.ensures.ok; err = c.write_pieces.ensures.err; failed = c.write_pieces.ensures.failed; counted = c.write_pieces.ensures.counted })
