use Rattle.std.proofs.Common.{◌≡◌, ◌∙◌, ◌++◌, ℕ, List, decimal, codes, sym, subst, append_assoc}
use Rattle.cil_session.specs.Reply.{Writes}
use Rattle.cil_session.proofs.reply.write_changes.Goals as goal

line : (first second : List ℕ) (a b : ℕ) → first ≡ decimal a → second ≡ decimal b → codes "ok " ++ (first ++ (codes " " ++ (second ++ codes "\n"))) ≡ codes "ok " ++ decimal a ++ codes " " ++ decimal b ++ codes "\n"
line first second a b e f = (λ i. codes "ok " ++ (e i ++ (codes " " ++ (f i ++ codes "\n")))) ∙ sym (regroup (decimal a) (decimal b))
  where
    regroup : (x y : List ℕ) → codes "ok " ++ x ++ codes " " ++ y ++ codes "\n" ≡ codes "ok " ++ (x ++ (codes " " ++ (y ++ codes "\n")))
    regroup x y = simp append_assoc

pub returns : goal.returns
returns g c =
    subst (λ (l : List ℕ). Writes g.W.Sink.taken g.W.Sink.failures c.args.sink.now c.write_pieces.new.sink l c.write_pieces.result)
    (line c.as_bytes.result.now c.as_bytes-2.result.now c.args.counts.added c.args.counts.removed (c.as_bytes.ensures.value ∙ c.format.ensures.text) (c.as_bytes-2.ensures.value ∙ c.format-2.ensures.text))
    (record { ok = c.write_pieces.ensures.ok; err = c.write_pieces.ensures.err; failed = c.write_pieces.ensures.failed; counted = c.write_pieces.ensures.counted })
