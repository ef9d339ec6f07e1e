use Rattle.cil_bind.proofs.Common.{◌++◌, ◌∷◌, [], refl, sym, ap, ◌∙◌, arith}
use Rattle.cil_bind.proofs.KeptRowLemmas.{left-out, stays}
use Rattle.cil_bind.proofs.moves.Moves.take.Goals as goal

pub index_mut-requires : goal.index_mut-requires
index_mut-requires g c = let behind = c.requires.behind in let low = c.requires.within in omega (arith, behind, low)

pub index_mut-requires-2 : goal.index_mut-requires-2
index_mut-requires-2 g c = let behind = c.requires.behind in let low = c.requires.within in let long = c.requires.kinds in omega (arith, behind, low, long)

pub returns-then-not-is_kept : goal.returns-then-not-is_kept
returns-then-not-is_kept g c = λ all was.
    left-out c.args.kept.now all c.args.rows.now.items c.args.kinds.now.items c.args.self.now _ c.args.i c.index.result.now was c.requires.within c.index.ensures
    (sym c.is_kept.ensures ∙ c.if-not-is_kept.true) refl (c.in_ok-push.ensures.items ∙ ap (λ l. c.args.self.now.places.items ++ l ∷ []) c.nowhere.ensures)

pub returns : goal.returns
returns g c = λ all was.
    stays c.args.kept.now all c.args.rows.now.items c.args.kinds.now.items c.args.self.now _ c.args.i c.index.result.now was c.requires.within c.index.ensures
    (sym c.is_kept.ensures ∙ c.if-not-is_kept.false) refl (c.in_ok-push-2.ensures.items ∙ ap (λ l. c.args.self.now.places.items ++ l ∷ []) c.in_ok-of.ensures)
