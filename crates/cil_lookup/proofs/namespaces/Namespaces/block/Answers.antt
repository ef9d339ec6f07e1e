use Rattle.std.proofs.Common.{sym}
use Rattle.cil_lookup.proofs.NamespaceLemmas.{block-found, block-absent}
use Rattle.cil_lookup.proofs.namespaces.Namespaces.block.Goals as goal

pub returns-in_err-index-clause-none : goal.returns-in_err-index-clause-none
returns-in_err-index-clause-none g c =
    rw c.from_residual.ensures
    (block-absent c.args.self.now c.self.inside.blocks.keys (record { outer = c.args.outer; word = c.args.word }) c.self.invariant c.self.view_is c.requires (sym c.in_err-index.ensures.found))

pub returns-clause-some : goal.returns-clause-some
returns-clause-some g c =
    (block-found c.args.self.now c.self.inside.blocks.keys (record { outer = c.args.outer; word = c.args.word }) c.in_ok-index.index c.self.invariant c.self.view_is (sym c.in_ok-index.ensures.index)).1

pub returns-clause-within : goal.returns-clause-within
returns-clause-within g c =
    (block-found c.args.self.now c.self.inside.blocks.keys (record { outer = c.args.outer; word = c.args.word }) c.in_ok-index.index c.self.invariant c.self.view_is (sym c.in_ok-index.ensures.index)).0
