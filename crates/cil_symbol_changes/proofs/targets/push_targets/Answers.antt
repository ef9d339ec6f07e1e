use Rattle.std.proofs.Common.{◌↔◌, ◌⊎◌, subst}
use Rattle.cil_accesses.specs.declared.access.AccessNumbers.{AccessNumbers}
use Rattle.cil_accesses.specs.Chunks.{IsAccessOf, IsGiven}
use Rattle.cil_accesses.specs.Renumbered.{IsRenumbered}
use Rattle.cil_symbol_changes.proofs.GainedLemmas.{gained-nothing, gained-targets, known-symbols}
use Rattle.cil_symbol_changes.proofs.targets.push_targets.Goals as goal

pub returns-then-mask-eq0 : goal.returns-then-mask-eq0
returns-then-mask-eq0 g c =
    gained-nothing c.args.numbers.now c.args.key c.args.word c.args.mask c.if-mask-eq0.true
    c.args.growing.now.chunks.items

pub push_renumbered-requires-clause-within : goal.push_renumbered-requires-clause-within
push_renumbered-requires-clause-within g c a of =
    known-symbols c.args.numbers.now c.args.key c.args.word c.args.mask c.requires.known a (subst (λ k. IsAccessOf k a) c.in_ok-symbols.ensures.same of)

pub returns : goal.returns
returns g c =
    let old = c.args.growing.now.chunks.items in
    let new = c.push_renumbered.new.made.items in
    gained-targets c.args.numbers.now c.args.key c.args.word c.args.mask old new c.in_ok-push_renumbered.ensures.words
    (subst (λ k. (a : AccessNumbers) → IsGiven new a ↔ (IsGiven old a ⊎ IsRenumbered c.args.numbers.now k 64 a)) c.in_ok-symbols.ensures.same c.in_ok-push_renumbered.ensures.same)
