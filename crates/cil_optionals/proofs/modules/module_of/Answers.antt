use Rattle.cil_optionals.proofs.Common.{◌<◌, length, sym, ◌∙◌, subst, arith, same_Some, IsOf}
use Rattle.cil_optionals.proofs.ProviderLemmas.{row-of}
use Rattle.cil_optionals.proofs.OthersLemmas.{of-row, module-low}
use Rattle.cil_optionals.proofs.modules.module_of.Goals as goal

pub overflow_cast-row : goal.overflow_cast-row
overflow_cast-row g c =
    let r = c.requires.ready in
    let p = c.args.policy.now in
    let parsed = c.args.joined.now.modules.items in
    let row = c.index-row.result.now in
    let low : row.«module» < length parsed = module-low p parsed r.0 c.args.i row r.1 (row-of p parsed r.0 c.args.i row r.1 c.requires.within c.index-row.ensures) in
    let size = c.args.joined.now.modules.ok.0 in
    omega (arith, low, size)

pub index-requires : goal.index-requires
index-requires g c =
    let r = c.requires.ready in
    let p = c.args.policy.now in
    let parsed = c.args.joined.now.modules.items in
    let row = c.index-row.result.now in
    let low : row.«module» < length parsed = module-low p parsed r.0 c.args.i row r.1 (row-of p parsed r.0 c.args.i row r.1 c.requires.within c.index-row.ensures) in
    let size = c.args.joined.now.modules.ok.0 in
    omega (arith, low, size)

pub returns : goal.returns
returns g c all s ready at =
    let p = c.args.policy.now in
    let has = row-of p c.args.joined.now.modules.items all c.args.i c.index-row.result.now ready c.requires.within c.index-row.ensures in
    subst (IsOf p c.index.result.now.«module».now c.args.i) (same_Some has.s s (sym has.at ∙ at))
    (of-row p c.args.joined.now.modules.items all c.args.i c.index-row.result.now c.index.result.now ready has c.index.ensures)
