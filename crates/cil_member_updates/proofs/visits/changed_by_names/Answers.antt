use Rattle.cil_member_updates.proofs.Common.{◌<◌, ℕ, get_or, length, subst, arith, Contains, Contains-get_or, «Type», count_before, count_now, element_of, set_of, leaves, IsUnchanged}
use Rattle.cil_member_updates.proofs.PlaceLemmas.{set-there}
use Rattle.cil_sums.proofs.PairLemmas.{mapped}
use Rattle.cil_member_updates.proofs.NameLemmas.{unchanged-more}
use Rattle.cil_member_updates.proofs.SymbolLemmas.{place-of}
use Rattle.cil_member_updates.proofs.TurnedLemmas.{turned-first, turned-more}
use Rattle.cil_member_updates.proofs.visits.changed_by_names.Goals as goal

pub loop-k-init : goal.loop-k-init
loop-k-init g c = record {
  unchanged = λ m low. absurd (omega (arith, low));
  turned = turned-first c.args.reading.now.symbols.now (count_before c.args.rows.now) (count_now c.args.rows.now) (λ m. element_of c.args.reading.now.side.now.resolved.now.names.items (get_or c.set_names-names.result.now m («Type» 0))) c.args.word;
}

pub loop-k-preserved : goal.loop-k-preserved
loop-k-preserved g c =
    let r = c.args.reading.now.side.now.resolved.now in
    let before = count_before c.args.rows.now in
    let now = count_now c.args.rows.now in
    let elements = λ (m : ℕ). element_of r.names.items (get_or c.set_names-names.result.now m («Type» 0)) in
    let more = c.changed_by_name-bits.result in
    record {
      unchanged = unchanged-more c.args.reading.now.symbols.now before now elements c.loop-k.k c.args.word c.loop-k.bits more c.loop-k.invariant.unchanged c.changed_by_name-bits.ensures.unchanged;
      turned = turned-more c.args.reading.now.symbols.now before now elements c.loop-k.k c.args.word c.loop-k.bits more c.loop-k.invariant.turned c.changed_by_name-bits.ensures.turned;
    }

pub returns-clause-unchanged : goal.returns-clause-unchanged
returns-clause-unchanged g c element there =
    let r = c.args.reading.now.side.now.resolved.now in
    let names = c.set_names-names.result.now in
    let (m, within, same) = place-of (element_of r.names.items) names («Type» 0) (leaves (set_of c.args.reading.now).expr) element (c.set_names-names.ensures.names (set_of c.args.reading.now) (set-there r c.args.reading.now.place c.requires.within)) there in
    subst (λ e. IsUnchanged c.args.reading.now.symbols.now (count_before c.args.rows.now) (count_now c.args.rows.now) e c.args.word c.loop-k.bits) same (c.loop-k.invariant.unchanged m (let end = c.loop-k-test.false in omega (arith, within, end)))

pub returns-clause-turned : goal.returns-clause-turned
returns-clause-turned g c b within set =
    let r = c.args.reading.now.side.now.resolved.now in
    let names = c.set_names-names.result.now in
    let at = c.loop-k.invariant.turned b within set in
    let inside : at.0 < length names = (let low = at.1 in let end = c.loop-k.auto.k-end in omega (arith, low, end)) in (
      element_of r.names.items (get_or names at.0 («Type» 0)),
      subst (λ l. Contains l (element_of r.names.items (get_or names at.0 («Type» 0)))) (c.set_names-names.ensures.names (set_of c.args.reading.now) (set-there r c.args.reading.now.place c.requires.within))
          (mapped (element_of r.names.items) names (get_or names at.0 («Type» 0)) (Contains-get_or names at.0 («Type» 0) inside)),
      at.2,
    )
