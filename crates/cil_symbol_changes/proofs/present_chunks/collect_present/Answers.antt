use Rattle.cil_symbol_changes.proofs.Common.{subst, sym, count_now, listed, IsPresent, AreListedPlaces}
use Rattle.cil_symbol_changes.proofs.GainedLemmas.{gained-all, gained-short}
use Rattle.cil_symbol_changes.proofs.PresentLemmas.{in-present, known-now}
use Rattle.cil_symbol_changes.proofs.present_chunks.collect_present.Goals as goal

pub push_lines-requires-clause-listed : goal.push_lines-requires-clause-listed
push_lines-requires-clause-listed g c =
    subst (AreListedPlaces c.args.lines.now) (sym c.deref.ensures.value) c.in_ok-order.ensures

pub push_lines-requires-clause-known : goal.push_lines-requires-clause-known
push_lines-requires-clause-known g c = known-now c.args.numbers.now c.args.lines.now c.requires

pub returns : goal.returns
returns g c =
    let told = IsPresent c.args.numbers.now (listed (count_now c.args.lines.now)) in
    let old = c.in_ok-growing.growing.chunks.items in
    let new = c.push_lines.new.growing.chunks.items in
    let gained = in-present c.args.numbers.now c.args.lines.now old new c.in_ok-push_lines.ensures in
    record {
      given = gained-all told old new c.in_ok-growing.ensures gained;
      short = gained-short
          told old new c.in_ok-growing.ensures gained;
    }
