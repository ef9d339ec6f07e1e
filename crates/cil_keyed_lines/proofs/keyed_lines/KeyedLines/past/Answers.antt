use Rattle.cil_keyed_lines.proofs.Common.{◌^◌, ◌<◌, subst, All}
use Rattle.cil_recorded.specs.declared.recorded_lines.changes.Change.{Change}
use Rattle.cil_keyed_lines.specs.Past.{AreMarked}
use Rattle.cil_keyed_lines.proofs.keyed_lines.KeyedLines.past.Goals as goal

pub returns : goal.returns
returns g c =
    let turned = c.in_ok-turned.ensures in
    let told = c.in_ok-has_turned.ensures in
    let same = c.deref.ensures.value in
    rw (← c.self.view_is)
    (record {
      turns = record { order = turned.order; short = subst (All (λ (d : Change). d.word < 2 ^ 64)) same told.short; appeared = turned.appeared; gone = turned.gone };
      marked = subst (AreMarked c.in_ok-has_turned.has_turned.items) same told.marked;
      named = c.in_ok-named.ensures;
    })
