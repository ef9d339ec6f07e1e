use Rattle.cil_keyed_lines.proofs.EndedLemmas.{has_less, taken_both, taken_none}
use Rattle.cil_keyed_lines.proofs.Common.{◌≢◌, ◌∙◌, ap, arith, name_now, sym}
use Rattle.cil_keyed_lines.proofs.ended.take_out_unnamed.Goals as goal

pub loop-change-init : goal.loop-change-init
loop-change-init g c = record {
  paired = c.requires.paired;
  taken = taken_none c.args.keys.now.keys c.args.names.now;
  logged = c.requires.logged;
}

pub loop-change-preserved : goal.loop-change-preserved
loop-change-preserved g c =
    let is = c.loop-change.invariant in
    let fill = c.fill_place.ensures in
    let r = c.in-Some.change in
    record {
      paired = fill.paired;
      taken = taken_both c.args.keys.now.keys c.loop-change.keys.keys c.fill_place.new.keys.keys c.args.names.now c.loop-change.names c.fill_place.new.names is.taken fill.taken;
      logged = λ p less none.
          let apart : p ≢ r.place = λ e. fill.here (omega (arith, less, e)) (ap (name_now c.fill_place.new.names) (sym e) ∙ none) in
          has_less c.loop-change.changes.items c.pop.new.self.items r p c.in-Some.ensures.items
          (is.logged p (omega (arith, less, fill.len)) (sym (fill.others p apart less) ∙ none)) apart;
    }
