use Rattle.std.proofs.lemmas.Result.{on_ok_weaker}
use Rattle.cil_symbol_changes.proofs.PresentLemmas.{in-no_place, in-place}
use Rattle.cil_symbol_changes.proofs.present_chunks.push_place.Goals as goal

pub returns-in-Some : goal.returns-in-Some
returns-in-Some g c =
    on_ok_weaker c.push_line.result
    (in-place c.args.numbers.now c.args.lines.now c.args.place c.in-Some.key
    c.args.growing.now.chunks.items c.push_line.new.growing.chunks.items c.in-Some.ensures)
    c.push_line.ensures

pub returns-in-None : goal.returns-in-None
returns-in-None g c =
    in-no_place c.args.numbers.now c.args.lines.now c.args.place c.args.growing.now.chunks.items
    c.in-None.ensures
