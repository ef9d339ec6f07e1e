use Rattle.cil_projection.proofs.FormLemmas.{three_behind}
use Rattle.cil_projection.proofs.render.put_three.Goals as goal

pub returns : goal.returns
returns g c = three_behind c.args.out.now.items c.extend_from_slice.new.self.items c.extend_from_slice-2.new.self.items c.extend_from_slice-3.new.self.items _ _ _ c.in_ok-extend_from_slice.ensures.items c.in_ok-extend_from_slice-2.ensures.items c.in_ok-extend_from_slice-3.ensures.items
