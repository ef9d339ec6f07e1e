use Rattle.cil_resolve.proofs.laws.resolved_is_sound.Goals as goal

pub returns : goal.returns
returns g c = c.args.resolved.now.sound
