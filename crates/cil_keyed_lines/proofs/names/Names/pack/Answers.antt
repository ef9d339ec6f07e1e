use Rattle.cil_keyed_lines.proofs.Common.{◌∙◌, ap, slice_index}
use Rattle.cil_keyed_lines.proofs.PackLemmas.{packed_now, used_within}
use Rattle.cil_keyed_lines.proofs.names.Names.pack.Goals as goal

pub fill_gaps-end-requires-clause-within : goal.fill_gaps-end-requires-clause-within
fill_gaps-end-requires-clause-within g c =
    used_within c.self.inside.named.items c.self.inside.users.items _ c.self.invariant.counted (rw (← c.self.view_is) at c.requires.within)

pub returns-clause-now : goal.returns-clause-now
returns-clause-now g c =
    let old = c.self.inside in
    let fill = c.fill_gaps-end in
    rw (← c.self.view_is)
    (packed_now old.named.items c.follow.new.named.items old.users.items fill.new.users.items c.args.lines.now fill.new.lines fill.result c.self.invariant.counted fill.ensures.some fill.ensures.filled
    c.follow.ensures.left (λ p past. c.follow.ensures.gone p past ∙ ap (λ v. slice_index v (slice_index old.named.items p)) c.deref.ensures.value))
