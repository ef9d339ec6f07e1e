use Rattle.cil_keyed_lines.proofs.Common.{AreKeyed}
use Rattle.cil_keyed_lines.proofs.KeyLemmas.{before_grown, before_kept, places_kept, places_more, shared_names, stays_grown, stays_kept}
use Rattle.cil_keyed_lines.proofs.keyed_lines.KeyedLines.reach_key.Given as given
use Rattle.cil_keyed_lines.proofs.keyed_lines.KeyedLines.reach_key.Goals as goal
use Rattle.cil_keyed_lines.proofs.keyed_lines.KeyedLines.reach_key.Goals.{After-put_key}

-- the keys, the lines that they name and the counters of these hold together
keyed : (g : given.Over) (c : After-put_key g) → AreKeyed c.put_key.new.keys.keys c.put_key.new.names c.self.inside.lines c.self.inside.keys_before c.self.inside.lines_before
keyed g c =
    let old = c.self.inside in
    let put = c.put_key.ensures in
    shared_names old.keys.keys c.put_key.new.keys.keys old.names c.put_key.new.names old.lines old.keys_before old.lines_before c.self.invariant put.distinct put.len put.longer put.lines put.now put.before
    (put.logged c.self.invariant.logged)

pub invariant_of-self : goal.invariant_of-self
invariant_of-self g c = keyed g (goal.at.invariant_of-self g c).After-put_key

pub invariant_of-self-2 : goal.invariant_of-self-2
invariant_of-self-2 g c = keyed g (goal.at.invariant_of-self-2 g c).After-put_key

pub returns-in_err-place-clause-now : goal.returns-in_err-place-clause-now
returns-in_err-place-clause-now g c =
    let old = c.self.inside in
    let put = c.put_key.ensures in
    rw (← c.self.view_is)
    (stays_kept old.keys.keys c.put_key.new.keys.keys old.names c.put_key.new.names old.lines old.keys_before old.lines_before c.self.invariant put.now put.before c.in_err-place.ensures.err)

pub returns-in_err-place-clause-before : goal.returns-in_err-place-clause-before
returns-in_err-place-clause-before g c =
    let old = c.self.inside in
    let put = c.put_key.ensures in
    rw (← c.self.view_is)
    (before_kept old.keys.keys c.put_key.new.keys.keys old.names c.put_key.new.names old.lines old.keys_before old.lines_before c.self.invariant put.now put.before c.in_err-place.ensures.err)

pub returns-in_err-place-clause-places : goal.returns-in_err-place-clause-places
returns-in_err-place-clause-places g c = rw (← c.self.view_is) (places_kept c.self.inside.keys.keys c.put_key.new.keys.keys c.in_err-place.ensures.err)

pub returns-clause-now : goal.returns-clause-now
returns-clause-now g c =
    let old = c.self.inside in
    let put = c.put_key.ensures in
    rw (← c.self.view_is)
    (stays_grown old.keys.keys c.put_key.new.keys.keys old.names c.put_key.new.names old.lines old.keys_before old.lines_before c.self.invariant put.now put.before c.args.key c.in_ok-place.ensures.ok)

pub returns-clause-before : goal.returns-clause-before
returns-clause-before g c =
    let old = c.self.inside in
    let put = c.put_key.ensures in
    rw (← c.self.view_is)
    (before_grown old.keys.keys c.put_key.new.keys.keys old.names c.put_key.new.names old.lines old.keys_before old.lines_before c.self.invariant put.now put.before c.args.key c.in_ok-place.ensures.ok)

pub returns-clause-places : goal.returns-clause-places
returns-clause-places g c = rw (← c.self.view_is) (places_more c.self.inside.keys.keys c.put_key.new.keys.keys c.args.key c.in_ok-place.ensures.ok)
