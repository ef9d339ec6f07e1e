use Rattle.cil_session.proofs.Common.{◌≡◌, ◌++◌, ℕ, List, [], true, Some, Result, Ok, Err, IfOk, take, ap, IsSession, IsCutByRead, IsCutByWrite, Account, Reel, IsLeft, Gains, account_of, Standing, Leaves, LeavesByRead, LeavesByWrite, status_of, SessionFault, Status}
use Rattle.cil_session.proofs.memory.answer_script.Given as given
use Rattle.cil_session.proofs.memory.answer_script.Goals as goal
use Rattle.cil_session.proofs.memory.answer_script.Goals.{After-session}

left-whole : (r : Reel) (text : List ℕ) → r.text ≡ text → r.at ≡ 0 → IsLeft (account_of r) text
left-whole r text is start = record { front = []; given = ap (λ n. Some (take n r.text)) start; whole = ap Some is }

over-whole : (r : Result Status SessionFault) (old new : Account) (before after : Standing) (text : List ℕ) → IsLeft old text → IfOk r (λ status. Leaves old new before after status)
    → IfOk r (λ status. (written : List ℕ) × Gains before.taken after.taken written × IsSession text true before.store after.store written (status_of status))
over-whole (Err _) old new before after text left is = tt
over-whole (Ok _) old new before after text left is = (is.written, is.gains, is.whole text left)

cut-of-read : (old new : Account) (before after : Standing) (text : List ℕ) → IsLeft old text → LeavesByRead old new before after
    → (given : List ℕ) × (more : List ℕ) × (written : List ℕ) × (text ≡ given ++ more) × Gains before.taken after.taken written × IsCutByRead given before.store after.store written
cut-of-read old new before after text left is = let more = is.whole text left in (is.given, more.0, is.written, more.1, is.gains, is.cut)

cut-of-write : (old new : Account) (before after : Standing) (text : List ℕ) → IsLeft old text → LeavesByWrite old new before after → (written : List ℕ) × Gains before.taken after.taken written × IsCutByWrite text true before.store after.store written
cut-of-write old new before after text left is = (is.written, is.gains, is.whole text left)

-- the script is all that is left of the source
left : (g : given.Over) (c : After-session g) → IsLeft (account_of c.new-source.result) c.args.script.now
left g c = left-whole c.new-source.result c.args.script.now c.new-source.ensures.text c.new-source.ensures.at

-- the store and the sink before the session, and behind it
abbrev before : (g : given.Over) (c : After-session g) → Standing
before g c = record { store = g.C.Compiled.store c.args.engine.now; taken = g.W.Sink.taken c.args.sink.now }

abbrev behind : (g : given.Over) (c : After-session g) → Standing
behind g c = record { store = g.C.Compiled.store c.session.new.engine; taken = g.W.Sink.taken c.session.new.sink }

pub returns-clause-ok : goal.returns-clause-ok
returns-clause-ok g c =
    let at = (goal.at.returns-clause-ok g c).After-session in
    over-whole c.session.result (account_of c.new-source.result) (account_of c.session.new.source) (before g at) (behind g at) c.args.script.now (left g at) c.session.ensures.ok

pub returns-clause-cut_by_read : goal.returns-clause-cut_by_read
returns-clause-cut_by_read g c =
    let at = (goal.at.returns-clause-cut_by_read g c).After-session in
    λ is. cut-of-read (account_of c.new-source.result) (account_of c.session.new.source) (before g at) (behind g at) c.args.script.now (left g at) (c.session.ensures.cut_by_read is)

pub returns-clause-cut_by_write : goal.returns-clause-cut_by_write
returns-clause-cut_by_write g c =
    let at = (goal.at.returns-clause-cut_by_write g c).After-session in
    λ is. cut-of-write (account_of c.new-source.result) (account_of c.session.new.source) (before g at) (behind g at) c.args.script.now (left g at) (c.session.ensures.cut_by_write is)
