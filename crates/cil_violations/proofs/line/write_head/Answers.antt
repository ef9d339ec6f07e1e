use Rattle.cil_violations.proofs.Common.{◌≡◌, ◌++◌, on_err, head_by, rule_seen, rule_text, access_text}
use Rattle.std.proofs.lemmas.Result.{on_ok_weaker, on_err_weaker}
use Rattle.cil_violations.proofs.LineLemmas.{front-in_first, front-in_second, third-in_whole, head-is, Ends}
use Rattle.cil_violations.proofs.line.write_head.Given as given
use Rattle.cil_violations.proofs.line.write_head.Goals as goal
use Rattle.cil_violations.proofs.line.write_head.Goals.{After-name-class, After-write_access}

-- the three parts are the head of the row
whole : (g : given.Over) (c : After-name-class g)
    → rule_text (rule_seen c.rule_at-never.result) ++ (rule_text (rule_seen c.rule_at-allowed.result) ++ access_text c.name-source.result.now c.name-target.result.now c.name-class.result.now)
    ≡ head_by c.args.resolved.now c.args.row.now
whole g c =
    head-is c.args.resolved.now c.args.row.now (rule_seen c.rule_at-never.result) (rule_seen c.rule_at-allowed.result) c.name-source.result.now c.name-target.result.now c.name-class.result.now
    c.rule_at-never.ensures c.rule_at-allowed.ensures c.name-source.ensures c.name-target.ensures c.name-class.ensures

pub returns-in_err-write_rule-clause-err : goal.returns-in_err-write_rule-clause-err
returns-in_err-write_rule-clause-err g c =
    let taken = g.W.Sink.taken in
    on_err c.from_residual.result
    (front-in_first (taken c.args.sink.now) (taken c.write_rule.new.sink) (taken c.args.sink.now) (taken c.args.sink.now) (rule_text (rule_seen c.rule_at-never.result)) (rule_text (rule_seen c.rule_at-allowed.result)) (access_text c.name-source.result.now c.name-target.result.now c.name-class.result.now) _
    (whole g (goal.at.returns-in_err-write_rule-clause-err g c).After-name-class) c.in_err-write_rule.ensures.err)

pub returns-in_err-write_rule-2-clause-err : goal.returns-in_err-write_rule-2-clause-err
returns-in_err-write_rule-2-clause-err g c =
    let taken = g.W.Sink.taken in
    on_err c.from_residual-in_err-write_rule-2.result
    (front-in_second (taken c.args.sink.now) (taken c.write_rule.new.sink) (taken c.write_rule-2.new.sink) (taken c.args.sink.now) (rule_text (rule_seen c.rule_at-never.result)) (rule_text (rule_seen c.rule_at-allowed.result)) (access_text c.name-source.result.now c.name-target.result.now c.name-class.result.now) _
    (whole g (goal.at.returns-in_err-write_rule-2-clause-err g c).After-name-class) c.in_ok-write_rule.ensures.ok c.in_err-write_rule-2.ensures.err)

-- the head ends with its last part
ends : (g : given.Over) (c : After-write_access g)
    → rule_text (rule_seen c.rule_at-never.result) ++ (rule_text (rule_seen c.rule_at-allowed.result) ++ access_text c.name-source.result.now c.name-target.result.now c.name-class.result.now)
    ≡ head_by c.args.resolved.now c.args.row.now
    → Ends (g.W.Sink.taken c.write_rule-2.new.sink) (g.W.Sink.taken c.write_access.new.sink) (access_text c.name-source.result.now c.name-target.result.now c.name-class.result.now) (g.W.Sink.taken c.args.sink.now)
    (head_by c.args.resolved.now c.args.row.now)
ends g c is =
    let taken = g.W.Sink.taken in
    third-in_whole (taken c.args.sink.now) (taken c.write_rule.new.sink) (taken c.write_rule-2.new.sink) (taken c.write_access.new.sink) (rule_text (rule_seen c.rule_at-never.result)) (rule_text (rule_seen c.rule_at-allowed.result)) (access_text c.name-source.result.now c.name-target.result.now c.name-class.result.now) _ is c.in_ok-write_rule.ensures.ok c.in_ok-write_rule-2.ensures.ok

pub returns-clause-ok : goal.returns-clause-ok
returns-clause-ok g c = let at = goal.at.returns-clause-ok g c in on_ok_weaker c.write_access.result (ends g at.After-write_access (whole g at.After-name-class)).0 c.write_access.ensures.ok

pub returns-clause-err : goal.returns-clause-err
returns-clause-err g c = let at = goal.at.returns-clause-err g c in on_err_weaker c.write_access.result (ends g at.After-write_access (whole g at.After-name-class)).1 c.write_access.ensures.err
