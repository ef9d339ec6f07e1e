use Rattle.cil_violations.proofs.Common.{◌≡◌, ◌∙◌, codes, refl, sym, ap, subst, on_err, given_at, head_by, of_class, shared_text, violation_by, violation_line, AreInOrder}
use Rattle.std.proofs.lemmas.Result.{on_ok_weaker, on_err_weaker}
use Rattle.std.proofs.Common.{flat_map}
use Rattle.cil_violations.proofs.LineLemmas.{texts-of, texts-are, line-whole, front-in_first, front-in_second, third-in_whole, Ends}
use Rattle.cil_violations.proofs.PartLemmas.{class-rises}
use Rattle.cil_violations.proofs.line.write_line.Given as given
use Rattle.cil_violations.proofs.line.write_line.Goals as goal
use Rattle.cil_violations.proofs.line.write_line.Goals.{After-of_class-allowed, After-write_all}

pub returns-in_err-write_head-clause-err : goal.returns-in_err-write_head-clause-err
returns-in_err-write_head-clause-err g c =
    let taken = g.W.Sink.taken in
    let r = c.args.resolved.now in
    let lists = c.args.permissions.now.0 in
    let row = c.args.row.now in
    on_err c.from_residual.result
    (front-in_first (taken c.args.sink.now) (taken c.write_head.new.sink) (taken c.args.sink.now) (taken c.args.sink.now) (head_by r row) (texts-of r lists row) (codes "};\n") _
    (line-whole r lists row (texts-of r lists row) refl) c.in_err-write_head.ensures.err)

-- the permissions that are written are those of the row
allowed_is : (g : given.Over) (c : After-of_class-allowed g)
    → c.of_class-allowed.result.now ≡ of_class c.args.row.now.class (given_at c.args.resolved.now.rules.items c.args.permissions.now.0 c.args.row.now.allowed)
allowed_is g c =
    c.of_class-allowed.ensures
    ∙ ap (of_class c.args.row.now.class) (c.given_at-2.ensures ∙ ap (λ l. given_at l c.args.permissions.now.0 c.args.row.now.allowed) c.rules-rules.ensures.rules)

texts : (g : given.Over) (c : After-of_class-allowed g)
    → flat_map (shared_text c.args.resolved.now c.of_class-allowed.result.now) c.of_class-never.result.now ≡ texts-of c.args.resolved.now c.args.permissions.now.0 c.args.row.now
texts g c =
    let lists = c.args.permissions.now.0 in
    let row = c.args.row.now in
    texts-are c.args.resolved.now lists row c.of_class-never.result.now c.of_class-allowed.result.now
    (c.of_class-never.ensures ∙ ap (of_class row.class) (c.given_at.ensures ∙ ap (λ l. given_at l lists row.never) c.rules-rules.ensures.rules)) (allowed_is g c)

pub write_permissions-requires : goal.write_permissions-requires
write_permissions-requires g c =
    let row = c.args.row.now in
    subst AreInOrder (sym (allowed_is g (goal.at.write_permissions-requires g c).After-of_class-allowed))
    (class-rises row.class (given_at c.args.resolved.now.rules.items c.args.permissions.now.0 row.allowed) (c.requires.permissions.rising row.allowed))

pub returns-in_err-write_permissions-clause-err : goal.returns-in_err-write_permissions-clause-err
returns-in_err-write_permissions-clause-err g c =
    let taken = g.W.Sink.taken in
    let r = c.args.resolved.now in
    let row = c.args.row.now in
    let written = flat_map (shared_text r c.of_class-allowed.result.now) c.of_class-never.result.now in
    on_err c.from_residual-in_err-write_permissions.result
    (front-in_second (taken c.args.sink.now) (taken c.write_head.new.sink) (taken c.write_permissions.new.sink) (taken c.args.sink.now) (head_by r row) written (codes "};\n") _
    (line-whole r c.args.permissions.now.0 row written (texts g (goal.at.returns-in_err-write_permissions-clause-err g c).After-of_class-allowed)) c.in_ok-write_head.ensures.ok c.in_err-write_permissions.ensures.err)

-- the line ends with its last part
line : (g : given.Over) (c : After-write_all g)
    → flat_map (shared_text c.args.resolved.now c.of_class-allowed.result.now) c.of_class-never.result.now ≡ texts-of c.args.resolved.now c.args.permissions.now.0 c.args.row.now
    → Ends (g.W.Sink.taken c.write_permissions.new.sink) (g.W.Sink.taken c.write_all.new.sink) (codes "};\n") (g.W.Sink.taken c.args.sink.now)
    (violation_line (violation_by c.args.resolved.now c.args.permissions.now.0 c.args.row.now))
line g c are =
    let taken = g.W.Sink.taken in
    let r = c.args.resolved.now in
    let row = c.args.row.now in
    let written = flat_map (shared_text r c.of_class-allowed.result.now) c.of_class-never.result.now in
    third-in_whole (taken c.args.sink.now) (taken c.write_head.new.sink) (taken c.write_permissions.new.sink) (taken c.write_all.new.sink) (head_by r row) written (codes "};\n") _
    (line-whole r c.args.permissions.now.0 row written are) c.in_ok-write_head.ensures.ok c.in_ok-write_permissions.ensures.ok

pub returns-clause-ok : goal.returns-clause-ok
returns-clause-ok g c = let at = goal.at.returns-clause-ok g c in on_ok_weaker c.write_all.result (line g at.After-write_all (texts g at.After-of_class-allowed)).0 c.write_all.ensures.ok

pub returns-clause-err : goal.returns-clause-err
returns-clause-err g c = let at = goal.at.returns-clause-err g c in on_err_weaker c.write_all.result (line g at.After-write_all (texts g at.After-of_class-allowed)).1 c.write_all.ensures.err
