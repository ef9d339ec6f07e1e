use Rattle.cil_text.proofs.Common.{◌≡◌, inl, inr, Result, Ok, Err, IsErrAnd, IfErr, sym, subst, is_among, outside_optionals, form_of, IsHeadingFault}
use Rattle.cil_text.specs.Keyword.{spelling}
use Rattle.cil_text.proofs.HeadingLemmas.{allowed_by, forbidden_by}
use Rattle.cil_text.proofs.walk.check_heading.Goals as goal

pub returns-then-not-may_stand-clause-err : goal.returns-then-not-may_stand-clause-err
returns-then-not-may_stand-clause-err g c =
    let test = forbidden_by c.args.inside (is_among outside_optionals (spelling c.args.keyword)) c.may_stand.result c.may_stand.ensures c.if-not-may_stand.true in
    inl (test.0, test.1, c.fault_at.ensures)

pub returns-clause-allowed : goal.returns-clause-allowed
returns-clause-allowed g c within = allowed_by c.args.inside (is_among outside_optionals (spelling c.args.keyword)) c.may_stand.result c.may_stand.ensures c.if-not-may_stand.false within

pub returns-in_err-check_statement-clause-err : goal.returns-in_err-check_statement-clause-err
returns-in_err-check_statement-clause-err g c =
    handed (IsHeadingFault c.args.inside c.args.keyword c.args.first (form_of c.args.statement.now)) c.from_residual.result c.in_err-check_statement.field-0.0
    c.from_residual.ensures.1
    (inr (allowed_by c.args.inside (is_among outside_optionals (spelling c.args.keyword)) c.may_stand.result c.may_stand.ensures c.if-not-may_stand.false, c.in_err-check_statement.ensures))
  where
    handed : {T E : Type 0} (P : E → Type 0) (r : Result T E) (e : E) → IsErrAnd r (λ given. given ≡ e) → P e → IfErr r P
    handed P (Ok x) e given h = absurd given
    handed P (Err y) e given h = subst P (sym given) h
