use Rattle.cil_check.proofs.Common.{get_or, err_from_is_err_and, IsFaultOf, policy_kind_of, IsLeast, IsFaultIn, Twice}
use Rattle.cil_check.proofs.CheckLemmas.{checked, checked-code, checked-once, checked-straight, none-first, none-next, none-fewer, first-least, found-weaker}
use Rattle.cil_check.proofs.checker.Checker.check_statements.Goals as goal

pub loop-kind-init : goal.loop-kind-init
loop-kind-init g c = λ policy noted. none-first policy noted.is.bound.once

pub check_kind-requires : goal.check_kind-requires
check_kind-requires g c =
    record { ready = c.requires; kind = checked-once c.loop-kind.kind-index c.loop-kind-test.true; straight = checked-straight c.loop-kind.kind-index c.loop-kind-test.true }

pub loop-kind-preserved : goal.loop-kind-preserved
loop-kind-preserved g c = λ policy noted.
    let n = c.loop-kind.kind-index in
    none-next policy n (policy_kind_of (get_or checked n Twice)) (checked-code n c.loop-kind-test.true) (c.in_ok-check_kind.ensures.ok policy noted) (c.loop-kind.invariant policy noted)

pub returns-in_err-check_kind : goal.returns-in_err-check_kind
returns-in_err-check_kind g c =
    let n = c.loop-kind.kind-index in
    let kind = policy_kind_of (get_or checked n Twice) in
    let made = err_from_is_err_and c.from_residual.result c.from_residual.ensures.1 in
    rw (made.1, made.2) (record {
      ok = tt;
      err = λ policy noted.
          found-weaker c.in_err-check_kind.field-0.0 (IsLeast (IsFaultOf kind policy)) (IsLeast (IsFaultIn policy))
          (first-least policy n kind (checked-code n c.loop-kind-test.true) (c.loop-kind.invariant policy noted)) (c.in_err-check_kind.ensures.err policy noted);
    })

pub returns : goal.returns
returns g c = record { ok = λ policy noted. none-fewer policy c.loop-kind.kind-index 6 c.loop-kind-test.false (c.loop-kind.invariant policy noted); err = tt }
