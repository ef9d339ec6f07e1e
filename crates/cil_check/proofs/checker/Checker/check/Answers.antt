use Rattle.cil_check.proofs.Common.{refl, err_from_is_err_and, IfErr-weaker, circular, IsFaultOf, IsLeast, IsFaultIn}
use Rattle.indexmap.proofs.MapLemmas.{OnOk-map}
use Rattle.cil_check.proofs.CheckLemmas.{none-all, first-least, found-one, circular-alone, found-fault, fault-weaker}
use Rattle.cil_check.proofs.checker.Checker.check.Goals as goal

pub returns-in_err-check_statements : goal.returns-in_err-check_statements
returns-in_err-check_statements g c =
    let made = err_from_is_err_and c.from_residual.result c.from_residual.ensures.1 in
    let fault = c.in_err-check_statements.field-0.0 in
    rw (made.1, made.2) (record {
      ok = tt;
      err = λ policy noted. found-fault fault (IsLeast (IsFaultIn policy)) (c.in_err-check_statements.ensures.err policy noted);
      memory = λ is policy noted. absurd (found-one fault (IsLeast (IsFaultIn policy)) (c.in_err-check_statements.ensures.err policy noted) is);
    })

pub returns : goal.returns
returns g c = record {
  ok = OnOk-map c.check_circles.result _ _ (λ straight policy noted. none-all policy noted.is.inside (c.in_ok-check_statements.ensures.ok policy noted) (straight policy noted)) c.check_circles.ensures.ok;
  err = IfErr-weaker c.check_circles.result _ _
      (λ fault first policy noted.
      fault-weaker fault (IsLeast (IsFaultOf circular policy)) (IsLeast (IsFaultIn policy)) (first-least policy 6 circular refl (c.in_ok-check_statements.ensures.ok policy noted)) (first policy noted)) c.check_circles.ensures.err;
  memory = IfErr-weaker c.check_circles.result _ _ (λ fault first is policy noted. circular-alone policy (c.in_ok-check_statements.ensures.ok policy noted)) c.check_circles.ensures.err;
}
