use Rattle.cil_keyed_lines.proofs.Common.{◌≡◌, ◌<◌, ◌∙◌, ap, arith, count_now}
use Rattle.cil_keyed_lines.proofs.reach.put_copy.Goals as goal

pub returns-in_err-put_copy-clause-now : goal.returns-in_err-put_copy-clause-now
returns-in_err-put_copy-clause-now g c = λ l t low.
    c.put_copy.ensures.now l t (λ e. omega (arith, e, low, c.in_ok-put_first.ensures.lines)) ∙ c.in_ok-put_first.ensures.now l t

pub returns-in_err-put_copy-clause-before : goal.returns-in_err-put_copy-clause-before
returns-in_err-put_copy-clause-before g c = λ l t low.
    c.put_copy.ensures.before l t (λ e. omega (arith, e, low, c.in_ok-put_first.ensures.lines)) ∙ c.in_ok-put_first.ensures.before l t

pub returns-clause-now : goal.returns-clause-now
returns-clause-now g c = λ l t low.
    c.put_copy.ensures.now l t (λ e. omega (arith, e, low, c.in_ok-put_first.ensures.lines)) ∙ c.in_ok-put_first.ensures.now l t

pub returns-clause-before : goal.returns-clause-before
returns-clause-before g c = λ l t low.
    c.put_copy.ensures.before l t (λ e. omega (arith, e, low, c.in_ok-put_first.ensures.lines)) ∙ c.in_ok-put_first.ensures.before l t

pub returns-clause-copy : goal.returns-clause-copy
returns-clause-copy g c = λ t.
    ap (λ n. count_now c.put_copy.new.self n t) c.len-copy.ensures ∙ c.in_ok-put_copy.ensures.copy t ∙ c.in_ok-put_first.ensures.now _ t
