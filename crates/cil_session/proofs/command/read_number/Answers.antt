use Rattle.std.proofs.Common.{◌≡◌, ◌∙◌, Ok, subst, sym, arith}
use Rattle.std.specs.Str.{IsUtf8}
use Rattle.std.proofs.lemmas.Fmt.{IsAscii-decimal, parse-decimal}
use Rattle.std.proofs.lemmas.Str.{IsUtf8-from_ascii}
use Rattle.cil_session.proofs.command.read_number.Goals as goal

pub returns-in_default : goal.returns-in_default
returns-in_default c n small is =
    absurd (c.in_default.ensures.cases.0 (subst IsUtf8 (sym is) (IsUtf8-from_ascii _ (IsAscii-decimal n (omega (arith, small))))))

pub returns-in-Ok-parse : goal.returns-in-Ok-parse
returns-in-Ok-parse c n small is =
    let read : c.parse.result ≡ Ok n = parse-decimal 32 n c.in-Ok.text.now c.parse.result (omega (arith, small)) (omega (arith, small)) (c.in-Ok.ensures.cases.0 ∙ is) c.parse.ensures.value.0 in
    cc (read, c.in-Ok-parse.is)

pub returns-in-Err : goal.returns-in-Err
returns-in-Err c n small is =
    let read : c.parse.result ≡ Ok n = parse-decimal 32 n c.in-Ok.text.now c.parse.result (omega (arith, small)) (omega (arith, small)) (c.in-Ok.ensures.cases.0 ∙ is) c.parse.ensures.value.0 in
    cc (read, c.in-Err.is)
