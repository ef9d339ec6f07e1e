use Rattle.cil_parse.proofs.Common.{IsFirstShapeFault, forest_of, handed_on, fault_weaker}
use Rattle.cil_specs.specs.ModuleText.{IsTextFault, in_shape}
use Rattle.cil_parse.proofs.from_text.parse.Goals as goal

pub returns-in_err-parsed-clause-err : goal.returns-in_err-parsed-clause-err
returns-in_err-parsed-clause-err g c =
    let bytes = c.args.text.now in
    let trees = forest_of c.in_ok-forest.forest in
    let fault = c.in_err-parsed.field-0.0 in
    handed_on (IsTextFault bytes) c.from_residual-in_err-parsed.result fault c.from_residual-in_err-parsed.ensures.1
    (fault_weaker (IsFirstShapeFault trees) (IsTextFault bytes) fault (λ f h. in_shape trees c.in_ok-forest.ensures.ok h) c.in_err-parsed.ensures.err)

pub returns-clause-ok : goal.returns-clause-ok
returns-clause-ok g c =
    let trees = forest_of c.in_ok-forest.forest in
    let made = c.in_ok-parsed.ensures.ok in
    record { statements = made.statements; is_text = record { trees = trees; reads = c.in_ok-forest.ensures.ok; shapes = made.shapes }; spells = made.spells }
