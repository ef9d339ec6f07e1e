use Rattle.std.proofs.Common.{◌∙◌, ap, map, slice_index, sym}
use Rattle.std.proofs.lemmas.Result.{IfOk-weaker}
use Rattle.cil_resolve.specs.Numbers.{given_in}
use Rattle.cil_rule_reach.specs.Reaches.{permit_by}
use Rattle.cil_rule_reach.proofs.PermitLemmas.{class-permits}
use Rattle.cil_rule_reach.proofs.permits.listed_permits.Goals as goal

pub returns-in-OfClass : goal.returns-in-OfClass
returns-in-OfClass g c =
    let symbols = c.args.numbering.now.symbols in
    IfOk-weaker c.class_permits.result _ _
    (λ list is. is
    ∙ (λ i. map (λ p. record { class = c.symbol_of-class.ensures.is i; permission = slice_index symbols p }) (c.as_slice.ensures i))
    ∙ class-permits symbols c.in-OfClass.of.class c.in-OfClass.of.given
    ∙ sym (ap (λ q. map (permit_by symbols) (given_in q)) c.in-OfClass.is))
    c.class_permits.ensures
