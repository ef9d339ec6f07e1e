use Rattle.std.proofs.Common.{◌==◌, ◌∙◌, ap, arith, nat_lt, refl, sym}
use Rattle.cil_rule_reach.specs.Reaches.{has_by, members_of}
use Rattle.cil_rule_shifts.proofs.ReachLemmas.{type-many, type-one}
use Rattle.cil_rule_reach.proofs.LineLemmas.{many-short, one-short}
use Rattle.cil_rule_reach.proofs.reaching.types_of.Goals as goal

pub returns-in-Type-clause-types : goal.returns-in-Type-clause-types
returns-in-Type-clause-types g c t =
    type-one _ c.symbol_of.result refl t ∙ ap (λ s. s == t) c.symbol_of.ensures.is
    ∙ sym (ap (λ element. has_by (members_of c.args.members.now) c.args.numbering.now.symbols element t) c.in-Type.is)

pub returns-in-Type-clause-short : goal.returns-in-Type-clause-short
returns-in-Type-clause-short g c =
    one-short _ c.symbol_of.result c.args.members.now.symbols (let low = c.symbol_of.ensures.below in omega (arith, low, c.requires.symbols)) (let short = c.symbols_len.ensures.short in omega (arith, short))
    (type-one _ c.symbol_of.result refl)

pub returns-in_ok-line-in-Attribute-clause-types : goal.returns-in_ok-line-in-Attribute-clause-types
returns-in_ok-line-in-Attribute-clause-types g c t =
    type-many _ c.in_ok-line-in-Attribute.line refl t ∙ c.in_ok-line-in-Attribute.ensures t
    ∙ ap (λ row. nat_lt 0 (members_of c.args.members.now row t)) c.symbol_of-row.ensures.is
    ∙ sym (ap (λ element. has_by (members_of c.args.members.now) c.args.numbering.now.symbols element t) c.in-Attribute.is)

pub returns-in_ok-line-in-Attribute-clause-short : goal.returns-in_ok-line-in-Attribute-clause-short
returns-in_ok-line-in-Attribute-clause-short g c =
    many-short _ (members_of c.args.members.now c.symbol_of-row.result) c.args.members.now.symbols (let short = c.symbols_len.ensures.short in omega (arith, short)) (c.requires.known c.symbol_of-row.result)
    (λ t. type-many _ c.in_ok-line-in-Attribute.line refl t ∙ c.in_ok-line-in-Attribute.ensures t)
