use Rattle.cil_resolve.proofs.Common.{◌∙◌, sym, ap, IfOk-weaker, true≢false, has_name, is_numbered_kind, full_name_of, names_with, number_in}
use Rattle.cil_resolve.proofs.FullNamesLemmas.{kind-numbered}
use Rattle.cil_resolve.proofs.NumberLemmas.{full-named, named-in}
use Rattle.cil_resolve.proofs.StatementLemmas.{contained}
use Rattle.cil_resolve.proofs.numbering.place_number.Goals as goal

pub returns-then-not-is_numbered : goal.returns-then-not-is_numbered
returns-then-not-is_numbered g c policy s is at named numbered =
    absurd (true≢false (sym numbered ∙ sym (kind-numbered s.form) ∙ ap is_numbered_kind (sym (c.kind.ensures policy s is at)) ∙ sym c.is_numbered.ensures ∙ c.if-not-is_numbered.true))

pub number_of-requires : goal.number_of-requires
number_of-requires g c =
    let (policy, s, is, at, named, are) = c.requires in
    let numbered = sym (c.is_numbered.ensures ∙ ap is_numbered_kind (c.kind.ensures policy s is at) ∙ kind-numbered s.form) ∙ c.if-not-is_numbered.false in
    ap (has_name c.args.names.now) named ∙ are (full_name_of s) ∙ named-in names_with policy s (full_name_of s) (contained policy c.args.i s at) (full-named s numbered)

pub returns : goal.returns
returns g c = IfOk-weaker c.number_of.result _ _ (λ n found policy s is at named numbered. ap (number_in c.args.names.now) (sym named) ∙ found) c.number_of.ensures
