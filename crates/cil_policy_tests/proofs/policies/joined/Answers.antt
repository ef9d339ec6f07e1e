use Rattle.std.proofs.Common.{ℕ, List, [], ◌∷◌, codes, refl, sym, subst}
use Rattle.cil_specs.specs.Joined.{Module}
use Rattle.cil_specs.specs.Statements.{Statements}
use Rattle.cil_resolve.specs.Modules.{AreParsedFrom}
use Rattle.cil_bind.specs.Scope.{AreSpelt}
use Rattle.cil_bind.specs.Written.{IsWritten}
use Rattle.cil_parse.specs.declared.parsed.ParsedModule.{ParsedModule}
use Rattle.cil_parse.specs.Parsed.{IsParsed}
use Rattle.cil_policy_tests.proofs.policies.joined.Goals as goal

written : {A : Type 0} (name : List ℕ) (p : ParsedModule A) (is : (text : List ℕ) × IsParsed text p) → IsWritten (record { name = name; statements = is.1.statements })
written name p is = record { bytes = is.0; trees = is.1.is_text.trees; reads = is.1.is_text.reads; shapes = is.1.is_text.shapes }

abbrev two : (first second : Statements) → List Module
two first second = record { name = codes "m"; statements = first } ∷ record { name = codes "n"; statements = second } ∷ []

pub returns-clause-parsed : goal.returns-clause-parsed
returns-clause-parsed c =
    let first = c.requires.first in
    let second = c.requires.second in
    subst (λ items. (modules : List Module) × AreParsedFrom items modules) (sym c.in_ok-modules.ensures.items)
    (two first.1.statements second.1.statements, record { spelt = (refl, first.1.spells, (refl, second.1.spells, tt)); written = (written (codes "m") c.args.m.now first, (written (codes "n") c.args.n.now second, tt)) })

pub returns-clause-spelt : goal.returns-clause-spelt
returns-clause-spelt c =
    let first = c.requires.first in
    let second = c.requires.second in
    subst (λ items. (modules : List Module) × AreSpelt items modules) (sym c.in_ok-modules.ensures.items)
    (two first.1.statements second.1.statements, (refl, first.1.spells, (refl, second.1.spells, tt)))
