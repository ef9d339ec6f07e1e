use Rattle.std.proofs.Common.{◌∙◌, ap}
use Rattle.cil_violations.specs.Index.{set_of, set_of_one}
use Rattle.cil_violations.proofs.ClassLemmas.{alone-second}
use Rattle.cil_violations.proofs.search.Search.push_of_set.Goals as goal

pub push_of_class-requires-clause-class : goal.push_of_class-requires-clause-class
push_of_class-requires-clause-class g c =
    alone-second c.args.self.now c.requires.search c.args.never.place c.args.allowed c.requires.never c.requires.shares
    c.rule.result.now c.in-OfClass.given c.in-OfClass.is c.rule.ensures

pub learn-requires-clause-allowed_set : goal.learn-requires-clause-allowed_set
learn-requires-clause-allowed_set g c = ap set_of_one c.rule.ensures ∙ ap set_of c.in-OfSet.is
