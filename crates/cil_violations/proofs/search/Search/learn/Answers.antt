use Rattle.cil_violations.proofs.ClassLemmas.{are-classes}
use Rattle.cil_violations.proofs.KnownLemmas.{stand-known}
use Rattle.cil_violations.proofs.ResultLemmas.{ok-both, ok-more}
use Rattle.cil_violations.specs.declared.known.SharedClasses.{SharedClasses}
use Rattle.cil_violations.proofs.search.Search.learn.Goals as goal

pub returns-in-Some-clause-classes : goal.returns-in-Some-clause-classes
returns-in-Some-clause-classes g c =
    stand-known c.args.self.now c.args.known.now.lists.items c.requires.known c.args.never.place c.args.allowed.place
    c.in-Some.place c.requires.never_set c.requires.allowed_set c.in-Some.ensures

pub returns-clause-known : goal.returns-clause-known
returns-clause-known g c =
    let shared : SharedClasses _ =
    record { never = c.args.never.set; allowed = c.args.allowed.set; classes = c.in_ok-classes.classes } in
    let are =
    are-classes c.args.self.now c.requires.search c.args.never.place c.args.allowed.place shared c.requires.never_set
    c.requires.allowed_set c.in_ok-classes.ensures in
    let kept = c.keep.ensures.known in
    ok-both c.keep.result (λ more place. more c.args.self.now c.requires.known are) kept kept

pub returns-clause-classes : goal.returns-clause-classes
returns-clause-classes g c =
    let shared : SharedClasses _ =
    record { never = c.args.never.set; allowed = c.args.allowed.set; classes = c.in_ok-classes.classes } in
    ok-more c.keep.result (λ place at. (shared, at, c.in_ok-classes.ensures)) c.keep.ensures.place
