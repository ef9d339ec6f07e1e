use Rattle.std.proofs.Common.{◌∙◌, ◌++◌, append-nil, ap, sym}
use Rattle.cil_violations.specs.Index.{set_of, set_of_one}
use Rattle.cil_violations.proofs.ClassLemmas.{alone-first}
use Rattle.cil_violations.proofs.HeldLemmas.{short}
use Rattle.cil_violations.proofs.PairLemmas.{no-sources, source-known}
use Rattle.cil_violations.proofs.search.Search.push_sources.Goals as goal

pub next_shared_word-word-requires-clause-short : goal.next_shared_word-word-requires-clause-short
next_shared_word-word-requires-clause-short g c = short c.args.self.now.resolved.now c.args.self.now.members
    c.requires.search.members

pub next_shared_word-word-requires-clause-first : goal.next_shared_word-word-requires-clause-first
next_shared_word-word-requires-clause-first g c = source-known c.args.self.now c.requires.search c.args.never
    c.rule-first.result.now c.rule-first.ensures

pub next_shared_word-word-requires-clause-second : goal.next_shared_word-word-requires-clause-second
next_shared_word-word-requires-clause-second g c = source-known c.args.self.now c.requires.search c.args.allowed
    c.rule-second.result.now c.rule-second.ensures

pub returns-then-is_none-clause-rows : goal.returns-then-is_none-clause-rows
returns-then-is_none-clause-rows g c =
    sym (ap (λ l. c.args.rows.now.items ++ l) (no-sources c.args.self.now c.requires.search c.args.never
    c.args.allowed c.rule-first.result.now c.rule-second.result.now c.rule-first.ensures c.rule-second.ensures
    c.next_shared_word-word.result c.if-is_none.ensures c.next_shared_word-word.ensures)
    ∙ append-nil c.args.rows.now.items)

pub push_of_class-requires-clause-class : goal.push_of_class-requires-clause-class
push_of_class-requires-clause-class g c =
    alone-first c.args.self.now c.requires.search c.args.never c.args.allowed c.requires.never c.requires.shares
    c.rule-first.result.now c.in-OfClass.given c.in-OfClass.is c.rule-first.ensures

pub push_of_set-requires-clause-set : goal.push_of_set-requires-clause-set
push_of_set-requires-clause-set g c = ap set_of_one c.rule-first.ensures ∙ ap set_of c.in-OfSet.is
