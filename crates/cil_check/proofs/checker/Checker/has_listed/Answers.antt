use Rattle.cil_check.proofs.Common.{◌<◌, length, arith, rules, slice_get_within, has_list}
use Rattle.cil_check.proofs.KnownLemmas.{from-there, known-lacks-none, lacks-none-known}
use Rattle.cil_check.proofs.SeenLemmas.{is-long}
use Rattle.cil_check.proofs.checker.Checker.has_listed.Goals as goal

pub index-requires : goal.index-requires
index-requires g c =
    let r = c.requires in
    let long = is-long c.args.self.now.bound r.0 r.2.is in
    let less = slice_get_within r.0 c.args.place r.1 r.3 in
    let low : c.args.place < length c.args.self.now.bound.policy.now.rows.items = omega (arith, long, less) in
    search rules

pub of-list-requires : goal.of-list-requires
of-list-requires g c =
    let r = c.requires in
    (r.1, from-there c.args.self.now.bound r.0 c.args.place c.index.result.now r.1 r.2.is r.3 c.index.ensures)

pub returns-then-knows-clause-none : goal.returns-then-knows-clause-none
returns-then-knows-clause-none g c = λ is policy s noted at led known.
    let b = c.args.self.now.bound in
    let list = c.of-list.result in
    known-lacks-none b.joined.now.modules.items policy s list.«module» list.list c.args.class led
    (c.of-list.ensures s (from-there b policy c.args.place c.index.result.now s noted.is at c.index.ensures))
    (c.knows.ensures c.if-knows.true (has_list b.joined.now.modules.items policy) known.lists)

pub has_named_at-requires : goal.has_named_at-requires
has_named_at-requires g c = let r = c.requires in (r.0, r.1, r.2, r.3)

pub returns-then-not-has_named_at-clause-known : goal.returns-then-not-has_named_at-clause-known
returns-then-not-has_named_at-clause-known g c = λ policy s noted at led known. c.has_named_at.ensures.known policy s noted at led known

pub returns-clause-none : goal.returns-clause-none
returns-clause-none g c = λ is policy s noted at led known.
    c.has_named_at.ensures.none c.if-not-has_named_at.false policy s noted at led known

pub returns-clause-known : goal.returns-clause-known
returns-clause-known g c = λ policy s noted at led known.
    let b = c.args.self.now.bound in
    let list = c.of-list.result in
    let none = c.has_named_at.ensures.none c.if-not-has_named_at.false policy s noted at led known in
    let after = c.has_named_at.ensures.known policy s noted at led known in record {
      lists = c.note.ensures (has_list b.joined.now.modules.items policy)
          (lacks-none-known b.joined.now.modules.items policy s list.«module» list.list c.args.class led (c.of-list.ensures s (from-there b policy c.args.place c.index.result.now s noted.is at c.index.ensures)) none) after.lists;
      recent = after.recent;
    }
