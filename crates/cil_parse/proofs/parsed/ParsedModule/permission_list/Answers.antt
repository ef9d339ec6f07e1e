use Rattle.std.proofs.Common.{◌<◌, length, arith, rules}
use Rattle.cil_parse.proofs.PermissionListLemmas.{numbers-long, list-within, list-is}
use Rattle.cil_parse.proofs.parsed.ParsedModule.permission_list.Goals as goal

pub index-requires : goal.index-requires
index-requires g c =
    let p = c.args.self.now in
    let long = numbers-long p in
    let low : c.args.i < length p.permission_lists.numbers.items = omega (arith, long, c.requires) in
    search rules

pub returns-clause-within : goal.returns-clause-within
returns-clause-within g c = list-within c.args.self.now c.args.i c.index.result.now c.index.result.now c.requires c.index.ensures

pub returns-clause-list : goal.returns-clause-list
returns-clause-list g c statements f spells here = list-is c.args.self.now c.args.i c.index.result.now c.index.result.now statements f c.requires c.index.ensures spells here
