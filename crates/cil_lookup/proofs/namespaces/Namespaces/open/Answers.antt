use Rattle.std.proofs.Common.{◌+◌, ◌<◌, ◌^◌, length, arith, rules}
use Rattle.cil_lookup.proofs.NamespaceLemmas.{put-block}
use Rattle.cil_lookup.proofs.namespaces.Namespaces.open.Goals as goal

pub invariant_of-self-2 : goal.invariant_of-self-2
invariant_of-self-2 g c =
    let room : length c.self.inside.blocks.keys + 2 < 2 ^ 32 = omega arith in
    (put-block c.args.self.now c.self.inside.blocks.keys c.insert_full.new.self.keys (record { outer = c.args.outer; word = c.args.word }) c.in_ok-index.index c.self.invariant c.self.view_is c.requires room c.in_ok-index.ensures.keys c.in_ok-index.ensures.stored).are

pub returns : goal.returns
returns g c =
    let room : length c.self.inside.blocks.keys + 2 < 2 ^ 32 = omega arith in
    let put = put-block c.args.self.now c.self.inside.blocks.keys c.insert_full.new.self.keys (record { outer = c.args.outer; word = c.args.word }) c.in_ok-index.index c.self.invariant c.self.view_is c.requires room c.in_ok-index.ensures.keys c.in_ok-index.ensures.stored in
    record { within = put.within; opened = put.opened; kept = put.kept; exact = put.exact; distinct = λ old. put.are.distinct; err = search rules }
