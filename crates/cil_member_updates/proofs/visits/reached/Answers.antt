use Rattle.std.proofs.Common.{IfSome}
use Rattle.cil_member_updates.proofs.Common.{sym, subst, meaning_in, set_of, Cover, HoldsTypes, held_by, keeps}
use Rattle.cil_member_updates.proofs.NameLemmas.{holds-kept}
use Rattle.cil_member_updates.proofs.PlainLemmas.{cover-set}
use Rattle.cil_member_updates.proofs.visits.reached.Goals as goal

pub returns-in-Some : goal.returns-in-Some
returns-in-Some g c =
    let r = c.args.reading.now in
    let meaning = meaning_in r.side.now.resolved.now in
    let told = subst (λ held. IfSome held (λ words. HoldsTypes r words.now)) c.in-Some.is c.requires.known in
    subst (Cover (held_by r) c.args.word) (sym c.word_of.ensures) (cover-set (keeps r.symbols.now meaning) (held_by r) (holds-kept r.symbols.now meaning (set_of r)) c.in-Some.types.now told c.args.word)
