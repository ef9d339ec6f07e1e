use Rattle.cil_member_rows.proofs.PresentLemmas.{put-all}
use Rattle.cil_member_rows.proofs.member_rows.MemberRows.present_words.Goals as goal

pub returns-clause-are : goal.returns-clause-are
returns-clause-are g c w upto =
    rw (← c.self.view_is)
    (put-all c.self.inside.held.items c.self.inside.rows c.self.invariant.0 c.args.row c.turned_words.result
    (rw (← c.self.view_is) at c.turned_words.ensures.same) c.args.count c.in_ok-words.words.items c.put.new.words.items (rw c.deref.ensures.value at c.in_ok-words.ensures.len)
    (rw c.deref.ensures.value at c.in_ok-words.ensures.words) c.put.ensures.len c.put.ensures.put c.put.ensures.others w upto)
