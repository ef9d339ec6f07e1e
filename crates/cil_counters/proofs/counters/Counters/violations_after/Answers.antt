use Rattle.cil_counters.proofs.Common.{◌<◌, ◌^◌, subst, rc_value, AreCounts, AreNumbersOf, meaning_in, sets_in, AreTheSame, HasSoundSets}
use Rattle.cil_member_rows.specs.Rows as member_rows
use Rattle.cil_counters.proofs.CountedLemmas.{members-by}
use Rattle.cil_counters.proofs.counters.Counters.violations_after.Goals as goal

pub of-requires : goal.of-requires
of-requires g c =
    let names = c.load_members.new.self.names in
    let counts = member_rows.count_now c.load_members.new.self.rows in
    members-by names (rc_value c.args.new.now) (subst (λ x. HasSoundSets (meaning_in x)) c.deref.ensures c.resolved_is_sound.ensures)
    (subst (λ x. AreTheSame (meaning_in x).sets (sets_in x)) c.deref-2.ensures c.resolved_sets_are_in_order.ensures.the_same) c.in_ok-next.next.numbering.symbols counts
    c.len.ensures.distinct (subst (λ n. n < 2 ^ 64) c.len.ensures.len c.len.type_inv)
    (subst (λ x. AreNumbersOf names c.in_ok-next.next.numbering.symbols x.names.items) c.deref-3.ensures c.in_ok-next.ensures.symbols.numbers) (subst (λ x. AreCounts names x counts) c.deref-3.ensures c.in_ok-next.ensures.members)
