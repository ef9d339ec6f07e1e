use Rattle.cil_counters.proofs.Common.{◌<◌, ◌^◌, subst, sym, rc_value, AreNumbersOf, meaning_in, sets_in, AreTheSame, HasSoundSets}
use Rattle.cil_member_rows.specs.Rows as member_rows
use Rattle.cil_counters.proofs.CountedLemmas.{members-by}
use Rattle.cil_counters.proofs.counters.Counters.violations.Goals as goal

pub of-requires : goal.of-requires
of-requires g c =
    members-by c.args.self.now.names (rc_value c.args.policy.now) (subst (λ x. HasSoundSets (meaning_in x)) c.deref.ensures c.resolved_is_sound.ensures)
    (subst (λ x. AreTheSame (meaning_in x).sets (sets_in x)) c.deref-2.ensures c.resolved_sets_are_in_order.ensures.the_same) _ (member_rows.count_now c.args.self.now.rows)
    c.len.ensures.distinct (subst (λ n. n < 2 ^ 64) c.len.ensures.len c.len.type_inv)
    (subst (λ n. AreNumbersOf c.args.self.now.names n.symbols (rc_value c.args.policy.now).names.items) (sym c.numbering_now.ensures) c.requires.symbols.numbers) c.requires.counted.are_members
