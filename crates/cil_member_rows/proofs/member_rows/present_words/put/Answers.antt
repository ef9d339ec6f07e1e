use Rattle.cil_member_rows.proofs.Common.{arith, inl, inr, cases_lt}
use Rattle.cil_member_rows.proofs.member_rows.present_words.put.Goals as goal

pub returns-clause-others : goal.returns-clause-others
returns-clause-others g c w out =
    elim (cases_lt w c.args.some.first) [
      | inl low ↦ c.loop-word.invariant.others w (inl low)
      | inr from ↦
          elim out [
            | inl low ↦ c.loop-word.invariant.others w (inl low)
            | inr past ↦
                let end = c.loop-word.auto.word-end in
                let least = c.min-last.ensures in
                let most = c.max-end.ensures in
                c.loop-word.invariant.others w (inr (omega (arith, from, past, end, least, most)))
          ]
    ]
