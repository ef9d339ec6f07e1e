use Rattle.std.proofs.Common.{◌+◌, ◌==◌, ◌∙◌, length, ap, sym, true≢false}
use Rattle.cil_session.proofs.SessionLemmas.{HasLine, comes-no_line, comes-turn, comes-unflushed}
use Rattle.cil_session.proofs.session.answer_next.Goals as goal
use Rattle.cil_session.proofs.session.answer_next.Goals.{else-last-via-then-last+else-is_empty, else-last-via-else-last}

pub returns-in_err-flush_unless : goal.returns-in_err-flush_unless
returns-in_err-flush_unless g c =
    let flush = c.in_err-flush_unless.ensures in
    comes-unflushed _ c.from_residual.ensures.1 c.requires flush.same flush.failed flush.counted

pub returns-in_err-end : goal.returns-in_err-end
returns-in_err-end g c =
    let end = c.in_err-end.ensures in
    let flush = c.flush_unless.ensures in
    comes-no_line _ _ c.from_residual-in_err-end.ensures.1 end.err end.stays flush.same end.failed end.failures flush.counted

pub returns : goal.returns
returns g c =
    let end = c.in_ok-end.ensures in
    let flush = c.flush_unless.ensures in
    let last = c.is_last-last.ensures in
    let line : HasLine c.in_ok-end.end c.as_slice-bytes.result.now _ _ = record {
      bytes = end.read.0;
      reads = end.read.1;
      ends = rw c.as_slice-bytes.ensures.value end.read.2;
      short = rw c.as_slice-bytes.ensures.value c.as_slice-bytes.ensures.short;
      stay = rw c.as_slice-bytes.ensures.value end.stays;
      ended = end.ended;
      some = λ e none.
          elim c.else-last.branch [
            | else-last-via-then-last+else-is_empty w ↦ true≢false (sym (ap (λ l. length l == 0) none) ∙ sym w.is_empty.ensures ∙ w.if-is_empty.false)
            | else-last-via-else-last w ↦ true≢false (sym (last.1 e) ∙ w.if-last.false)
          ];
    }
    in
    comes-turn _ _ _ line (ap (λ n. 1 + n) c.line_feeds-line_feeds.ensures) last.0 last.1 flush.same end.failures flush.counted c.answer_line.ensures c.turn_of.ensures
