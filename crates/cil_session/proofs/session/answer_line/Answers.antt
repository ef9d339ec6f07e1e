use Rattle.std.proofs.Common.{◌∙◌, sym, true≢false}
use Rattle.cil_session.specs.Command.{command_of}
use Rattle.cil_session.proofs.SessionLemmas.{whole-line, none-behind, bad-install, comes-line, comes-none, comes-behind_flush}
use Rattle.cil_session.proofs.session.answer_line.Goals as goal

pub returns-then-is_last : goal.returns-then-is_last
returns-then-is_last g c =
    let asked = rw c.in-Install.is at c.in-Some.ensures.some in
    comes-none c.requires.fits
    (bad-install _ _ _ _ _ _ (record { good_name = asked.good.0; short_priority = asked.good.1; short_size = asked.good.2 }) asked.is (c.is_last.ensures.0 c.if-is_last.true) c.requires.last)

pub returns-in-Whole : goal.returns-in-Whole
returns-in-Whole g c =
    let command = command_of c.in-Whole.command in
    let asked = rw c.in-Whole.is at c.in-Some.ensures.some in
    comes-line command _ c.requires.fits
    (whole-line command _ _ _ asked.good.0 asked.good.1 (none-behind command asked.good.1) (λ e. true≢false (sym (c.is_too_long.ensures.1 e) ∙ c.if-is_too_long.false)) c.requires.last asked.is)
    c.answer_command.ensures c.told.ensures

pub returns-in_ok-flush_unless-in-Install : goal.returns-in_ok-flush_unless-in-Install
returns-in_ok-flush_unless-in-Install g c =
    let asked = rw c.in-Install.is at c.in-Some.ensures.some in
    comes-behind_flush (λ e. true≢false (sym (c.is_too_long.ensures.1 e) ∙ c.if-is_too_long.false)) (λ e. true≢false (sym (c.is_last.ensures.1 e) ∙ c.if-is_last.false))
    (record { good_name = asked.good.0; short_priority = asked.good.1; short_size = asked.good.2 }) asked.is
    c.flush_unless.ensures.same c.flush_unless.ensures.counted c.answer_install.ensures
