use Rattle.cil_text.proofs.Common.{◌∙◌, sym, ap, refl, subst, inl, inr, is_among, keywords, outside_optionals, put_word, Fits, word_of, trees_of, FaultIs, IsFirstOf, AreGood, IsFirstBad, IsFoundAs, spelling, scope_form}
use Rattle.cil_specs.specs.Place.{Place}
use Rattle.cil_text.proofs.Bodies.{no_scope, scope_fits, scope_words}
use Rattle.cil_text.proofs.HeadingLemmas.{spelling_is, misfit_first, bad_heading_first, fits_word, allowed_by, forbidden_by}
use Rattle.cil_text.proofs.FirstBad.{handed}
use Rattle.cil_text.proofs.walk.scope_heading.Goals as goal

pub returns-in_default-clause-err : goal.returns-in_default-clause-err
returns-in_default-clause-err c at =
    let first = word_of c.args.first in
    let operands = trees_of c.args.operands in
    let keyword = c.args.keyword in
    let spelt = c.requires.opener.1 in
    subst (λ fault. FaultIs fault (IsFirstOf c.args.inside at (put_word first operands))) (sym c.fault_at.ensures)
    (misfit_first c.args.inside at (put_word first operands) first operands refl (ap (is_among keywords) spelt ∙ spelling_is keyword)
    (λ form inner fits. no_scope first.at keyword operands form inner c.requires.opener.0 c.in_default.ensures
    (subst (λ text. Fits (put_word (record { at = first.at; text = text }) operands) form inner) spelt fits)))

pub returns-then-not-may_stand-clause-err : goal.returns-then-not-may_stand-clause-err
returns-then-not-may_stand-clause-err c at =
    let first = word_of c.args.first in
    let operands = trees_of c.args.operands in
    let keyword = c.args.keyword in
    let spelt = c.requires.opener.1 in
    let id = word_of c.in-Some.id in
    let inner = trees_of c.in-Some.inner in
    let form = scope_form keyword id in
    let fits = scope_fits first.at keyword operands id inner c.requires.opener.0 c.in-Some.ensures.0 c.in-Some.ensures.1 in
    let test = forbidden_by c.args.inside (is_among outside_optionals (spelling keyword)) c.may_stand.result c.may_stand.ensures c.if-not-may_stand.true in
    bad_heading_first c.args.inside at (put_word first operands) c.args.first operands keyword form inner c.fault_at-then-not-may_stand.result refl spelt
    (fits_word first operands keyword form inner spelt fits) (inl (test.0, test.1, c.fault_at-then-not-may_stand.ensures))

pub returns-in_err-check_word-clause-err : goal.returns-in_err-check_word-clause-err
returns-in_err-check_word-clause-err c =
    let first = word_of c.args.first in
    let operands = trees_of c.args.operands in
    let keyword = c.args.keyword in
    let spelt = c.requires.opener.1 in
    let id = word_of c.in-Some.id in
    let inner = trees_of c.in-Some.inner in
    let form = scope_form keyword id in
    let fault = c.in_err-check_word.field-0.0 in
    let fits = scope_fits first.at keyword operands id inner c.requires.opener.0 c.in-Some.ensures.0 c.in-Some.ensures.1 in
    let allowed = allowed_by c.args.inside (is_among outside_optionals (spelling keyword)) c.may_stand.result c.may_stand.ensures c.if-not-may_stand.false in
    handed (λ fault. (at : Place) → FaultIs fault (IsFirstOf c.args.inside at (put_word first operands))) c.from_residual.result fault c.from_residual.ensures.1
    (λ at. bad_heading_first c.args.inside at (put_word first operands) c.args.first operands keyword form inner fault refl spelt (fits_word first operands keyword form inner spelt fits)
    (inr (allowed, subst (λ words. IsFoundAs (IsFirstBad words) fault) (scope_words keyword id) c.in_err-check_word.ensures)))

pub returns-clause-ok : goal.returns-clause-ok
returns-clause-ok c =
    let first = word_of c.args.first in
    let operands = trees_of c.args.operands in
    let keyword = c.args.keyword in
    let spelt = c.requires.opener.1 in
    let id = word_of c.in-Some.id in
    let inner = trees_of c.in-Some.inner in
    let form = scope_form keyword id in
    let fits = scope_fits first.at keyword operands id inner c.requires.opener.0 c.in-Some.ensures.0 c.in-Some.ensures.1 in
    let allowed = allowed_by c.args.inside (is_among outside_optionals (spelling keyword)) c.may_stand.result c.may_stand.ensures c.if-not-may_stand.false in
    record { fits = fits_word first operands keyword form inner spelt fits; allowed = λ within. ap (is_among outside_optionals) spelt ∙ allowed within; good = subst AreGood (scope_words keyword id) c.in_ok-check_word.ensures }
