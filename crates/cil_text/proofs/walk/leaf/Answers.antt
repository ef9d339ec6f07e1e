use Rattle.cil_text.proofs.Common.{◌∙◌, sym, ap, refl, subst, is_among, keywords, outside_optionals, none, put_word, Fits, place_of, word_of, trees_of, FaultIs, FitsAs, form_of, IsFirstOf}
use Rattle.cil_text.proofs.Bodies.{has_body_is}
use Rattle.cil_text.proofs.HeadingLemmas.{spelling_is, misfit_first, bad_heading_first, fits_word}
use Rattle.cil_text.proofs.WalkLemmas.{leaf_is}
use Rattle.cil_text.proofs.walk.leaf.Goals as goal

pub returns-in-Ok-clause-ok : goal.returns-in-Ok-clause-ok
returns-in-Ok-clause-ok g c =
    let first = word_of c.args.first in
    let operands = trees_of c.args.operands in
    let at = place_of c.args.at in
    let keyword = c.args.keyword in
    let spelt = c.requires.leaf.1 in
    let statement = c.in-Ok-Some.statement in
    let form = form_of statement in
    let fits = subst (FitsAs at keyword operands) c.in-Ok-Some.field-0-is c.in-Ok-Some.ensures in
    leaf_is c.args.inside at (put_word first operands) statement fits.0
    (record {
      fits = fits_word first operands keyword form none spelt (fits.1 first.at);
      allowed = λ within. ap (is_among outside_optionals) spelt ∙ c.in-Ok.ensures.allowed within;
      good = c.in-Ok.ensures.good;
    })
    (has_body_is first.at keyword operands form none (fits.1 first.at) ∙ c.requires.leaf.0)

pub returns-in-Err-check_heading-clause-err : goal.returns-in-Err-check_heading-clause-err
returns-in-Err-check_heading-clause-err g c =
    let first = word_of c.args.first in
    let operands = trees_of c.args.operands in
    let at = place_of c.args.at in
    let keyword = c.args.keyword in
    let spelt = c.requires.leaf.1 in
    let form = form_of c.in-Ok-Some.statement in
    let fits = subst (FitsAs at keyword operands) c.in-Ok-Some.field-0-is c.in-Ok-Some.ensures in
    bad_heading_first c.args.inside at (put_word first operands) c.args.first operands keyword form none c.in-Err-check_heading.fault refl spelt
    (fits_word first operands keyword form none spelt (fits.1 first.at)) c.in-Err-check_heading.ensures.err

pub returns-in-Ok-None-clause-err : goal.returns-in-Ok-None-clause-err
returns-in-Ok-None-clause-err g c =
    let first = word_of c.args.first in
    let operands = trees_of c.args.operands in
    let at = place_of c.args.at in
    let keyword = c.args.keyword in
    let spelt = c.requires.leaf.1 in
    let misfit = subst (FitsAs at keyword operands) c.in-Ok-None.field-0-is c.in-Ok-None.ensures in
    subst (λ fault. FaultIs fault (IsFirstOf c.args.inside at (put_word first operands))) (sym c.fault_at.ensures)
    (misfit_first c.args.inside at (put_word first operands) first operands refl (ap (is_among keywords) spelt ∙ spelling_is keyword)
    (λ form inner fits. misfit first.at form inner (subst (λ text. Fits (put_word (record { at = first.at; text = text }) operands) form inner) spelt fits)))
