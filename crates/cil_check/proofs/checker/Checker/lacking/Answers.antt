use Rattle.cil_check.proofs.Common.{◌+◌, not, Some, None, map, refl, sym, ap, ◌∙◌, arith, option_or, option_map, read, permissions_in, texts_of, word_if, lacking_words}
use Rattle.std.proofs.Common.{slice_get}
use Rattle.cil_check.proofs.PermissionLemmas.{no_word, word-read, as-many}
use Rattle.cil_check.proofs.AskedLemmas.{first_from, from-at, from-past, reads-as}
use Rattle.cil_check.proofs.MissingLemmas.{asked-at, lacks, lacks-none, lacking-first, class-named}
use Rattle.cil_check.proofs.checker.Checker.lacking.Goals as goal

pub returns-in_err-class : goal.returns-in_err-class
returns-in_err-class g c policy s noted seen numbered contained =
    reads-as c.args.seen.now c.from_residual.result None (slice_get (lacking_words policy s) 0) (ap (option_map (read (texts_of c.args.seen.now.«module».now))) c.from_residual.ensures)
    (ap (λ l. slice_get l 0) (lacks-none policy s (c.in_err-class.ensures policy s seen)))

pub number-requires : goal.number-requires
number-requires g c =
    let (policy, s, noted, seen) = c.requires in
    let texts = texts_of c.args.seen.now.«module».now in
    let found = word-read texts c.permissions-word-items.result.now (permissions_in seen.f.form) c.loop-word.word-index no_word (c.permissions-word-items.ensures texts seen.f seen.shown) c.loop-word-test.true in
    (found.0, found.2)

pub returns-then-not-has_permission : goal.returns-then-not-has_permission
returns-then-not-has_permission g c policy s noted seen numbered contained =
    let view = c.args.seen.now in
    let texts = texts_of view.«module».now in
    let i = c.loop-word.word-index in
    let listed = permissions_in s.form in
    let led = c.in_ok-class.ensures policy s seen in
    let (word, is) = class-named policy s c.in_ok-class.class led in
    let are = c.permissions-word-items.ensures texts seen.f seen.shown ∙ ap (λ f. map Some (permissions_in f)) seen.form in
    let asked = asked-at c.args.self.now view policy s word c.in_ok-class.class c.permissions-word-items.result.now i no_word c.number.result c.has_permission.result noted contained are c.loop-word-test.true led is
    (λ w reads one. c.number.ensures c.args.self.now.bound.policy.now.names w numbered reads one) (λ u at first less. c.has_permission.ensures policy u noted at first less) in
    ap Some asked.reads
    ∙ sym (ap (option_map Some) (lacking-first policy s word is ∙ c.loop-word.invariant policy s word noted seen numbered contained is ∙ from-at (lacks policy s word) listed i asked.w asked.at
    ∙ ap (λ b. option_or (word_if b asked.w) (first_from (lacks policy s word) (i + 1) listed)) (asked.lacking ∙ ap (λ b. not b) c.if-not-has_permission.true)))

pub loop-word-preserved : goal.loop-word-preserved
loop-word-preserved g c = λ policy s word noted seen numbered contained is.
    let view = c.args.seen.now in
    let texts = texts_of view.«module».now in
    let i = c.loop-word.word-index in
    let listed = permissions_in s.form in
    let led = c.in_ok-class.ensures policy s seen in
    let are = c.permissions-word-items.ensures texts seen.f seen.shown ∙ ap (λ f. map Some (permissions_in f)) seen.form in
    let asked = asked-at c.args.self.now view policy s word c.in_ok-class.class c.permissions-word-items.result.now i no_word c.number.result c.has_permission.result noted contained are c.loop-word-test.true led is
    (λ w reads one. c.number.ensures c.args.self.now.bound.policy.now.names w numbered reads one) (λ u at first less. c.has_permission.ensures policy u noted at first less) in
    c.loop-word.invariant policy s word noted seen numbered contained is ∙ from-at (lacks policy s word) listed i asked.w asked.at
    ∙ ap (λ b. option_or (word_if b asked.w) (first_from (lacks policy s word) (i + 1) listed)) (asked.lacking ∙ ap (λ b. not b) c.if-not-has_permission.false)

pub returns : goal.returns
returns g c policy s noted seen numbered contained =
    let view = c.args.seen.now in
    let texts = texts_of view.«module».now in
    let led = c.in_ok-class.ensures policy s seen in
    let (word, is) = class-named policy s c.in_ok-class.class led in
    let are = c.permissions-word-items.ensures texts seen.f seen.shown ∙ ap (λ f. map Some (permissions_in f)) seen.form in
    let long = as-many texts c.permissions-word-items.result.now (permissions_in s.form) are in
    let past = c.loop-word-test.false in
    reads-as view None None (slice_get (lacking_words policy s) 0) refl
    (lacking-first policy s word is ∙ c.loop-word.invariant policy s word noted seen numbered contained is
    ∙ from-past (lacks policy s word) (permissions_in s.form) c.loop-word.word-index (omega (arith, long, past)))
