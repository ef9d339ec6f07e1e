use Rattle.cil_check.proofs.Common.{◌+◌, true, Some, map, refl, sym, ap, ◌∙◌, arith, option_or, classes, permissions_in, texts_of, class_lead, word_if, lacking_words}
use Rattle.cil_check.proofs.PermissionLemmas.{no_word, word-read, as-many}
use Rattle.cil_check.proofs.AskedLemmas.{first_from, from-at, from-past}
use Rattle.cil_check.proofs.MissingLemmas.{asked-at, lacks, lacking-first, class-named}
use Rattle.cil_check.proofs.RecentLemmas.{first-none, permission-within}
use Rattle.cil_check.proofs.WordLemmas.{led-at}
use Rattle.cil_check.proofs.checker.Checker.has_named.Goals as goal

pub loop-word-init : goal.loop-word-init
loop-word-init g c = λ policy s word noted seen numbered contained led is known. (refl, known)

pub number-requires : goal.number-requires
number-requires g c =
    let (policy, s, noted, seen) = c.requires in
    let texts = texts_of c.args.seen.now.«module».now in
    let found = word-read texts c.permissions-word-items.result.now (permissions_in seen.f.form) c.loop-word.word-index no_word (c.permissions-word-items.ensures texts seen.f seen.shown) c.loop-word-test.true in
    (found.0, found.2)

pub returns-then-not-has_known-clause-known : goal.returns-then-not-has_known-clause-known
returns-then-not-has_known-clause-known g c = λ policy s noted seen numbered contained led known.
    let view = c.args.seen.now in
    let texts = texts_of view.«module».now in
    let i = c.loop-word.word-index in
    let lead = led-at classes policy c.args.class (class_lead policy s) led in
    let (word, is) = class-named policy s c.args.class led in
    let so_far = c.loop-word.invariant policy s word noted seen numbered contained led is known in
    let are = c.permissions-word-items.ensures texts seen.f seen.shown ∙ ap (λ f. map Some (permissions_in f)) seen.form in
    let within = permission-within c.args.self.now view policy s c.permissions-word-items.result.now i no_word c.number.result noted contained are c.loop-word-test.true
    (λ w reads one. c.number.ensures c.args.self.now.bound.policy.now.names w numbered reads one) in
    c.has_known.ensures.known policy lead.s noted lead.at lead.first within so_far.1

pub loop-word-preserved : goal.loop-word-preserved
loop-word-preserved g c = λ policy s word noted seen numbered contained led is known.
    let view = c.args.seen.now in
    let texts = texts_of view.«module».now in
    let i = c.loop-word.word-index in
    let listed = permissions_in s.form in
    let lead = led-at classes policy c.args.class (class_lead policy s) led in
    let so_far = c.loop-word.invariant policy s word noted seen numbered contained led is known in
    let are = c.permissions-word-items.ensures texts seen.f seen.shown ∙ ap (λ f. map Some (permissions_in f)) seen.form in
    let within = permission-within c.args.self.now view policy s c.permissions-word-items.result.now i no_word c.number.result noted contained are c.loop-word-test.true
    (λ w reads one. c.number.ensures c.args.self.now.bound.policy.now.names w numbered reads one) in
    let asked = asked-at c.args.self.now view policy s word c.args.class c.permissions-word-items.result.now i no_word c.number.result true noted contained are c.loop-word-test.true led is
    (λ w reads one. c.number.ensures c.args.self.now.bound.policy.now.names w numbered reads one)
    (λ u at first less. sym (c.has_known.ensures.has c.if-not-has_known.false policy u noted at first less so_far.1)) in (
      so_far.0 ∙ from-at (lacks policy s word) listed i asked.w asked.at ∙ ap (λ b. option_or (word_if b asked.w) (first_from (lacks policy s word) (i + 1) listed)) asked.lacking,
      c.has_known.ensures.known policy lead.s noted lead.at lead.first within so_far.1,
    )

pub returns-clause-none : goal.returns-clause-none
returns-clause-none g c = λ yes policy s noted seen numbered contained led known.
    let texts = texts_of c.args.seen.now.«module».now in
    let (word, is) = class-named policy s c.args.class led in
    let so_far = c.loop-word.invariant policy s word noted seen numbered contained led is known in
    let are = c.permissions-word-items.ensures texts seen.f seen.shown ∙ ap (λ f. map Some (permissions_in f)) seen.form in
    let long = as-many texts c.permissions-word-items.result.now (permissions_in s.form) are in
    let past = c.loop-word-test.false in
    first-none (lacking_words policy s) (lacking-first policy s word is ∙ so_far.0 ∙ from-past (lacks policy s word) (permissions_in s.form) c.loop-word.word-index (omega (arith, long, past)))

pub returns-clause-known : goal.returns-clause-known
returns-clause-known g c = λ policy s noted seen numbered contained led known.
    let (word, is) = class-named policy s c.args.class led in
    let so_far = c.loop-word.invariant policy s word noted seen numbered contained led is known in
    so_far.1
