use Rattle.cil_optionals.proofs.Common.{◌≡◌, ◌∷◌, [], Some, length, bytes_eq, position, ap, ◌∙◌, arith, length-append, listers_at}
use Rattle.cil_optionals.proofs.ListedLemmas.{missing, number-new, number-named, with-new}
use Rattle.cil_optionals.proofs.listed.Listed.number.Goals as goal

pub returns-clause-long : goal.returns-clause-long
returns-clause-long g c =
    let names = c.args.self.now.names in
    let name = c.args.name.now in
    let more = ap length (c.in_ok-insert.ensures.ok ∙ with-new names name (missing names name c.find.result c.find.ensures c.in_default.not-Some)) ∙ length-append names (name ∷ []) in
    let pushed = ap length c.in_ok-push.ensures.items ∙ length-append c.args.self.now.listers.items (c.new.result ∷ []) in
    let same = c.requires in
    omega (arith, more, pushed, same)

pub returns-clause-named : goal.returns-clause-named
returns-clause-named g c =
    let names = c.args.self.now.names in
    let name = c.args.name.now in
    let absent = missing names name c.find.result c.find.ensures c.in_default.not-Some in
    let long = c.len-number.ensures in
    let same = c.requires in
    let count : length names ≡ c.len-number.result = omega (arith, long, same) in
    ap (position (bytes_eq name)) (c.in_ok-insert.ensures.ok ∙ with-new names name absent) ∙ number-named names name absent ∙ ap Some count

pub returns-clause-listers : goal.returns-clause-listers
returns-clause-listers g c = λ other.
    let names = c.args.self.now.names in
    let name = c.args.name.now in
    let more = c.in_ok-insert.ensures.ok ∙ with-new names name (missing names name c.find.result c.find.ensures c.in_default.not-Some) in
    (λ k. listers_at (more k) (c.in_ok-push.ensures.items k) other) ∙ number-new names c.args.self.now.listers.items name c.new.result c.requires c.new.ensures.items other
