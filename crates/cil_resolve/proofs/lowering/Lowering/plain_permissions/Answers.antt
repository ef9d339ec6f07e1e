use Rattle.cil_resolve.proofs.Common.{◌∙◌, ap, subst, classes, texts, nodes_in, AreNumbersIn}
use Rattle.cil_resolve.proofs.GivenLemmas.{a-list, permissions-listed, plain-given}
use Rattle.cil_resolve.proofs.lowering.Lowering.plain_permissions.Goals as goal

pub number-requires : goal.number-requires
number-requires g c =
    let (policy, s, the_class, permissions, is, at, names_them) = c.requires.is in
    record { policy = policy; s = s; table = classes; word = the_class; is = is; at = names_them.refers }

pub returns-clause-permissions : goal.returns-clause-permissions
returns-clause-permissions g c policy s the_class permissions is at knows names_them =
    let l = c.args.self.now in
    let seen = c.args.seen.now in
    let numbers = c.in_ok-shared_permissions.field-0 in
    plain-given l seen policy s is c.args.k the_class permissions names_them
    (a-list permissions (is.seen_is.shown.nodes ∙ ap nodes_in is.seen_is.form ∙ names_them.nodes) c.requires.plain) c.number.result
    (c.number.ensures.class policy s the_class is names_them.refers) numbers
    (subst (λ words. AreNumbersIn l.numbering.now.names.items (texts words) numbers) names_them.words
    (c.in_ok-shared_permissions.ensures.numbers policy s is.lowering at knows (permissions-listed l seen policy s is c.args.k the_class permissions names_them)))

pub returns-clause-known : goal.returns-clause-known
returns-clause-known g c = c.in_ok-shared_permissions.ensures.known
