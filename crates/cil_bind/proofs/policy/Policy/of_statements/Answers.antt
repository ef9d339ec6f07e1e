use Rattle.cil_bind.proofs.Common.{◌<◌, length, rules, sym, subst, AreRows, DeclareThat}
use Rattle.std.proofs.lemmas.Result.{IfOk-weaker}
use Rattle.cil_bind.proofs.TwiceLemmas.{twice-there, twice-within, first-again}
use Rattle.cil_bind.proofs.policy.Policy.of_statements.Goals as goal

pub index-requires : goal.index-requires
index-requires g c =
    let scope = c.args.scope in
    let policy = c.requires.stands.0 in
    let stands = c.requires.stands.1 in
    let that = c.in_ok-declared.ensures scope.names scope.namespaces policy stands.numbered (subst (λ r. AreRows scope.names scope.namespaces r policy) (sym c.as_slice-rows.ensures.value) stands.rows_are) in
    let low : c.in-Twice.place < length scope.rows.items = twice-within scope.names scope.namespaces scope.rows.items policy c.in-Twice.place c.in_ok-declared.declared stands.rows_are that c.in-Twice.is in
    search rules

pub of-again-requires : goal.of-again-requires
of-again-requires g c =
    let scope = c.args.scope in
    let policy = c.requires.stands.0 in
    let stands = c.requires.stands.1 in
    let that = c.in_ok-declared.ensures scope.names scope.namespaces policy stands.numbered (subst (λ r. AreRows scope.names scope.namespaces r policy) (sym c.as_slice-rows.ensures.value) stands.rows_are) in
    twice-there c.args.joined.now.modules.items scope.names scope.namespaces scope.rows.items policy c.in-Twice.place c.index.result.now c.in_ok-declared.declared
    c.requires.stands.2 that c.in-Twice.is c.index.ensures
    (twice-within scope.names scope.namespaces scope.rows.items policy c.in-Twice.place c.in_ok-declared.declared stands.rows_are that c.in-Twice.is)

pub returns-in-Twice-clause-made : goal.returns-in-Twice-clause-made
returns-in-Twice-clause-made g c = λ policy stands from.
    let scope = c.args.scope in
    let that = c.in_ok-declared.ensures scope.names scope.namespaces policy stands.numbered (subst (λ r. AreRows scope.names scope.namespaces r policy) (sym c.as_slice-rows.ensures.value) stands.rows_are) in
    first-again c.args.joined.now.modules.items scope.names scope.namespaces scope.rows.items policy c.in-Twice.place c.index.result.now c.in_ok-declared.declared c.of-again.result
    from that c.in-Twice.is c.index.ensures
    (twice-within scope.names scope.namespaces scope.rows.items policy c.in-Twice.place c.in_ok-declared.declared stands.rows_are that c.in-Twice.is)
    c.of-again.ensures

pub returns-in-Once-clause-made : goal.returns-in-Once-clause-made
returns-in-Once-clause-made g c =
    let scope = c.args.scope in
    IfOk-weaker c.of_scope.result _ _ (λ made says policy stands from.
    let that = subst (DeclareThat scope.names scope.namespaces policy) c.in-Once.is
    (c.in_ok-declared.ensures scope.names scope.namespaces policy stands.numbered (subst (λ r. AreRows scope.names scope.namespaces r policy) (sym c.as_slice-rows.ensures.value) stands.rows_are)) in
    says policy stands from that.0 that.1) c.of_scope.ensures.made
