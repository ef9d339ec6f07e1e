use Rattle.cil_resolve.proofs.Common.{rules, ℕ, ◌≡◌, ◌∙◌, ◌&&◌, [], bytes_eq, map, sym, ap, get_or, list_any, given_in, has_named}
use Rattle.cil_resolve.proofs.PermitLemmas.{named-of-class}
use Rattle.cil_resolve.proofs.resolved.Resolved.gives.Goals as goal

pub returns-then-eq : goal.returns-then-eq
returns-then-eq g c =
    let names = c.args.self.now.names.items in
    let class = c.args.class.now in
    let q = c.args.permission.now in
    let p = c.in-OfClass.of_class in
    let f = λ (n : ℕ). get_or names n [] in
    let same : c.eq.result ≡ bytes_eq c.name.result.now class = search rules in
    let yes = ap (λ x. bytes_eq x class) (sym c.name.ensures) ∙ sym same ∙ c.if-eq.true in
    c.is_at.ensures ∙ ap (λ l. list_any (bytes_eq q) (map f l)) c.as_slice.ensures ∙ ap (λ b. b && list_any (bytes_eq q) (map f p.given)) (sym yes) ∙ sym (named-of-class names p.class class q p.given)
    ∙ ap (λ x. has_named names (given_in x) class q) (sym c.in-OfClass.is)

pub returns-else-eq : goal.returns-else-eq
returns-else-eq g c =
    let names = c.args.self.now.names.items in
    let class = c.args.class.now in
    let q = c.args.permission.now in
    let p = c.in-OfClass.of_class in
    let f = λ (n : ℕ). get_or names n [] in
    let same : c.eq.result ≡ bytes_eq c.name.result.now class = search rules in
    let no = ap (λ x. bytes_eq x class) (sym c.name.ensures) ∙ sym same ∙ c.if-eq.false in
    c.if-eq.false ∙ ap (λ b. b && list_any (bytes_eq q) (map f p.given)) (sym no) ∙ sym (named-of-class names p.class class q p.given)
    ∙ ap (λ x. has_named names (given_in x) class q) (sym c.in-OfClass.is)
