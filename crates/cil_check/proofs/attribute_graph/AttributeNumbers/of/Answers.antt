use Rattle.cil_check.proofs.Common.{◌≡◌, ◌<◌, length, sym, ap, ◌∙◌, ◌++◌, ◌∷◌, [], arith, is_attribute, is_kind}
use Rattle.cil_check.specs.declared.kinds.Kind.TheVariants.{Attribute}
use Rattle.cil_check.proofs.GraphLemmas.{places_with, numbers-next}
use Rattle.cil_check.proofs.SeenLemmas.{there-at, kind-form}
use Rattle.cil_check.proofs.attribute_graph.AttributeNumbers.of.Goals as goal
use Rattle.cil_check.proofs.attribute_graph.AttributeNumbers.of.Goals.{then-is+in_ok-push-2, else-is}

pub loop-i-preserved : goal.loop-i-preserved
loop-i-preserved g c = λ policy is.
    let i = c.loop-i.i in
    let places = c.loop-i.places.items in
    let count = c.len-i-end.ensures policy is in
    let less : i < length policy = omega (arith, count) in
    let (s, at) = there-at policy i less in
    let told : c.is.result ≡ is_attribute s.form = c.is.ensures ∙ ap (is_kind Attribute) (c.kind.ensures policy s is at) ∙ kind-form Attribute s.form in
    let many : c.len-in-loop-i.result ≡ length places = omega (arith, c.len-in-loop-i.ensures, c.loop-i.places.ok.0) in
    let more : c.push.new.self.items ≡ c.loop-i.numbers.items ++ length places ∷ [] = c.in_ok-push.ensures.items ∙ ap (λ n. c.loop-i.numbers.items ++ n ∷ []) many in
    let new : c.if-is.places.items ≡ places_with places c.is.result i = elim c.if-is.branch [
      | then-is+in_ok-push-2 w ↦ ap (λ v. v.items) w.places-is ∙ w.in_ok-push-2.ensures.items ∙ sym (ap (λ b. places_with places b i) w.if-is.true)
      | else-is w ↦ ap (λ v. v.items) w.places-is ∙ sym (ap (λ b. places_with places b i) w.if-is.false)
    ] in
    numbers-next policy i s c.loop-i.numbers.items places c.push.new.self.items c.if-is.places.items c.is.result at told more new (c.loop-i.invariant policy is)
