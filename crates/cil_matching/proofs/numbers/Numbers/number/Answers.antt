use Rattle.std.proofs.Common.{◌≡◌, ◌↔◌, Some, slice_get, subst}
use Rattle.cil_matching.proofs.numbers.Numbers.number.Goals as goal

pub returns : goal.returns
returns c b = subst (λ l. (c.number_at.result ≡ Some b) ↔ (slice_get l c.args.a ≡ Some (Some b))) c.self.view_is (c.number_at.ensures b)
