use Rattle.cil_bind.proofs.Common.{bytes_eq, rules, of_calls, nat_list_cmp_total, nat_list_eq_equiv, name_cmp}
use Rattle.std.specs.Ordering.{is_lt}
use Rattle.std.proofs.lemmas.Fn.{always_returns_same}
use Rattle.std.proofs.lemmas.List.MinMax.{ranks_by}
use Rattle.std.proofs.lemmas.Map.Keys.{IsDistinct-IsPermutation}
use Rattle.cil_names.proofs.TextLemmas.{names_rise-by}
use Rattle.cil_bind.proofs.joined.join.Goals as goal

pub invariant_of-result : goal.invariant_of-result
invariant_of-result g c =
    let compares = always_returns_same _ _ _ (λ a r f k. search (rules, of_calls)) in
    let sorted = c.sort_unstable_by.ensures.sorted (λ m n. is_lt (name_cmp m.name.now n.name.now)) (ranks_by nat_list_cmp_total (λ m. m.name.now)) compares in
    let distinct = IsDistinct-IsPermutation (λ m n. bytes_eq m.name.now n.name.now) (λ m n. nat_list_eq_equiv.symm m.name.now n.name.now) c.args.modules.items c.sort_unstable_by.new.self.items
    c.sort_unstable_by.ensures.permutation c.requires in
    record { ordered = names_rise-by (λ m. m.name.now) c.sort_unstable_by.new.self.items sorted distinct }
