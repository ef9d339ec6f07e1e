use Rattle.cil_check.proofs.Common.{◌≡◌, ◌<◌, ◌+◌, ◌==◌, ◌++◌, ◌∷◌, [], None, length, map, set, position, sym, ap, ◌∙◌, subst, refl, arith, slice_get_read, slice_get-map, map-append, map-set, length-map, length-set, list_at}
use Rattle.std.proofs.Common.{length-append, option_map}
use Rattle.cil_check.proofs.InheritedLemmas.{noted-more, noted-new, with_one, inserted-last}
use Rattle.cil_check.proofs.groups.Groups.insert.Goals as goal

pub returns-in-Some : goal.returns-in-Some
returns-in-Some g c =
    let keys = c.self.inside.keys.keys in
    let all = c.self.inside.lists.items in
    let at = c.in-Some.at in
    let old = c.index_mut.result.now in
    let new = c.push.new.self in
    let same : length keys ≡ length (map (λ v. v.items) all) = subst (λ v. length v.0 ≡ length v.1) (sym c.self.view_is) c.requires in
    let low : at < length keys = c.in-Some.ensures.within in
    let within : at < length all = (let long = length-map all (λ v. v.items) in omega (arith, low, same, long)) in
    let stored = map-set (λ v. v.items) all at new in
    record {
      same = same ∙ sym (length-set (map (λ v. v.items) all) at new.items) ∙ ap length (sym stored);
      listed = λ k.
          ap (λ l. list_at (keys, l) k) (stored ∙ ap (set (map (λ v. v.items) all) at) c.in_ok-push.ensures.items)
          ∙ noted-more keys (map (λ v. v.items) all) c.args.key at c.args.number old.items (sym c.in-Some.ensures.index)
          (slice_get-map (λ v. v.items) all at ∙ ap (option_map (λ v. v.items)) (slice_get_read all (length all) at old refl within c.index_mut.ensures.value)) k
          ∙ ap (λ v. with_one (k == c.args.key) (list_at v k) c.args.number) c.self.view_is;
    }

pub returns : goal.returns
returns g c =
    let keys = c.self.inside.keys.keys in
    let all = c.self.inside.lists.items in
    let list = c.push-2.new.self in
    let same : length keys ≡ length (map (λ v. v.items) all) = subst (λ v. length v.0 ≡ length v.1) (sym c.self.view_is) c.requires in
    let none : position (λ k. c.args.key == k) keys ≡ None = sym c.in_default.ensures.index in
    let one : list.items ≡ c.args.number ∷ [] = c.in_ok-push-2.ensures.items ∙ ap (λ l. l ++ c.args.number ∷ []) c.new-list.ensures.items in
    let placed : c.insert.new.self.keys ≡ keys ++ c.args.key ∷ [] = inserted-last keys c.insert.new.self.keys c.args.key none c.in_ok-insert.ensures.keys in
    let more : map (λ v. v.items) c.push-3.new.self.items ≡ map (λ v. v.items) all ++ (c.args.number ∷ []) ∷ [] =
    ap (map (λ v. v.items)) c.in_ok-push-3.ensures.items ∙ map-append (λ v. v.items) all (list ∷ []) ∙ ap (λ l. map (λ v. v.items) all ++ l ∷ []) one in
    record {
      same = ap length placed ∙ length-append keys (c.args.key ∷ []) ∙ ap (λ n. n + 1) same ∙ sym (length-append (map (λ v. v.items) all) ((c.args.number ∷ []) ∷ [])) ∙ ap length (sym more);
      listed = λ k.
          ap (λ l. list_at (l, map (λ v. v.items) c.push-3.new.self.items) k) placed ∙ ap (λ l. list_at (keys ++ c.args.key ∷ [], l) k) more
          ∙ noted-new keys (map (λ v. v.items) all) c.args.key c.args.number same none k
          ∙ ap (λ v. with_one (k == c.args.key) (list_at v k) c.args.number) c.self.view_is;
    }
