use Rattle.cil_session.proofs.Common.{◌≡◌, ◌≤◌, ◌∙◌, ◌+◌, ◌-◌, ℕ, List, length, take, drop, ap, sym, length-take, arith, drop-drop, drop-take, Held}
use Rattle.cil_session.proofs.input.Input.advance.Goals as goal

pub returns-clause-bytes : goal.returns-clause-bytes
returns-clause-bytes c =
    let bytes : List ℕ = c.self.inside.bytes in
    let start : ℕ = c.self.inside.start in
    let end : ℕ = c.self.inside.end in
    let size : c.args.len ≤ length c.args.self.now.bytes = c.requires in
    let seen : length (take (end - start) (drop start bytes)) ≡ length c.args.self.now.bytes = ap (λ (h : Held). length h.bytes) c.self.view_is in
    let room : c.args.len + (end - (start + c.args.len)) ≡ end - start = omega (arith, size, seen, length-take (end - start) (drop start bytes)) in
    ap (take (end - (start + c.args.len))) (sym (drop-drop c.args.len start bytes)) ∙ sym (drop-take c.args.len (end - (start + c.args.len)) (drop start bytes))
    ∙ ap (λ k. drop c.args.len (take k (drop start bytes))) room ∙ ap (λ (h : Held). drop c.args.len h.bytes) c.self.view_is
