use Rattle.cil_reader.proofs.Common.{◌≡◌, ◌<◌, ◌+◌, ◌∙◌, List, ℕ, length, get_or, refl, ap, sym, subst, length-drop, rules, arith, prefix_len, is_string_byte, IsStopped, open_lists}
use Rattle.cil_reader.proofs.Reading.{placed-column}
use Rattle.cil_reader.proofs.Going.{goes-string, bare-string, open-none}
use Rattle.cil_reader.proofs.reader.Reader.take_string.Goals as goal

pub returns-then-is_empty-clause-err : goal.returns-then-is_empty-clause-err
returns-then-is_empty-clause-err g c =
    let inside = c.rest-inside.ensures in
    let found = c.in-Some.ensures.some in
    let none : length c.args.self.now.outer.items ≡ 0 = search rules in
    subst (IsStopped c.args.self.now) (sym c.fault-then-is_empty.ensures) (
      bare-string c.args.self.now.text.now (open_lists c.args.self.now) c.args.self.now.at.offset c.in-Some.len (open-none c.args.self.now.outer.items none) c.requires.within c.requires.byte
          (found.0 ∙ ap (prefix_len is_string_byte) inside) (subst (λ (l : List ℕ). c.in-Some.len < length l) inside found.1) (sym (ap (λ l. get_or l c.in-Some.len 0) inside) ∙ found.2),
      refl,
    )

pub overflow_cast-len : goal.overflow_cast-len
overflow_cast-len g c =
    let found = c.in-Some.ensures.some in
    omega (arith, found.1, ap length c.rest-inside.ensures, length-drop (c.args.self.now.at.offset + 1) c.args.self.now.text.now, c.requires.placed.small)

pub overflow_add-len : goal.overflow_add-len
overflow_add-len g c =
    let found = c.in-Some.ensures.some in
    omega (arith, found.1, ap length c.rest-inside.ensures, length-drop (c.args.self.now.at.offset + 1) c.args.self.now.text.now, c.requires.placed.small)

pub overflow_add-len-2 : goal.overflow_add-len-2
overflow_add-len-2 g c =
    let found = c.in-Some.ensures.some in
    omega (arith, found.1, ap length c.rest-inside.ensures, length-drop (c.args.self.now.at.offset + 1) c.args.self.now.text.now, c.requires.placed.small)

pub to_right-self-requires-clause-offset : goal.to_right-self-requires-clause-offset
to_right-self-requires-clause-offset g c =
    let found = c.in-Some.ensures.some in
    omega (arith, found.1, ap length c.rest-inside.ensures, length-drop (c.args.self.now.at.offset + 1) c.args.self.now.text.now, c.requires.placed.small)

pub to_right-self-requires-clause-column : goal.to_right-self-requires-clause-column
to_right-self-requires-clause-column g c =
    let found = c.in-Some.ensures.some in
    omega (arith, found.1, ap length c.rest-inside.ensures, length-drop (c.args.self.now.at.offset + 1) c.args.self.now.text.now, c.requires.placed.small, placed-column c.args.self.now c.requires.placed)

pub returns-clause-ok : goal.returns-clause-ok
returns-clause-ok g c =
    let inside = c.rest-inside.ensures in
    let found = c.in-Some.ensures.some in
    goes-string c.args.self.now (record { text = c.args.self.now.text; at = c.to_right-self.result; outer = c.args.self.now.outer; nodes = c.push.new.self }) c.in-Some.len
    c.requires.placed c.requires.within c.requires.byte (found.0 ∙ ap (prefix_len is_string_byte) inside) (subst (λ (l : List ℕ). c.in-Some.len < length l) inside found.1) (sym (ap (λ l. get_or l c.in-Some.len 0) inside) ∙ found.2)
    (search rules) c.to_right-self.ensures refl c.in_ok-push.ensures.items refl
