use Rattle.std.proofs.Common.{◌≡◌, ◌∙◌, ◌++◌, ℕ, Bool, true, false, List, None, Option, Some, ap, arith, drop, inl, inr, leb-false, leb-true, length, length-take, nat_le, option_map, refl, subst, sym, take}
use Rattle.std.specs.Option.{IfSome}
use Rattle.std.proofs.lemmas.List.{take-append-drop, take_all}
use Rattle.cil_program.specs.CommandLine.{IsTextOf}
use Rattle.cil_program.proofs.command_line.files.read_text.Goals as goal

-- a front of that many bytes is all of a text, or longer than a store takes
a-front : (limit : ℕ) (whole text : List ℕ) → limit ≡ 16777217 → text ≡ take limit whole → IsTextOf whole text
a-front limit whole text is read = by (nat_le (length whole) 16777216) refl
  where
    by : (b : Bool) → nat_le (length whole) 16777216 ≡ b → IsTextOf whole text
    by true short = let within = leb-true (length whole) 16777216 short in inl (read ∙ take_all limit whole (omega (arith, is, within)))
    by false long =
        let beyond = leb-false (length whole) 16777216 long in
        inr (omega (arith, is, beyond, ap length read, length-take limit whole), (drop limit whole, sym (take-append-drop limit whole) ∙ ap (λ l. l ++ drop limit whole) (sym read)))

known : (limit : ℕ) (remaining : Option (List ℕ)) (text : List ℕ) → limit ≡ 16777217 → IfSome (option_map (take limit) remaining) (λ xs. text ≡ xs) → IfSome remaining (λ whole. IsTextOf whole text)
known limit None text is read = tt
known limit (Some whole) text is read = a-front limit whole text is read

pub returns-in-Ok : goal.returns-in-Ok
returns-in-Ok g c =
    let remaining = g.R.Read.remaining in
    let limit = c.take.result.limit in
    let text = c.read_to_end.new.buf.items in
    let read = subst (λ front. IfSome (option_map (take limit) (remaining c.take.result.inner)) (λ xs. text ≡ front ++ xs)) c.new-text.ensures.items c.in-Ok.ensures.bytes in
    known limit (remaining c.args.reader) text c.take.ensures.limit (subst (λ r. IfSome (option_map (take limit) (remaining r)) (λ xs. text ≡ xs)) c.take.ensures.inner read)
