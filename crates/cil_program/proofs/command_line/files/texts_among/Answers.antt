use Rattle.std.proofs.Common.{◌≡◌, ◌∙◌, ◌++◌, ◌∷◌, [], Bool, List, ℕ, ap, ap₂, get_or, if◌then◌else◌, map, refl, sym, take, true, false}
use Rattle.std.proofs.lemmas.List.{append-nil, map-append, take_more}
use Rattle.std.proofs.lemmas.List.Elements.{filter-append}
use Rattle.std.proofs.lemmas.Str.{IsUtf8-from_is_utf8, is_utf8-from_IsUtf8}
use Rattle.std.specs.List.{filter}
use Rattle.std.specs.Str.{is_utf8}
use Rattle.std.specs.String.{string_bytes}
use Rattle.cil_program.proofs.command_line.files.texts_among.Goals as goal
use Rattle.cil_program.proofs.command_line.files.texts_among.Goals.{in-Ok+in_ok-from_str+in_ok-push, in_default}

-- one more that passes a test or doesn't
filter-more : (p : List ℕ → Bool) (xs : List (List ℕ)) (x : List ℕ) (passes : Bool) → p x ≡ passes → filter p (xs ++ x ∷ []) ≡ filter p xs ++ (if passes then x ∷ [] else [])
filter-more p xs x passes is = filter-append p xs (x ∷ []) ∙ ap (λ b. filter p xs ++ (if b then x ∷ [] else [])) is

not-true : (b : Bool) → (b ≡ true → ⊥) → b ≡ false
not-true true other = absurd (other refl)
not-true false other = refl

pub loop-name-preserved : goal.loop-name-preserved
loop-name-preserved c =
    let names = c.args.names.now in
    let i = c.loop-name.name-index in
    let item = get_or names i (record { ref_ptr = (0, 0); now = [] }) in
    let before = map (λ name. name.now) (take i names) in
    let taken = ap (filter is_utf8) (ap (map (λ name. name.now)) (take_more names i _ c.loop-name-test.true) ∙ map-append (λ name. name.now) (take i names) (item ∷ [])) in
    elim c.match-from_utf8.branch [
      | in-Ok+in_ok-from_str+in_ok-push w ↦
          let is = w.in-Ok.ensures.cases in
          ap (λ v. map string_bytes v.items) w.texts-is ∙ ap (map string_bytes) w.in_ok-push.ensures.items ∙ map-append string_bytes c.loop-name.texts.items (w.in_ok-from_str.field-0 ∷ [])
          ∙ ap₂ (λ l x. l ++ x ∷ []) c.loop-name.invariant (w.in_ok-from_str.ensures.ok ∙ is.0)
          ∙ sym (filter-more is_utf8 before item.now true (is_utf8-from_IsUtf8 item.now is.1)) ∙ sym taken
      | in_default w ↦
          ap (λ v. map string_bytes v.items) w.texts-is ∙ c.loop-name.invariant ∙ sym (append-nil _)
          ∙ sym (filter-more is_utf8 before item.now false (not-true (is_utf8 item.now) (λ is. w.in_default.ensures.cases.0 (IsUtf8-from_is_utf8 item.now is)))) ∙ sym taken
    ]
