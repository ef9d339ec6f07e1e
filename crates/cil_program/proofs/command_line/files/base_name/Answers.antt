use Rattle.cil_program.proofs.Common.{◌≡◌, ◌∙◌, ℕ, List, ◌++◌, take, drop, Some, inl, inr, ap, sym, refl, subst, arith, take-append-drop, IsBaseName}
use Rattle.std.specs.Str.Pattern.{RFindsChar}
use Rattle.std.proofs.lemmas.Str.Pattern.{NoCharPasses-char, drop_at_char}
use Rattle.cil_program.proofs.command_line.files.base_name.Goals as goal

behind : (path base : List ℕ) (i j : ℕ) → RFindsChar 47 path (Some (i, j)) → base ≡ drop j path → IsBaseName path base
behind path base i j found is = subst (IsBaseName path) (sym is) (record {
  no_slash = λ k. NoCharPasses-char 47 (drop j path) k found.0 (omega arith);
  ends = inr (take i path, sym (take-append-drop i path) ∙ ap (λ l. take i path ++ l) (drop_at_char 47 path i j found.1 (omega arith)));
})

pub returns-in-Some : goal.returns-in-Some
returns-in-Some c = let found = c.in-Some.ensures.cases in behind c.args.path.now c.in-Some.base.now found.0 found.1 found.2 found.4

pub returns-in-None : goal.returns-in-None
returns-in-None c = record { no_slash = λ k. NoCharPasses-char 47 c.args.path.now k c.in-None.ensures.cases (omega arith); ends = inl refl }
