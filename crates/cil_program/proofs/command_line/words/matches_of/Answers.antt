use Rattle.cil_program.proofs.Common.{◌≡◌, ◌∙◌, List, [], ◌∷◌, codes, drop, length, map, Option, Some, None, option_map, true, ap, ap₂, sym, refl, arith, IfErr-weaker, IfOk-weaker, Text, is_simple, subcommand_of, program_app}
use Rattle.clap.specs.Takes.{takes}
use Rattle.clap.specs.declared.parser.matches.ArgMatches.TheViews.{out-ArgMatches}
use Rattle.clap.proofs.OnLiterals.{clap_on_literals}
use Rattle.cil_program.proofs.command_line.words.matches_of.Goals as goal

-- the program's name stands before them
with_name : (words : List Text) → drop 1 words ≡ codes "session" ∷ [] → (name : Text) × (words ≡ name ∷ codes "session" ∷ [])
with_name [] is = absurd (omega (arith, ap length is))
with_name (name ∷ words) is = (name, ap (λ l. name ∷ l) is)

is_taken : (name : Text) → takes program_app (name ∷ codes "session" ∷ []) ≡ true
unfolding clap_on_literals
is_taken name = refl

is_named : (name : Text) → option_map (λ p. p.0) (subcommand_of program_app (name ∷ codes "session" ∷ [])) ≡ Some (codes "session")
unfolding clap_on_literals
is_named name = refl

map-twice : {X Y Z : Type 0} (f : Y → Z) (g : X → Y) (o : Option X) → option_map f (option_map g o) ≡ option_map (λ x. f (g x)) o
map-twice f g None = refl
map-twice f g (Some x) = refl

pub returns-clause-session : goal.returns-clause-session
returns-clause-session g c = λ asks.
    let words = with_name _ asks in
    let app_is = c.in_ok-program.ensures in
    IfOk-weaker c.try_get_matches_from.result _ _ (λ m h.
    sym (map-twice (λ p. p.0) _ (out-ArgMatches m).subcommand) ∙ ap (option_map (λ p. p.0)) ((h (ap is_simple app_is)).1 ∙ ap₂ subcommand_of app_is words.1) ∙ is_named words.0)
    c.try_get_matches_from.ensures.matches

pub returns-clause-memory : goal.returns-clause-memory
returns-clause-memory g c = λ asks.
    let words = with_name _ asks in
    IfErr-weaker c.try_get_matches_from.result _ _ (λ e h. h (ap₂ takes c.in_ok-program.ensures words.1 ∙ is_taken words.0)) c.try_get_matches_from.ensures.passes

pub returns-clause-found : goal.returns-clause-found
returns-clause-found g c =
    let app_is = c.in_ok-program.ensures in
    IfOk-weaker c.try_get_matches_from.result _ _ (λ m h. (h (ap is_simple app_is)).1 ∙ ap (λ app. subcommand_of app (map g.T.AsStr.text c.args.words.now)) app_is) c.try_get_matches_from.ensures.matches

pub returns-clause-taken : goal.returns-clause-taken
returns-clause-taken g c = λ taken.
    IfErr-weaker c.try_get_matches_from.result _ _ (λ e h. h (ap (λ app. takes app (map g.T.AsStr.text c.args.words.now)) c.in_ok-program.ensures ∙ taken)) c.try_get_matches_from.ensures.passes
