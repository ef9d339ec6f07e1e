use Rattle.std.proofs.Common.{◌≡◌, ◌∙◌, ◌++◌, ◌∷◌, [], List, ℕ, Option, None, Some, refl, ap, sym, map, take}
use Rattle.std.proofs.lemmas.List.{map-append, take_more, take-append-drop, drop_more}
use Rattle.cil_program.specs.Conditionals.{Setting, in_front, setting_in, setting_of, settings_of}
use Rattle.cil_program.proofs.command_line.conditionals.settings_of.Goals as goal

-- one setting more
settings-more : (words : List (List ℕ)) (word : List ℕ) (settings : List Setting) (setting : Setting) → settings_of words ≡ Some settings → setting_of word ≡ Some setting
    → settings_of (words ++ word ∷ []) ≡ Some (settings ++ setting ∷ [])
settings-more [] word settings setting are is = ap (λ o. in_front o (Some [])) is ∙ (let none : [] ≡ settings = cc in ap (λ l. Some (l ++ setting ∷ [])) none)
settings-more (w ∷ words) word settings setting are is = by (setting_of w) (settings_of words) are (λ rest e. settings-more words word rest setting e is)
  where
    by : (o : Option Setting) (r : Option (List Setting)) → in_front o r ≡ Some settings → ((rest : List Setting) → r ≡ Some rest → settings_of (words ++ word ∷ []) ≡ Some (rest ++ setting ∷ []))
        → in_front o (settings_of (words ++ word ∷ [])) ≡ Some (settings ++ setting ∷ [])
    by None r e more = absurd cc
    by (Some a) None e more = absurd cc
    by (Some a) (Some rest) e more = let same : a ∷ rest ≡ settings = cc in ap (in_front (Some a)) (more rest refl) ∙ ap (λ l. Some (l ++ setting ∷ [])) same

-- a word that is none
settings-none : (words rest : List (List ℕ)) (word : List ℕ) → setting_of word ≡ None → settings_of (words ++ word ∷ rest) ≡ None
settings-none [] rest word is = ap (λ o. in_front o (settings_of rest)) is
settings-none (w ∷ words) rest word is = ap (in_front (setting_of w)) (settings-none words rest word is) ∙ by (setting_of w)
  where
    by : (o : Option Setting) → in_front o None ≡ None
    by None = refl
    by (Some a) = refl

pub returns-in_default : goal.returns-in_default
returns-in_default c =
    let words = c.args.words.now in
    let i = c.loop-word.word-index in
    let split = sym (take-append-drop i words) ∙ ap (λ l. take i words ++ l) (drop_more words i _ c.loop-word-test.true) in
    sym (ap settings_of (ap (map (λ word. word.now)) split ∙ map-append (λ word. word.now) (take i words) _) ∙ settings-none (map (λ word. word.now) (take i words)) _ _ (sym c.in_default.ensures))

pub loop-word-preserved : goal.loop-word-preserved
loop-word-preserved c =
    let words = c.args.words.now in
    let i = c.loop-word.word-index in
    let settings = c.loop-word.settings.items in
    ap settings_of (ap (map (λ word. word.now)) (take_more words i _ c.loop-word-test.true) ∙ map-append (λ word. word.now) (take i words) _)
    ∙ settings-more (map (λ word. word.now) (take i words)) _ (map setting_in settings) (setting_in c.in-Some.setting) c.loop-word.invariant (sym c.in-Some.ensures)
    ∙ ap Some (sym (map-append setting_in settings (c.in-Some.setting ∷ []))) ∙ ap (λ l. Some (map setting_in l)) (sym c.in_ok-push.ensures.items)
