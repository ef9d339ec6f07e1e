-- What is done with one thing more, and files by their paths and texts.
use Rattle.std.proofs.Common.{◌≡◌, ◌∙◌, ◌++◌, ◌∷◌, ◌⊎◌, inl, inr, true, [], All, List, ℕ, append-nil, arith, ap, map, refl, subst, sym}
use Rattle.std.specs.Prelude.{Contains}
use Rattle.std.specs.List.{AllZip, concat, flat_map}
use Rattle.std.proofs.lemmas.List.Elements.{All-head, All-tail}
use Rattle.cil_specs.proofs.NamesLemmas.{contains-cases, contains-first, contains-other}
use Rattle.cil_store_specs.specs.Next.{Refusal, for_memory}
use Rattle.cil_store_specs.specs.Store.{Entry}
use Rattle.cil_projection.specs.Conditions.{Settings}
use Rattle.cil_projection.specs.Statements.{Projects}
use Rattle.cil_specs.specs.TextFault.{TextFault}
use Rattle.cil_text.specs.Image.{FaultIs, kind_of, place_of, shown}
use Rattle.cil_reader.specs.declared.fault.TextFault.{TextFault as CodeFault}
use Rattle.cil_reader.specs.declared.fault.TextFault.TheVariants as text_faults
use Rattle.cil_program.specs.ByNames.{AnswersByNames, AreEntriesFor, AreHindered, AreProjections, InTurn, IsRefusalBy, hint_by, is_at_fault, is_longer, none_held, one_not_projected}
use Rattle.cil_program.specs.CommandLine.{Content, IsEntryFor, IsReadOf}
use Rattle.cil_program.specs.Conditionals.{Conditionals}
use Rattle.cil_program.specs.Meanings.{refusal_text}
use Rattle.cil_program.specs.Packed.{packed_text}
use Rattle.cil_program.specs.Wanted.{Wanted}
use Rattle.cil_program.specs.declared.command_line.foreign.NotProjected.{NotProjected}
use Rattle.cil_program.specs.declared.command_line.foreign.NotProjected.TheVariants.{AtFault, TooLong, Memory}

pub in_turn-more : {X S : Type 0} (R : X → S → S → Type 0) (xs : List X) (x : X) (old mid new : S) → InTurn R xs old mid → R x mid new → InTurn R (xs ++ x ∷ []) old new
in_turn-more R [] x old mid new same done = (new, subst (λ m. R x m new) same done, refl)
in_turn-more R (y ∷ xs) x old mid new made done = (made.0, made.1, in_turn-more R xs x made.0 mid new made.2 done)

-- what stands behind the projection that follows those of some texts
abbrev pub behind : List (List ℕ) → List ℕ → List ℕ
behind [] more = more
behind (text ∷ texts) more = []

behind-nothing : (texts : List (List ℕ)) → behind texts [] ≡ []
behind-nothing [] = refl
behind-nothing (text ∷ texts) = refl

pub behind-some : (texts : List (List ℕ)) (text more : List ℕ) → behind (texts ++ text ∷ []) more ≡ []
behind-some [] text more = refl
behind-some (t ∷ texts) text more = refl

-- one projection more
pub projections-more : (settings : Settings) (more : List ℕ) (texts others : List (List ℕ)) (text projected : List ℕ) → AreProjections settings more texts others
    → (projection : List ℕ) × Projects settings text projection × (projected ≡ projection ++ behind texts more) → AreProjections settings more (texts ++ text ∷ []) (others ++ projected ∷ [])
projections-more settings more [] [] text projected are made = (made, tt)
projections-more settings more [] (p ∷ others) text projected are made = absurd are
projections-more settings more (t ∷ texts) [] text projected are made = absurd are
projections-more settings more (t ∷ texts) (p ∷ others) text projected are made = (
  are.0,
  projections-more settings [] texts others text projected are.1 (made.0, made.1, subst (λ b. projected ≡ made.0 ++ b) (sym (behind-nothing texts)) made.2),
)

-- a fault of which more is known
pub fault-wider : (fault : CodeFault) (P Q : TextFault → Type 0) → ((f : TextFault) → P f → Q f) → FaultIs fault P → FaultIs fault Q
fault-wider text_faults.Memory P Q wider is = tt
fault-wider (text_faults.Found kind at word) P Q wider is = wider (record { kind = kind_of kind; at = place_of at; word = shown word }) is

-- the texts of files that were read were read of them
pub read-texts : {X : Type 0} (content : List ℕ → Content) (path text : X → List ℕ) (files : List X) → All (λ f. IsReadOf (content (path f)) (text f)) files
    → AllZip (λ p t. IsReadOf (content p) t) (map path files) (map text files)
read-texts content path text [] read = tt
read-texts content path text (f ∷ files) read =
    (All-head (λ f. IsReadOf (content (path f)) (text f)) f files read, read-texts content path text files (All-tail (λ f. IsReadOf (content (path f)) (text f)) f files read))

-- a file by its path and its text is one of those that were read
pub a-file : {X : Type 0} (content : List ℕ → Content) (path text : X → List ℕ) (files : List X) (p t : List ℕ) → All (λ f. IsReadOf (content (path f)) (text f)) files
    → Contains {X = List ℕ × List ℕ} (map (λ f. (path f, text f)) files) (p, t) → Contains (map path files) p × IsReadOf (content p) t
a-file content path text [] p t read c = absurd (omega (arith, c.1))
a-file content path text (f ∷ files) p t read c =
    by (contains-cases (path f, text f) (map (λ f. (path f, text f)) files) (p, t) c) (a-file content path text files p t (All-tail (λ f. IsReadOf (content (path f)) (text f)) f files read))
  where
    by : (◌≡◌ {A = List ℕ × List ℕ} (path f, text f) (p, t)) ⊎ Contains {X = List ℕ × List ℕ} (map (λ f. (path f, text f)) files) (p, t) → (Contains {X = List ℕ × List ℕ} (map (λ f. (path f, text f)) files) (p, t) → Contains (map path files) p × IsReadOf (content p) t)
        → Contains (map path (f ∷ files)) p × IsReadOf (content p) t
    by (inl same) others = (
      subst (λ q. Contains (map path (f ∷ files)) q) (ap (λ q. q.0) same) (contains-first (path f) (map path files)),
      subst (λ q. IsReadOf (content q.0) q.1) same (All-head (λ f. IsReadOf (content (path f)) (text f)) f files read),
    )
    by (inr other) others = let found = others other in (contains-other (path f) (map path files) p found.0, found.1)

-- nothing is told behind it where memory ran out
no-hint : (refusal : Refusal) → refusal ≡ for_memory → refusal_text true refusal ++ [] ≡ refusal_text true for_memory
no-hint refusal is = append-nil (refusal_text true refusal) ∙ ap (refusal_text true) is

-- the refusal of files that aren't projected answers them
pub refused-by : {X : Type 0} (content : List ℕ → Content) (path text : X → List ℕ) (files : List X) (conditionals : Conditionals) (wanted : Wanted) (why : NotProjected) (refusal : Refusal)
    → All (λ f. IsReadOf (content (path f)) (text f)) files → AreHindered (map (λ f. (path f, text f)) files) why → IsRefusalBy why refusal
    → AnswersByNames content (map path files) conditionals wanted [] (refusal_text true refusal ++ hint_by why) 1
refused-by content path text files conditionals wanted (AtFault p text_faults.Memory packed) refusal read hindered is = none_held refl (no-hint refusal is) refl
refused-by content path text files conditionals wanted (AtFault p (text_faults.Found kind at word) packed) refusal read hindered is =
    let found = a-file content path text files p.now hindered.0 read hindered.1 in
    one_not_projected p.now hindered.0 is.0 (packed_text packed) refusal found.0 found.1 is.1
    (is_at_fault (record { kind = kind_of kind; at = place_of at; word = shown word }) hindered.2 is.2 (ap packed_text hindered.3)) refl refl refl
refused-by content path text files conditionals wanted (TooLong p) refusal read hindered is =
    let found = a-file content path text files p.now hindered.0 read hindered.1 in
    one_not_projected p.now hindered.0 is.0 [] refusal found.0 found.1 is.1 (is_longer hindered.2 is.2 refl) refl refl refl
refused-by content path text files conditionals wanted Memory refusal read hindered is = none_held refl (no-hint refusal is) refl

-- the entries of files are those for their paths and texts
pub entries-for : {X Y : Type 0} (path text : X → List ℕ) (entry : Y → Entry) (files : List X) (entries : List Y) → AllZip (λ f e. IsEntryFor (path f) (text f) (entry e)) files entries
    → AreEntriesFor (map path files) (map text files) (map entry entries)
entries-for path text entry [] [] are = tt
entries-for path text entry [] (e ∷ entries) are = absurd are
entries-for path text entry (f ∷ files) [] are = absurd are
entries-for path text entry (f ∷ files) (e ∷ entries) are = (are.0, entries-for path text entry files entries are.1)

-- texts one after the other
pub texts-joined : {X : Type 0} (text : X → List ℕ) (files : List X) → flat_map text files ≡ concat (map text files)
texts-joined text [] = refl
texts-joined text (f ∷ files) = ap (λ l. text f ++ l) (texts-joined text files)
