-- The words of the lines that are no command's.
use Rattle.cil_session.proofs.Common.{◌≡◌, ℕ, true, List, [], ◌∷◌, ◌++◌, length, get_or, codes, decimal, refl, sym, ap, ◌∙◌, subst, arith, list_all, join_with_byte, install, remove, Command, makes, words_of, line_of, IsGoodName, IsShortNumber, HasGoodWords, is_no_space, number_of, text_of, command-of, first-is, other_words, same-words, plain-no-space, shown-plain, digits-plain}

-- what stands on the line of an install behind its first word
pub record IsInstallRest (rest : List ℕ) : Type 0 where
  pub name : List ℕ
  pub priority : ℕ
  pub size : ℕ
  pub good_name : IsGoodName name
  pub short_priority : IsShortNumber priority
  pub short_size : IsShortNumber size
  pub is : rest ≡ join_with_byte 32 (name ∷ decimal priority ∷ decimal size ∷ [])

install-rest : (rest : List ℕ) (command : Command) → HasGoodWords command → codes "install" ++ 32 ∷ rest ≡ line_of command → IsInstallRest rest
install-rest rest command good e =
    let name = get_or (words_of command) 1 [] in
    let priority = number_of (get_or (words_of command) 2 []) in
    let text = text_of command in
    let is : command ≡ makes (install name priority text) = command-of (codes "install") rest command good refl e in
    let words = subst HasGoodWords is good in
    let both = first-is (codes "install") rest command good refl e in
    record {
      name = name;
      priority = priority;
      size = length text;
      good_name = words.0;
      short_priority = words.1;
      short_size = words.2;
      is = both.1 ∙ ap (λ c. join_with_byte 32 (other_words c)) is;
    }

-- of a removal
pub record IsRemoveRest (rest : List ℕ) : Type 0 where
  pub name : List ℕ
  pub priority : ℕ
  pub good_name : IsGoodName name
  pub short_priority : IsShortNumber priority
  pub is : rest ≡ join_with_byte 32 (name ∷ decimal priority ∷ [])

remove-rest : (rest : List ℕ) (command : Command) → HasGoodWords command → codes "remove" ++ 32 ∷ rest ≡ line_of command → IsRemoveRest rest
remove-rest rest command good e =
    let name = get_or (words_of command) 1 [] in
    let priority = number_of (get_or (words_of command) 2 []) in
    let is : command ≡ makes (remove name priority) = command-of (codes "remove") rest command good refl e in
    let words = subst HasGoodWords is good in
    let both = first-is (codes "remove") rest command good refl e in
    record { name = name; priority = priority; good_name = words.0; short_priority = words.1; is = both.1 ∙ ap (λ c. join_with_byte 32 (other_words c)) is }

-- the words of the line of an install behind its first word
install-words : (first rest : List ℕ) (r : IsInstallRest (first ++ 32 ∷ rest)) → list_all is_no_space first ≡ true → (first ≡ r.name) × (rest ≡ decimal r.priority ++ 32 ∷ decimal r.size)
install-words first rest r all = same-words first r.name rest (decimal r.priority ++ 32 ∷ decimal r.size) all (plain-no-space r.name (shown-plain r.name r.good_name.shown)) r.is

-- by which a command on that line has a good name and these numbers
pub install-parts : (rest first numbers : List ℕ) (command : Command) → rest ≡ first ++ 32 ∷ numbers → list_all is_no_space first ≡ true → HasGoodWords command → codes "install" ++ 32 ∷ rest ≡ line_of command
    → IsGoodName first × ((r : IsInstallRest (first ++ 32 ∷ numbers)) × (numbers ≡ decimal r.priority ++ 32 ∷ decimal r.size))
install-parts rest first numbers command split all good e =
    let r = subst IsInstallRest split (install-rest rest command good e) in
    let words = install-words first numbers r all in
    (subst IsGoodName (sym words.0) r.good_name, (r, words.1))

pub install-numbers : (first second : List ℕ) (priority size : ℕ) → IsShortNumber priority → list_all is_no_space first ≡ true → first ++ 32 ∷ second ≡ decimal priority ++ 32 ∷ decimal size → (first ≡ decimal priority) × (second ≡ decimal size)
install-numbers first second priority size short all is = same-words first (decimal priority) second (decimal size) all (plain-no-space (decimal priority) (digits-plain priority (omega (arith, short)))) is

-- and of a removal
remove-words : (first rest : List ℕ) (r : IsRemoveRest (first ++ 32 ∷ rest)) → list_all is_no_space first ≡ true → (first ≡ r.name) × (rest ≡ decimal r.priority)
remove-words first rest r all = same-words first r.name rest (decimal r.priority) all (plain-no-space r.name (shown-plain r.name r.good_name.shown)) r.is

pub remove-parts : (rest first second : List ℕ) (command : Command) → rest ≡ first ++ 32 ∷ second → list_all is_no_space first ≡ true → HasGoodWords command → codes "remove" ++ 32 ∷ rest ≡ line_of command
    → IsGoodName first × ((r : IsRemoveRest (first ++ 32 ∷ second)) × (second ≡ decimal r.priority))
remove-parts rest first second command split all good e =
    let r = subst IsRemoveRest split (remove-rest rest command good e) in
    let words = remove-words first second r all in
    (subst IsGoodName (sym words.0) r.good_name, (r, words.1))
