-- Lists that come one behind the other.
use Rattle.cil_bind.proofs.Common.{◌≡◌, inl, inr, ℕ, ◌+◌, ◌<◌, List, [], ◌∷◌, ◌++◌, length, get_or, sym, ap, ◌∙◌, subst, arith, get_or_append_left, length-append, cases_lt, Some, get_or_from_slice_get, Citation}
use Rattle.cil_parse.specs.declared.table.Table.TheVariants.{Types}
use Rattle.std.proofs.Common.{slice_get}
use Rattle.std.proofs.Math.Seq.{get_or-append_seam}

-- what holds of each item, where one more came
pub came-at : {X : Type 0} (P : ℕ → X → Type 0) (xs new : List X) (x d : X) (n k : ℕ) → length xs ≡ n → new ≡ xs ++ x ∷ [] → k < n + 1
    → (k < n → P k (get_or xs k d)) → (k ≡ n → P k x) → P k (get_or new k d)
came-at P xs new x d n k long pushed within front last = subst (λ l. P k (get_or l k d)) (sym pushed) (elim (cases_lt k n) [
  | inl low ↦ subst (P k) (sym (get_or_append_left xs (x ∷ []) d k (omega (arith, long, low)))) (front low)
  | inr high ↦
      let same : k ≡ n = omega (arith, high, within) in
      let seam : get_or (xs ++ x ∷ []) k d ≡ x = ap (λ i. get_or (xs ++ x ∷ []) i d) (same ∙ sym long) ∙ get_or-append_seam xs x [] d in
      subst (P k) (sym seam) (last same)
])

pub came-long : {X : Type 0} (xs new : List X) (x : X) (n : ℕ) → length xs ≡ n → new ≡ xs ++ x ∷ [] → length new ≡ n + 1
came-long xs new x n long pushed = let e = length-append xs (x ∷ []) in ap length pushed ∙ (let m : length (xs ++ x ∷ []) ≡ n + 1 = omega (arith, e, long) in m)

-- the item of an index, as it is read
pub item-at : {X : Type 0} (xs ys : List X) (k : ℕ) (x d : X) → xs ≡ ys → slice_get ys k ≡ Some x → get_or xs k d ≡ x
item-at xs ys k x d same at = ap (λ l. get_or l k d) same ∙ get_or_from_slice_get ys k x d at

-- what is read behind the end of what is looked up
abbrev pub no_citation : Citation
no_citation = record { table = Types; block = 0; text = 0 }

-- the citation of an index, as it is read
pub citation-at : (xs ys : List Citation) (n k : ℕ) (c : Citation) → xs ≡ ys → k ≡ n → slice_get ys k ≡ Some c → get_or xs n no_citation ≡ c
citation-at xs ys n k c same here at = ap (λ i. get_or xs i no_citation) (sym here) ∙ item-at xs ys k c no_citation same at
