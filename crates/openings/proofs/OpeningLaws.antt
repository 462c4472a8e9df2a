-- The parts of arrays that lists are made and read in, and lists of words, word by word. Assumes nothing.
use mathlib.Core.Path.{◌≡◌, refl, sym, ap, ap₂, ◌∙◌}
use mathlib.Core.List.{List, [], ◌∷◌, map, tail}
use Prim.Native.Nat.{ℕ, suc, ◌-◌, ◌≤◌}
use native.Mathlib.Omega.{arith}
use lib.ListN.{length, get_or, take, drop}
use lib.Seq.{take_all}
use Rattle.field.specs.Prime.{Prime}
use Rattle.field.specs.Element.{Elem, of, words}
use Rattle.field.proofs.Words.{of-result}
use Rattle.protocol.specs.Three.{MatrixName, A, B, C, Three, at}
use Rattle.protocol.specs.Index.{Index, map_index, list_index}
use Rattle.poly.proofs.LentParts.{array, returned, lent_length, back_holds, back_length, back_is, back_list}

-- a call was lent the first n words of an array of s words, left l there and kept their length
pub record MadeIn (s n : ℕ) (l : List ℕ) : Type 0 where
  pub fits : n ≤ s
  pub kept : length l ≡ length (take n (array s))

pub made_in : {s n : ℕ} (l : List ℕ) → n ≤ s → length l ≡ length (take n (array s)) → MadeIn s n l
made_in l fits kept = record { fits = fits; kept = kept }

module _ {s n : ℕ} {l : List ℕ} (m : MadeIn s n l) where
  pub made_holds : n ≤ length (returned s n l)
  made_holds = back_holds s m.fits l m.kept

  pub made_length : n ≡ length (take n (returned s n l))
  made_length = back_length s m.fits l m.kept

  pub made_is : take n (returned s n l) ≡ l
  made_is = back_is s m.fits l m.kept

  -- where the words are those of a list f, they are read as f
  pub made_list : {q : Prime} (f : List (Elem q)) → l ≡ words f → map of (take n (returned s n l)) ≡ f
  made_list f made = back_list s m.fits l m.kept f made

  -- a list that was made by the length of the part
  pub made_by_length : {q : Prime} (f : ℕ → List (Elem q)) → l ≡ words (f (length (take n (array s)))) → l ≡ words (f n)
  made_by_length f made = made ∙ ap (λ (k : ℕ). words (f k)) (sym (lent_length s m.fits))

-- all words but the first, lent as a part
pub tail-words : (q : Prime) (l : List ℕ) → map (of {q = q}) (take (length l - 1) (drop 1 l)) ≡ tail (map of l)
tail-words q [] = refl
tail-words q (a ∷ l) =
    let e : suc (length l) - 1 ≡ length l = omega arith in
    ap (λ (n : ℕ). map of (take n l)) e ∙ ap (map of) (take_all (length l) l (omega arith))

-- the openings of four index polynomials, as elements
pub index_back : {q : Prime} (i : Index ℕ) (v : Index (Elem q)) → list_index i ≡ words (list_index v) → map_index of i ≡ v
index_back i v e = λ t.
    record {
      row = of-result v.row (ap (λ (l : List ℕ). get_or l 0 0) e) t;
      col = of-result v.col (ap (λ (l : List ℕ). get_or l 1 0) e) t;
      rowcol = of-result v.rowcol (ap (λ (l : List ℕ). get_or l 2 0) e) t;
      rowcolval = of-result v.rowcolval (ap (λ (l : List ℕ). get_or l 3 0) e) t;
    }

-- lists of words, word by word
module _ {a b c d a' b' c' d' : ℕ} (at_a : a ≡ a') (at_b : b ≡ b') (at_c : c ≡ c') (at_d : d ≡ d') where
  pub four_words : (l m : List ℕ) → l ≡ m → a ∷ b ∷ c ∷ d ∷ l ≡ a' ∷ b' ∷ c' ∷ d' ∷ m
  four_words l m e = ap₂ ◌∷◌ at_a (ap₂ ◌∷◌ at_b (ap₂ ◌∷◌ at_c (ap₂ ◌∷◌ at_d e)))

  pub four_same : a ∷ b ∷ c ∷ d ∷ [] ≡ a' ∷ b' ∷ c' ∷ d' ∷ []
  four_same = four_words [] [] refl

pub nine_same : {a b c d e f g h i a' b' c' d' e' f' g' h' i' : ℕ}
    → a ≡ a' → b ≡ b' → c ≡ c' → d ≡ d' → e ≡ e' → f ≡ f' → g ≡ g' → h ≡ h' → i ≡ i'
    → a ∷ b ∷ c ∷ d ∷ e ∷ f ∷ g ∷ h ∷ i ∷ [] ≡ a' ∷ b' ∷ c' ∷ d' ∷ e' ∷ f' ∷ g' ∷ h' ∷ i' ∷ []
nine_same at_a at_b at_c at_d at_e at_f at_g at-h at_i =
    four_words at_a at_b at_c at_d _ _ (four_words at_e at_f at_g at-h _ _ (ap (λ (n : ℕ). n ∷ []) at_i))

-- three words, one for each matrix
pub three_same : {t : Three ℕ} (f : MatrixName → ℕ) → t.a ≡ f A → t.b ≡ f B → t.c ≡ f C → (M : MatrixName) → at t M ≡ f M
three_same f at_a at_b at_c A = at_a
three_same f at_a at_b at_c B = at_b
three_same f at_a at_b at_c C = at_c
