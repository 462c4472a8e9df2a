-- Tables of powers by levels: they are right where the last level is and each place below holds what stands at twice its place; the last
-- power of a root; and tables that a call left in the front of arrays. Assumes nothing.
use mathlib.Core.Path.{◌≡◌, sym, ap, ◌∙◌, subst, subst⁻¹}
use mathlib.Core.List.{List, ◌++◌}
use Prim.Native.Nat.{ℕ, zero, suc, ◌+◌, ◌-◌, ◌/◌, ◌^◌, ◌≤◌, ◌<◌}
use native.Mathlib.Omega.{arith}
use lib.Pow.{pow_pos}
use lib.ListN.{length, get_or, take, drop, length-append, length-drop, get_or-append}
use lib.Seq.{length-take-le, get_or-append-add}
use Rattle.algebra.specs.Lists.{tabulate}
use Rattle.algebra.specs.Ring.{pow}
use Rattle.algebra.proofs.RingLaws.{pow-add, mul-pow}
use Rattle.algebra.proofs.HalvingLaws.{twice}
use Rattle.field.specs.Prime.{Prime}
use Rattle.field.specs.Element.{Elem, of, ◌⊗◌, words}
use Rattle.field.specs.Power.{power}
use Rattle.field.proofs.ElementLaws.{prime_ring}
use Rattle.field.proofs.Field.{power-is-pow}
use Rattle.field.proofs.Words.{of-result}
use Rattle.domain.specs.Domain.{root, element}
use Rattle.domain.proofs.Fill.{length_rule_words, rule_word-at}
use Rattle.poly.proofs.LentParts.{array, returned, lent_length, back_is}
use Rattle.transform.specs.Reading.{LevelOf, Levels, Prepared, Tables, ValueTables, CoefficientTables, Folded}

module _ {q : Prime} where
  levels_folded : (k : ℕ) (w : Elem q) (t : List ℕ) → ((i : ℕ) → 0 < i → i < 2 ^ k → get_or t i 0 ≡ get_or t (i + i) 0)
      → LevelOf (2 ^ k) w t
      → Levels (suc k) w t
  levels_folded zero w t doubled top = (top, tt)
  levels_folded (suc k) w t doubled top = (
    top,
    levels_folded k (w ⊗ w) t (λ i positive below. doubled i positive (omega (arith, twice k))) (λ i below.
        let place : 2 ^ k + i + (2 ^ k + i) ≡ 2 ^ suc k + (i + i) = omega (arith, twice k) in
        doubled (2 ^ k + i) (omega (arith, pow_pos k)) (omega (arith, twice k)) ∙ ap (λ (n : ℕ). get_or t n 0) place
        ∙ top (i + i) (omega (arith, twice k)) ∙ ap (λ (x : Elem q). x.word)
        (pow-add (prime_ring q) w i i ∙ sym (mul-pow (prime_ring q) w w i))),
  )

  -- a table d whose second half became e, the powers of w
  module _ (w : Elem q) (d e : List ℕ) (n : ℕ) (half : length d ≡ n + n) where
    second_half : length (take (length d - n) (drop n d)) ≡ n
    second_half = length-take-le (length d - n) (drop n d) (omega (arith, length-drop n d)) ∙ omega arith

    powers-at : e ≡ words (tabulate (length (take (length d - n) (drop n d))) (pow (prime_ring q) w)) → (i : ℕ) → i < n
        → get_or (take n d ++ (e ++ drop (length d - n) (drop n d))) (n + i) 0 ≡ (pow (prime_ring q) w i).word
    powers-at made i below =
        let front : length (take n d) ≡ n = length-take-le n d (omega arith) in
        let e-length : length e ≡ n =
        ap length made ∙ length_rule_words (length (take (length d - n) (drop n d))) (pow (prime_ring q) w) ∙ second_half in
        ap (λ (m : ℕ). get_or (take n d ++ (e ++ drop (length d - n) (drop n d))) (m + i) 0) (sym front)
        ∙ get_or-append-add (take n d) (e ++ drop (length d - n) (drop n d)) i 0
        ∙ get_or-append e (drop (length d - n) (drop n d)) 0 i (omega arith)
        ∙ ap (λ (l : List ℕ). get_or l i 0) made
        ∙ rule_word-at (length (take (length d - n) (drop n d))) (pow (prime_ring q) w) i (omega (arith, second_half))

    whole_length : length e ≡ length (take (length d - n) (drop n d))
        → length (take n d ++ (e ++ drop (length d - n) (drop n d))) ≡ length d
    whole_length same =
        omega (
          arith,
          second_half,
          length-append (take n d) (e ++ drop (length d - n) (drop n d)),
          length-append e (drop (length d - n) (drop n d)),
          length-take-le n d (omega arith),
          length-drop (length d - n) (drop n d),
          length-drop n d,
        )

  -- and was folded to t
  pub table-levels : (w : Elem q) (d e t : List ℕ) → length e ≡ length (take (length d - length d / 2) (drop (length d / 2) d))
      → e ≡ words (tabulate (length (take (length d - length d / 2) (drop (length d / 2) d))) (pow (prime_ring q) w))
      → Folded (take (length d / 2) d ++ (e ++ drop (length d - length d / 2) (drop (length d / 2) d))) t
      → (k : ℕ) → length d ≡ 2 ^ k → Levels k w t
  table-levels w d e t kept made folded zero size = tt
  table-levels w d e t kept made folded (suc k) size =
      let h : ℕ = length d / 2 in
      let half : h ≡ 2 ^ k = omega (arith, twice k) in
      let both : length d ≡ h + h = omega (arith, twice k) in
      let whole : length (take h d ++ (e ++ drop (length d - h) (drop h d))) ≡ length d = whole_length w d e h both kept in
      levels_folded k w t
      (λ i positive below. folded.doubled i positive (omega arith))
      (λ i below.
      folded.kept (2 ^ k + i) (omega arith)
      ∙ ap (λ (m : ℕ). get_or (take h d ++ (e ++ drop (length d - h) (drop h d))) (m + i) 0) (sym half)
      ∙ powers-at w d e h both made i (omega arith))

  -- the last power of the root, as the code computes it
  pub last_power : (n g last : ℕ) → g ≡ (root {q = q} n).word → last ≡ (power (of {q = q} g) (n - 1)).word
      → of {q = q} last ≡ element n (n - 1)
  unfolding element
  last_power n g last is-root is_last =
      of-result _ is_last ∙ ap (λ (w : Elem q). power w (n - 1)) (of-result (root n) is-root) ∙ power-is-pow (root n) (n - 1)

-- tables that are equal to others
pub tables_same : (q : Prime) (k : ℕ) {v w : Elem q} {t t' u u' : List ℕ} → v ≡ w → t' ≡ t → u' ≡ u → Tables q k v t u → Tables q k w t' u'
tables_same q k {v} {w} {t} {t'} {u} {u'} e same-t same-u tables =
    subst (λ (w : Elem q). Tables q k w t' u') e
    (subst⁻¹ (λ (t : List ℕ). Tables q k v t u') same-t (subst⁻¹ (λ (u : List ℕ). Tables q k v t u) same-u tables))

-- the quotients, and a bound, of the prime's value
pub prepared_by_value : (t u : List ℕ) {p n : ℕ} → n ≡ p → Prepared n t u → Prepared p t u
prepared_by_value t u e = subst (λ (m : ℕ). Prepared m t u) e

pub below_by_value : {p n b : ℕ} → n ≡ p → n < b → p < b
below_by_value e l = omega arith

-- tables of length n that a call left in the front of two arrays of s words
module _ (q : Prime) (s : ℕ) {n : ℕ} (fits : n ≤ s) (t u : List ℕ) (t-kept : length t ≡ length (take n (array s)))
    (u-kept : length u ≡ length (take n (array s))) where
  pub values-lent : (g : ℕ) → g ≡ (root {q = q} n).word → ((k : ℕ) → length (take n (array s)) ≡ 2 ^ k → Tables q k (of g) t u)
      → ValueTables q n (take n (returned s n t)) (take n (returned s n u))
  values-lent g root-word tables k size =
      tables_same q k (of-result (root n) root-word) (back_is s fits t t-kept) (back_is s fits u u-kept)
      (tables k (sym (lent_length s fits) ∙ size))

  pub coefficients_lent : CoefficientTables q (length (take n (array s))) t u
      → CoefficientTables q n (take n (returned s n t)) (take n (returned s n u))
  coefficients_lent tables k size =
      tables_same q k (ap (λ (m : ℕ). element m (m - 1)) (sym (lent_length s fits))) (back_is s fits t t-kept) (back_is s fits u u-kept)
      (tables k (sym (lent_length s fits) ∙ size))
