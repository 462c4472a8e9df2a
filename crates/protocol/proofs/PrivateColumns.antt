-- The columns that are not public: how many there are, and the three highest of them. Assumes nothing.
use mathlib.Core.Path.{◌≡◌, refl, sym, ap, ap₂, ◌∙◌}
use mathlib.Core.Bool.{Bool, true, false, not}
use mathlib.Core.Logic.{◌≢◌, ◌⊎◌, inl, inr}
use mathlib.Core.List.{List, [], ◌∷◌, ◌++◌}
use Prim.Native.Nat.{ℕ, zero, suc, ◌+◌, ◌-◌, ◌*◌, ◌/◌, ◌%◌, ◌^◌, ◌<◌, ◌≤◌}
use lib.Dec.{eqb}
use lib.ListN.{length, get_or, length-append}
use lib.Seq.{get_or-append-add}
use native.Mathlib.Omega.{arith}
use native.Mathlib.Decide.{ℕ_discrete}
use native.Mathlib.Nat.{suc-mul, zero-mul, zero-mod, mod-eq_of_lt, mul-mod_left, mul-add-mod_self_right, div-eq_of_eq-mul_left}
use borrow.Author.Tests.{eqb-false, ne_eqb, eq-eqb, not-true}
use Rattle.algebra.specs.Lists.{pick, tabulate, keep}
use Rattle.algebra.proofs.Counting.{all-at, all-tabulate}
use Rattle.algebra.proofs.PolynomialLaws.{length-tabulate}
use Rattle.algebra.proofs.Keeping.{keep-not, keep_all, kept_pass, keep-tabulate-add}
use Rattle.domain.specs.Size.{is_size}
use Rattle.domain.proofs.SizeLaws.{size_is-power, size_positive, size_divides}
use Rattle.protocol.specs.Three.{MatrixName, A, B, C, Three, at}
use Rattle.protocol.specs.Circuit.{Circuit}
use Rattle.protocol.specs.Blinded.{private_columns, reserved_columns}
use Rattle.protocol.specs.Blinding.{Public}

-- column i is not public where every s-th column is, and all such columns below n
abbrev is_private : ℕ → ℕ → Bool
is_private s i = not (eqb (i % s) 0)

abbrev private_below : ℕ → ℕ → List ℕ
private_below s n = keep (is_private s) (tabulate n (λ i. i))

-- of s columns from a multiple of s only the first is public
block_public : (k s : ℕ) → is_private s (k * s + 0) ≡ false
block_public k s = ap (λ n. not (eqb n 0)) (mul-add-mod_self_right k s 0 ∙ zero-mod s)

block_private : (k s i : ℕ) → 0 < i → i < s → is_private s (k * s + i) ≡ true
block_private k s i positive below =
    ap not (ne_eqb ((k * s + i) % s) 0 (λ e. omega (arith, mul-add-mod_self_right k s i, mod-eq_of_lt below)))

-- so in each of n such blocks all but one are not
count_blocks : (n r : ℕ) → length (private_below (suc r) (n * suc r)) ≡ n * r
count_blocks zero r = ap (λ n. length (private_below (suc r) n)) (zero-mul (suc r)) ∙ sym (zero-mul r)
count_blocks (suc n) r =
    let s : ℕ = suc r in
    let others : List ℕ = tabulate r (λ i. n * s + suc i) in
    let private : keep (is_private s) others ≡ others =
    keep_all (is_private s) others
    (all-tabulate (λ i. is_private s i ≡ true) r (λ i. n * s + suc i) (λ i l. block_private n s (suc i) (omega arith) (omega arith))) in
    ap (λ k. length (private_below s k)) (suc-mul n s)
    ∙ ap length (keep-tabulate-add (is_private s) (n * s) s (λ i. i))
    ∙ length-append (private_below s (n * s)) (keep (is_private s) (tabulate s (λ i. n * s + i)))
    ∙ ap₂ ◌+◌ (count_blocks n r)
    (ap length (keep-not (is_private s) others (block_public n s) ∙ private) ∙ length-tabulate r (λ i. n * s + suc i))
    ∙ sym (suc-mul n r)

-- the last three that are not public: before an even number where every second column is, and at the end of a block of four or more
every_second-below : (n : ℕ) → n % 2 ≡ 1 → private_below 2 (n + 5) ≡ private_below 2 n ++ tabulate 3 (λ i. n + 2 * i)
unfolding pick
every_second-below n odd =
    let private : (i : ℕ) → i % 2 ≡ 0 → is_private 2 (n + i) ≡ true = λ i even. ap not (ne_eqb ((n + i) % 2) 0 (λ e. omega arith)) in
    let public : (i : ℕ) → i % 2 ≡ 1 → is_private 2 (n + i) ≡ false = λ i other. ap not (eq-eqb ((n + i) % 2) 0 (omega arith)) in
    keep-tabulate-add (is_private 2) n 5 (λ i. i)
    ∙ ap (λ (l : List ℕ). private_below 2 n ++ l) (cc (private 0 refl, public 1 refl, private 2 refl, public 3 refl, private 4 refl))

last_three-below :
    (k s n : ℕ) → 4 ≤ s → n + 3 ≡ k * s + s → private_below s (n + 3) ≡ private_below s n ++ tabulate 3 (λ i. n + i)
last_three-below k s n four e =
    let private : (i : ℕ) → i < 3 → is_private s (n + i) ≡ true =
    λ i below.
    let shift : n + i ≡ k * s + (s - 3 + i) = omega arith in
    ap (is_private s) shift ∙ block_private k s (s - 3 + i) (omega arith) (omega arith) in
    keep-tabulate-add (is_private s) n 3 (λ i. i)
    ∙ ap (λ (l : List ℕ). private_below s n ++ l)
    (keep_all (is_private s) (tabulate 3 (λ i. n + i)) (all-tabulate (λ i. is_private s i ≡ true) 3 (λ i. n + i) private))

-- a place counted from the end
from_end : (l front back : List ℕ) (m k : ℕ) → l ≡ front ++ back → k + m ≡ length back → get_or l (length l - m) 0 ≡ get_or back k 0
from_end l front back m k e whole =
    ap₂ (λ (l : List ℕ) (n : ℕ). get_or l n 0) e (omega (arith, ap length e, length-append front back)) ∙ get_or-append-add front back k 0

-- a number that is below the first of three unless it is one of them
below_or_one : (k : Three ℕ) (i : ℕ) → (i ≢ k.a → i ≢ k.b → i ≢ k.c → i < k.a) → (i < k.a) ⊎ ((M : MatrixName) × (i ≡ at k M))
below_or_one k i below =
    elim (ℕ_discrete i k.a) [
      | yes a ↦ inr (A, a)
      | no a ↦ elim (ℕ_discrete i k.b) [
        | yes b ↦ inr (B, b)
        | no b ↦ elim (ℕ_discrete i k.c) [ yes c ↦ inr (C, c) | no c ↦ inl (below a b c) ]
      ]
    ]

-- so is an odd number below an even n with the last three odd ones there, and any number below n with the last three
odd_below : (n i : ℕ) → 5 ≤ n → n % 2 ≡ 0 → i % 2 ≡ 1 → i < n → i ≢ n - 5 → i ≢ n - 3 → i ≢ n - 1 → i < n - 5
odd_below n i many even odd below = omega arith

three-below : (n i : ℕ) → 3 ≤ n → i < n → i ≢ n - 3 → i ≢ n - 2 → i ≢ n - 1 → i < n - 3
three-below n i many below = omega arith

-- three times a power of two is no power of two
not_thrice : (j k : ℕ) → 2 ^ k ≢ 3 * 2 ^ j
not_thrice zero zero e = omega arith
not_thrice zero (suc k) e = omega arith
not_thrice (suc j) zero e = omega arith
not_thrice (suc j) (suc k) e = not_thrice j k (omega arith)

module _ (c : Circuit) where
  -- the reserved columns are the last three that are not public
  reserved_last : (front : List ℕ) (k : Three ℕ) → private_columns c ≡ front ++ (k.a ∷ k.b ∷ k.c ∷ []) → reserved_columns c ≡ k
  unfolding reserved_columns
  reserved_last front k e =
      let back : List ℕ = k.a ∷ k.b ∷ k.c ∷ [] in
      let l : List ℕ = private_columns c in
      λ t. record {
        a = from_end l front back 3 0 e refl t;
        b = from_end l front back 2 1 e refl t;
        c = from_end l front back 1 2 e refl t;
      }

  module _ (C-size : is_size c.|C| ≡ true) (X-size : is_size c.|X| ≡ true) (X-within : c.|X| ≤ c.|C|) where
    abbrev s : ℕ
    s = c.|C| / c.|X|

    whole : c.|C| ≡ c.|X| * s
    whole = size_divides c.|X| c.|C| X-size C-size X-within

    -- |X| of the columns are public
    pub private_count : length (private_columns c) ≡ c.|C| - c.|X|
    unfolding private_columns
    private_count = go s whole
      where
        go : (s : ℕ) → c.|C| ≡ c.|X| * s → length (private_below s c.|C|) ≡ c.|C| - c.|X|
        go zero e = absurd (omega (arith, size_positive c.|C| C-size))
        go (suc r) e = ap (λ n. length (private_below (suc r) n)) e ∙ count_blocks c.|X| r ∙ omega arith

    quotient_two : c.|C| ≡ 2 * c.|X| → s ≡ 2
    quotient_two double = div-eq_of_eq-mul_left (size_positive c.|X| X-size) double

    module _ (enough : 3 ≤ c.|C| - c.|X|) where
      -- the reserved columns are every second one where |X| is |C|/2
      pub every_second : c.|C| ≡ 2 * c.|X| → reserved_columns c ≡ record { a = c.|C| - 5; b = c.|C| - 3; c = c.|C| - 1 }
      unfolding private_columns
      every_second double =
          let n : ℕ = c.|C| - 5 in
          let end : c.|C| ≡ n + 5 = omega arith in
          let lowest : n + 0 ≡ c.|C| - 5 = omega arith in
          let middle : n + 2 ≡ c.|C| - 3 = omega arith in
          let highest : n + 4 ≡ c.|C| - 1 = omega arith in
          reserved_last (private_below 2 n) (record { a = n + 0; b = n + 2; c = n + 4 })
          (ap₂ private_below (quotient_two double) end ∙ every_second-below n (omega arith))
          ∙ (λ t. record { a = lowest t; b = middle t; c = highest t })

      -- else |C|/|X|, a power of two, is 4 or more, and they are the last three
      four_or_more : c.|C| ≢ 2 * c.|X| → 4 ≤ s
      four_or_more other = go s whole
        where
          go : (s : ℕ) → c.|C| ≡ c.|X| * s → 4 ≤ s
          go zero e = absurd (omega arith)
          go (suc zero) e = absurd (omega arith)
          go (suc (suc zero)) e = absurd (other (omega arith))
          go (suc (suc (suc zero))) e =
              let (j, _, ex) = size_is-power c.|X| X-size in
              let (k, _, ec) = size_is-power c.|C| C-size in
              absurd (not_thrice j k (omega arith))
          go (suc (suc (suc (suc s)))) e = omega arith

      pub last_three : c.|C| ≢ 2 * c.|X| → reserved_columns c ≡ record { a = c.|C| - 3; b = c.|C| - 2; c = c.|C| - 1 }
      unfolding private_columns
      last_three other =
          let n : ℕ = c.|C| - 3 in
          let end : c.|C| ≡ n + 3 = omega arith in
          let lowest : n + 0 ≡ c.|C| - 3 = omega arith in
          let middle : n + 1 ≡ c.|C| - 2 = omega arith in
          let highest : n + 2 ≡ c.|C| - 1 = omega arith in
          let x : suc (c.|X| - 1) ≡ c.|X| = omega (arith, size_positive c.|X| X-size) in
          reserved_last (private_below s n) (record { a = n + 0; b = n + 1; c = n + 2 })
          (ap (private_below s) end
          ∙ last_three-below (c.|X| - 1) s n (four_or_more other) (sym end ∙ whole ∙ ap (λ k. k * s) (sym x) ∙ suc-mul (c.|X| - 1) s))
          ∙ (λ t. record { a = lowest t; b = middle t; c = highest t })

      -- they rise, are not public, and every other column that is not public stands below them
      pub columns_rise : let k : Three ℕ = reserved_columns c in (k.a < k.b) × ((k.b < k.c) × (k.c < c.|C|))
      columns_rise = elim (ℕ_discrete c.|C| (2 * c.|X|)) [
        | yes double ↦ rw (every_second double) (omega arith)
        | no other ↦ rw (last_three other) (omega arith)
      ]

      pub columns_private : (M : MatrixName) → ¬ Public c (at (reserved_columns c) M)
      unfolding private_columns reserved_columns
      columns_private = elim [
        | A ↦ private 3 (omega arith) (omega arith)
        | B ↦ private 2 (omega arith) (omega arith)
        | C ↦ private 1 (omega arith) (omega arith)
      ]
        where
          private : (m : ℕ) → 0 < m → m ≤ 3 → ¬ Public c (get_or (private_columns c) (length (private_columns c) - m) 0)
          private m positive most (k, e) =
              let i : ℕ = get_or (private_columns c) (length (private_columns c) - m) 0 in
              let pass : is_private s i ≡ true =
              all-at (λ i. is_private s i ≡ true) (private_columns c) (kept_pass (is_private s) (tabulate c.|C| (λ i. i)))
              (length (private_columns c) - m) 0 (omega (arith, private_count)) in
              eqb-false (i % s) 0 (not-true (eqb (i % s) 0) pass) (ap (λ j. j % s) e ∙ mul-mod_left k s)

      pub columns_highest :
          (i : ℕ) → i < c.|C| → ¬ Public c i → (i < (reserved_columns c).a) ⊎ ((M : MatrixName) × (i ≡ at (reserved_columns c) M))
      columns_highest i below private = below_or_one (reserved_columns c) i (elim (ℕ_discrete c.|C| (2 * c.|X|)) [
        | yes double ↦ rw (every_second double)
            (let odd : i % 2 ≢ 0 = λ even. private (i / 2, omega (arith, ap (λ n. i / 2 * n) (quotient_two double))) in
            odd_below c.|C| i (omega arith) (omega arith) (omega arith) below)
        | no other ↦ rw (last_three other) (three-below c.|C| i (omega arith) below)
      ])
