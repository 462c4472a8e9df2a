-- Where sections of given lengths begin and end: the starts one after the other, and each part of the bytes by its start and its
-- length. Assumes nothing.
use Rattle.std.proofs.Common.{◌≡◌, refl, sym, ap, ap₂, ◌∙◌, List, [], ◌∷◌, ◌++◌, ℕ, zero, suc, ◌+◌, ◌-◌, ◌*◌, ◌<◌, ◌≤◌, arith, add-one, eqb, length, get_or, take, drop, set, length-append, take-suc, take-suc-set, drop-drop}
use lib.ListN.{get_or-append}
use Rattle.protocol.specs.Refusals.{pairs}
use Rattle.protocol.specs.Record.{starts_from, parts_of}
use Rattle.record.specs.Layout.{byte_count, bounds}

starts_snoc : (start : ℕ) (l : List ℕ) (n : ℕ) → starts_from start (l ++ (n ∷ [])) ≡ starts_from start l ++ ((start + byte_count l) ∷ [])
unfolding starts_from
starts_snoc start [] n = let same : start ≡ start + 0 = omega arith in ap (λ m. m ∷ []) same
starts_snoc start (m ∷ l) n =
    let same : start + 4 * m + byte_count l ≡ start + (4 * m + byte_count l) = omega arith in
    ap (λ k. start ∷ k) (starts_snoc (start + 4 * m) l n ∙ ap (λ e. starts_from (start + 4 * m) l ++ (e ∷ [])) same)

byte_count_snoc : (l : List ℕ) (n : ℕ) → byte_count (l ++ (n ∷ [])) ≡ byte_count l + 4 * n
byte_count_snoc [] n = omega arith
byte_count_snoc (m ∷ l) n = omega (arith, byte_count_snoc l n)

bounds_snoc : (l : List ℕ) (n : ℕ) → bounds (l ++ (n ∷ [])) ≡ bounds l ++ ((byte_count l + 4 * n) ∷ [])
unfolding bounds
bounds_snoc l n =
    let same : 0 + byte_count l ≡ byte_count l = omega arith in
    ap₂ (λ k e. k ++ (e ∷ [])) (starts_snoc 0 l n ∙ ap (λ e. starts_from 0 l ++ (e ∷ [])) same) (byte_count_snoc l n)

length_starts : (start : ℕ) (l : List ℕ) → length (starts_from start l) ≡ length l
unfolding starts_from
length_starts start [] = refl
length_starts start (n ∷ l) = ap suc (length_starts (start + 4 * n) l)

pub length-bounds : (l : List ℕ) → length (bounds l) ≡ suc (length l)
unfolding bounds
length-bounds l = omega (arith, length-append (starts_from 0 l) (byte_count l ∷ []), length_starts 0 l)

-- each start is the bytes before it
start_at : (start : ℕ) (l : List ℕ) (k : ℕ) → k ≤ length l
    → get_or (starts_from start l ++ ((start + byte_count l) ∷ [])) k 0 ≡ start + byte_count (take k l)
unfolding starts_from
start_at start [] zero le = refl
start_at start [] (suc k) le = absurd (omega arith)
start_at start (n ∷ l) zero le = omega arith
start_at start (n ∷ l) (suc k) le =
    let total : start + (4 * n + byte_count l) ≡ start + 4 * n + byte_count l = omega arith in
    let before : start + 4 * n + byte_count (take k l) ≡ start + (4 * n + byte_count (take k l)) = omega arith in
    ap (λ e. get_or (starts_from (start + 4 * n) l ++ (e ∷ [])) k 0) total ∙ start_at (start + 4 * n) l k (omega arith) ∙ before

pub bound_at : (l : List ℕ) (k : ℕ) → k ≤ length l → get_or (bounds l) k 0 ≡ byte_count (take k l)
unfolding bounds
bound_at l k le =
    let total : byte_count l ≡ 0 + byte_count l = omega arith in
    let before : 0 + byte_count (take k l) ≡ byte_count (take k l) = omega arith in
    ap (λ e. get_or (starts_from 0 l ++ (e ∷ [])) k 0) total ∙ start_at 0 l k le ∙ before

start_of : (l : List ℕ) (k : ℕ) → k < length l → get_or (starts_from 0 l) k 0 ≡ byte_count (take k l)
unfolding bounds
start_of l k below =
    sym (get_or-append (starts_from 0 l) (byte_count l ∷ []) 0 k (omega (arith, length_starts 0 l))) ∙ bound_at l k (omega arith)

byte_count_step : (l : List ℕ) (k : ℕ) → k < length l → byte_count (take (suc k) l) ≡ byte_count (take k l) + 4 * get_or l k 0
byte_count_step l k below = ap byte_count (take-suc l k 0 below) ∙ byte_count_snoc (take k l) (get_or l k 0)

byte_count_take : (l : List ℕ) (k : ℕ) → byte_count (take k l) ≤ byte_count l
byte_count_take l zero = omega arith
byte_count_take [] (suc k) = omega arith
byte_count_take (n ∷ l) (suc k) = omega (arith, byte_count_take l k)

part-after : (bytes l : List ℕ) (k : ℕ) → k < length l
    → get_or (parts_of bytes l) k [] ≡ take (4 * get_or l k 0) (drop (byte_count (take k l)) bytes)
unfolding parts_of
part-after bytes [] k below = absurd (omega arith)
part-after bytes (n ∷ l) zero below = refl
part-after bytes (n ∷ l) (suc k) below =
    part-after (drop (4 * n) bytes) l k (omega arith) ∙ ap (take (4 * get_or l k 0)) (drop-drop (byte_count (take k l)) (4 * n) bytes)

-- part k by its start and its length
pub part-at : (bytes l : List ℕ) (k : ℕ) → k < length l
    → get_or (parts_of bytes l) k [] ≡ take (4 * get_or l k 0) (drop (get_or (starts_from 0 l) k 0) bytes)
part-at bytes l k below = part-after bytes l k below ∙ ap (λ n. take (4 * get_or l k 0) (drop n bytes)) (sym (start_of l k below))

-- part k lies between two bounds
module _ (l b : List ℕ) (same : b ≡ bounds l) (k : ℕ) (below : k < length l) where
  start : get_or b k 0 ≡ byte_count (take k l)
  start = ap (λ m. get_or m k 0) same ∙ bound_at l k (omega arith)

  end : get_or b (k + 1) 0 ≡ byte_count (take (suc k) l)
  end = ap (λ m. get_or m (k + 1) 0) same ∙ bound_at l (k + 1) (omega arith) ∙ ap (λ n. byte_count (take n l)) (add-one k)

  pub bounds_rise : get_or b k 0 ≤ get_or b (k + 1) 0
  bounds_rise = omega (arith, start, end, byte_count_step l k below)

  pub bounds-within : get_or b (k + 1) 0 ≤ byte_count l
  bounds-within = omega (arith, end, byte_count_take l (suc k))

  pub start_between : get_or b k 0 ≡ get_or (starts_from 0 l) k 0
  start_between = start ∙ sym (start_of l k below)

  pub length-between : get_or b (k + 1) 0 - get_or b k 0 ≡ 4 * get_or l k 0
  length-between = omega (arith, start, end, byte_count_step l k below)

-- one more of the lengths: the next bound is stored
module _ (l starts : List ℕ) (k last : ℕ) (below : k < length l) (before : last ≡ byte_count (take k l)) where
  abbrev next : ℕ
  next = last + 4 * get_or l k 0

  pub next_bound : next ≡ byte_count (take (k + 1) l)
  next_bound = rw add-one (omega (arith, byte_count_step l k below))

  pub bounds_turn : k + 1 < length starts → take (k + 1) starts ≡ bounds (take k l)
      → take (k + 1 + 1) (set starts (k + 1) next) ≡ bounds (take (k + 1) l)
  bounds_turn fits done =
      let stored : take (k + 1 + 1) (set starts (k + 1) next) ≡ bounds (take k l) ++ (next ∷ []) =
      ap (λ n. take n (set starts (k + 1) next)) (add-one (k + 1)) ∙ take-suc-set starts (k + 1) next fits
      ∙ ap (λ b. b ++ (next ∷ [])) done in
      let more : take (k + 1) l ≡ take k l ++ (get_or l k 0 ∷ []) = ap (λ n. take n l) (add-one k) ∙ take-suc l k 0 below in
      stored ∙ ap (λ n. bounds (take k l) ++ ((n + 4 * get_or l k 0) ∷ [])) before
      ∙ sym (ap bounds more ∙ bounds_snoc (take k l) (get_or l k 0))

-- a list against the bounds is the list against the starts where it has no more members
pairs_append : (l k more : List ℕ) → length l ≤ length k → pairs eqb l (k ++ more) ≡ pairs eqb l k
pairs_append [] k more le = refl
pairs_append (m ∷ l) [] more le = absurd (omega arith)
pairs_append (m ∷ l) (n ∷ k) more le = ap (λ tests. eqb m n ∷ tests) (pairs_append l k more (omega arith))

pub pairs-bounds : (found l : List ℕ) → length found ≤ length l → pairs eqb found (bounds l) ≡ pairs eqb found (starts_from 0 l)
unfolding bounds
pairs-bounds found l le = pairs_append found (starts_from 0 l) (byte_count l ∷ []) (omega (arith, length_starts 0 l))
