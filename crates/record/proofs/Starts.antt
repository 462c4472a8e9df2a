-- The starts and the total length that a trailer has, as rows against the bounds that its sizes give. Assumes nothing.
use Rattle.std.proofs.Common.{◌≡◌, refl, sym, ap, ap₂, ◌∙◌, List, [], ◌∷◌, ℕ, ◌-◌, arith, eqb, length, get_or, take_all}
use Rattle.algebra.specs.Lists.{tabulate}
use Rattle.algebra.proofs.PolynomialLaws.{length-tabulate}
use Rattle.protocol.specs.Circuit.{Sizes}
use Rattle.protocol.specs.Refusals.{first, refuse, pairs, trailer_refusal, six_size_tests, trailer_bytes}
use Rattle.protocol.specs.Record.{section_lengths, section_bytes, starts_from, trailer, trailer_word, sizes_read, trailer_row}
use Rattle.protocol.proofs.Rows.{first_nested}
use Rattle.record.specs.Layout.{byte_count, bounds, starts_row, total_row, starts_refusal}
use Rattle.record.proofs.Bounds.{length-bounds, bound_at, pairs-bounds}

pub eleven : (s : Sizes) → length (section_lengths s) ≡ 11
unfolding section_lengths
eleven s = refl

pub eighteen : (s : Sizes) → length (trailer s) ≡ 18
unfolding trailer section_lengths starts_from
eighteen s = refl

-- the last bound is the bytes of all sections
pub last_bound : (l : List ℕ) (n : ℕ) → length l ≡ n → get_or (bounds l) n 0 ≡ byte_count l
last_bound l n whole = bound_at l n (omega arith) ∙ ap byte_count (take_all n l (omega arith))

pub length-given : (s : Sizes) {given : List ℕ} → given ≡ bounds (section_lengths s) → length given ≡ 12
length-given s e = omega (arith, ap length e, length-bounds (section_lengths s), eleven s)

-- the starts that a trailer has against those given, then its total length against the last bound
pub start_rows : (bytes : List ℕ) (s : Sizes) (given : List ℕ) → given ≡ bounds (section_lengths s)
    → starts_refusal bytes s
    ≡ first
    (refuse 3 0 (pairs eqb (tabulate 11 (trailer_word bytes)) given)
    ∷ refuse 3 17 (eqb (length bytes - trailer_bytes) (get_or given 11 0) ∷ [])
    ∷ [])
unfolding starts_refusal section_bytes
start_rows bytes s given same =
    let found : List ℕ = tabulate 11 (trailer_word bytes) in
    let starts : pairs eqb found (starts_from 0 (section_lengths s)) ≡ pairs eqb found given =
    sym (pairs-bounds found (section_lengths s) (omega (arith, length-tabulate 11 (trailer_word bytes), eleven s)))
    ∙ ap (pairs eqb found) (sym same) in
    let total : section_bytes s ≡ get_or given 11 0 = sym (ap (λ l. get_or l 11 0) same ∙ last_bound (section_lengths s) 11 (eleven s)) in
    ap₂ (λ l n. first (refuse 3 0 l ∷ refuse 3 17 (eqb (length bytes - trailer_bytes) n ∷ []) ∷ [])) starts total

-- the sizes before the starts
pub trailer-rows : (bytes : List ℕ)
    → trailer_row bytes ≡ first (refuse 3 11 (six_size_tests (sizes_read bytes)) ∷ starts_refusal bytes (sizes_read bytes) ∷ [])
unfolding trailer_refusal starts_refusal
trailer-rows bytes =
    let s : Sizes = sizes_read bytes in
    sym (first_nested (refuse 3 11 (six_size_tests s)) (starts_row bytes s ∷ total_row bytes s ∷ []))
