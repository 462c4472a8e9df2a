-- The prover's messages, their lengths and their openings (document 01, "Prover"). Assumes nothing.
use mathlib.Core.List.{List, tail}
use Rattle.std.specs.Prelude.{ℕ, ◌+◌, ◌-◌, ◌*◌, ◌≤◌, length}
use Rattle.field.specs.Prime.{Prime}
use Rattle.field.specs.Element.{Elem, of, ◌⊗◌}
use Rattle.field.specs.Power.{◌⊘◌}
use Rattle.domain.specs.Domain.{vanishing, sum_over}
use Rattle.domain.specs.Polynomial.{Poly, eval, constant, ◌⊞◌, ◌·◌, ◌⊟◌, ◌⊠◌, quotient, remainder, vanishing_poly, interpolate, agreeing}
use Rattle.protocol.specs.Three.{MatrixName, A, B, C, Three, at, each, map_three}
use Rattle.protocol.specs.Circuit.{Circuit, Sizes, sizes_of, largest, public_part, extension}
use Rattle.protocol.specs.Index.{Index, index_at, index}
use Rattle.protocol.specs.Checks.{Openings, weighted}

-- the table of messages: ŵ, m, h0, σ, g1, h1, ω, g_M, h2; a polynomial is a P, a single word an E
pub record Messages (P E : Type 0) : Type 0 where
  pub witness : P
  pub mask : P
  pub row_quotient : P
  pub sums : Three E
  pub line_remainder : P
  pub line_quotient : P
  pub values : Three E
  pub matrix_remainders : Three P
  pub joined_quotient : P

abbrev pub map_messages : {P P' E E' : Type 0} → (P → P') → (E → E') → Messages P E → Messages P' E'
map_messages f g sent =
    record {
      witness = f sent.witness;
      mask = f sent.mask;
      row_quotient = f sent.row_quotient;
      sums = map_three g sent.sums;
      line_remainder = f sent.line_remainder;
      line_quotient = f sent.line_quotient;
      values = map_three g sent.values;
      matrix_remainders = map_three f sent.matrix_remainders;
      joined_quotient = f sent.joined_quotient;
    }

-- lengths of messages: σ and ω are single words, and have no length to declare
pub record MessageLengths : Type 0 where
  pub witness : ℕ
  pub mask : ℕ
  pub row_quotient : ℕ
  pub line_remainder : ℕ
  pub line_quotient : ℕ
  pub matrix_remainders : Three ℕ
  pub joined_quotient : ℕ

-- those that messages have
abbrev pub lengths_of : {T E : Type 0} → Messages (List T) E → MessageLengths
lengths_of sent =
    record {
      witness = length sent.witness;
      mask = length sent.mask;
      row_quotient = length sent.row_quotient;
      line_remainder = length sent.line_remainder;
      line_quotient = length sent.line_quotient;
      matrix_remainders = map_three length sent.matrix_remainders;
      joined_quotient = length sent.joined_quotient;
    }

-- the table's column "Length"
unfoldable pub lengths : Sizes → MessageLengths
lengths s =
    record {
      witness = s.|C| - s.|X| + 1;
      mask = 2 * s.|C|;
      row_quotient = s.|R| - 1;
      line_remainder = s.|C| - 1;
      line_quotient = s.|C|;
      matrix_remainders = each (λ M. at s.|K| M - 1);
      joined_quotient = largest s.|K| - 1;
    }

-- declared lengths within the table
pub record Short (s : Sizes) (declared : MessageLengths) : Type 0 where
  pub witness-short : declared.witness ≤ (lengths s).witness
  pub mask-short : declared.mask ≤ (lengths s).mask
  pub row_quotient-short : declared.row_quotient ≤ (lengths s).row_quotient
  pub line_remainder-short : declared.line_remainder ≤ (lengths s).line_remainder
  pub line_quotient-short : declared.line_quotient ≤ (lengths s).line_quotient
  pub matrix_remainder-short : (M : MatrixName) → at declared.matrix_remainders M ≤ at (lengths s).matrix_remainders M
  pub joined_quotient-short : declared.joined_quotient ≤ (lengths s).joined_quotient

module _ {q : Prime} (c : Circuit) where
  -- x̂ interpolates x on X
  unfoldable pub public_poly : List (Elem q) → Poly q
  public_poly x = interpolate c.|X| x

  -- ŵ: "(z(Y) - x̂(Y))/v_X, plus r × v_C/v_X; z and x̂ interpolate on C and X"
  unfoldable pub witness : List (Elem q) → Elem q → Poly q
  witness z r =
      quotient c.|X| (interpolate c.|C| z ⊟ public_poly (public_part c z)) ⊞ r · quotient c.|X| (vanishing_poly c.|C|)

  -- "ẑ = ŵ v_X + x̂"
  unfoldable pub assignment : List (Elem q) → Poly q → Poly q
  assignment x ŵ = ŵ ⊠ vanishing_poly c.|X| ⊞ public_poly x

  -- "ẑ_M(Y) is the sum over c in C of M̂(Y,c) ẑ(c)"
  unfoldable pub image : Poly q → MatrixName → Elem q → Elem q
  image ẑ M y = sum_over c.|C| (λ u. extension c M y u ⊗ eval ẑ u)

  -- h0: "ẑ_A ẑ_B - ẑ_C = h0 v_R"
  unfoldable pub row_quotient : Poly q → Poly q
  row_quotient ẑ =
      let ẑ_M : MatrixName → Poly q = λ M. agreeing c.|R| (image ẑ M) in
      quotient c.|R| (ẑ_M A ⊠ ẑ_M B ⊟ ẑ_M C)

  -- σ_M: "ẑ_M(α)"
  unfoldable pub sums : Poly q → Elem q → Three (Elem q)
  sums ẑ α = each (λ M. image ẑ M α)

  -- ω_M: "M̂(α,β)"
  unfoldable pub values : Elem q → Elem q → Three (Elem q)
  values α β = each (λ M. extension c M α β)

  -- "m + Σ η_M M̂(α,Y) ẑ(Y)"
  unfoldable pub line : Poly q → Poly q → Elem q → Three (Elem q) → Poly q
  line m ẑ α η = m ⊞ agreeing c.|C| (λ y. weighted η (values α y)) ⊠ ẑ

  -- g1 and h1: "= h1 v_C + Y g1 + σ/|C|"
  unfoldable pub line_remainder : Poly q → Poly q
  line_remainder f = tail (remainder c.|C| f)

  unfoldable pub line_quotient : Poly q → Poly q
  line_quotient f = quotient c.|C| f

  module _ (α β : Elem q) (M : MatrixName) where
    -- "a_M = v_R(α) v_C(β) rowcolval_M"
    unfoldable pub numerator : Poly q
    numerator = vanishing c.|R| α ⊗ vanishing c.|C| β · (index c M).rowcolval

    -- "b_M = |R||C|(αβ - α col_M - β row_M + rowcol_M)"
    unfoldable pub denominator : Poly q
    denominator =
        let i : Index (Poly q) = index c M in
        of c.|R| ⊗ of c.|C| · (constant (α ⊗ β) ⊟ α · i.col ⊟ β · i.row ⊞ i.rowcol)

    -- Y g_M + ω_M/|K_M|, the polynomial of length |K_M| with the values a_M/b_M on K_M
    unfoldable pub ratio : Poly q
    ratio = agreeing (at (sizes_of c).|K| M) (λ y. eval numerator y ⊘ eval denominator y)

    -- g_M and h_M: "a_M - b_M (Y g_M + ω_M/|K_M|) = h_M v_{K_M}"
    unfoldable pub matrix_remainder : Poly q
    matrix_remainder = tail ratio

    unfoldable pub matrix_quotient : Poly q
    matrix_quotient = quotient (at (sizes_of c).|K| M) (numerator ⊟ denominator ⊠ ratio)

  -- h2: "Σ δ_M (|K_M|/|K|) h_M"
  unfoldable pub joined_quotient : Elem q → Elem q → Three (Elem q) → Poly q
  joined_quotient α β δ =
      let k : Three ℕ = (sizes_of c).|K| in
      let term : MatrixName → Poly q = λ M. at δ M ⊗ (of (at k M) ⊘ of (largest k)) · matrix_quotient α β M in
      term A ⊞ term B ⊞ term C

  -- all messages, from z, r, m and the challenges
  unfoldable pub messages : List (Elem q) → Elem q → Poly q → Elem q → Three (Elem q) → Elem q → Three (Elem q) → Messages (Poly q) (Elem q)
  messages z r m α η β δ =
      let w : Poly q = witness z r in
      let ẑ : Poly q = assignment (public_part c z) w in
      let f : Poly q = line m ẑ α η in
      record {
        witness = w;
        mask = m;
        row_quotient = row_quotient ẑ;
        sums = sums ẑ α;
        line_remainder = line_remainder f;
        line_quotient = line_quotient f;
        values = values α β;
        matrix_remainders = each (λ M. matrix_remainder α β M);
        joined_quotient = joined_quotient α β δ;
      }

-- the true openings: each is its polynomial's value, "ŵ, m, g1, h1 at β; h0 at α; h2, g_A, g_B, g_C at γ", and the index at γ
unfoldable pub openings : {q : Prime} → Messages (Poly q) (Elem q) → Three (Index (Poly q)) → Elem q → Elem q → Elem q → Openings (Elem q)
openings sent i α β γ =
    record {
      witness = eval sent.witness β;
      mask = eval sent.mask β;
      line_remainder = eval sent.line_remainder β;
      line_quotient = eval sent.line_quotient β;
      row_quotient = eval sent.row_quotient α;
      joined_quotient = eval sent.joined_quotient γ;
      matrix_remainders = map_three (λ f. eval f γ) sent.matrix_remainders;
      index = map_three (λ f. index_at f γ) i;
    }
