-- How contracts name what one matrix's openings at γ are. Assumes nothing.
use Rattle.std.specs.Prelude.{◌≡◌}
use Rattle.field.specs.Prime.{Prime}
use Rattle.field.specs.Element.{Elem, words}
use Rattle.domain.specs.Polynomial.{eval}
use Rattle.protocol.specs.Three.{MatrixName}
use Rattle.protocol.specs.Circuit.{Circuit}
use Rattle.protocol.specs.Index.{index, index_at, list_index}
use Rattle.protocol.specs.Messages.{matrix_remainder, matrix_quotient}
use Rattle.openings.specs.declared.matrix.MatrixOpened.{MatrixOpened}
use Rattle.openings.specs.OpeningsGiven.{index_list}

-- the index polynomials, g_M and h_M at γ
pub record MatrixIs {q : Prime} (k : Circuit) (α β : Elem q) (M : MatrixName) (γ : Elem q) (v : MatrixOpened) : Type 0 where
  pub is-index : index_list v.index ≡ words (list_index (index_at (index k M) γ))
  pub is-remainder : v.remainder ≡ (eval (matrix_remainder k α β M) γ).word
  pub is-quotient : v.quotient ≡ (eval (matrix_quotient k α β M) γ).word
